-- The number of what a core made was reserved for it, with its grant and its nodes.
use Rattle.std.proofs.Common.{◌≡◌, ◌∷◌, ◌++◌, ◌∙◌, ℕ, List, [], Option, Some, None, refl, sym, ap, subst, inl, inr, map}
use Rattle.sfs_base.specs.Lists.{Roomy}
use Rattle.sfs_base.proofs.BasicOptions.{none_some, some_same}
use Rattle.space_map.specs.Space.{GrantedNumbers}
use Rattle.cut_laws.specs.Rules.{IsOneOf}
use Rattle.cut_laws.specs.Closure.{Flush}
use Rattle.cut_laws.proofs.Basics.{in_either}
use Rattle.cut_laws.proofs.Listed.{from_map, to_map}
use Rattle.dep_closure.proofs.Looked.{from_flat}
use Rattle.merge_laws.specs.Pens.{FsyncsDiffer}
use Rattle.stamp_table.specs.declared.event.Event.{Event}
use Rattle.stamp_table.specs.declared.event.Event.TheVariants.{Told}
use Rattle.mem_values.specs.Start.{FileHand, FileState}
use Rattle.slot_laws.specs.declared.label.Label.{Label}
use Rattle.slot_laws.specs.declared.label.Label.TheVariants as label
use Rattle.slot_laws.specs.declared.label.Seen.{Seen}
use Rattle.slot_laws.specs.Labels.{OwnTold, nothing_told, own_from}
use Rattle.slot_laws.specs.Lasts.{Reserving, told_reserving}
use Rattle.slot_laws.specs.Telling.{AreOfFlight, AreOfWork, BoxTurn, TellTurns, TellsTurn, at_box, events_in, labels_in, turn_begins, turn_empties, turn_fails, turn_fails_begun, turn_lands, turn_opens, turn_refuses, turn_reserves, turn_returns, turn_works, IsOfWork, IsOfFlight}
use Rattle.slot_laws.specs.Nodes.{no_numbers}
use Rattle.disk_box.specs.Pens.{PenHand}
use Rattle.journal_set.specs.Numbering.{event_reserves, label_reserves}
use Rattle.fsync_gather.proofs.Rising.{from_given}
use Rattle.flush_agrees.specs.Agreement.{CoresAgree, FlushTold, MadeIsAgreed, NumbersHave, fsync_turns, turns_of}
use Rattle.flush_agrees.specs.Made.{FlushMade, SeesConcerned, TellsNoNumber, TurnIsOf, TurnMade}

-- A core reserved a number, in one turn at the box: with these nodes and this grant.
pub record ReservedIn (turn : BoxTurn) (core number : ℕ) (event : Event Label) : Type 0 where
  pub seen : Roomy Seen
  pub grant : GrantedNumbers
  pub event_is : event ≡ told_reserving (record { core = record { 0 = core }; commit = number; seen = seen; grant = grant })
  pub made : (made : FlushMade) → TurnMade made turn → (number ≡ made.number) × (grant ≡ made.grant) × SeesConcerned made.making seen.items
  pub some : TellsNoNumber turn → ⊥

-- work reserves nothing
work_reserves_none : (facts : List Label) → AreOfWork facts → (fact : Label) → IsOneOf facts fact → (number : ℕ) → label_reserves fact ≡ Some number → ⊥
work_reserves_none [] work fact among number is = among
work_reserves_none (first ∷ facts) work fact (inr among) number is = work_reserves_none facts work.1 fact among number is
work_reserves_none (first ∷ facts) work fact (inl same) number is = by first work.0 (ap label_reserves same ∙ is)
  where
    by : (l : Label) → IsOfWork l → label_reserves l ≡ Some number → ⊥
    by (label.Filled slot piece done) of e = none_some e
    by (label.Synced now) of e = none_some e
    by (label.Settled slot turn) of e = none_some e
    by (label.Placed slot n done) of e = none_some e
    by (label.Shut slot done) of e = none_some e
    by (label.Idled slot) of e = none_some e
    by _ of e = of

flight_reserves_none : (core own : ℕ) (flush : Flush) (facts : List Label) → AreOfFlight core own flush facts → (fact : Label)
    → IsOneOf facts fact → (number : ℕ) → label_reserves fact ≡ Some number → ⊥
flight_reserves_none core own flush [] work fact among number is = among
flight_reserves_none core own flush (first ∷ facts) work fact (inr among) number is = flight_reserves_none core own flush facts work.1 fact among number is
flight_reserves_none core own flush (first ∷ facts) work fact (inl same) number is = by first work.0 (ap label_reserves same ∙ is)
  where
    by : (l : Label) → IsOfFlight core own flush l → label_reserves l ≡ Some number → ⊥
    by (label.Opened slot done cut opened) of e = none_some e
    by (label.Filled slot piece done) of e = none_some e
    by (label.Synced now) of e = none_some e
    by (label.Settled slot turn) of e = none_some e
    by (label.Placed slot n done) of e = none_some e
    by (label.Shut slot done) of e = none_some e
    by (label.Idled slot) of e = none_some e
    by _ of e = of

-- a label of a list behind which one that reserves nothing stands, or of two
in_front : (facts : List Label) (last fact : Label) → IsOneOf (facts ++ last ∷ []) fact → (number : ℕ) → label_reserves fact ≡ Some number
    → label_reserves last ≡ None → IsOneOf facts fact
in_front facts last fact among number is none = elim (in_either facts (last ∷ []) fact among) [
  | inl front ↦ front
  | inr behind ↦ elim behind [
    | inl same ↦ absurd (none_some (sym none ∙ ap label_reserves same ∙ is))
    | inr never ↦ absurd never
  ]
]

module _ (stamps : ℕ → ℕ) (core : ℕ) (own : OwnTold) (number : ℕ) (fact : Label) (is : label_reserves fact ≡ Some number) where
  abbrev event_told : Event Label
  event_told = Told (record { 0 = core }) fact

  -- a label that is one of these reserves nothing
  none_is : (other : Label) → label_reserves other ≡ None → (fact ≡ other → ⊥)
  none_is other none same = none_some (sym none ∙ ap label_reserves (sym same) ∙ is)

  reserved_in : (turn : BoxTurn) → TellsTurn stamps core own turn → IsOneOf (labels_in turn) fact → ReservedIn turn core number event_told
  reserved_in (turn_works facts) tells among = absurd (work_reserves_none facts tells.is fact among number is)
  reserved_in (turn_refuses turn) tells (inl same) = absurd (none_is _ refl (sym same))
  reserved_in (turn_refuses turn) tells (inr never) = absurd never
  reserved_in (turn_reserves own_number seen grant turn) tells (inl same) =
      let number_is : own_number ≡ number = some_same (ap label_reserves same ∙ is) in
      record {
        seen = seen;
        grant = grant;
        event_is = ap (Told (record { 0 = core })) (sym same) ∙ ap (λ n. Told (record { 0 = core }) (label.Reserved n seen grant)) number_is;
        made = λ made it. (sym number_is ∙ it.0, it.1, it.2);
        some = λ never. never;
      }
  reserved_in (turn_reserves own_number seen grant turn) tells (inr (inl same)) = absurd (none_is _ refl (sym same))
  reserved_in (turn_reserves own_number seen grant turn) tells (inr (inr never)) = absurd never
  reserved_in (turn_returns own_number turn) tells (inl same) = absurd (none_is _ refl (sym same))
  reserved_in (turn_returns own_number turn) tells (inr (inl same)) = absurd (none_is _ refl (sym same))
  reserved_in (turn_returns own_number turn) tells (inr (inr never)) = absurd never
  reserved_in (turn_empties own_number seen cut opened durable) tells (inl same) =
      let number_is : own_number ≡ number = some_same (ap label_reserves same ∙ is) in
      record {
        seen = seen;
        grant = no_numbers;
        event_is = ap (Told (record { 0 = core })) (sym same)
            ∙ ap (λ n. Told (record { 0 = core }) (label.Reserved n seen no_numbers)) number_is;
        made = λ made it. (sym number_is ∙ it.0, sym it.2.grant_is, it.1);
        some = λ never. never;
      }
  reserved_in (turn_empties own_number seen cut opened durable) tells (inr (inl same)) = absurd (none_is _ refl (sym same))
  reserved_in (turn_empties own_number seen cut opened durable) tells (inr (inr never)) = absurd never
  reserved_in (turn_begins filling own_number node stamp blocks inodes) tells (inl same) = absurd (none_is _ refl (sym same))
  reserved_in (turn_begins filling own_number node stamp blocks inodes) tells (inr never) = absurd never
  reserved_in (turn_opens slot done cut opened) tells (inl same) = absurd (none_is _ refl (sym same))
  reserved_in (turn_opens slot done cut opened) tells (inr never) = absurd never
  reserved_in (turn_lands turn) tells (inl same) = absurd (none_is _ refl (sym same))
  reserved_in (turn_lands turn) tells (inr never) = absurd never
  reserved_in (turn_fails facts cut fail) tells among = elim (in_either facts (label.Noted cut ∷ label.Noted fail ∷ []) fact among) [
    | inl front ↦ absurd (work_reserves_none facts tells.is.0 fact front number is)
    | inr behind ↦ elim behind [
      | inl same ↦ absurd (none_is _ refl (sym same))
      | inr last ↦ elim last [
        | inl same ↦ absurd (none_is _ refl (sym same))
        | inr never ↦ absurd never
      ]
    ]
  ]
  reserved_in (turn_fails_begun facts fail) tells among =
      absurd (flight_reserves_none core tells.number tells.flush facts tells.is.0 fact (in_front facts (label.Noted fail) fact among number is refl) number is)

-- so it is where some turns were told one after the other
pub record ReservedBy (turns : List BoxTurn) (core number : ℕ) (event : Event Label) : Type 0 where
  pub turn : BoxTurn
  pub among : IsOneOf turns turn
  pub reserved : ReservedIn turn core number event

pub reserved_by : (stamps : ℕ → ℕ) (core : ℕ) (own : OwnTold) (turns : List BoxTurn) → TellTurns stamps core own turns → (event : Event Label) (number : ℕ)
    → IsOneOf (events_in core turns) event → event_reserves event ≡ Some number → ReservedBy turns core number event
reserved_by stamps core own [] tells event number among is = absurd among
reserved_by stamps core own (turn ∷ turns) tells event number among is = elim (in_either (at_box core (labels_in turn)) (events_in core turns) event among) [
  | inl here ↦
      let from = from_map (Told (record { 0 = core })) (label.Took ∷ labels_in turn ++ label.Gave ∷ []) event here in
      let fact_is = ap event_reserves from.2 ∙ is in
      record {
        turn = turn;
        among = inl refl;
        reserved = subst (ReservedIn turn core number) from.2
            (reserved_in stamps core own number from.0 fact_is turn tells.0 (amid from.0 fact_is from.1));
      }
  | inr later ↦
      let more = reserved_by stamps core (own_from (at_box core (labels_in turn)) own) turns tells.1 event number later is in
      record { turn = more.turn; among = inr more.among; reserved = more.reserved }
]
  where
    amid : (fact : Label) → label_reserves fact ≡ Some number → IsOneOf (label.Took ∷ labels_in turn ++ label.Gave ∷ []) fact → IsOneOf (labels_in turn) fact
    amid fact reserves (inl took) = absurd (none_some (ap label_reserves took ∙ reserves))
    amid fact reserves (inr rest) = in_front (labels_in turn) label.Gave fact rest number reserves refl

-- of fsyncs that differ those with one stamp are one
pub one_by_stamp : (fsyncs : List FlushTold) → FsyncsDiffer (map fsync_turns fsyncs) → (one other : FlushTold) → IsOneOf fsyncs one → IsOneOf fsyncs other
    → one.flush.stamp ≡ other.flush.stamp → one ≡ other
one_by_stamp [] once one other first second same = absurd first
one_by_stamp (told ∷ fsyncs) once one other (inl here) (inl there) same = sym here ∙ there
one_by_stamp (told ∷ fsyncs) once one other (inr here) (inr there) same = one_by_stamp fsyncs once.1 one other here there same
one_by_stamp (told ∷ fsyncs) once one other (inl here) (inr there) same =
    absurd (once.0 (fsync_turns other) (to_map fsync_turns fsyncs other there) (sym same ∙ ap (λ (f : FlushTold). f.flush.stamp) (sym here)))
one_by_stamp (told ∷ fsyncs) once one other (inr here) (inl there) same =
    absurd (once.0 (fsync_turns one) (to_map fsync_turns fsyncs one here) (same ∙ ap (λ (f : FlushTold). f.flush.stamp) (sym there)))

-- A pen has told that it reserved the number of what was made, with its nodes and its grant.
pub record HasReserved (labels : List (Event Label)) (core : ℕ) (made : FlushMade) : Type 0 where
  pub one : Reserving
  pub among : IsOneOf labels (told_reserving one)
  pub number_is : one.commit ≡ made.number
  pub grant_is : one.grant ≡ made.grant
  pub sees : SeesConcerned made.making one.seen.items

module _ {D : Type 0} (t : FileState) (hand : FileHand) (pen : PenHand D) (fsyncs : List FlushTold) (agree : CoresAgree t hand pen fsyncs) (stamps : ℕ → ℕ)
    (have : NumbersHave stamps fsyncs) (one : FlushTold) (made : FlushMade) (among : IsOneOf fsyncs one) (is : one.made ≡ Some made) where
  pub has_reserved : HasReserved pen.view.mine pen.view.core made
  has_reserved =
      let reserved = (subst (MadeIsAgreed t hand pen one.flush) is (agree.each one among).made).reserved in
      let from = from_given event_reserves pen.view.mine made.number reserved in
      let by = reserved_by stamps pen.view.core nothing_told (turns_of fsyncs) (agree.tells stamps have) from.0 made.number
      (subst (λ (events : List (Event Label)). IsOneOf events from.0) agree.told from.1) from.2 in
      let turn = from_flat (λ (told : FlushTold). told.turns) fsyncs by.turn by.among in
      of by.turn from.0 from.1 by.reserved turn.0 turn.1 turn.2 turn.0.made refl
    where
      of : (turn : BoxTurn) (event : Event Label) → IsOneOf pen.view.mine event → ReservedIn turn pen.view.core made.number event → (other : FlushTold)
          → IsOneOf fsyncs other → IsOneOf other.turns turn → (o : Option FlushMade) → other.made ≡ o → HasReserved pen.view.mine pen.view.core made
      of turn event there has other also own None none = absurd (has.some (subst (λ o. TurnIsOf o turn) none ((agree.each other also).turns turn own)))
      of turn event there has other also own (Some theirs) got =
          let it = has.made theirs (subst (λ o. TurnIsOf o turn) got ((agree.each other also).turns turn own)) in
          let same = one_by_stamp fsyncs agree.once one other among also (agree.numbers one other made theirs among also is got it.0) in
          let made_is : theirs ≡ made = some_same (sym got ∙ ap (λ (f : FlushTold). f.made) (sym same) ∙ is) in
          record {
            one = record { core = record { 0 = pen.view.core }; commit = made.number; seen = has.seen; grant = has.grant };
            among = subst (IsOneOf pen.view.mine) has.event_is there;
            number_is = refl;
            grant_is = it.1 ∙ ap (λ (m : FlushMade). m.grant) made_is;
            sees = subst (λ (m : FlushMade). SeesConcerned m.making has.seen.items) made_is it.2;
          }
