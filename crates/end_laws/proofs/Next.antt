-- What a core tells right behind a number that it reserved or gave back.
use Rattle.std.proofs.Common.{◌≡◌, ◌∷◌, ◌⊎◌, ◌++◌, ◌∙◌, ℕ, List, [], refl, ap, sym, inl, inr, subst, append_assoc, Option, Some, Bool, cond, nat_eq, true}
use Rattle.std.proofs.lemmas.List.Elements.{filter-append}
use Rattle.sfs_base.specs.declared.numbers.CoreId.{CoreId}
use Rattle.sfs_base.proofs.BasicOptions.{none_some, some_same}
use Rattle.sfs_base.proofs.BasicNumbers.{same_number}
use Rattle.sfs_image.specs.Super.{Layout}
use Rattle.space_map.specs.Space.{GrantedNumbers}
use Rattle.tree_laws.specs.declared.turns.Turn.{Turn}
use Rattle.tree_laws.specs.declared.turns.TurnAct.TheVariants as act
use Rattle.tree_laws.specs.declared.turns.TurnAct.{TurnAct}
use Rattle.cut_laws.specs.Closure.{Flush}
use Rattle.stamp_table.specs.declared.event.Event.{Event}
use Rattle.stamp_table.specs.declared.event.Event.TheVariants.{Called, Told}
use Rattle.stamp_table.specs.Rule.{entries_by}
use Rattle.stamp_table.specs.Events.{event_core}
use Rattle.slot_laws.specs.Lasts.{Reserving, told_reserving}
use Rattle.slot_laws.specs.declared.label.Label.{Label}
use Rattle.slot_laws.specs.declared.label.Label.TheVariants as label
use Rattle.slot_laws.specs.Nodes.{no_numbers}
use Rattle.slot_laws.specs.Telling.{IsOfWork, IsOfFlight, AreOfWork, labels_by, AreOfFlight, BoxTurn, IsTurnFor, IsNamedTurn, at_box, labels_in, turn_works, turn_refuses, turn_reserves, turn_returns, turn_empties, turn_begins, turn_opens, turn_lands, turn_fails, turn_fails_begun, TellTurns, events_in, PenTold}
use Rattle.slot_laws.specs.Rules.{IsTurnBy, HasTurn, MayFrom, MayEvent}
use Rattle.slot_laws.specs.Labels.{OwnTold, own_from, BoxPast, after_label, past_from, nothing_told}
use Rattle.slot_laws.proofs.NodesTold.{may_parts}
use Rattle.close_laws.specs.Own.{NotesTurn}

module _ (stamps : ℕ → ℕ) where
  -- A label ends the commit that a grant of nothing was reserved for.
  pub record EmptiesAt (number : ℕ) (grant : GrantedNumbers) (fact : Label) : Type 0 where
    pub cut : Turn
    pub opened : Turn
    pub durable : Turn
    pub is : fact ≡ label.Empty number cut opened durable
    pub none : grant ≡ no_numbers

  -- the first of some events is a label of which this is so
  abbrev pub FirstIs : (Label → Type 0) → List (Event Label) → Type 0
  FirstIs P [] = ⊥
  FirstIs P (Called entry ∷ log) = ⊥
  FirstIs P (Told core fact ∷ log) = P fact

  -- A label notes the turn that a number was reserved, which has that number.
  pub record NotesReserved (number : ℕ) (fact : Label) : Type 0 where
    pub notes : NotesTurn act.Granted (stamps number) fact
    pub commit_is : notes.turn.commit ≡ number

  -- behind a number that is reserved comes that turn, or the end of a commit that wrote nothing
  abbrev pub ComesReserved : ℕ → GrantedNumbers → Label → Type 0
  ComesReserved number grant fact = NotesReserved number fact ⊎ EmptiesAt number grant fact

  -- what comes behind a label of a core that its pen tells: behind a number that is given back the turn that says so
  abbrev pub NextOf : Label → List (Event Label) → Type 0
  NextOf (label.Returned number) log = FirstIs (NotesTurn act.GivenBack (stamps number)) log
  NextOf (label.Reserved number seen grant) log = FirstIs (ComesReserved number grant) log
  NextOf _ log = Unit {0}

  -- so it is behind each of some events
  abbrev pub NextOfEach : List (Event Label) → Type 0
  NextOfEach [] = Unit {0}
  NextOfEach (Called entry ∷ log) = NextOfEach log
  NextOfEach (Told core fact ∷ log) = NextOf fact log × NextOfEach log

  next_of_work : (fact : Label) (log : List (Event Label)) → IsOfWork fact → NextOf fact log
  next_of_work label.Took log is = tt
  next_of_work label.Gave log is = tt
  next_of_work (label.Noted turn) log is = tt
  next_of_work (label.Reserved commit seen grant) log is = absurd is
  next_of_work (label.Returned commit) log is = absurd is
  next_of_work (label.Began filling commit node stamp blocks inodes) log is = tt
  next_of_work (label.Filled slot piece done) log is = tt
  next_of_work (label.Synced now) log is = tt
  next_of_work (label.Opened slot done cut opened) log is = tt
  next_of_work (label.Settled slot turn) log is = tt
  next_of_work (label.Learned turn) log is = tt
  next_of_work (label.Placed slot n done) log is = tt
  next_of_work (label.Shut slot done) log is = tt
  next_of_work (label.Idled slot) log is = tt
  next_of_work (label.Empty commit cut opened durable) log is = tt

  next_of_flight : (core number : ℕ) (flush : Flush) (fact : Label) (log : List (Event Label)) → IsOfFlight core number flush fact → NextOf fact log
  next_of_flight core number flush label.Took log is = tt
  next_of_flight core number flush label.Gave log is = tt
  next_of_flight core number flush (label.Noted turn) log is = tt
  next_of_flight core number flush (label.Reserved commit seen grant) log is = absurd is
  next_of_flight core number flush (label.Returned commit) log is = absurd is
  next_of_flight core number flush (label.Began filling commit node stamp blocks inodes) log is = tt
  next_of_flight core number flush (label.Filled slot piece done) log is = tt
  next_of_flight core number flush (label.Synced now) log is = tt
  next_of_flight core number flush (label.Opened slot done cut opened) log is = tt
  next_of_flight core number flush (label.Settled slot turn) log is = tt
  next_of_flight core number flush (label.Learned turn) log is = tt
  next_of_flight core number flush (label.Placed slot n done) log is = tt
  next_of_flight core number flush (label.Shut slot done) log is = tt
  next_of_flight core number flush (label.Idled slot) log is = tt
  next_of_flight core number flush (label.Empty commit cut opened durable) log is = tt

  work_first : (core : ℕ) (facts more : List Label) (log : List (Event Label)) → AreOfWork facts → NextOfEach (labels_by core more ++ log)
      → NextOfEach (labels_by core (facts ++ more) ++ log)
  work_first core [] more log are rest = rest
  work_first core (fact ∷ facts) more log are rest =
      (next_of_work fact (labels_by core (facts ++ more) ++ log) are.0, work_first core facts more log are.1 rest)

  flight_first : (core number : ℕ) (flush : Flush) (facts more : List Label) (log : List (Event Label)) → AreOfFlight core number flush facts
      → NextOfEach (labels_by core more ++ log) → NextOfEach (labels_by core (facts ++ more) ++ log)
  flight_first core number flush [] more log are rest = rest
  flight_first core number flush (fact ∷ facts) more log are rest =
      (next_of_flight core number flush fact (labels_by core (facts ++ more) ++ log) are.0, flight_first core number flush facts more log are.1 rest)

  -- a turn by an act for a number with the stamp of its fsync says that
  notes_by : (did : TurnAct) (core number own : ℕ) (flush : Flush) (turn : Turn) → own ≡ number → IsTurnBy turn did core number flush
      → stamps number ≡ flush.stamp → NotesTurn did (stamps own) (label.Noted turn)
  notes_by did core number own flush turn own_is by named = record {
    turn = turn;
    is = refl;
    did_is = by.did_is;
    stamp_is = ap (λ (f : Flush). f.stamp) by.flush_is ∙ (sym named ∙ ap stamps (sym own_is));
  }

  next_in_turn : (core number : ℕ) (flush : Flush) (one : BoxTurn) (log : List (Event Label)) → IsTurnFor core number flush one
      → IsNamedTurn stamps number flush one → NextOfEach log → NextOfEach (at_box core (labels_in one) ++ log)
  unfolding notes_by
  next_in_turn core number flush (turn_works facts) log is named rest = (tt, work_first core facts (label.Gave ∷ []) log is (tt, rest))
  next_in_turn core number flush (turn_refuses turn) log is named rest = (tt, (tt, (tt, rest)))
  next_in_turn core number flush (turn_reserves own seen grant turn) log is named rest = (
    tt,
    (
      inl (record { notes = notes_by act.Granted core number own flush turn is.0 is.1 named; commit_is = is.1.commit_is ∙ sym is.0 }),
      (tt, (tt, rest)),
    ),
  )
  next_in_turn core number flush (turn_returns own turn) log is named rest =
      (tt, (notes_by act.GivenBack core number own flush turn is.0 is.1 named, (tt, (tt, rest))))
  next_in_turn core number flush (turn_empties own seen cut opened durable) log is named rest = (
    tt,
    (inr (record { cut = cut; opened = opened; durable = durable; is = refl; none = refl }), (tt, (tt, rest))),
  )
  next_in_turn core number flush (turn_begins filling own node stamp blocks inodes) log is named rest = (tt, (tt, (tt, rest)))
  next_in_turn core number flush (turn_opens slot done cut opened) log is named rest = (tt, (tt, (tt, rest)))
  next_in_turn core number flush (turn_lands turn) log is named rest = (tt, (tt, (tt, rest)))
  next_in_turn core number flush (turn_fails facts cut fail) log is named rest = (
    tt,
    subst (λ l. NextOfEach (labels_by core l ++ log)) (sym (append_assoc facts (label.Noted cut ∷ label.Noted fail ∷ []) (label.Gave ∷ [])))
        (work_first core facts (label.Noted cut ∷ label.Noted fail ∷ label.Gave ∷ []) log is.0 (tt, (tt, (tt, rest)))),
  )
  next_in_turn core number flush (turn_fails_begun facts fail) log is named rest = (
    tt,
    subst (λ l. NextOfEach (labels_by core l ++ log)) (sym (append_assoc facts (label.Noted fail ∷ []) (label.Gave ∷ [])))
        (flight_first core number flush facts (label.Noted fail ∷ label.Gave ∷ []) log is.0 (tt, (tt, rest))),
  )

  next_in_turns : (core : ℕ) (own : OwnTold) (turns : List BoxTurn) → TellTurns stamps core own turns → NextOfEach (events_in core turns)
  next_in_turns core own [] tell = tt
  next_in_turns core own (one ∷ turns) tell =
      next_in_turn core tell.0.number tell.0.flush one (events_in core turns) tell.0.is tell.0.named
      (next_in_turns core (own_from (at_box core (labels_in one)) own) turns tell.1)

  next_behind : (front : List (Event Label)) (core : CoreId) (fact : Label) (back : List (Event Label)) → NextOfEach (front ++ Told core fact ∷ back)
      → NextOf fact back
  next_behind [] core fact back each = each.0
  next_behind (Called entry ∷ front) core fact back each = next_behind front core fact back each
  next_behind (Told other own ∷ front) core fact back each = next_behind front core fact back each.1

  -- what is so of the first event is so whatever comes behind it
  first_same : (P : Label → Type 0) (event : Event Label) (log more : List (Event Label)) → FirstIs P (event ∷ log) → FirstIs P (event ∷ more)
  first_same P (Called entry) log more is = is
  first_same P (Told core fact) log more is = is

-- who has the box tells the next label
teller_is : (core : ℕ) (fact : Label) (busy : Option ℕ) (own : ℕ) → HasTurn core fact busy → busy ≡ Some own → core ≡ own
teller_is core label.Took busy own has is = absurd (none_some (sym has ∙ is))
teller_is core label.Gave busy own has is = some_same (sym has ∙ is)
teller_is core (label.Noted turn) busy own has is = some_same (sym has ∙ is)
teller_is core (label.Reserved commit seen grant) busy own has is = some_same (sym has ∙ is)
teller_is core (label.Returned commit) busy own has is = some_same (sym has ∙ is)
teller_is core (label.Began filling commit node stamp blocks inodes) busy own has is = some_same (sym has ∙ is)
teller_is core (label.Filled slot piece done) busy own has is = some_same (sym has ∙ is)
teller_is core (label.Synced now) busy own has is = some_same (sym has ∙ is)
teller_is core (label.Opened slot done cut opened) busy own has is = some_same (sym has ∙ is)
teller_is core (label.Settled slot turn) busy own has is = some_same (sym has ∙ is)
teller_is core (label.Learned turn) busy own has is = some_same (sym has ∙ is)
teller_is core (label.Placed slot n done) busy own has is = some_same (sym has ∙ is)
teller_is core (label.Shut slot done) busy own has is = some_same (sym has ∙ is)
teller_is core (label.Idled slot) busy own has is = some_same (sym has ∙ is)
teller_is core (label.Empty commit cut opened durable) busy own has is = some_same (sym has ∙ is)

module _ (stamps : ℕ → ℕ) (layout : Layout) (before : ℕ) (begun : BoxPast) (log : List (Event Label)) (may : MayFrom layout before log begun)
    (told : (core : ℕ) → PenTold stamps core (entries_by event_core core log)) where
  own_event_first : (core : ℕ) (event : Event Label) (rest : List (Event Label)) → event_core event ≡ core
      → entries_by event_core core (event ∷ rest) ≡ event ∷ entries_by event_core core rest
  own_event_first core event rest same =
      ap (λ (b : Bool). cond b (event ∷ entries_by event_core core rest) (entries_by event_core core rest))
      (subst (λ (n : ℕ). nat_eq (event_core event) n ≡ true) same (same_number (event_core event)))

  own_events : (front : List (Event Label)) (core : CoreId) (fact : Label) (event : Event Label) (back : List (Event Label))
      → event_core event ≡ core.0
      → entries_by event_core core.0 (front ++ Told core fact ∷ event ∷ back)
      ≡ entries_by event_core core.0 front ++ Told core fact ∷ event ∷ entries_by event_core core.0 back
  own_events front core fact event back same =
      filter-append (λ (e : Event Label). nat_eq (event_core e) core.0) front (Told core fact ∷ event ∷ back)
      ∙ ap (λ (l : List (Event Label)). entries_by event_core core.0 front ++ l)
      (own_event_first core.0 (Told core fact) (event ∷ back) refl
      ∙ ap (λ (l : List (Event Label)). Told core fact ∷ l) (own_event_first core.0 event back same))

  -- who tells the event behind a label whose core has the box
  next_teller : (core : CoreId) (event : Event Label) (past : BoxPast) → MayEvent layout before event past → past.busy ≡ Some core.0
      → event_core event ≡ core.0
  next_teller core (Called entry) past may_here busy = absurd may_here
  next_teller core (Told other fact) past may_here busy = teller_is other.0 fact past.busy core.0 may_here.0 busy

  -- at a place of the log: what comes next is of the core that has the box
  pub next_there : (front : List (Event Label)) (core : CoreId) (fact : Label) (event : Event Label) (back : List (Event Label))
      → log ≡ front ++ Told core fact ∷ event ∷ back → (after_label layout core.0 fact (past_from layout front begun)).busy ≡ Some core.0
      → NextOf stamps fact (event ∷ entries_by event_core core.0 back)
  next_there front core fact event back whole busy =
      let there = (may_parts layout before front (Told core fact ∷ event ∷ back) begun (subst (λ l. MayFrom layout before l begun) whole may)).1 in
      let same = next_teller core event (after_label layout core.0 fact (past_from layout front begun)) there.1.0 busy in
      next_behind stamps (entries_by event_core core.0 front) core fact (event ∷ entries_by event_core core.0 back)
      (subst (NextOfEach stamps)
      (sym (told core.0).mine_is ∙ (ap (entries_by event_core core.0) whole ∙ own_events front core fact event back same))
      (next_in_turns stamps core.0 nothing_told (told core.0).turns (told core.0).tells))

  pub behind_returned : (front : List (Event Label)) (core : CoreId) (number : ℕ) (teller : CoreId) (fact : Label) (back : List (Event Label))
      → log ≡ (front ++ Told core (label.Returned number) ∷ []) ++ Told teller fact ∷ back → NotesTurn act.GivenBack (stamps number) fact
  behind_returned front core number teller fact back whole =
      next_there front core (label.Returned number) (Told teller fact) back whole_so (busy_so whole_so)
    where
      whole_so : log ≡ front ++ Told core (label.Returned number) ∷ Told teller fact ∷ back
      whole_so = whole ∙ append_assoc front (Told core (label.Returned number) ∷ []) (Told teller fact ∷ back)

      busy_so : log ≡ front ++ Told core (label.Returned number) ∷ Told teller fact ∷ back → (past_from layout front begun).busy ≡ Some core.0
      busy_so e =
          (may_parts layout before front (Told core (label.Returned number) ∷ Told teller fact ∷ back) begun
          (subst (λ l. MayFrom layout before l begun) e may)).1.0.0

  pub behind_reserved : (front : List (Event Label)) (one : Reserving) (teller : CoreId) (fact : Label) (back : List (Event Label))
      → log ≡ (front ++ told_reserving one ∷ []) ++ Told teller fact ∷ back → ComesReserved stamps one.commit one.grant fact
  behind_reserved front one teller fact back whole =
      next_there front one.core (label.Reserved one.commit one.seen one.grant) (Told teller fact) back whole_so (busy_so whole_so)
    where
      whole_so : log ≡ front ++ told_reserving one ∷ Told teller fact ∷ back
      whole_so = whole ∙ append_assoc front (told_reserving one ∷ []) (Told teller fact ∷ back)

      busy_so : log ≡ front ++ told_reserving one ∷ Told teller fact ∷ back → (past_from layout front begun).busy ≡ Some one.core.0
      busy_so e =
          (may_parts layout before front (told_reserving one ∷ Told teller fact ∷ back) begun
          (subst (λ l. MayFrom layout before l begun) e may)).1.0.0
