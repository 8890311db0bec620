-- Which core owes a turn along a history, and that the turns that reserve or give back stand beside their labels.
use Rattle.std.proofs.Common.{◌≡◌, ◌⊎◌, ◌++◌, ◌∷◌, ◌≢◌, ◌∙◌, if◌then◌else◌, ℕ, Option, Some, refl, None, inl, inr, List, [], true, subst, cond, sym, ap, Bool, false, nat_eq, append-nil, append_assoc}
use Rattle.std.proofs.lemmas.List.Elements.{filter-append}
use Rattle.sfs_base.specs.Lists.{Roomy}
use Rattle.sfs_base.specs.declared.numbers.CoreId.{CoreId}
use Rattle.sfs_base.proofs.BasicNumbers.{same_number, not_same}
use Rattle.sfs_image.specs.Super.{Layout}
use Rattle.space_map.specs.Space.{GrantedNumbers}
use Rattle.tree_laws.specs.declared.turns.TurnAct.TheVariants as act
use Rattle.tree_laws.specs.declared.turns.Turn.{Turn}
use Rattle.tree_laws.specs.declared.turns.TurnAct.{TurnAct}
use Rattle.merge_laws.proofs.Blocks.{same_or_not}
use Rattle.stamp_table.specs.declared.event.Event.{Event}
use Rattle.stamp_table.specs.declared.event.Event.TheVariants.{Called, Told}
use Rattle.stamp_table.specs.Rule.{entries_by}
use Rattle.stamp_table.specs.Events.{event_core}
use Rattle.slot_laws.specs.declared.label.Seen.{Seen}
use Rattle.slot_laws.specs.Slots.{with_at}
use Rattle.slot_laws.specs.declared.label.Label.{Label}
use Rattle.slot_laws.specs.declared.label.Label.TheVariants as label
use Rattle.slot_laws.specs.Labels.{BoxPast, box_label, OwnTold, after_label, own_label, first_past, past_from}
use Rattle.slot_laws.specs.Rules.{HasTurn, MayFrom}
use Rattle.slot_laws.specs.Lasts.{Reserving, told_reserving}
use Rattle.slot_laws.proofs.Basics.{at_same, at_other, at_here}
use Rattle.close_laws.specs.Own.{OwnOwed, own_owed, OwesTurn, TellsBeside, owes_nothing, owes_granted, owes_given_back, has_numbers, OwnStand, nothing_owed, StandBeside}
use Rattle.close_laws.specs.Maps.{owed_from, StandsByReserving, StandsByReturning, TurnsStand, NotesIn, TurnsStandBeside}

-- a label that is of no sort but those of which nothing is owed
pub record IsOther (fact : Label) : Type 0 where
  pub stays : (own : OwnOwed) → own_owed fact own ≡ record own { may = owes_nothing }
  pub no_note : (turn : Turn) → fact ≡ label.Noted turn → ⊥
  pub busy : (layout : Layout) (core : ℕ) (past : BoxPast) → (box_label layout core fact past).busy ≡ past.busy
  pub turn : (core : ℕ) (busy : Option ℕ) → HasTurn core fact busy → busy ≡ Some core

-- what sort a label is
pub data Sort : Label → Type 0 where
  is_took : Sort label.Took
  is_gave : Sort label.Gave
  is_noted : (turn : Turn) → Sort (label.Noted turn)
  is_reserved : (commit : ℕ) (seen : Roomy Seen) (grant : GrantedNumbers) → Sort (label.Reserved commit seen grant)
  is_returned : (commit : ℕ) → Sort (label.Returned commit)
  is_other : {fact : Label} → IsOther fact → Sort fact

pub sort_of : (fact : Label) → Sort fact
sort_of label.Took = is_took
sort_of label.Gave = is_gave
sort_of (label.Noted turn) = is_noted turn
sort_of (label.Reserved commit seen grant) = is_reserved commit seen grant
sort_of (label.Returned commit) = is_returned commit
sort_of (label.Began filling commit node stamp blocks inodes) =
    is_other (record { stays = λ own. refl; no_note = λ turn e. cc e; busy = λ layout core past. refl; turn = λ core busy has. has })
sort_of (label.Filled slot piece done) =
    is_other (record { stays = λ own. refl; no_note = λ turn e. cc e; busy = λ layout core past. refl; turn = λ core busy has. has })
sort_of (label.Synced now) =
    is_other (record { stays = λ own. refl; no_note = λ turn e. cc e; busy = λ layout core past. refl; turn = λ core busy has. has })
sort_of (label.Opened slot done cut opened) =
    is_other (record { stays = λ own. refl; no_note = λ turn e. cc e; busy = λ layout core past. refl; turn = λ core busy has. has })
sort_of (label.Settled slot turn) =
    is_other (record { stays = λ own. refl; no_note = λ other e. cc e; busy = λ layout core past. refl; turn = λ core busy has. has })
sort_of (label.Learned turn) =
    is_other (record { stays = λ own. refl; no_note = λ other e. cc e; busy = λ layout core past. refl; turn = λ core busy has. has })
sort_of (label.Placed slot n done) =
    is_other (record { stays = λ own. refl; no_note = λ turn e. cc e; busy = λ layout core past. refl; turn = λ core busy has. has })
sort_of (label.Shut slot done) =
    is_other (record { stays = λ own. refl; no_note = λ turn e. cc e; busy = λ layout core past. refl; turn = λ core busy has. has })
sort_of (label.Idled slot) =
    is_other (record { stays = λ own. refl; no_note = λ turn e. cc e; busy = λ layout core past. refl; turn = λ core busy has. has })
sort_of (label.Empty commit cut opened durable) =
    is_other (record { stays = λ own. refl; no_note = λ turn e. cc e; busy = λ layout core past. refl; turn = λ core busy has. has })

-- who has a turn has it, but for the taking
turn_is : (core : ℕ) (fact : Label) (busy : Option ℕ) → Sort fact → HasTurn core fact busy → (busy ≡ None) ⊎ (busy ≡ Some core)
turn_is core fact busy is_took has = inl has
turn_is core fact busy is_gave has = inr has
turn_is core fact busy (is_noted turn) has = inr has
turn_is core fact busy (is_reserved commit seen grant) has = inr has
turn_is core fact busy (is_returned commit) has = inr has
turn_is core fact busy (is_other other) has = inr (other.turn core busy has)

-- a label that notes no turn is told where none is owed
pub free_where : (stamps : ℕ → ℕ) (told : OwnTold) (fact : Label) → ((turn : Turn) → fact ≡ label.Noted turn → ⊥) → (o may : OwesTurn)
    → TellsBeside stamps o may told fact → o ≡ owes_nothing
free_where stamps told fact none owes_nothing may tells = refl
free_where stamps told fact none (owes_granted n) may tells = absurd (none tells.turn tells.is)
free_where stamps told fact none (owes_given_back n) may tells = absurd (none tells.turn tells.is)

-- what a core owes it may tell
abbrev pub IsDue : OwnOwed → Type 0
IsDue own = (own.owes ≡ owes_nothing) ⊎ (own.owes ≡ own.may)

-- the last event of a history reserves under a number, or gives back
pub record LastReserved (done : List (Event Label)) (core number : ℕ) : Type 0 where
  pub rest : List (Event Label)
  pub one : Reserving
  pub own : one.core.0 ≡ core
  pub whole : done ≡ rest ++ told_reserving one ∷ []
  pub number_is : one.commit ≡ number

pub record LastReturned (done : List (Event Label)) (core number : ℕ) : Type 0 where
  pub rest : List (Event Label)
  pub teller : CoreId
  pub own : teller.0 ≡ core
  pub whole : done ≡ rest ++ Told teller (label.Returned number) ∷ []

owed_more : (log more : List (Event Label)) (own : OwnOwed) → owed_from (log ++ more) own ≡ owed_from more (owed_from log own)
owed_more [] more own = refl
owed_more (Called entry ∷ log) more own = owed_more log more own
owed_more (Told core fact ∷ log) more own = owed_more log more (own_owed fact own)

-- what its own label leaves a core to tell
module _ (layout : Layout) (stamps : ℕ → ℕ) (done : List (Event Label)) (past : BoxPast) (core : CoreId) (here : OwnOwed) where
  abbrev done_with : Label → List (Event Label)
  done_with fact = done ++ Told core fact ∷ []

  abbrev Told_so : Label → Type 0
  Told_so fact = TellsBeside stamps here.owes here.may (past.owns core.0) fact

  busy_here : (fact : Label) → Sort fact → HasTurn core.0 fact past.busy
      → ((own_owed fact here).may ≡ owes_nothing) ⊎ ((box_label layout core.0 fact past).busy ≡ Some core.0)
  busy_here _ is_took has = inl refl
  busy_here _ is_gave has = inl refl
  busy_here _ (is_noted turn) has = inl refl
  busy_here _ (is_reserved commit seen grant) has = inr has
  busy_here _ (is_returned commit) has = inr has
  busy_here fact (is_other other) has = inr (other.busy layout core.0 past ∙ other.turn core.0 past.busy has)

  -- what it owes behind it it may tell
  due_here : (fact : Label) → Sort fact → Told_so fact → IsDue (own_owed fact here)
  due_here _ is_took tells = inl (free_where stamps (past.owns core.0) label.Took (λ turn e. cc e) here.owes here.may tells)
  due_here _ is_gave tells = inl (free_where stamps (past.owns core.0) label.Gave (λ turn e. cc e) here.owes here.may tells)
  due_here _ (is_noted turn) tells = inl refl
  due_here _ (is_reserved commit seen grant) tells = by (has_numbers grant) refl
    where
      by : (b : Bool) → has_numbers grant ≡ b → IsDue (own_owed (label.Reserved commit seen grant) here)
      by true is = inr (ap (λ c. if c then owes_granted commit else owes_nothing) is)
      by false is = inl (ap (λ c. if c then owes_granted commit else owes_nothing) is)
  due_here _ (is_returned commit) tells = by here.granted refl
    where
      by : (b : Bool) → here.granted ≡ b → IsDue (own_owed (label.Returned commit) here)
      by true is = inr (ap (λ c. if c then owes_given_back commit else owes_nothing) is)
      by false is = inl (ap (λ c. if c then owes_given_back commit else owes_nothing) is)
  due_here fact (is_other other) tells =
      inl (ap (λ (o : OwnOwed). o.owes) (other.stays here) ∙ free_where stamps (past.owns core.0) fact other.no_note here.owes here.may tells)

  reserved_here : (fact : Label) → Sort fact → (n : ℕ) → (own_owed fact here).may ≡ owes_granted n → LastReserved (done_with fact) core.0 n
  reserved_here _ is_took n may = absurd (cc may)
  reserved_here _ is_gave n may = absurd (cc may)
  reserved_here _ (is_noted turn) n may = absurd (cc may)
  reserved_here _ (is_reserved commit seen grant) n may = record {
    rest = done;
    one = record { core = core; commit = commit; seen = seen; grant = grant };
    own = refl;
    whole = refl;
    number_is = cc may;
  }
  reserved_here _ (is_returned commit) n may = absurd (cc may)
  reserved_here fact (is_other other) n may =
      let never : ◌≡◌ {A = OwesTurn} owes_nothing (owes_granted n) = sym (ap (λ (o : OwnOwed). o.may) (other.stays here)) ∙ may in absurd (cc never)

  returned_here : (fact : Label) → Sort fact → (n : ℕ) → (own_owed fact here).may ≡ owes_given_back n → LastReturned (done_with fact) core.0 n
  returned_here _ is_took n may = absurd (cc may)
  returned_here _ is_gave n may = absurd (cc may)
  returned_here _ (is_noted turn) n may = absurd (cc may)
  returned_here _ (is_reserved commit seen grant) n may = absurd (cc may)
  returned_here _ (is_returned commit) n may =
      let same : commit ≡ n = cc may in
      record { rest = done; teller = core; own = refl; whole = ap (λ m. done ++ Told core (label.Returned m) ∷ []) same }
  returned_here fact (is_other other) n may =
      let never : ◌≡◌ {A = OwesTurn} owes_nothing (owes_given_back n) = sym (ap (λ (o : OwnOwed). o.may) (other.stays here)) ∙ may in absurd (cc never)

module _ (layout : Layout) (before : ℕ) (stamps : ℕ → ℕ) where
  -- A history so far, what it comes to, and what comes behind it: what each core owes, of whom at most the one that has the box owes a turn, and then the
  -- last event is the label beside which it stands.
  pub record Owing (done : List (Event Label)) (past : BoxPast) (rest : List (Event Label)) : Type 0 where
    pub own : ℕ → OwnOwed
    pub may : MayFrom layout before rest past
    pub stand : (core : ℕ) → OwnStand stamps (past.owns core) (own core) (entries_by event_core core rest)
    pub busy : (core : ℕ) → ((own core).may ≡ owes_nothing) ⊎ (past.busy ≡ Some core)
    pub due : (core : ℕ) → IsDue (own core)
    pub reserved : (core number : ℕ) → (own core).may ≡ owes_granted number → LastReserved done core number
    pub returned : (core number : ℕ) → (own core).may ≡ owes_given_back number → LastReturned done core number
    pub owed : (core : ℕ) → own core ≡ owed_from (entries_by event_core core done) nothing_owed

  module _ (done : List (Event Label)) (past : BoxPast) (core : CoreId) (fact : Label) (rest : List (Event Label))
      (at : Owing done past (Told core fact ∷ rest)) where
    abbrev event : Event Label
    event = Told core fact

    abbrev here : OwnOwed
    here = at.own core.0

    abbrev later : BoxPast
    later = after_label layout core.0 fact past

    abbrev own_then : ℕ → OwnOwed
    own_then = with_at at.own core.0 (own_owed fact here)

    own_stands : OwnStand stamps (past.owns core.0) here (event ∷ entries_by event_core core.0 rest)
    own_stands =
        subst (λ b. OwnStand stamps (past.owns core.0) here (cond b (event ∷ entries_by event_core core.0 rest) (entries_by event_core core.0 rest)))
        (same_number core.0) (at.stand core.0)

    pub tells : TellsBeside stamps here.owes here.may (past.owns core.0) fact
    tells = own_stands.0

    pub others_may : (c : ℕ) → c ≢ core.0 → (at.own c).may ≡ owes_nothing
    others_may c apart = elim (at.busy c) [
      | inl none ↦ none
      | inr busy ↦ elim (turn_is core.0 fact past.busy (sort_of fact) at.may.0.0) [
        | inl free ↦ absurd (let never : ◌≡◌ {A = Option ℕ} None (Some c) = sym free ∙ busy in cc never)
        | inr own ↦ absurd (apart (let same : ◌≡◌ {A = Option ℕ} (Some c) (Some core.0) = sym busy ∙ own in cc same))
      ]
    ]

    pub others_owe : (c : ℕ) → c ≢ core.0 → (at.own c).owes ≡ owes_nothing
    others_owe c apart = elim (at.due c) [ inl none ↦ none | inr may ↦ may ∙ others_may c apart ]

    -- where this core owes nothing, none does
    pub nobody : here.owes ≡ owes_nothing → (c : ℕ) → (at.own c).owes ≡ owes_nothing
    nobody none c = elim (same_or_not c core.0) [
      | inl same ↦ ap (λ n. (at.own n).owes) same ∙ none
      | inr apart ↦ others_owe c apart
    ]

    then_here : (c : ℕ) → c ≡ core.0 → own_then c ≡ own_owed fact here
    then_here c same = at_same at.own core.0 (own_owed fact here) c same

    then_other : (c : ℕ) → c ≢ core.0 → own_then c ≡ at.own c
    then_other c apart = at_other at.own core.0 (own_owed fact here) c apart

    stand_then : (c : ℕ) → OwnStand stamps (later.owns c) (own_then c) (entries_by event_core c rest)
    stand_then c = elim (same_or_not c core.0) [
      | inl same ↦
          subst (λ n. OwnStand stamps (later.owns n) (own_then n) (entries_by event_core n rest)) (sym same)
          (subst (λ (p : OwnTold × OwnOwed). OwnStand stamps p.0 p.1 (entries_by event_core core.0 rest))
          (λ i. (sym (at_here past.owns core.0 (own_label fact (past.owns core.0))) i, sym (then_here core.0 refl) i)) own_stands.1)
      | inr apart ↦
          subst (λ (p : OwnTold × OwnOwed). OwnStand stamps p.0 p.1 (entries_by event_core c rest))
          (λ i. (sym (at_other past.owns core.0 (own_label fact (past.owns core.0)) c apart) i, sym (then_other c apart) i))
          (subst (λ b. OwnStand stamps (past.owns c) (at.own c) (cond b (event ∷ entries_by event_core c rest) (entries_by event_core c rest)))
          (not_same core.0 c (λ same. apart (sym same))) (at.stand c))
    ]

    tells_other : (c : ℕ) → c ≢ core.0 → (own_then c).may ≡ owes_nothing
    tells_other c apart = ap (λ (o : OwnOwed). o.may) (then_other c apart) ∙ others_may c apart

    busy_then : (c : ℕ) → ((own_then c).may ≡ owes_nothing) ⊎ (later.busy ≡ Some c)
    busy_then c = elim (same_or_not c core.0) [
      | inl same ↦ elim (busy_here layout stamps done past core here fact (sort_of fact) at.may.0.0) [
        | inl none ↦ inl (ap (λ (o : OwnOwed). o.may) (then_here c same) ∙ none)
        | inr busy ↦ inr (busy ∙ ap Some (sym same))
      ]
      | inr apart ↦ inl (tells_other c apart)
    ]

    abbrev done_then : List (Event Label)
    done_then = done ++ event ∷ []

    owed_then : (c : ℕ) → own_then c ≡ owed_from (entries_by event_core c done_then) nothing_owed
    owed_then c = sym (
        ap (λ l. owed_from l nothing_owed) (filter-append (λ e. nat_eq (event_core e) c) done (event ∷ []))
        ∙ (owed_more (entries_by event_core c done) (entries_by event_core c (event ∷ [])) nothing_owed
        ∙ (ap (owed_from (entries_by event_core c (event ∷ []))) (sym (at.owed c)) ∙ last c))
        )
      where
        last : (n : ℕ) → owed_from (entries_by event_core n (event ∷ [])) (at.own n) ≡ own_then n
        last n = elim (same_or_not n core.0) [
          | inl same ↦
              ap (λ m. owed_from (entries_by event_core m (event ∷ [])) (at.own m)) same
              ∙ (ap (λ b. owed_from (cond b (event ∷ []) []) here) (same_number core.0) ∙ sym (then_here n same))
          | inr apart ↦
              ap (λ b. owed_from (cond b (event ∷ []) []) (at.own n)) (not_same core.0 n (λ same. apart (sym same))) ∙ sym (then_other n apart)
        ]

    pub owing_then : Owing done_then later rest
    owing_then = record {
      own = own_then;
      may = at.may.1;
      stand = stand_then;
      busy = busy_then;
      due = λ c. elim (same_or_not c core.0) [
        | inl same ↦
            subst IsDue (sym (then_here c same))
            (due_here layout stamps done past core here fact (sort_of fact) tells)
        | inr apart ↦ subst IsDue (sym (then_other c apart)) (at.due c)
      ];
      reserved = λ c n may. elim (same_or_not c core.0) [
        | inl same ↦
            subst (λ m. LastReserved done_then m n) (sym same)
            (reserved_here layout stamps done past core here fact (sort_of fact) n (sym (ap (λ (o : OwnOwed). o.may) (then_here c same)) ∙ may))
        | inr apart ↦ let never : ◌≡◌ {A = OwesTurn} owes_nothing (owes_granted n) = sym (tells_other c apart) ∙ may in absurd (cc never)
      ];
      returned = λ c n may. elim (same_or_not c core.0) [
        | inl same ↦
            subst (λ m. LastReturned done_then m n) (sym same)
            (returned_here layout stamps done past core here fact (sort_of fact) n (sym (ap (λ (o : OwnOwed). o.may) (then_here c same)) ∙ may))
        | inr apart ↦ let never : ◌≡◌ {A = OwesTurn} owes_nothing (owes_given_back n) = sym (tells_other c apart) ∙ may in absurd (cc never)
      ];
      owed = owed_then;
    }

    pub owing_own : owing_then.own ≡ with_at at.own core.0 (own_owed fact (at.own core.0))
    unfolding owing_then
    owing_own = refl

  -- before the first event nobody owes a turn
  pub owing_first : (moment : ℕ) (log : List (Event Label)) → MayFrom layout before log (first_past moment) → StandBeside stamps log
      → Owing [] (first_past moment) log
  owing_first moment log may stand = record {
    own = λ c. nothing_owed;
    may = may;
    stand = stand;
    busy = λ c. inl refl;
    due = λ c. inl refl;
    reserved = λ c n may. absurd (cc may);
    returned = λ c n may. absurd (cc may);
    owed = λ c. refl;
  }

  pub first_owes : (moment : ℕ) (log : List (Event Label)) (may : MayFrom layout before log (first_past moment)) (stand : StandBeside stamps log) (c : ℕ)
      → (owing_first moment log may stand).own c ≡ nothing_owed
  unfolding owing_first
  first_owes moment log may stand c = refl

  -- and behind each front of a history
  pub owing_at : (done front back : List (Event Label)) (past : BoxPast) → Owing done past (front ++ back)
      → Owing (done ++ front) (past_from layout front past) back
  owing_at done [] back past at = subst (λ l. Owing l past back) (sym (append-nil done)) at
  owing_at done (Called entry ∷ front) back past at = absurd at.may.0
  owing_at done (Told core fact ∷ front) back past at =
      subst (λ l. Owing l (past_from layout front (after_label layout core.0 fact past)) back) (append_assoc done (Told core fact ∷ []) front)
      (owing_at (done ++ Told core fact ∷ []) front back (after_label layout core.0 fact past) (owing_then done past core fact (front ++ back) at))

  -- a turn that is noted by what is owed, or may be told
  by_reserving : (done : List (Event Label)) (core : CoreId) (turn : Turn) (n : ℕ) → LastReserved done core.0 n → turn.stamp.0 ≡ stamps n
      → StandsByReserving stamps done core turn
  by_reserving done core turn n found stamp = record {
    rest = found.rest;
    one = found.one;
    own = found.own;
    whole = found.whole;
    stamp_is = stamp ∙ ap stamps (sym found.number_is);
  }

  by_returning : (done : List (Event Label)) (core : CoreId) (turn : Turn) (n : ℕ) → LastReturned done core.0 n → turn.stamp.0 ≡ stamps n
      → StandsByReturning stamps done core turn
  by_returning done core turn n found stamp =
      record { rest = found.rest; commit = n; teller = found.teller; own = found.own; whole = found.whole; stamp_is = stamp }

  noted_granted : (done : List (Event Label)) (core : CoreId) (told : OwnTold) (turn : Turn) (o may : OwesTurn) → (o ≡ owes_nothing) ⊎ (o ≡ may)
      → ((n : ℕ) → may ≡ owes_granted n → LastReserved done core.0 n) → TellsBeside stamps o may told (label.Noted turn) → turn.act ≡ act.Granted
      → StandsByReserving stamps done core turn
  noted_granted done core told turn owes_nothing may due last tells did =
      let free = tells.own_grant did in by_reserving done core turn free.number (last free.number free.may_is) free.stamp_is
  noted_granted done core told turn (owes_granted n) may due last tells did =
      let same : turn ≡ tells.turn = cc tells.is in
      let may_is : may ≡ owes_granted n = elim due [ inl none ↦ absurd (cc none) | inr is ↦ sym is ] in
      by_reserving done core turn n (last n may_is) (ap (λ (t : Turn). t.stamp.0) same ∙ tells.stamp_is)
  noted_granted done core told turn (owes_given_back n) may due last tells did =
      let same : turn ≡ tells.turn = cc tells.is in
      let never : ◌≡◌ {A = TurnAct} act.Granted act.GivenBack = sym did ∙ (ap (λ (t : Turn). t.act) same ∙ tells.did_is) in absurd (cc never)

  noted_returned : (done : List (Event Label)) (core : CoreId) (told : OwnTold) (turn : Turn) (o may : OwesTurn) → (o ≡ owes_nothing) ⊎ (o ≡ may)
      → ((n : ℕ) → may ≡ owes_given_back n → LastReturned done core.0 n) → TellsBeside stamps o may told (label.Noted turn) → turn.act ≡ act.GivenBack
      → StandsByReturning stamps done core turn
  noted_returned done core told turn owes_nothing may due last tells did =
      let free = tells.own_return did in by_returning done core turn free.number (last free.number free.may_is) free.stamp_is
  noted_returned done core told turn (owes_given_back n) may due last tells did =
      let same : turn ≡ tells.turn = cc tells.is in
      let may_is : may ≡ owes_given_back n = elim due [ inl none ↦ absurd (cc none) | inr is ↦ sym is ] in
      by_returning done core turn n (last n may_is) (ap (λ (t : Turn). t.stamp.0) same ∙ tells.stamp_is)
  noted_returned done core told turn (owes_granted n) may due last tells did =
      let same : turn ≡ tells.turn = cc tells.is in
      let never : ◌≡◌ {A = TurnAct} act.GivenBack act.Granted = sym did ∙ (ap (λ (t : Turn). t.act) same ∙ tells.did_is) in absurd (cc never)

  pub stands_so : (moment : ℕ) (log : List (Event Label)) → MayFrom layout before log (first_past moment) → StandBeside stamps log → TurnsStand stamps log
  stands_so moment log may stand = record {
    granted = λ turn noted did.
        let at = place turn noted in
        noted_granted noted.front noted.core ((past_from layout noted.front (first_past moment)).owns noted.core.0) turn (at.own noted.core.0).owes
        (at.own noted.core.0).may (at.due noted.core.0) (at.reserved noted.core.0)
        (tells noted.front (past_from layout noted.front (first_past moment)) noted.core (label.Noted turn) noted.back at) did;
    given_back = λ turn noted did.
        let at = place turn noted in
        noted_returned noted.front noted.core ((past_from layout noted.front (first_past moment)).owns noted.core.0) turn (at.own noted.core.0).owes
        (at.own noted.core.0).may (at.due noted.core.0) (at.returned noted.core.0)
        (tells noted.front (past_from layout noted.front (first_past moment)) noted.core (label.Noted turn) noted.back at) did;
    durable = λ turn noted did. (place turn noted).may.0.1.no_durable did;
  }
    where
      place : (turn : Turn) (noted : NotesIn log turn)
          → Owing noted.front (past_from layout noted.front (first_past moment)) (Told noted.core (label.Noted turn) ∷ noted.back)
      place turn noted =
          owing_at [] noted.front (Told noted.core (label.Noted turn) ∷ noted.back) (first_past moment)
          (subst (λ l. Owing [] (first_past moment) l) noted.whole (owing_first moment log may stand))

pub turns_stand_beside : TurnsStandBeside
turns_stand_beside layout before moment stamps log may stand = stands_so layout before stamps moment log may stand
