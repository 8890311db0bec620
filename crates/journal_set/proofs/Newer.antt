-- A number that a core reserves is above those that were reserved before.
use Rattle.std.specs.List.{cons_option}
use Rattle.std.proofs.Common.{◌≡◌, ◌+◌, ◌≤◌, ◌∷◌, ◌++◌, ◌∙◌, ◌⊎◌, ◌==◌, ℕ, Bool, cond, List, [], Option, Some, None, inl, inr, refl, sym, ap, subst, ⊎_elim, arith, append-nil}
use Rattle.std.proofs.lemmas.Bool.{cases_Bool}
use Rattle.std.proofs.lemmas.List.Elements.{filter_map-append}
use Rattle.sfs_base.specs.declared.numbers.CoreId.{CoreId}
use Rattle.sfs_base.proofs.BasicOptions.{none_some, some_same}
use Rattle.sfs_image.specs.Super.{Layout}
use Rattle.cut_laws.specs.Rules.{IsOneOf}
use Rattle.stamp_table.specs.declared.event.Event.{Event}
use Rattle.stamp_table.specs.declared.event.Event.TheVariants.{Called, Told}
use Rattle.stamp_table.specs.Events.{event_core}
use Rattle.stamp_table.specs.Rule.{entries_by}
use Rattle.stamp_table.specs.Table.{TableState}
use Rattle.slot_laws.specs.declared.label.Label.{Label}
use Rattle.slot_laws.specs.declared.label.Label.TheVariants as label
use Rattle.slot_laws.specs.Labels.{BoxPast, after_event, after_label, first_past, past_from}
use Rattle.slot_laws.specs.Rules.{MayEvent, MayFrom, MayLabel}
use Rattle.disk_box.specs.Box.{LawfulBox, past_of}
use Rattle.disk_box.specs.Pens.{HoldsBox, PenHand}
use Rattle.disk_box.specs.declared.key.BoxKey.{BoxKey}
use Rattle.journal_set.specs.Numbering.{IsNewerThan, event_reserves, label_reserves, numbers_reserved}

-- the numbers reserved are the same once the box was taken
pub took_numbers : {D : Type 0} (before after : PenHand D)
    → after.view.mine ≡ before.view.mine ++ Told (record { 0 = before.view.core }) label.Took ∷ []
    → numbers_reserved after.view.mine ≡ numbers_reserved before.view.mine
took_numbers before after is =
    ap numbers_reserved is
    ∙ (filter_map-append event_reserves before.view.mine (Told (record { 0 = before.view.core }) label.Took ∷ [])
    ∙ append-nil (numbers_reserved before.view.mine))

module _ (layout : Layout) (before core : ℕ) (past : BoxPast) where
  -- no label makes the count of numbers fall
  numbers_stay : (fact : Label) → MayLabel layout before core fact past → past.commits ≤ (after_label layout core fact past).commits
  numbers_stay label.Took rule = omega arith
  numbers_stay label.Gave rule = omega arith
  numbers_stay (label.Noted turn) rule = omega arith
  numbers_stay (label.Reserved commit seen grant) rule = let next = rule.next in omega (arith, next)
  numbers_stay (label.Returned commit) rule = omega arith
  numbers_stay (label.Began filling commit node stamp blocks inodes) rule = omega arith
  numbers_stay (label.Filled slot piece done) rule = omega arith
  numbers_stay (label.Synced now) rule = omega arith
  numbers_stay (label.Opened slot done cut opened) rule = omega arith
  numbers_stay (label.Settled slot turn) rule = omega arith
  numbers_stay (label.Learned turn) rule = omega arith
  numbers_stay (label.Placed slot n done) rule = omega arith
  numbers_stay (label.Shut slot done) rule = omega arith
  numbers_stay (label.Idled slot) rule = omega arith
  numbers_stay (label.Empty commit cut opened durable) rule = omega arith

-- nor does any event
events_stay : (layout : Layout) (before : ℕ) (event : Event Label) (past : BoxPast) → MayEvent layout before event past
    → past.commits ≤ (after_event layout event past).commits
events_stay layout before (Called entry) past may = absurd may
events_stay layout before (Told core fact) past may = numbers_stay layout before core.0 past fact may.1

-- nor a history
history_stays : (layout : Layout) (before : ℕ) (log : List (Event Label)) (past : BoxPast) → MayFrom layout before log past
    → past.commits ≤ (past_from layout log past).commits
history_stays layout before [] past may = omega arith
history_stays layout before (event ∷ log) past may =
    let one = events_stay layout before event past may.0 in
    let rest = history_stays layout before log (after_event layout event past) may.1 in
    omega (arith, one, rest)

-- a label reserves the number that is given then
reserves_given : (layout : Layout) (before core : ℕ) (past : BoxPast) (fact : Label) → (other : ℕ) → label_reserves fact ≡ Some other
    → (after_label layout core fact past).commits ≡ other
reserves_given layout before core past (label.Reserved commit seen grant) other is = some_same is
reserves_given layout before core past label.Took other is = absurd (none_some is)
reserves_given layout before core past label.Gave other is = absurd (none_some is)
reserves_given layout before core past (label.Noted turn) other is = absurd (none_some is)
reserves_given layout before core past (label.Returned commit) other is = absurd (none_some is)
reserves_given layout before core past (label.Began filling commit node stamp blocks inodes) other is = absurd (none_some is)
reserves_given layout before core past (label.Filled slot piece done) other is = absurd (none_some is)
reserves_given layout before core past (label.Synced now) other is = absurd (none_some is)
reserves_given layout before core past (label.Opened slot done cut opened) other is = absurd (none_some is)
reserves_given layout before core past (label.Settled slot turn) other is = absurd (none_some is)
reserves_given layout before core past (label.Learned turn) other is = absurd (none_some is)
reserves_given layout before core past (label.Placed slot n done) other is = absurd (none_some is)
reserves_given layout before core past (label.Shut slot done) other is = absurd (none_some is)
reserves_given layout before core past (label.Idled slot) other is = absurd (none_some is)
reserves_given layout before core past (label.Empty commit cut opened durable) other is = absurd (none_some is)

-- one that may stand in front of others is that one or one of them
in_front : {X : Type 0} (o : Option X) (xs : List X) (x : X) → IsOneOf (cons_option o xs) x → (o ≡ Some x) ⊎ IsOneOf xs x
in_front None xs x one = inr one
in_front (Some y) xs x one = elim one [ inl here ↦ inl (ap Some here) | inr later ↦ inr later ]

behind : {X : Type 0} (o : Option X) (xs : List X) (x : X) → IsOneOf xs x → IsOneOf (cons_option o xs) x
behind None xs x one = one
behind (Some y) xs x one = inr one

-- the number that the first label of a history reserves is one that was given
given_here : (layout : Layout) (before : ℕ) (core : CoreId) (fact : Label) (log : List (Event Label)) (past : BoxPast)
    → MayFrom layout before (Told core fact ∷ log) past → (other : ℕ) → label_reserves fact ≡ Some other
    → other ≤ (past_from layout (Told core fact ∷ log) past).commits
given_here layout before core fact log past may other here =
    let same = reserves_given layout before core.0 past fact other here in
    let rest = history_stays layout before log (after_event layout (Told core fact) past) may.1 in
    omega (arith, same, rest)

-- each number reserved is one that was given
given_from : (layout : Layout) (before : ℕ) (log : List (Event Label)) (past : BoxPast) → MayFrom layout before log past → (other : ℕ)
    → IsOneOf (numbers_reserved log) other → other ≤ (past_from layout log past).commits
given_from layout before [] past may other one = absurd one
given_from layout before (Called entry ∷ log) past may other one = absurd may.0
given_from layout before (Told core fact ∷ log) past may other one =
    elim (in_front (label_reserves fact) (numbers_reserved log) other one) [
      | inl here ↦ given_here layout before core fact log past may other here
      | inr later ↦ given_from layout before log (after_event layout (Told core fact) past) may.1 other later
    ]

-- So the next number is above all.
pub newer_than : {D : Type 0} (key : BoxKey D) (log : List (Event Label)) → LawfulBox key log → (number : ℕ) → number ≡ (past_of key log).commits + 1 → IsNewerThan log number
newer_than key log lawful number next other one =
    let given = given_from key.layout key.faults log (first_past key.start) lawful other one in omega (arith, given, next)

-- what is reserved in a part of a history by core is reserved in it
numbers_by : (core : ℕ) (log : List (Event Label)) (other : ℕ) → IsOneOf (numbers_reserved (entries_by event_core core log)) other
    → IsOneOf (numbers_reserved log) other
numbers_by core [] other one = one
numbers_by core (event ∷ log) other one = ⊎_elim
    (λ is. elim (in_front (event_reserves event) (numbers_reserved (entries_by event_core core log)) other
    (subst (λ (b : Bool). IsOneOf (numbers_reserved (cond b (event ∷ entries_by event_core core log) (entries_by event_core core log))) other) is one)) [
      | inl here ↦ subst (λ (o : Option ℕ). IsOneOf (cons_option o (numbers_reserved log)) other) (sym here) (inl refl)
      | inr later ↦ behind (event_reserves event) (numbers_reserved log) other (numbers_by core log other later)
    ])
    (λ not. behind (event_reserves event) (numbers_reserved log) other (numbers_by core log other
    (subst (λ (b : Bool). IsOneOf (numbers_reserved (cond b (event ∷ entries_by event_core core log) (entries_by event_core core log))) other) not one)))
    (cases_Bool (event_core event == core))

-- a number that a pen with the box has reserved is one that was reserved in what it has seen
pub mine_among : {D : Type 0} (t : TableState (BoxKey D)) (pen : PenHand D) → HoldsBox t pen → (other : ℕ) → IsOneOf (numbers_reserved pen.view.mine) other
    → IsOneOf (numbers_reserved pen.view.seen) other
mine_among t pen holds other one =
    numbers_by pen.view.core pen.view.seen other (subst (λ (l : List (Event Label)). IsOneOf (numbers_reserved l) other) holds.mine one)
