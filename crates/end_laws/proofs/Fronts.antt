-- Where a number was reserved in the labels of a box: there is one such place.
use Rattle.std.proofs.Common.{◌≡◌, ◌∙◌, ◌==◌, ◌∷◌, if◌then◌else◌, ◌≤◌, ◌++◌, ◌<◌, ◌+◌, ℕ, Bool, true, false, List, [], arith, eqb-true, sym, ap, refl}
use Rattle.sfs_base.specs.declared.numbers.CoreId.{CoreId}
use Rattle.sfs_base.specs.Lists.{Roomy}
use Rattle.sfs_base.proofs.BasicNumbers.{same_number}
use Rattle.sfs_base.proofs.BasicTruth.{true_not_false}
use Rattle.sfs_image.specs.Super.{Layout}
use Rattle.space_map.specs.Space.{GrantedNumbers}
use Rattle.stamp_table.specs.declared.event.Event.{Event}
use Rattle.stamp_table.specs.declared.event.Event.TheVariants.{Told, Called}
use Rattle.slot_laws.specs.declared.label.Label.{Label}
use Rattle.slot_laws.specs.Labels.{BoxPast, after_label, past_from}
use Rattle.slot_laws.specs.Rules.{MayLabel, MayFrom}
use Rattle.slot_laws.specs.declared.label.Seen.{Seen}
use Rattle.slot_laws.specs.declared.label.Label.TheVariants as label
use Rattle.slot_laws.proofs.NodesTold.{may_parts}

-- whether an event reserves a number
abbrev pub reserves_it : ℕ → Event Label → Bool
reserves_it number (Told core (label.Reserved commit seen grant)) = commit == number
reserves_it number _ = false

-- the events before the first one that reserves a number
abbrev pub before_number : ℕ → List (Event Label) → List (Event Label)
before_number number [] = []
before_number number (event ∷ log) = if reserves_it number event then [] else event ∷ before_number number log

module _ (layout : Layout) (before : ℕ) where
  -- no label makes the count of numbers fall
  count_stays : (core : ℕ) (fact : Label) (past : BoxPast) → MayLabel layout before core fact past → past.commits ≤ (after_label layout core fact past).commits
  count_stays core label.Took past rule = omega arith
  count_stays core label.Gave past rule = omega arith
  count_stays core (label.Noted turn) past rule = omega arith
  count_stays core (label.Reserved commit seen grant) past rule = let next = rule.next in omega (arith, next)
  count_stays core (label.Returned commit) past rule = omega arith
  count_stays core (label.Began filling commit node stamp blocks inodes) past rule = omega arith
  count_stays core (label.Filled slot piece done) past rule = omega arith
  count_stays core (label.Synced now) past rule = omega arith
  count_stays core (label.Opened slot done cut opened) past rule = omega arith
  count_stays core (label.Settled slot turn) past rule = omega arith
  count_stays core (label.Learned turn) past rule = omega arith
  count_stays core (label.Placed slot n done) past rule = omega arith
  count_stays core (label.Shut slot done) past rule = omega arith
  count_stays core (label.Idled slot) past rule = omega arith
  count_stays core (label.Empty commit cut opened durable) past rule = omega arith

  -- nor do some events
  counts_stay : (log : List (Event Label)) (past : BoxPast) → MayFrom layout before log past → past.commits ≤ (past_from layout log past).commits
  counts_stay [] past may = omega arith
  counts_stay (Called entry ∷ log) past may = absurd may.0
  counts_stay (Told core fact ∷ log) past may =
      let one = count_stays core.0 fact past may.0.1 in
      let rest = counts_stay log (after_label layout core.0 fact past) may.1 in
      omega (arith, one, rest)

  -- behind one that reserves a number the count is that number
  counts_own : (number : ℕ) (core : CoreId) (fact : Label) (past : BoxPast) → reserves_it number (Told core fact) ≡ true
      → (after_label layout core.0 fact past).commits ≡ number
  counts_own number core (label.Reserved commit seen grant) past is = eqb-true commit number is
  counts_own number core label.Took past is = absurd (true_not_false (sym is))
  counts_own number core label.Gave past is = absurd (true_not_false (sym is))
  counts_own number core (label.Noted turn) past is = absurd (true_not_false (sym is))
  counts_own number core (label.Returned commit) past is = absurd (true_not_false (sym is))
  counts_own number core (label.Began filling commit node stamp blocks inodes) past is = absurd (true_not_false (sym is))
  counts_own number core (label.Filled slot piece done) past is = absurd (true_not_false (sym is))
  counts_own number core (label.Synced now) past is = absurd (true_not_false (sym is))
  counts_own number core (label.Opened slot done cut opened) past is = absurd (true_not_false (sym is))
  counts_own number core (label.Settled slot turn) past is = absurd (true_not_false (sym is))
  counts_own number core (label.Learned turn) past is = absurd (true_not_false (sym is))
  counts_own number core (label.Placed slot n done) past is = absurd (true_not_false (sym is))
  counts_own number core (label.Shut slot done) past is = absurd (true_not_false (sym is))
  counts_own number core (label.Idled slot) past is = absurd (true_not_false (sym is))
  counts_own number core (label.Empty commit cut opened durable) past is = absurd (true_not_false (sym is))

  module _ (number : ℕ) (core : CoreId) (seen : Roomy Seen) (grant : GrantedNumbers) (back : List (Event Label)) where
    abbrev here : Event Label
    here = Told core (label.Reserved number seen grant)

    -- a number that is reserved behind some events is above all of before
    above_all : (front : List (Event Label)) (past : BoxPast) → MayFrom layout before (front ++ here ∷ back) past → past.commits < number
    above_all front past may =
        let parts = may_parts layout before front (here ∷ back) past may in
        let low = counts_stay front past parts.0 in
        let next : number ≡ (past_from layout front past).commits + 1 = parts.1.0.1.next in
        omega (arith, low, next)

    -- so the place is the first one
    pub place_is_first : (front : List (Event Label)) (past : BoxPast) → MayFrom layout before (front ++ here ∷ back) past
        → before_number number (front ++ here ∷ back) ≡ front
    place_is_first [] past may = ap (λ b. if b then [] else here ∷ before_number number back) (same_number number)
    place_is_first (Called entry ∷ front) past may = absurd may.0
    place_is_first (Told teller fact ∷ front) past may =
        by (reserves_it number (Told teller fact)) refl (place_is_first front (after_label layout teller.0 fact past) may.1)
      where
        by : (b : Bool) → reserves_it number (Told teller fact) ≡ b → before_number number (front ++ here ∷ back) ≡ front
            → before_number number (Told teller fact ∷ front ++ here ∷ back) ≡ Told teller fact ∷ front
        by true is later =
            let low = above_all front (after_label layout teller.0 fact past) may.1 in
            let own = counts_own number teller fact past is in
            absurd (omega (arith, low, own))
        by false is later =
            ap (λ b. if b then [] else Told teller fact ∷ before_number number (front ++ here ∷ back)) is
            ∙ ap (λ l. Told teller fact ∷ l) later
