-- One directory's changes in the logs of several cores, in one order.
use Rattle.std.specs.Prelude.{◌≡◌, ◌⊎◌, ℕ, ◌<◌, ◌≤◌, ◌==◌, nat_le, nat_lt, Bool, true, false, List, [], ◌∷◌, ◌++◌, Option, Some, None, filter, All}
use Rattle.tree_laws.specs.declared.changes.Change.{Change}
use Rattle.mem_cells.specs.Log.{log_place, IsInOrder}
use Rattle.mem_cells.specs.Part.{CoreLog, changes_kept}

-- whether a change lies below a stamp
abbrev pub is_under : ℕ → Change → Bool
is_under stamp change = nat_lt change.stamp.0 stamp

-- whether a change stands at a place
abbrev pub stands_at : ℕ → Change → Bool
stands_at place change = log_place change == place

-- the changes of a directory below a stamp that a part keeps
abbrev pub part_changes : ℕ → ℕ → CoreLog → List Change
part_changes directory stamp part = filter (is_under stamp) (changes_kept part directory)

-- those that several parts keep, part after part
abbrev pub parts_changes : ℕ → ℕ → List CoreLog → List Change
parts_changes directory stamp [] = []
parts_changes directory stamp (part ∷ parts) = part_changes directory stamp part ++ parts_changes directory stamp parts

-- Some changes are others in order: at each place stand those that stand there among the others, each once and as they follow there.
pub record IsMergeOf (changes merged : List Change) : Type 0 where
  pub in_order : IsInOrder merged
  pub same : (place : ℕ) → filter (stands_at place) merged ≡ filter (stands_at place) changes

-- whether the next of two lists is the first's: it has one, and the second has none before it
abbrev pub is_first_next : List Change → List Change → Bool
is_first_next [] second = false
is_first_next (next ∷ first) [] = true
is_first_next (next ∷ first) (other ∷ second) = nat_le (log_place next) (log_place other)

-- A change leaves one of two lists, and stands no later than any of the other one.
pub record GoesFrom (from other : List Change) (change : Change) (from_after other_after : List Change) : Type 0 where
  pub taken : from ≡ change ∷ from_after
  pub same_other : other_after ≡ other
  pub no_later : All (λ one. log_place change ≤ log_place one) other

-- The next change of two lists leaves that in which it stands: the first, or the second where it stands before all of the first. There
-- is none where both have none.
abbrev pub TakesNext : List Change → List Change → Option Change → List Change → List Change → Type 0
TakesNext first second None first_after second_after = (first ≡ []) × (second ≡ [])
TakesNext first second (Some change) first_after second_after =
    GoesFrom first second change first_after second_after
    ⊎ (GoesFrom second first change second_after first_after × All (λ one. log_place change < log_place one) first)
