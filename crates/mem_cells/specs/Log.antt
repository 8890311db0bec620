-- The changes of one directory that a core keeps.
use Rattle.std.specs.Prelude.{ℕ, ◌+◌, ◌*◌, ◌≡◌, ◌≤◌, Bool, true, false, Option, Some, None, nat_le, nat_lt, List, [], ◌∷◌, filter, if◌then◌else◌}
use Rattle.std.specs.List.Sorted.{IsNonDecreasingBy}
use Rattle.tree_laws.specs.declared.changes.Change.{Change}
use Rattle.tree_laws.specs.Logged.{is_addition}

-- where a change stands among others: by its stamp, and within one stamp a removal before an addition
abbrev pub log_place : Change → ℕ
log_place change = 2 * change.stamp.0 + (if is_addition change.act then 1 else 0)

-- Changes stand by their stamps, and within one stamp removals before additions.
pub record IsInOrder (changes : List Change) : Type 0 where
  pub rises : IsNonDecreasingBy log_place changes

-- whether a change has this stamp at least
abbrev pub is_from : ℕ → Change → Bool
is_from stamp change = nat_le stamp change.stamp.0

-- whether there is a first change, and it lies below a stamp
abbrev pub begins_under : ℕ → List Change → Bool
begins_under stamp [] = false
begins_under stamp (change ∷ changes) = nat_lt change.stamp.0 stamp

-- Changes stand in order, in a queue that has places for so many more.
pub record HasPlaces (changes : List Change) (long capacity room : ℕ) : Type 0 where
  pub in_order : IsInOrder changes
  pub places : long + room ≤ capacity

-- a directory's changes, the mark below which they were trimmed, and for how many more there is room
pub record Log : Type 0 where
  pub mark : ℕ
  pub changes : List Change
  pub room : ℕ

-- The first change of a log is taken out where it lies below a stamp; else none lies below it, and nothing is changed.
abbrev pub TakesBelow : ℕ → Log → Option Change → Log → Type 0
TakesBelow below log None after = (filter (is_from below) log.changes ≡ log.changes) × (after ≡ log)
TakesBelow below log (Some change) after =
    (begins_under below log.changes ≡ true) × (log.changes ≡ change ∷ after.changes) × (after ≡ record log { changes = after.changes })
