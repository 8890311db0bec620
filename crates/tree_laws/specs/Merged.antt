-- The entries of a history that is kept in several lists.
use Rattle.std.specs.Prelude.{◌≡◌, ℕ, zero, suc, ◌^◌, ◌<◌, ◌==◌, Bool, List, [], ◌∷◌, ◌++◌, length, Option, Some, Vec, All, count_by, filter, slice_get}
use Rattle.std.specs.List.{find, cons_option}
use Rattle.std.specs.declared.alloc.Global.{Global}
use Rattle.tree_laws.specs.declared.history.Entry.{Entry}

-- the entries of all lists, one list after another
abbrev pub entries_in : List (Vec Entry Global) → List Entry
entries_in [] = []
entries_in (part ∷ parts) = part.items ++ entries_in parts

-- whether an entry has this stamp
abbrev pub has_stamp : ℕ → Entry → Bool
has_stamp stamp entry = entry.stamp.0 == stamp

-- the entry with this stamp, where there is one
abbrev pub entry_with : List Entry → ℕ → Option Entry
entry_with entries stamp = find (has_stamp stamp) entries

-- so many entries from a stamp on, by their stamps
abbrev pub entries_from : List Entry → ℕ → ℕ → List Entry
entries_from entries stamp zero = []
entries_from entries stamp (suc count) = cons_option (entry_with entries stamp) (entries_from entries (suc stamp) count)

-- the entries in the order of their stamps: at each place stands the one whose stamp that is
unfoldable pub by_stamps : List Entry → List Entry
by_stamps entries = entries_from entries 0 (length entries)

-- Each stamp below the number of entries is one entry's, and no entry has another.
pub record EachOnce (entries : List Entry) : Type 0 where
  pub below : All (λ entry. entry.stamp.0 < length entries) entries
  pub once : (stamp : ℕ) → stamp < length entries → count_by (has_stamp stamp) entries ≡ 1
  pub few : length entries < 2 ^ 64

-- whether an entry is this core's
abbrev pub is_core : ℕ → Entry → Bool
is_core core entry = entry.core.0 == core

-- The lists are those of the cores of a history: at a core's place stand its own entries, in their order, and each entry's stamp is
-- its place in the history.
pub record AreCoresOf (parts : List (Vec Entry Global)) (history : List Entry) : Type 0 where
  pub stamped : (place : ℕ) (entry : Entry) → slice_get history place ≡ Some entry → entry.stamp.0 ≡ place
  pub cores : (place : ℕ) (entry : Entry) → slice_get history place ≡ Some entry → entry.core.0 < length parts
  pub own : (core : ℕ) (part : Vec Entry Global) → slice_get parts core ≡ Some part → part.items ≡ filter (is_core core) history
  pub few : length history < 2 ^ 64

-- The lists of the cores of a history have each stamp once, and by their stamps they make the history.
pub record MakeTheHistory (parts : List (Vec Entry Global)) (history : List Entry) : Type 0 where
  pub once : EachOnce (entries_in parts)
  pub merged : by_stamps (entries_in parts) ≡ history
