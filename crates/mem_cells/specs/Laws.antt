-- What a part keeps of its core's changes; each law is proved by a function of the module laws.
use Rattle.std.specs.Prelude.{◌≡◌, ◌↔◌, ℕ, ◌+◌, ◌<◌, ◌≤◌, Bool, List, [], ◌++◌, filter, All}
use Rattle.std.specs.List.Sorted.{IsStrictlyIncreasing}
use Rattle.tree_laws.specs.declared.changes.Change.{Change}
use Rattle.tree_laws.specs.Logged.{is_logged_in}
use Rattle.mem_cells.specs.Log.{is_from}
use Rattle.mem_cells.specs.Part.{CoreLog, changes_kept, mark_kept, IsAddedTo, IsTrimmed, AscendByDirectory}
use Rattle.mem_cells.specs.Named.{namings_of, namings_kept, namings_within, IsNamedOutside}

-- A part is what is left of a core's changes: of each directory those that have its mark as their stamp at least, in their order; and
-- it counts the core's entries.
pub record IsLeftOf (changes : List Change) (entries : ℕ) (part : CoreLog) : Type 0 where
  pub changes_left : (directory : ℕ) → changes_kept part directory ≡ filter (is_from (mark_kept part directory)) (filter (is_logged_in directory) changes)
  pub entries_counted : part.entries ≡ entries

-- A part without changes is what is left of no entries.
abbrev pub PartsBegin : Type 0
PartsBegin = IsLeftOf [] 0 (record { logs = []; entries = 0 })

-- Where no change of an entry has a stamp below its directory's mark, the part with it is what is left of the changes with those of the entry.
abbrev pub EntriesAreKept : Type 0
EntriesAreKept =
    (changes entry : List Change) (entries : ℕ) (part after : CoreLog) → IsLeftOf changes entries part
    → All (λ change. mark_kept part change.dir.0 ≤ change.stamp.0) entry → IsAddedTo part entry after → IsLeftOf (changes ++ entry) (entries + 1) after

-- A trimmed part is what is left of the same changes.
abbrev pub TrimsKeep : Type 0
TrimsKeep =
    (changes : List Change) (entries : ℕ) (part : CoreLog) (directory below : ℕ) (after : CoreLog) → IsLeftOf changes entries part
    → IsTrimmed part directory below after → IsLeftOf changes entries after

-- whether a part keeps a change of its core's: it does not lie below its directory's mark
abbrev pub is_left : CoreLog → Change → Bool
is_left part change = is_from (mark_kept part change.dir.0) change

-- As many of the kept changes name a node as of those of all its core's changes that are left.
abbrev pub NamingsAreLeft : Type 0
NamingsAreLeft =
    (changes : List Change) (entries : ℕ) (part : CoreLog) (node : ℕ) → AscendByDirectory part.logs → IsLeftOf changes entries part
    → namings_kept part node ≡ namings_of (filter (is_left part) changes) node

-- More of the kept changes name a node than those of some directories exactly where one of another directory does.
abbrev pub OutsideNamingsTell : Type 0
OutsideNamingsTell =
    (part : CoreLog) (directories : List ℕ) (node : ℕ) → AscendByDirectory part.logs → IsStrictlyIncreasing directories
    → (namings_within part directories node < namings_kept part node) ↔ IsNamedOutside part directories node
