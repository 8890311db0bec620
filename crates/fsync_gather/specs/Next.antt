-- The next directory of which one of some cores' logs keeps changes.
use Rattle.std.specs.Prelude.{◌≡◌, ℕ, ◌<◌, true, nat_lt, List, [], length, Option, Some, None, if◌then◌else◌}
use Rattle.sfs_base.specs.declared.numbers.NodeId.{NodeId}
use Rattle.cut_laws.specs.Rules.{IsOneOf}
use Rattle.mem_cells.specs.Part.{CoreLog, changes_kept, is_after}

-- None of some logs keeps a change of a directory.
abbrev pub KeepNone : List CoreLog → ℕ → Type 0
KeepNone parts directory = (log : CoreLog) → IsOneOf parts log → changes_kept log directory ≡ []

-- A directory is the least after another one of which one of some logs keeps a change.
pub record IsLeastOfAll (parts : List CoreLog) (after : Option NodeId) (next : ℕ) : Type 0 where
  pub comes_after : is_after after next ≡ true
  pub keeper : CoreLog
  pub is_part : IsOneOf parts keeper
  pub keeps : 0 < length (changes_kept keeper next)
  pub is_least : (directory : ℕ) → is_after after directory ≡ true → directory < next → KeepNone parts directory

-- The next directory after another one of which one of some logs keeps a change; none where they keep none of any after it.
abbrev pub IsNextOfAll : List CoreLog → Option NodeId → Option NodeId → Type 0
IsNextOfAll parts after None = (directory : ℕ) → is_after after directory ≡ true → KeepNone parts directory
IsNextOfAll parts after (Some next) = IsLeastOfAll parts after next.0

-- the lesser of two nodes, of which one may be missing
abbrev pub lesser_of : Option NodeId → Option NodeId → Option NodeId
lesser_of None other = other
lesser_of (Some one) None = Some one
lesser_of (Some one) (Some other) = if nat_lt other.0 one.0 then Some other else Some one
