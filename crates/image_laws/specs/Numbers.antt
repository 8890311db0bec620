-- The numbers that a commit gives: which nodes lose theirs, and which enter and get one of a grant.
use Rattle.std.specs.Prelude.{◌≡◌, ℕ, ◌<◌, ◌==◌, Bool, true, is_some, List, [], ◌∷◌, length, slice_index, Option, Some, None, if◌then◌else◌}
use Rattle.std.specs.List.{list_any}
use Rattle.sfs_image.specs.Seen.{SeenInodes}
use Rattle.image_laws.specs.Renamed.{Numbering, HasNumber}
use Rattle.image_laws.specs.Stands.{IsUnused}
use Rattle.image_laws.specs.Commit.{Commit, GivesNumbers}

-- the number that a grant has for an entering node: the first one gets the first number, the next one the next
abbrev pub grant_for : List ℕ → List ℕ → ℕ → Option ℕ
grant_for [] grant node = None
grant_for (enters ∷ entering) [] node = None
grant_for (enters ∷ entering) (i ∷ grant) node = if enters == node then Some i else grant_for entering grant node

-- the numbers after a commit: a node with a number keeps it, or loses it where it leaves; another gets what the grant has for it
abbrev pub numbers_after : Numbering → (ℕ → Bool) → List ℕ → List ℕ → Numbering
numbers_after before leaves entering grant node =
    if is_some (before node) then (if leaves node then None else before node) else grant_for entering grant node

-- A grant of inodes serves: it has as many as enter, each once, and each is free.
pub record InodeGrantServes (image : SeenInodes) (entering grant : List ℕ) : Type 0 where
  pub enough : length grant ≡ length entering
  pub once : (j k : ℕ) → j < length grant → k < length grant → slice_index grant j ≡ slice_index grant k → j ≡ k
  pub within : (k : ℕ) → k < length grant → slice_index grant k < image.count
  pub free : (k : ℕ) → k < length grant → IsUnused (image.seen (slice_index grant k))

-- What a serving grant gives: the numbers of a commit, and one for each node that enters.
pub record NumbersAreGiven (commit : Commit) (image : SeenInodes) (entering : List ℕ) : Type 0 where
  pub gives : GivesNumbers commit image
  pub each : (node : ℕ) → commit.before node ≡ None → list_any (λ enters. enters == node) entering ≡ true → HasNumber commit.after node
