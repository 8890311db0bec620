-- What the box keeps of nodes: the last commit of each, and the commits that have reserved.
use Rattle.std.specs.Prelude.{◌==◌, if◌then◌else◌, ◌∷◌, ℕ, Bool, true, false, not, List, [], filter, find, Option, Some, None, option_map, is_some}
use Rattle.space_map.specs.Space.{GrantedNumbers}
use Rattle.slot_laws.specs.declared.label.Seen.{Seen}

-- The last commit that concerned a node, and whether it has ended.
pub record LastCommit : Type 0 where
  pub number : ℕ
  pub ended : Bool

-- no commit has concerned the node yet
abbrev pub no_last : LastCommit
no_last = record { number = 0; ended = true }

-- the last commit of a node was seen so: it has this number, and has ended
abbrev pub last_ended : ℕ → LastCommit
last_ended number = record { number = number; ended = true }

-- no numbers of either kind
abbrev pub no_numbers : GrantedNumbers
no_numbers = record { inodes = []; blocks = [] }

-- A commit that has reserved: its number; its nodes, with the last commit of each as it was seen; what it was granted; and what it gives up, from
-- where it begins in a slot.
pub record ReservedCommit : Type 0 where
  pub number : ℕ
  pub seen : List Seen
  pub grant : GrantedNumbers
  pub gives_up : GrantedNumbers

-- the number of the last commit of a node, as it was seen, where it is a node of the commit
abbrev pub last_seen : List Seen → ℕ → Option ℕ
last_seen seen node = option_map (λ one. one.last) (find (λ one. one.node.0 == node) seen)

-- whether a commit concerns a node
abbrev pub concerns : ReservedCommit → ℕ → Bool
concerns commit node = is_some (last_seen commit.seen node)

-- whether a commit has a number, and one has another
abbrev pub is_numbered : ℕ → ReservedCommit → Bool
is_numbered number commit = commit.number == number

abbrev pub is_numbered_otherwise : ℕ → ReservedCommit → Bool
is_numbered_otherwise number commit = not (is_numbered number commit)

-- the commits with a number, and those with another one
abbrev pub commits_numbered : ℕ → List ReservedCommit → List ReservedCommit
commits_numbered number commits = filter (is_numbered number) commits

abbrev pub commits_but : ℕ → List ReservedCommit → List ReservedCommit
commits_but number commits = filter (is_numbered_otherwise number) commits

-- the last commits once one has reserved: it is that of each node that it concerns, and has not ended
abbrev pub reserved_lasts : ℕ → List Seen → (ℕ → LastCommit) → ℕ → LastCommit
reserved_lasts number seen lasts node = if is_some (last_seen seen node) then record { number = number; ended = false } else lasts node

-- once it has ended
abbrev pub ended_lasts : ℕ → (ℕ → LastCommit) → ℕ → LastCommit
ended_lasts number lasts node = if (lasts node).number == number then last_ended number else lasts node

-- once it has given back: each of its nodes has the last commit that was seen
abbrev pub returned_last : Option ℕ → LastCommit → LastCommit
returned_last None last = last
returned_last (Some number) last = last_ended number

abbrev pub returned_lasts : List ReservedCommit → (ℕ → LastCommit) → ℕ → LastCommit
returned_lasts [] lasts = lasts
returned_lasts (commit ∷ commits) lasts = returned_lasts commits (λ node. returned_last (last_seen commit.seen node) (lasts node))

-- a commit that gives up these, where it has a number
abbrev pub giving_up : ℕ → GrantedNumbers → ReservedCommit → ReservedCommit
giving_up number numbers commit = if is_numbered number commit then record commit { gives_up = numbers } else commit
