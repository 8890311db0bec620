-- What the disk box keeps of commits: their numbers rise as they reserve, and one reserves only where the nodes that it holds are held by no open
-- commit, and where it knew the last number that wrote each.
use Rattle.std.specs.Prelude.{◌≡◌, ◌≢◌, ℕ, ◌<◌, ◌≤◌, true, false, List, [], ◌∷◌, ◌++◌}
use Rattle.cut_laws.specs.Rules.{IsOneOf}
use Rattle.beside_laws.specs.Commits.{CoreCommit, Share}
use Rattle.beside_laws.specs.Progress.{IsLastOf, IsLater}

-- What the box's record comes to: the commits that are done, those that are open, and the last number that was given.
pub record BoxState : Type 0 where
  pub done : List CoreCommit
  pub opens : List CoreCommit
  pub number : ℕ

-- before any commit
abbrev pub NO_COMMIT : BoxState
NO_COMMIT = record { done = []; opens = []; number = 0 }

-- What a commit knew of a node that it holds: none that is done holds it, and this is 0; or it is the number of the last one that does.
pub data KnewLast (done : List CoreCommit) (node last : ℕ) : Type 0 where
  nobody : ((other : CoreCommit) → IsOneOf done other → other.holds node ≡ false) → last ≡ 0 → KnewLast done node last
  somebody : (commit : CoreCommit) → IsLastOf done node commit → last ≡ commit.number → KnewLast done node last

-- A commit is not moved as it reserves: no open commit shares a node with it, and it knew the last number of each node that it holds.
pub record IsUnmoved (box : BoxState) (commit : CoreCommit) : Type 0 where
  pub none_open : (other : CoreCommit) → IsOneOf box.opens other → Share commit other → ⊥
  pub knew : (node : ℕ) → commit.holds node ≡ true → KnewLast box.done node (commit.last node)

-- the box once a commit has reserved
abbrev pub with_open : BoxState → CoreCommit → BoxState
with_open box commit = record { done = box.done; opens = box.opens ++ commit ∷ []; number = commit.number }

-- The record goes on from a state of the box: a commit reserves under a greater number, and is not moved; an open one ends; or it gives back.
pub data BoxGoesOn (from : BoxState) : BoxState → Type 0 where
  here : BoxGoesOn from from
  reserves : (box : BoxState) (commit : CoreCommit) → BoxGoesOn from box → box.number < commit.number → IsUnmoved box commit
      → BoxGoesOn from (with_open box commit)
  ends : (done before behind : List CoreCommit) (number : ℕ) (commit : CoreCommit)
      → BoxGoesOn from (record { done = done; opens = before ++ commit ∷ behind; number = number })
      → BoxGoesOn from (record { done = done ++ commit ∷ []; opens = before ++ behind; number = number })
  gives_back : (done before behind : List CoreCommit) (number : ℕ) (commit : CoreCommit)
      → BoxGoesOn from (record { done = done; opens = before ++ commit ∷ behind; number = number })
      → BoxGoesOn from (record { done = done; opens = before ++ behind; number = number })

-- What the box says of a commit as it reserves: it is later than those that are done, apart from those that are open, and of another number; it
-- knew of each that is done and holds a node of it; and of all that will ever be done each that holds a node of it and has no greater number
-- than it knew is done already.
pub record BoxGives (box : BoxState) (all : List CoreCommit) (commit : CoreCommit) : Type 0 where
  pub later : IsLater box.done commit
  pub apart : (other : CoreCommit) → IsOneOf box.opens other → Share commit other → ⊥
  pub other_open : (other : CoreCommit) → IsOneOf box.opens other → other.number ≢ commit.number
  pub known : (other : CoreCommit) (node : ℕ) → IsOneOf box.done other → commit.holds node ≡ true → other.holds node ≡ true
      → other.number ≤ commit.last node
  pub behind : (other : CoreCommit) (node : ℕ) → IsOneOf all other → commit.holds node ≡ true → other.holds node ≡ true
      → other.number ≤ commit.last node → IsOneOf box.done other
