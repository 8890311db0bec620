-- The laws of commits beside commits, each of which a function of the module laws proves.
use Rattle.std.specs.Prelude.{◌≡◌, ◌≢◌, ℕ, ◌<◌, Bool, List, [], ◌∷◌, ◌++◌, map}
use Rattle.tree_laws.specs.declared.history.Entry.{Entry}
use Rattle.tree_laws.specs.Tree.{TreeState}
use Rattle.tree_laws.specs.History.{IsLegal}
use Rattle.tree_laws.specs.Laws.{IsSoundTree}
use Rattle.cut_laws.specs.Cut.{Cut, cut_of}
use Rattle.cut_laws.specs.Rules.{IsOneOf}
use Rattle.cut_laws.specs.Closure.{every_entry, IsRaised, AreInodesAfter, AreRaised}
use Rattle.look_laws.specs.Fit.{FindsRight}
use Rattle.look_laws.specs.Beside.{Knows}
use Rattle.beside_laws.specs.Box.{BoxState, NO_COMMIT, IsUnmoved, with_open, BoxGoesOn, BoxGives}
use Rattle.beside_laws.specs.Commits.{CoreCommit, commit_fsync, observed_by, IsByItsLook, Share}
use Rattle.beside_laws.specs.Progress.{Progress, Standing, KnownAtReserving, IsLater}

-- A commit knows enough of a run.
abbrev pub KnowsRun : Progress → CoreCommit → Type 0
KnowsRun run commit = Knows (observed_by run.first run.history commit) run.cut run.inodes

-- A commit that reserves so knows enough, whatever became durable before it.
abbrev pub RuledKnow : Type 0
RuledKnow = (run : Progress) (commit : CoreCommit) → Standing run → KnownAtReserving run commit → KnowsRun run commit

-- What a commit found is so at each cut that its fsync raises.
abbrev pub FindsItsOwn : Progress → CoreCommit → Type 0
FindsItsOwn run commit = (raised : Cut) → IsRaised run.first run.history every_entry run.cut run.inodes (commit_fsync commit) raised
    → FindsRight run.first run.history every_entry raised commit.look commit.makes.found

-- A commit is ready to become durable: it is made by its look, knows enough, found what is so, and is later than those that are done.
pub record IsReadyToEnd (run : Progress) (commit : CoreCommit) : Type 0 where
  pub made : IsByItsLook commit
  pub knows : KnowsRun run commit
  pub finds : FindsItsOwn run commit
  pub later : IsLater run.done commit

-- the run once a commit more is done, with this cut and these inodes
abbrev pub with_done : Progress → CoreCommit → Cut → (ℕ → Bool) → Progress
with_done run commit raised after =
    record { first = run.first; history = run.history; done = run.done ++ commit ∷ []; cut = raised; inodes = after }

-- The fsync of a commit raises this cut and leaves these nodes with an inode.
pub record RaisesTo (run : Progress) (commit : CoreCommit) (raised : Cut) (after : ℕ → Bool) : Type 0 where
  pub raises : IsRaised run.first run.history every_entry run.cut run.inodes (commit_fsync commit) raised
  pub inodes_after : AreInodesAfter run.first run.history every_entry run.cut run.inodes (commit_fsync commit) raised after

-- A commit is done: all stands with it, and each that knew enough and shares no node with it knows enough as before.
pub record IsDoneWith (run : Progress) (commit : CoreCommit) (raised : Cut) (after : ℕ → Bool) : Type 0 where
  pub stands : Standing (with_done run commit raised after)
  pub others : (other : CoreCommit) → IsByItsLook other → (Share commit other → ⊥) → KnowsRun run other
      → KnowsRun (with_done run commit raised after) other

-- A commit becomes durable: its fsync raises a cut, and whichever cut and inodes it leaves, it is done with them.
pub record BecomesDurable (run : Progress) (commit : CoreCommit) : Type 0 where
  pub raised : Cut
  pub after : ℕ → Bool
  pub raises : RaisesTo run commit raised after
  pub done : (any : Cut) (behind : ℕ → Bool) → RaisesTo run commit any behind → IsDoneWith run commit any behind

-- So does each that is ready, in a legal history from a sound tree.
abbrev pub KnowingRaise : Type 0
KnowingRaise = (run : Progress) (commit : CoreCommit) → IsSoundTree run.first → IsLegal run.first run.history → Standing run → IsReadyToEnd run commit
    → BecomesDurable run commit

-- The box says so of each commit that reserves and is not moved, however its record goes on.
abbrev pub BoxesGive : Type 0
BoxesGive = (box after : BoxState) (commit : CoreCommit) → BoxGoesOn NO_COMMIT box → box.number < commit.number → IsUnmoved box commit
    → BoxGoesOn (with_open box commit) after → BoxGives box after.done commit

-- What a commit found is so wherever it knows enough.
abbrev pub FindsAlways : TreeState → List Entry → CoreCommit → Type 0
FindsAlways first history commit = (done : List CoreCommit) (cut : Cut) (inodes : ℕ → Bool)
    → Standing (record { first = first; history = history; done = done; cut = cut; inodes = inodes })
    → KnowsRun (record { first = first; history = history; done = done; cut = cut; inodes = inodes }) commit
    → FindsItsOwn (record { first = first; history = history; done = done; cut = cut; inodes = inodes }) commit

-- A commit found what is so at a cut that its fsync raises.
pub record HasFound (run : Progress) (commit : CoreCommit) : Type 0 where
  pub raised : Cut
  pub raises : IsRaised run.first run.history every_entry run.cut run.inodes (commit_fsync commit) raised
  pub finds : FindsRight run.first run.history every_entry raised commit.look commit.makes.found

-- What it found once is so wherever it knows enough.
abbrev pub FoundOnce : Type 0
FoundOnce = (run : Progress) (commit : CoreCommit) → IsSoundTree run.first → IsLegal run.first run.history → Standing run → KnowsRun run commit
    → HasFound run commit → FindsAlways run.first run.history commit

-- no two of a list have one number
abbrev pub HaveOtherNumbers : List CoreCommit → Type 0
HaveOtherNumbers [] = Unit {0}
HaveOtherNumbers (commit ∷ commits) = ((other : CoreCommit) → IsOneOf commits other → other.number ≢ commit.number) × HaveOtherNumbers commits

-- Some commits are ready beside one another: each is made by its look, knows enough, finds what is so wherever it does, and is later than those
-- that are done; none shares a node with another; and they have different numbers.
pub record AreReady (run : Progress) (kept : List CoreCommit) : Type 0 where
  pub made : (commit : CoreCommit) → IsOneOf kept commit → IsByItsLook commit
  pub knows : (commit : CoreCommit) → IsOneOf kept commit → KnowsRun run commit
  pub finds : (commit : CoreCommit) → IsOneOf kept commit → FindsAlways run.first run.history commit
  pub later : (commit : CoreCommit) → IsOneOf kept commit → IsLater run.done commit
  pub apart : (commit other : CoreCommit) → IsOneOf kept commit → IsOneOf kept other → commit.number ≢ other.number → Share commit other → ⊥
  pub once : HaveOtherNumbers kept

-- Commits raise the cut, one after another, and all stands with them done.
pub record RaiseAll (run : Progress) (kept : List CoreCommit) : Type 0 where
  pub cut : Cut
  pub inodes : ℕ → Bool
  pub raised : AreRaised run.first run.history every_entry run.cut run.inodes (map commit_fsync kept) cut inodes
  pub stands : Standing (record { first = run.first; history = run.history; done = run.done ++ kept; cut = cut; inodes = inodes })

-- So do those that are ready, in any order: what a crash keeps of the open ones.
abbrev pub ReadyRaise : Type 0
ReadyRaise = (run : Progress) (kept : List CoreCommit) → IsSoundTree run.first → IsLegal run.first run.history → Standing run → AreReady run kept
    → RaiseAll run kept

-- Two cuts, with the nodes that then have an inode, are the same, node by node.
pub record AreTheSame (cut other : Cut) (inodes other_inodes : ℕ → Bool) : Type 0 where
  pub stamps : (node : ℕ) → cut_of cut node ≡ cut_of other node
  pub same_inodes : (node : ℕ) → inodes node ≡ other_inodes node

-- So are those that one fsync raises and leaves.
abbrev pub FsyncsRaiseOneCut : Type 0
FsyncsRaiseOneCut = (run : Progress) (commit : CoreCommit) (raised other : Cut) (after other_after : ℕ → Bool) → RaisesTo run commit raised after
    → RaisesTo run commit other other_after → AreTheSame raised other after other_after
