-- The laws of cuts, each of which a function of the module laws proves.
use Rattle.std.specs.Prelude.{◌≡◌, ◌≢◌, ◌↔◌, ℕ, ◌≤◌, Bool, true, List, length, take, map, IsSome}
use Rattle.tree_laws.specs.declared.history.Entry.{Entry}
use Rattle.std.specs.FinMap.{get}
use Rattle.tree_laws.specs.Tree.{TreeState, names_of, bytes_of, kind_of}
use Rattle.tree_laws.specs.Sound.{IsSound}
use Rattle.tree_laws.specs.History.{tree_after, IsLegal}
use Rattle.tree_laws.specs.Changes.{rows_at, bytes_at}
use Rattle.tree_laws.specs.Laws.{IsSoundTree}
use Rattle.cut_laws.specs.Cut.{Cut, cut_of, rows_at_cut, tree_at_cut}
use Rattle.cut_laws.specs.Rules.{IsClosed, IsOneOf}
use Rattle.cut_laws.specs.Covers.{ArePlaced, IsCovered, CoversMore, IsAcknowledged, Covers}
use Rattle.cut_laws.specs.declared.event.Event.{Event}
use Rattle.cut_laws.specs.Closure.{Counts, every_entry, Flush, HasNode, IsNamedIn, IsRaised, AreInodesAfter, KeepsCut, AreRaised, AreFlushed}
use Rattle.cut_laws.specs.Machine.{Flight, MachineState}
use Rattle.cut_laws.specs.Runs.{IsRun, IsBegun, AreAlive, AreApart, Flies, view_of, IsOneCommit, AreTied, CountEnough, durable_of, view_by}

-- In the tree at a cut a directory has its rows at its own stamp.
abbrev pub DirectoriesAreCut : Type 0
DirectoriesAreCut = (first : TreeState) (history : List Entry) (cut : Cut) (directory : ℕ)
    → names_of directory (tree_at_cut first history cut).rows ≡ rows_at first history directory (cut_of cut directory)

-- A closed cut of a legal history from a sound tree gives a sound tree.
abbrev pub ClosedCutsAreSound : Type 0
ClosedCutsAreSound = (first : TreeState) (history : List Entry) (cut : Cut) → IsSoundTree first → IsLegal first history → IsClosed first history cut
    → IsSound (tree_at_cut first history cut)

-- In the tree at a cut each node has its bytes at its own stamp.
abbrev pub FilesAreCut : Type 0
FilesAreCut = (first : TreeState) (history : List Entry) (cut : Cut) (node : ℕ) → IsSome (get (tree_after first history).nodes node)
    → bytes_of (tree_at_cut first history cut) node ≡ bytes_at first history node (cut_of cut node)

-- A tree has the nodes of another one with their kinds, and counts new nodes as that one does.
pub record HasKindsOf (tree other : TreeState) : Type 0 where
  pub nodes : (node : ℕ) → IsSome (get tree.nodes node) ↔ IsSome (get other.nodes node)
  pub kinds : (node : ℕ) → kind_of tree node ≡ kind_of other node
  pub first : tree.first ≡ other.first
  pub share : tree.share ≡ other.share
  pub made : tree.made ≡ other.made

-- So has the tree at a cut of the tree after the history.
abbrev pub CutsKeepKinds : Type 0
CutsKeepKinds = (first : TreeState) (history : List Entry) (cut : Cut) → HasKindsOf (tree_at_cut first history cut) (tree_after first history)

-- An fsync keeps the cut closed, and each directory with an inode has its making below its birth place's cut.
abbrev pub FsyncsKeep : Type 0
FsyncsKeep = (first : TreeState) (history : List Entry) (cut raised : Cut) (inodes after : ℕ → Bool) (flush : Flush) → IsSoundTree first → IsLegal first history
    → KeepsCut first history cut inodes → IsRaised first history every_entry cut inodes flush raised
    → AreInodesAfter first history every_entry cut inodes flush raised after → KeepsCut first history raised after

-- The cut is closed, each directory with an inode has its making below its birth place's cut, the tree at the cut is sound, what
-- a row at the cut names has an inode, and what has an inode is a node of the tree after the history.
pub record KeepsAll (first : TreeState) (history : List Entry) (cut : Cut) (inodes : ℕ → Bool) : Type 0 where
  pub kept : KeepsCut first history cut inodes
  pub sound : IsSound (tree_at_cut first history cut)
  pub named : (node : ℕ) → IsNamedIn (rows_at_cut first history cut) node → inodes node ≡ true
  pub nodes : (node : ℕ) → inodes node ≡ true → IsSome (get (tree_after first history).nodes node)

-- So it is after any list of fsyncs.
abbrev pub ListsKeep : Type 0
ListsKeep = (first : TreeState) (history : List Entry) (flushes : List Flush) (cut : Cut) (inodes : ℕ → Bool) → IsSoundTree first → IsLegal first history
    → AreFlushed first history every_entry flushes cut inodes → KeepsAll first history cut inodes

-- An fsync of a node that is there covers itself and leaves covered what was, where each node with an inode is placed; and each is again.
abbrev pub FsyncsCover : Type 0
FsyncsCover = (first : TreeState) (history : List Entry) (cut raised : Cut) (inodes after : ℕ → Bool) (flush : Flush) → IsSoundTree first
    → IsLegal first history
    → ArePlaced first history cut inodes → HasNode first history flush → IsRaised first history every_entry cut inodes flush raised
    → AreInodesAfter first history every_entry cut inodes flush raised after → CoversMore first history cut raised after flush

-- After a list of fsyncs of nodes that are there, each of them is covered.
abbrev pub ListsCover : Type 0
ListsCover = (first : TreeState) (history : List Entry) (flushes : List Flush) (cut : Cut) (inodes : ℕ → Bool) → IsSoundTree first → IsLegal first history
    → AreFlushed first history every_entry flushes cut inodes
    → ((flush : Flush) → IsOneOf flushes flush → HasNode first history flush) → (flush : Flush) → IsOneOf flushes flush → IsCovered first history cut flush

-- Where a list of fsyncs of nodes that are there has each one that was acknowledged by a moment, the cut covers the history at it.
abbrev pub HistoriesAreCovered : Type 0
HistoriesAreCovered = (first : TreeState) (history : List Entry) (flushes : List Flush) (cut : Cut) (inodes : ℕ → Bool) (moment : ℕ) → IsSoundTree first
    → IsLegal first history → AreFlushed first history every_entry flushes cut inodes
    → ((flush : Flush) → IsOneOf flushes flush → HasNode first history flush)
    → ((flush : Flush) (ack : ℕ) → IsAcknowledged history flush ack → ack ≤ moment → IsOneOf flushes flush)
    → Covers first history cut moment

-- What lists of fsyncs keep is kept in each state of a run, and when any fsyncs have raised its cut, as those of any flights.
abbrev pub RunsKeep : Type 0
RunsKeep = (first : TreeState) (events : List Event) (states : ℕ → MachineState) (place : ℕ) (flushes : List Flush) (cut : Cut) (inodes : ℕ → Bool)
    → IsSoundTree first → IsRun first events states → place ≤ length events
    → AreRaised first (states place).history every_entry (states place).cut (states place).inodes flushes cut inodes
    → KeepsAll first (states place).history cut inodes

-- Whichever of the other flights have raised the cut, in whatever order, a flight makes the commit that it would have made as it began.
abbrev pub FlightsStay : Type 0
FlightsStay =
    (first : TreeState) (events : List Event) (states : ℕ → MachineState) (place later commit : ℕ) (flush : Flush) (others : List Flight) (cut : Cut)
    (inodes : ℕ → Bool)
    → IsSoundTree first → IsRun first events states → AreAlive first events states
    → Flies events states place later commit flush
    → AreApart others
    → ((other : Flight) → IsOneOf others other → IsOneOf (states later).flights other × (other.commit ≢ commit))
    → AreRaised first (states later).history every_entry (states later).cut (states later).inodes (map (λ (other : Flight). other.flush) others) cut inodes
    → IsOneCommit first flush (view_of (states place)) (view_by ((states later).history) every_entry cut inodes)

-- A commit is the one that it would have been, had only those commits come before it to which it is tied, and counted only some of
-- the whole history's entries.
abbrev pub CommitsAreTied : Type 0
CommitsAreTied =
    (first : TreeState) (events : List Event) (states : ℕ → MachineState) (place commit : ℕ) (flush : Flush) (tied : ℕ → Bool) (counts : Counts) (cut : Cut)
    (inodes : ℕ → Bool)
    → IsSoundTree first → IsRun first events states → AreAlive first events states
    → IsBegun events place commit flush
    → AreTied first events states commit tied
    → CountEnough events commit flush tied counts
    → AreFlushed first (states (length events)).history counts (durable_of (take place events) tied) cut inodes
    → IsOneCommit first flush (view_of (states place)) (view_by ((states (length events)).history) counts cut inodes)
