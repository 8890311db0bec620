-- Runs of the machine, and what its commits have to do with one another.
use Rattle.std.specs.Prelude.{◌≡◌, ◌≢◌, ◌↔◌, ℕ, suc, ◌<◌, ◌≤◌, ◌==◌, Bool, true, false, List, [], ◌∷◌, length, take, filter_map, slice_get, Option, Some, None, if◌then◌else◌}
use Rattle.std.specs.FinMap.{get}
use Rattle.tree_laws.specs.declared.history.Entry.{Entry}
use Rattle.tree_laws.specs.Tree.{TreeState, is_alive}
use Rattle.tree_laws.specs.History.{tree_after}
use Rattle.cut_laws.specs.declared.event.Event.{Event}
use Rattle.cut_laws.specs.declared.event.Event.TheVariants as event
use Rattle.cut_laws.specs.Cut.{Cut, cut_of, counted_rows_at_cut}
use Rattle.cut_laws.specs.Rules.{IsOneOf}
use Rattle.cut_laws.specs.Closure.{Counts, every_entry, Flush, Closure, IsConcerned, IsRaised, IsReached, IsDead}
use Rattle.cut_laws.specs.Machine.{Flight, MachineState, start_of, is_flying, Accepts}

-- A run: a state before each event and one behind the last, the first that in which runs begin, and each takes its event.
pub record IsRun (first : TreeState) (events : List Event) (states : ℕ → MachineState) : Type 0 where
  pub begins : states 0 ≡ start_of first
  pub steps : (place : ℕ) (e : Event) → slice_get events place ≡ Some e → Accepts (states place) e (states (suc place))

-- the fsync of a commit
abbrev pub flush_by : Event → Option (ℕ × Flush)
flush_by (event.CutAt commit node stamp) = Some (commit, record { node = node.0; stamp = stamp.0 })
flush_by _ = None

-- A commit of a run: where it begins, and for which fsync.
pub record IsBegun (events : List Event) (place commit : ℕ) (flush : Flush) : Type 0 where
  pub event : Event
  pub stands : slice_get events place ≡ Some event
  pub begins : flush_by event ≡ Some (commit, flush)

-- The node of each commit is alive at its stamp.
abbrev pub AreAlive : TreeState → List Event → (ℕ → MachineState) → Type 0
AreAlive first events states =
    (place commit : ℕ) (flush : Flush) → IsBegun events place commit flush
    → is_alive (tree_after first (take flush.stamp (states place).history)) flush.node ≡ true

-- Flights with different numbers.
abbrev pub AreApart : List Flight → Type 0
AreApart [] = Unit {0}
AreApart (flight ∷ flights) = ((other : Flight) → IsOneOf flights other → other.commit ≢ flight.commit) × AreApart flights

-- A commit that is in flight at a later place than that at which it begins.
pub record Flies (events : List Event) (states : ℕ → MachineState) (place later commit : ℕ) (flush : Flush) : Type 0 where
  pub begun : IsBegun events place commit flush
  pub behind : place < later
  pub within : later ≤ length events
  pub flying : is_flying (states later) commit ≡ true

-- What an fsync goes by: the history, the entries of it that count, the cut, and which nodes have an inode.
pub record CommitView : Type 0 where
  pub history : List Entry
  pub counts : Counts
  pub cut : Cut
  pub inodes : ℕ → Bool

-- a history, the entries that count, a cut and the nodes with an inode as a view
abbrev pub view_by : List Entry → Counts → Cut → (ℕ → Bool) → CommitView
view_by history counts cut inodes = record { history = history; counts = counts; cut = cut; inodes = inodes }

-- what a state's fsyncs go by
abbrev pub view_of : MachineState → CommitView
view_of state = view_by state.history every_entry state.cut state.inodes

-- the nodes that an fsync concerns
abbrev pub Concerns : TreeState → Flush → CommitView → ℕ → Type 0
Concerns first flush view = IsConcerned first view.history view.counts view.cut view.inodes flush

-- the cut that an fsync leaves
abbrev pub Raises : TreeState → Flush → CommitView → Cut → Type 0
Raises first flush view = IsRaised first view.history view.counts view.cut view.inodes flush

-- a node gets an inode
abbrev pub Enters : TreeState → Flush → CommitView → Cut → ℕ → Type 0
Enters first flush view raised node = (view.inodes node ≡ false) × Concerns first flush view node × IsReached first view.history view.counts flush raised node

-- a node loses its inode
abbrev pub LosesInodeInView : TreeState → Flush → CommitView → Cut → ℕ → Type 0
LosesInodeInView first flush view raised node = (view.inodes node ≡ true) × Concerns first flush view node × IsDead first view.history view.counts raised node

-- An fsync makes the same commit by two views: it has the same members and concerns the same nodes; at the cuts that it leaves these
-- have the same stamps, the same rows name them, and the same of them get an inode and lose it.
pub record IsOneCommit (first : TreeState) (flush : Flush) (view other : CommitView) : Type 0 where
  pub members : (node : ℕ)
      → Closure first view.history view.counts view.cut view.inodes flush node ↔ Closure first other.history other.counts other.cut other.inodes flush node
  pub concerned : (node : ℕ) → Concerns first flush view node ↔ Concerns first flush other node
  pub stamps : (raised other_raised : Cut) → Raises first flush view raised → Raises first flush other other_raised → (node : ℕ)
      → Concerns first flush view node → cut_of raised node ≡ cut_of other_raised node
  pub rows : (raised other_raised : Cut) → Raises first flush view raised → Raises first flush other other_raised → (node directory : ℕ) (name : List ℕ)
      → Concerns first flush view node
      → (get (counted_rows_at_cut first view.history view.counts raised) (directory, name) ≡ Some node) ↔
      (get (counted_rows_at_cut first other.history other.counts other_raised) (directory, name) ≡ Some node)
  pub enters : (raised other_raised : Cut) → Raises first flush view raised → Raises first flush other other_raised → (node : ℕ)
      → Enters first flush view raised node ↔ Enters first flush other other_raised node
  pub leaves : (raised other_raised : Cut) → Raises first flush view raised → Raises first flush other other_raised → (node : ℕ)
      → LosesInodeInView first flush view raised node ↔ LosesInodeInView first flush other other_raised node

-- A commit comes before another: its fsync has raised the cut before the other begins.
pub record ComesBefore (events : List Event) (commit other : ℕ) : Type 0 where
  pub place : ℕ
  pub durable : slice_get events place ≡ Some (event.Durable commit)
  pub later : ℕ
  pub flush : Flush
  pub begun : IsBegun events later other flush
  pub before : place < later

-- Two commits of a run concern a node as they begin.
pub record ShareANode (first : TreeState) (events : List Event) (states : ℕ → MachineState) (commit other : ℕ) : Type 0 where
  pub node : ℕ
  pub place : ℕ
  pub flush : Flush
  pub begun : IsBegun events place commit flush
  pub concerned : Concerns first flush (view_of (states place)) node
  pub other_place : ℕ
  pub other_flush : Flush
  pub other_begun : IsBegun events other_place other other_flush
  pub other_concerned : Concerns first other_flush (view_of (states other_place)) node

-- Commits to which a commit is tied: each that comes before it and shares a node with it is one of them, and for each of them each
-- that comes before that one and shares a node with it.
pub record AreTied (first : TreeState) (events : List Event) (states : ℕ → MachineState) (commit : ℕ) (tied : ℕ → Bool) : Type 0 where
  pub own : (other : ℕ) → ComesBefore events other commit → ShareANode first events states other commit → tied other ≡ true
  pub theirs : (other earlier : ℕ) → tied other ≡ true → ComesBefore events earlier other → ShareANode first events states earlier other → tied earlier ≡ true

-- the fsync of an event that begins this commit, or else another
abbrev pub flush_or : Option (ℕ × Flush) → ℕ → Option Flush → Option Flush
flush_or None commit later = later
flush_or (Some begun) commit later = if begun.0 == commit then Some begun.1 else later

-- the fsync of a commit by its number
abbrev pub flush_of : List Event → ℕ → Option Flush
flush_of [] commit = None
flush_of (e ∷ events) commit = flush_or (flush_by e) commit (flush_of events commit)

-- the fsync that becomes durable by an event, where the commit is one of some
abbrev pub durable_by : List Event → (ℕ → Bool) → Event → Option Flush
durable_by events chosen (event.Durable commit) = if chosen commit then flush_of events commit else None
durable_by events chosen _ = None

-- the fsyncs of some commits, in the order in which they became durable
abbrev pub durable_of : List Event → (ℕ → Bool) → List Flush
durable_of events chosen = filter_map (durable_by events chosen) events

-- The entries that count have all below the stamp of a commit, and below those of the commits to which it is tied and that come
-- before it.
pub record CountEnough (events : List Event) (commit : ℕ) (flush : Flush) (tied : ℕ → Bool) (counts : Counts) : Type 0 where
  pub own : (stamp : ℕ) → stamp < flush.stamp → counts stamp ≡ true
  pub theirs : (other : ℕ) (fsync : Flush) (stamp : ℕ) → tied other ≡ true → ComesBefore events other commit → flush_of events other ≡ Some fsync
      → stamp < fsync.stamp → counts stamp ≡ true
