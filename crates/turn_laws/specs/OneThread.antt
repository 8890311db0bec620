-- What is known of turns while a run goes on, where one thread makes whole fsyncs.
use Rattle.std.specs.Prelude.{◌≡◌, ◌↔◌, ℕ, ◌≤◌, Bool, true, false, is_some, List, [], ◌∷◌, ◌++◌, length, Option, Some, None}
use Rattle.std.specs.FinMap.{get, empty}
use Rattle.sfs_base.specs.declared.numbers.NodeId.{NodeId}
use Rattle.tree_laws.specs.declared.call.Call.TheVariants as call
use Rattle.tree_laws.specs.declared.history.Entry.{Entry}
use Rattle.tree_laws.specs.declared.turns.Turn.{Turn}
use Rattle.tree_laws.specs.declared.turns.TurnAct.{TurnAct}
use Rattle.tree_laws.specs.History.{tree_after, IsLegal}
use Rattle.tree_laws.specs.Laws.{IsSoundTree}
use Rattle.tree_laws.specs.Tree.{TreeState, is_alive}
use Rattle.cut_laws.specs.Closure.{every_entry, Flush, Closure}
use Rattle.cut_laws.specs.Cut.{Cut}
use Rattle.cut_laws.specs.Machine.{MachineState}
use Rattle.cut_laws.specs.Rules.{IsOneOf}
use Rattle.turn_laws.specs.Need.{ImageState, Amount, Made, IsMadeBy, need_of}
use Rattle.turn_laws.specs.Books.{Books, books_of, free_in, least_open, FitsFree, Leaves, AreTurns}
use Rattle.turn_laws.specs.Recorded.{IsOfFsync, EachEnds}

-- What there is between two fsyncs: the cut, the nodes with an inode, the numbers of the commits so far, and what the image tells.
pub record Resting : Type 0 where
  pub cut : Cut
  pub inodes : ℕ → Bool
  pub used : List ℕ
  pub image : ImageState

-- the machine then, after some history: nothing is in flight, and no commit has failed
abbrev pub machine_at : TreeState → List Entry → Resting → MachineState
machine_at first history rest = record {
  first = first;
  history = history;
  cut = rest.cut;
  inodes = rest.inodes;
  flights = [];
  used = rest.used;
  failed = None;
  crashed = false;
}

-- the books then: nothing is reserved, and no fsync waits
abbrev pub books_at : TreeState → List Entry → Resting → Books
books_at first history rest = record {
  machine = machine_at first history rest;
  image = rest.image;
  grants = [];
  waiting = [];
  failed = None;
}

-- what there is before the first fsync
abbrev pub resting_first : TreeState → ImageState → Resting
resting_first first image = record { cut = empty; inodes = λ node. is_some (get first.nodes node); used = []; image = image }

-- The turns so far, of which none has failed. Whatever legal history goes on from the one so far, they are turns over it. Each is of an
-- fsync so far, and each fsync of a live node so far ends by its last turn.
pub record TurnsStand (first : TreeState) (history : List Entry) (image : ImageState) (before : ℕ) (turns : List Turn) (rest : Resting) : Type 0 where
  pub sound : IsSoundTree first
  pub legal : IsLegal first history
  pub turns_are : (more : List Entry) (most : ℕ) → IsLegal first (history ++ more)
      → AreTurns before most (books_of first (history ++ more) image) turns (books_at first (history ++ more) rest)
  pub each : (turn : Turn) → IsOneOf turns turn → IsOfFsync first history turn
  pub ends : EachEnds first history turns None

-- books with another history
abbrev pub over : List Entry → Books → Books
over history books = record books { machine = record books.machine { history = history } }

-- The turns so far, of which one has failed with this count of faults. No fsync waits.
pub record TurnsFailed (first : TreeState) (history : List Entry) (image : ImageState) (before faults : ℕ) (turns : List Turn) : Type 0 where
  pub legal : IsLegal first history
  pub books : Books
  pub failed : books.failed ≡ Some faults
  pub settled : books.waiting ≡ []
  pub turns_are : (more : List Entry) (most : ℕ) → IsLegal first (history ++ more) → faults ≤ most
      → AreTurns before most (books_of first (history ++ more) image) turns (over (history ++ more) books)
  pub each : (turn : Turn) → IsOneOf turns turn → IsOfFsync first history turn
  pub ends : EachEnds first history turns (Some faults)

-- An entry comes next in a history: it has the next stamp, and the history stays legal.
pub record ComesNext (first : TreeState) (history : List Entry) (entry : Entry) : Type 0 where
  pub stamped : entry.stamp.0 ≡ length history
  pub legal : IsLegal first (history ++ entry ∷ [])

-- It is an fsync of a live node.
pub record IsNextFsync (first : TreeState) (history : List Entry) (entry : Entry) (node : NodeId) : Type 0 where
  pub next : ComesNext first history entry
  pub asked : entry.call ≡ call.Fsync node
  pub alive : is_alive (tree_after first history) node.0 ≡ true

-- the flush of an entry, an fsync of a node
abbrev pub fsync_of : Entry → NodeId → Flush
fsync_of entry node = record { node = node.0; stamp = entry.stamp.0 }

-- a turn of an entry, an fsync of a node
abbrev pub turn_of : Entry → NodeId → ℕ → ℕ → ℕ → TurnAct → Turn
turn_of entry node commit now faults act = record {
  core = entry.core;
  node = node;
  stamp = entry.stamp;
  commit = commit;
  now = now;
  faults = faults;
  act = act;
}

-- A commit may begin next: its number is new, and this is what it makes, with these members.
pub record MayBegin (first : TreeState) (history : List Entry) (rest : Resting) (flush : Flush) (commit : ℕ) (made : Made) (members : ℕ → Bool) : Type 0 where
  pub number : IsOneOf rest.used commit → ⊥
  pub is_made : IsMadeBy (machine_at first history rest) flush made
  pub members_are : (node : ℕ) → (members node ≡ true) ↔ Closure first history every_entry rest.cut rest.inodes flush node

-- what a commit needs that makes this
abbrev pub need_at : TreeState → List Entry → Resting → Made → Amount
need_at first history rest made = need_of (machine_at first history rest) rest.image made

-- the inodes that are then reserved for it
abbrev pub granted_at : TreeState → List Entry → Resting → Made → List ℕ
granted_at first history rest made = least_open (books_at first history rest) (need_at first history rest made).inodes

-- what there is after a commit with this number that makes this and leaves this image
abbrev pub resting_after : Resting → ℕ → Made → ImageState → Resting
resting_after rest commit made image = record { cut = made.raised; inodes = made.after; used = rest.used ++ commit ∷ []; image = image }
