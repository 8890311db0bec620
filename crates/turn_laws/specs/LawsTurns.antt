-- The laws of turns, whichever cores they are of, each of which a function of the module laws proves.
use Rattle.std.specs.Prelude.{◌≡◌, ◌⊎◌, ◌↔◌, ℕ, ◌+◌, ◌<◌, ◌≤◌, true, List, [], ◌∷◌, ◌++◌, length, map, filter_map, Option, Some, None}
use Rattle.sfs_base.specs.Listed.{is_listed}
use Rattle.sfs_base.specs.declared.numbers.NodeId.{NodeId}
use Rattle.sfs_base.specs.declared.numbers.SpaceKind.{SpaceKind}
use Rattle.tree_laws.specs.declared.history.Entry.{Entry}
use Rattle.tree_laws.specs.declared.reply.Reply.TheVariants as reply
use Rattle.tree_laws.specs.declared.turns.Turn.{Turn}
use Rattle.tree_laws.specs.declared.turns.TurnAct.{TurnAct}
use Rattle.tree_laws.specs.declared.turns.TurnAct.TheVariants as act
use Rattle.tree_laws.specs.History.{IsLegal}
use Rattle.tree_laws.specs.Tree.{TreeState}
use Rattle.cut_laws.specs.declared.event.Event.{Event}
use Rattle.cut_laws.specs.declared.event.Event.TheVariants as event
use Rattle.cut_laws.specs.Closure.{every_entry, Flush, AreFlushed}
use Rattle.cut_laws.specs.Machine.{MachineState}
use Rattle.cut_laws.specs.Rules.{IsOneOf}
use Rattle.cut_laws.specs.Runs.{IsRun}
use Rattle.turn_laws.specs.Need.{ImageState, Amount, IsNeed}
use Rattle.turn_laws.specs.Books.{Grant, Books, is_open_in, books_of, flush_at, free_in, IsShortOf, IsTurn, AreTurns}
use Rattle.sfs_base.specs.Ends.{HasRisen}
use Rattle.turn_laws.specs.Recorded.{IsLiveFsync, last_turn, IsRecorded}

-- the fsync of a turn that makes a commit durable
abbrev pub durable_by_act : TurnAct → Flush → Option Flush
durable_by_act act.Durable flush = Some flush
durable_by_act _ flush = None

abbrev pub durable_flush : Turn → Option Flush
durable_flush turn = durable_by_act turn.act (flush_at turn)

-- The machine has the cut and the nodes with an inode that the fsyncs have raised whose commits became durable, in their order.
abbrev pub TurnsAreFlushed : Type 0
TurnsAreFlushed = (first : TreeState) (history : List Entry) (image : ImageState) (before most : ℕ) (turns : List Turn) (books : Books)
    → AreTurns before most (books_of first history image) turns books
    → AreFlushed first history every_entry (filter_map durable_flush turns) books.machine.cut books.machine.inodes

-- the event of a turn, where it is one
abbrev pub event_by : TurnAct → Turn → Option Event
event_by act.CutAt turn = Some (event.CutAt turn.commit turn.node turn.stamp)
event_by act.Opened turn = Some (event.Opened turn.commit)
event_by act.Durable turn = Some (event.Durable turn.commit)
event_by act.Fail turn = Some (event.Fail turn.commit)
event_by _ turn = None

abbrev pub event_of_turn : Turn → Option Event
event_of_turn turn = event_by turn.act turn

-- the events of a mount: its calls in their order, and then those of its turns
abbrev pub events_of : List Entry → List Turn → List Event
events_of history turns = map event.Call history ++ filter_map event_of_turn turns

-- The machine accepts events, and they end in this state.
pub record IsRunTo (first : TreeState) (events : List Event) (last : MachineState) : Type 0 where
  pub states : ℕ → MachineState
  pub run : IsRun first events states
  pub last_is : states (length events) ≡ last

-- The machine of calls and commits accepts the calls of a legal history and the events of the turns.
abbrev pub TurnsAreARun : Type 0
TurnsAreARun = (first : TreeState) (history : List Entry) (image : ImageState) (before most : ℕ) (turns : List Turn) (books : Books) → IsLegal first history
    → AreTurns before most (books_of first history image) turns books
    → IsRunTo first (events_of history turns) books.machine

-- The last turn of an entry did this.
pub record LastDid (turns : List Turn) (entry : Entry) (done : TurnAct) : Type 0 where
  pub turn : Turn
  pub last : last_turn entry.stamp.0 turns ≡ Some turn
  pub did : turn.act ≡ done

-- Some turn failed with this count of faults, which has risen above that before, to at most another.
pub record WasFailure (before most : ℕ) (turns : List Turn) (faults : ℕ) : Type 0 where
  pub turn : Turn
  pub among : IsOneOf turns turn
  pub did : turn.act ≡ act.Fail
  pub faults_is : turn.faults ≡ faults
  pub risen : HasRisen before faults
  pub within : faults ≤ most

-- At its turn an fsync needed more than was free.
pub record WasShort (first : TreeState) (history : List Entry) (image : ImageState) (before most : ℕ) (turns : List Turn) (flush : Flush) (kind : SpaceKind)
    (asked have : ℕ) : Type 0 where
  pub earlier : List Turn
  pub turn : Turn
  pub later : List Turn
  pub whole : turns ≡ earlier ++ turn ∷ later
  pub books : Books
  pub kept : AreTurns before most (books_of first history image) earlier books
  pub need : Amount
  pub needs : IsNeed books.machine books.image flush need
  pub short : IsShortOf need (free_in books) kind asked have

-- The reply of an fsync has its cause: what its last turn did.
pub record HasItsCause (first : TreeState) (history : List Entry) (image : ImageState) (before most : ℕ) (turns : List Turn) (entry : Entry)
    (node : NodeId) : Type 0 where
  pub ok : (entry.reply ≡ reply.Ok) ↔ LastDid turns entry act.Durable
  pub ack : (own : LastDid turns entry act.Durable) → entry.ack ≡ Some own.turn.now
  pub disk_failed : (entry.reply ≡ reply.DiskFailed) ↔ LastDid turns entry act.Fail
  pub no_space : (kind : SpaceKind) (asked have : ℕ) → (entry.reply ≡ reply.NoSpace kind asked have) ↔ LastDid turns entry (act.Short kind asked have)
  pub was_short : (kind : SpaceKind) (asked have : ℕ) → entry.reply ≡ reply.NoSpace kind asked have
      → WasShort first history image before most turns (record { node = node.0; stamp = entry.stamp.0 }) kind asked have
  pub stopped : (faults : ℕ) → entry.reply ≡ reply.Stopped faults → LastDid turns entry act.Halted × WasFailure before most turns faults
  pub halted : LastDid turns entry act.Halted → (faults : ℕ) × (entry.reply ≡ reply.Stopped faults)

-- So it is of each fsync of a live node, where the turns are recorded.
abbrev pub RepliesHaveCauses : Type 0
RepliesHaveCauses =
    (first : TreeState) (history : List Entry) (image : ImageState) (entry_faults exit_faults : ℕ) (turns : List Turn) (entry : Entry) (node : NodeId)
    → IsLegal first history
    → (recorded : IsRecorded first history image entry_faults exit_faults turns) → IsLiveFsync first history entry node
    → HasItsCause first history image recorded.before exit_faults turns entry node

-- A turn halts or gives back.
abbrev pub HaltsOrGivesBack : TurnAct → Type 0
HaltsOrGivesBack done = (done ≡ act.Halted) ⊎ (done ≡ act.GivenBack)

-- What may come behind turns: where one of them failed, only a turn that halts or gives back; and one that halts only there.
pub record ComesBehind (before most : ℕ) (earlier : List Turn) (turn : Turn) : Type 0 where
  pub failed : (failure : Turn) → IsOneOf earlier failure → failure.act ≡ act.Fail → HaltsOrGivesBack turn.act
  pub halted : turn.act ≡ act.Halted → (faults : ℕ) × WasFailure before most earlier faults

abbrev pub FailuresStopCommits : Type 0
FailuresStopCommits =
    (first : TreeState) (history : List Entry) (image : ImageState) (before most : ℕ) (earlier : List Turn) (turn : Turn) (books later : Books)
    → AreTurns before most (books_of first history image) earlier books → IsTurn before most books turn later
    → ComesBehind before most earlier turn

-- What a turn reserves is no longer free.
pub record TakesFree (books : Books) (turn : Turn) (later : Books) : Type 0 where
  pub need : Amount
  pub needs : IsNeed books.machine books.image (flush_at turn) need
  pub inodes : (free_in later).inodes + need.inodes ≡ (free_in books).inodes
  pub blocks : (free_in later).blocks + need.blocks ≡ (free_in books).blocks

abbrev pub ReservedIsNotFree : Type 0
ReservedIsNotFree =
    (before most : ℕ) (books : Books) (turn : Turn) (later : Books) → IsTurn before most books turn later → turn.act ≡ act.Granted → TakesFree books turn later

-- An inode is one of the least that are free and not reserved: it is such a one, and all such ones below it are taken with it.
pub record IsLeastOpen (books : Books) (taken : List ℕ) (i : ℕ) : Type 0 where
  pub within : i < books.image.image.count
  pub opens : is_open_in books i ≡ true
  pub lower : (j : ℕ) → j < i → is_open_in books j ≡ true → is_listed taken j ≡ true

-- A turn that reserves has one grant more, whose inodes are such ones.
pub record TakesLeast (books later : Books) : Type 0 where
  pub grant : Grant
  pub grants : later.grants ≡ books.grants ++ grant ∷ []
  pub least : (i : ℕ) → is_listed grant.inodes i ≡ true → IsLeastOpen books grant.inodes i

abbrev pub LeastAreTaken : Type 0
LeastAreTaken =
    (before most : ℕ) (books : Books) (turn : Turn) (later : Books) → IsTurn before most books turn later → turn.act ≡ act.Granted → TakesLeast books later

-- Behind a turn that reserves stands one of the same fsync that begins its commit, halts, or gives back; and between them none of its core
-- is of another fsync.
pub record IsTakenUp (turns : List Turn) (turn : Turn) : Type 0 where
  pub earlier : List Turn
  pub between : List Turn
  pub next : Turn
  pub later : List Turn
  pub whole : turns ≡ (earlier ++ turn ∷ between) ++ next ∷ later
  pub only : (other : Turn) → IsOneOf between other → other.core.0 ≡ turn.core.0 → other.stamp.0 ≡ turn.stamp.0
  pub own : next.stamp.0 ≡ turn.stamp.0
  pub takes_up : (next.act ≡ act.CutAt) ⊎ HaltsOrGivesBack next.act

-- So it is of each such turn, where the turns are recorded.
abbrev pub GrantsAreTakenUp : Type 0
GrantsAreTakenUp = (first : TreeState) (history : List Entry) (image : ImageState) (entry_faults exit_faults : ℕ) (turns : List Turn) (turn : Turn)
    → IsRecorded first history image entry_faults exit_faults turns → IsOneOf turns turn → turn.act ≡ act.Granted → IsTakenUp turns turn
