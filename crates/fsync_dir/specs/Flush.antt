-- What comes of an fsync of a node of the shared table.
use Rattle.std.specs.Prelude.{◌≡◌, ◌<◌, ◌++◌, ◌∷◌, ℕ, true, List, [], length, Option, None, Some, MatchOption, Ok, Err}
use mathlib.Core.List.{IsPrefix}
use Rattle.mem_files.specs.File.{File}
use Rattle.tree_laws.specs.Tree.{TreeState, is_alive}
use Rattle.tree_laws.specs.History.{tree_after}
use Rattle.tree_laws.specs.declared.call.Call.TheVariants as call
use Rattle.tree_laws.specs.declared.reply.Code.TheVariants as code
use Rattle.tree_laws.specs.declared.reply.Reply.{Reply}
use Rattle.tree_laws.specs.declared.reply.Reply.TheVariants as reply
use Rattle.sfs_base.specs.declared.numbers.NodeId.{NodeId}
use Rattle.slot_laws.specs.Labels.{fsync_told}
use Rattle.stamp_table.specs.Events.{calls_in, event_core, told_by, IsLawful}
use Rattle.stamp_table.specs.Rule.{entries_by}
use Rattle.stamp_table.specs.declared.event.Event.{Event}
use Rattle.mem_values.specs.Account.{commit_told}
use Rattle.mem_values.specs.Facts.{HasFsync, IsLawfulLog}
use Rattle.mem_values.specs.Start.{FileHand, FileState, given_by}
use Rattle.mem_values.specs.declared.fact.Fact.{Fact}
use Rattle.mem_calls.specs.Outcome.{IsAnswered}
use Rattle.mem_calls.specs.Working.{IsWorking}
use Rattle.disk_box.specs.Pens.{PenGoes, PenHand, own_at}
use Rattle.journal_set.specs.Numbering.{numbers_reserved}
use Rattle.journal_set.specs.Telling.{AreTurns, TellsCall, TellsNothing}
use Rattle.journal_set.specs.Ways.{TakesWay}
use Rattle.journal_set.specs.declared.fault.Ack.{Ack}
use Rattle.fsync_stamp.specs.Copying.{StampsCopied, IsCopied}
use Rattle.fsync_stamp.specs.declared.copying.Copied.{Copied}
use Rattle.fsync_stamp.specs.declared.copying.Copied.TheVariants as copied
use Rattle.fsync_stamp.specs.declared.copying.StampedFsync.{StampedFsync}
use Rattle.fsync_catch.specs.Catch.{GoesOn, HasItsFsync}
use Rattle.fsync_catch.specs.declared.looking.WaitingFsync.{WaitingFsync}
use Rattle.fsync_commit.specs.Asked.{CommitRequest}
use Rattle.fsync_commit.specs.Coming.{PlanComesTo}
use Rattle.fsync_commit.specs.declared.landing.CommitRefusal.{CommitRefusal}
use Rattle.fsync_commit.specs.declared.landing.Landed.{Landed}
use Rattle.fsync_end.specs.Finishing.{IsToldBehind, logs_trimmed}
use Rattle.fsync_end.specs.Trimming.{trim_events}
use Rattle.landing_laws.specs.Made.{IsDraftedFsync, PlannedFsync}
use Rattle.landing_laws.specs.Landed.{HasBecomeDurable, LandedFsync, commitment_of, directories_of}
use Rattle.fsync_dir.specs.Answering.{EndsUntold, EndsWaiting, LetsGoWaiting, reply_to}

-- what was copied of a file, or that nothing was, of a directory
abbrev pub copy_of : Option File → Copied
copy_of None = copied.Directory
copy_of (Some bytes) = copied.File bytes

-- What was copied of a node was so behind some calls that a core has seen, at the stamp of its fsync, and the node was alive there.
pub record WasCopied (first : TreeState) (seen : List (Event Fact)) (fsync : WaitingFsync) (file : Option File) : Type 0 where
  pub log : List (Event Fact)
  pub began : IsPrefix log seen
  pub stamp_is : length (calls_in log) ≡ fsync.stamp.0
  pub alive : is_alive (tree_after first (calls_in log)) fsync.node.0 ≡ true
  pub copied_is : IsCopied first (calls_in log) fsync.node.0 (copy_of file)

-- A core holds nothing, and its fsync of a node of the table waits for its answer; of the node's file it has what was copied at the stamp.
pub record WaitsToFlush (t : FileState) (nodes : ℕ) (fsync : WaitingFsync) (file : Option File) (hand : FileHand) : Type 0 where
  pub work : IsWorking (given_by t) t hand
  pub holds_none : hand.held ≡ []
  pub none_held : hand.view.held ≡ []
  pub waiting : hand.waiting ≡ Some fsync.stamp.0
  pub mine : HasFsync (calls_in hand.view.mine) hand.view.core fsync.node.0 fsync.stamp.0
  pub seen : HasItsFsync hand fsync
  pub within : fsync.node.0 < nodes
  pub copied : WasCopied t.first hand.view.seen fsync file

-- An fsync that waits: the table and its number of nodes, the fsync, the bytes of its file, where its node is one, its core and the core's pen.
pub record FlushAt (D : Type 0) : Type 0 where
  pub t : FileState
  pub nodes : ℕ
  pub fsync : WaitingFsync
  pub file : Option File
  pub hand : FileHand
  pub pen : PenHand D

-- A pen has told nothing but that it had the box, and has reserved no number: in each of its turns there nothing was told.
pub record TellsNoTurn {D : Type 0} (before after : PenHand D) : Type 0 where
  pub goes : PenGoes before after
  pub room : after.room ≡ before.room
  pub own : own_at after ≡ own_at before
  pub numbers : numbers_reserved after.view.mine ≡ numbers_reserved before.view.mine
  pub tells : TellsCall (AreTurns TellsNothing) before after

-- what is asked of the journals by what was planned
abbrev pub asked_by : PlannedFsync → CommitRequest
asked_by planned = record {
  flush = fsync_told planned.fsync.node planned.fsync.stamp;
  seen = planned.drafted.draft.seen.items;
  change = planned.drafted.draft.plan.change;
}

module _ {D : Type 0} (at : FlushAt D) where
  -- It was planned, by what the core caught and copied, while it works and goes on.
  pub record IsTried (planned : PlannedFsync) : Type 0 where
    pub given_is : planned.given ≡ given_by at.t
    pub nodes_are : planned.nodes ≡ at.nodes
    pub fsync_is : planned.fsync ≡ at.fsync
    pub file_is : planned.file ≡ at.file
    pub since : GoesOn at.hand planned.hand
    pub work : IsWorking (given_by at.t) at.t planned.hand
    pub is : IsDraftedFsync planned

  -- Its plan was committed: the commit has become durable and its core has told it, with what it knew of its nodes standing as it did; it told that each log
  -- is trimmed for it where it has a member; and the fsync is answered Ok with the moment of its acknowledgement.
  pub record EndsLanded (s : LandedFsync) (ack : Ack) (after : FileHand) : Type 0 where
    pub durable : HasBecomeDurable at.t s
    pub number_is : s.number ≡ ack.commit
    pub told : Fact
    pub tells : commit_told (told_by s.planned.hand.view.core told 0) ≡ Some (commitment_of s)
    pub behind : IsToldBehind (given_by at.t) told s.planned.hand after
    pub lawful : IsLawful (IsLawfulLog (given_by at.t)) after.view.first after.view.seen
    pub own : after.view.mine ≡ entries_by event_core after.view.core after.view.seen
    pub mine : after.view.mine ≡ (s.planned.hand.view.mine ++ told_by s.planned.hand.view.core told 0 ∷ [])
        ++ trim_events s.planned.hand.view.core s.number
        (logs_trimmed (directories_of s.planned.file s.planned.fsync.node s.planned.caught.concern.members.items) (length at.t.first.made))
    pub ends : EndsWaiting at.t at.fsync reply.Ok (Some ack.moment) at.hand after

  -- What comes of it: memory was wanting before the journals were asked; they refused what was planned, and what the core had seen then begins what it has seen
  -- since; or it is durable, and the disk has of its nodes what the journals handed out.
  pub data FsyncComes (after : FileHand) (done : PenHand D) (given : Reply) : Type 0 where
    wanting : TellsNoTurn at.pen done → given ≡ reply.NoMemory → EndsUntold at.t at.fsync given at.hand after → FsyncComes after done given
    refused : (planned : PlannedFsync) (from : PenHand D) (refusal : CommitRefusal) → IsTried planned → TellsNoTurn at.pen from
        → PlanComesTo (asked_by planned) from done (Err refusal) → reply_to refusal.fault ≡ Some given → EndsUntold at.t at.fsync given at.hand after
        → IsPrefix planned.hand.view.seen after.view.seen → FsyncComes after done given
    flushed : (s : LandedFsync) (from : PenHand D) (landed : Landed) → IsTried s.planned → TellsNoTurn at.pen from
        → PlanComesTo (asked_by s.planned) from done (Ok landed) → EndsLanded s landed.ack after → given ≡ reply.Ok → landed.nodes.after ≡ s.after
        → FsyncComes after done given

  -- It is answered: this came of it, and the turns that its core took go one of the ways with the answer.
  pub record IsServed (after : FileHand) (done : PenHand D) (given : Reply) : Type 0 where
    pub comes : FsyncComes after done given
    pub way : TakesWay given (own_at at.pen) (own_at done)

  -- A node had moved meanwhile: it waits on, and no turn was taken.
  pub record BeginsAnew (after : FileHand) (done : PenHand D) : Type 0 where
    pub lets : LetsGoWaiting at.t at.hand after
    pub no_turn : TellsNoTurn at.pen done

  -- what comes of one attempt at it
  abbrev pub AttemptComes : FileHand → PenHand D → Option Reply → Type 0
  AttemptComes after done given = MatchOption given (BeginsAnew after done) (IsServed after done)

-- An fsync of a live node was stamped, with a copy of its file where there was memory, and waited, and was answered.
pub record ServesFsync {D : Type 0} (t : FileState) (nodes : ℕ) (node : NodeId) (before after : FileHand) (pen done : PenHand D) (given : Reply) : Type 0 where
  pub stamped : StampedFsync
  pub waiting : FileHand
  pub stamps : StampsCopied t node stamped before waiting
  pub file : Option File
  pub served : IsServed (record {
    t = t;
    nodes = nodes;
    fsync = record { node = node; stamp = stamped.stamp };
    file = file;
    hand = waiting;
    pen = pen;
  }) after done given

-- What comes of an fsync of a node: a dead one is answered so, and no turn is taken; that of a live one is served.
pub data FlushComes {D : Type 0} (t : FileState) (nodes : ℕ) (node : NodeId) (before after : FileHand) (pen done : PenHand D) (given : Reply) : Type 0 where
  dead : IsAnswered t (call.Fsync node) (reply.Error code.NoEntry) before after → done ≡ pen → given ≡ reply.Error code.NoEntry
      → FlushComes t nodes node before after pen done given
  live : ServesFsync t nodes node before after pen done given → FlushComes t nodes node before after pen done given
