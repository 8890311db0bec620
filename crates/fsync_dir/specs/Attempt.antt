-- An attempt at an fsync: what was caught, and what was planned of it.
use Rattle.std.specs.Prelude.{◌≡◌, ◌<◌, ◌≤◌, ◌+◌, ◌-◌, ◌*◌, ◌^◌, ℕ, Some, IsSome}
use Rattle.sfs_base.specs.declared.numbers.Stamp.{Stamp}
use Rattle.stamp_table.specs.Ascending.{LiesAbove}
use Rattle.stamp_table.specs.Events.{calls_in}
use Rattle.mem_values.specs.Facts.{HasFsync}
use Rattle.mem_values.specs.Start.{FileHand, FileState, given_by}
use Rattle.disk_box.specs.Pens.{PenHand}
use Rattle.mem_calls.specs.Working.{IsWorking}
use Rattle.fsync_catch.specs.Catch.{IsCaught, IsCaughtAlone}
use Rattle.fsync_catch.specs.declared.looking.Caught.{Caught}
use Rattle.fsync_draft.specs.Drafting.{IsHollow}
use Rattle.landing_laws.specs.Made.{PlannedFsync}
use Rattle.landing_laws.specs.Landed.{directories_of}
use Rattle.fsync_dir.specs.Flush.{FlushAt, IsTried, WasCopied}
use Rattle.fsync_dir.specs.declared.attempt.OwnFsync.{OwnFsync}
use Rattle.fsync_dir.specs.declared.attempt.PlannedCommit.{PlannedCommit}

-- an fsync that waits, with its core and pen
abbrev pub attempt_at : {D : Type 0} → FileState → ℕ → OwnFsync → FileHand → PenHand D → FlushAt D
attempt_at t nodes own hand pen = record { t = t; nodes = nodes; fsync = own.fsync; file = own.file; hand = hand; pen = pen }

-- A core that holds cells has an fsync that waits, of whose node it has a copy; it has room for a log, which lies above what it holds. The nodes
-- are as many as a word counts at most.
pub record HoldsWaiting (t : FileState) (nodes : ℕ) (own : OwnFsync) (hand : FileHand) : Type 0 where
  pub waiting : hand.waiting ≡ Some own.fsync.stamp.0
  pub mine : HasFsync (calls_in hand.view.mine) hand.view.core own.fsync.node.0 own.fsync.stamp.0
  pub copied : WasCopied t.first hand.view.seen own.fsync own.file
  pub room : 0 < hand.room
  pub below : LiesAbove (32 + 10 * nodes) hand.view.held
  pub few : nodes ≤ 2 ^ 32 - 1

-- So it is of one that works and has caught what the fsync concerns.
pub record HasCaught (t : FileState) (nodes : ℕ) (own : OwnFsync) (caught : Caught) (hand : FileHand) : Type 0 where
  pub holds : HoldsWaiting t nodes own hand
  pub work : IsWorking (given_by t) t hand
  pub has : IsCaught (given_by t) nodes own.fsync hand caught

-- It holds the value of the fsync's own node alone, which is a file and has an inode: up to this stamp something was flushed of it. The nodes are as many as
-- a word counts at most.
pub record HoldsFileAlone (t : FileState) (nodes : ℕ) (own : OwnFsync) (hand : FileHand) (cut : Stamp) : Type 0 where
  pub alone : IsCaughtAlone (given_by t) nodes own.fsync hand cut
  pub file : IsSome own.file
  pub few : nodes ≤ 2 ^ 32 - 1

-- And of one that works and holds the value of the fsync's own file alone, which has an inode: up to this stamp something was flushed of it.
pub record HasHeldAlone (t : FileState) (nodes : ℕ) (own : OwnFsync) (cut : Stamp) (hand : FileHand) : Type 0 where
  pub holds : HoldsWaiting t nodes own hand
  pub work : IsWorking (given_by t) t hand
  pub alone : IsCaughtAlone (given_by t) nodes own.fsync hand cut
  pub within : own.fsync.node.0 < nodes
  pub file : IsSome own.file

-- And of one that has planned it: other values stand in its cells, and the directories among the members are these.
pub record HasDrafted {D : Type 0} (at : FlushAt D) (planned : PlannedFsync) (todo : PlannedCommit) (hand : FileHand) : Type 0 where
  pub holds : HoldsWaiting at.t at.nodes (record { fsync = at.fsync; file = at.file }) planned.hand
  pub tried : IsTried at planned
  pub drafted_is : planned.drafted ≡ todo.drafted
  pub directories_are : todo.directories.items ≡ directories_of planned.file planned.fsync.node planned.caught.concern.members.items
  pub hollow : IsHollow planned.hand hand
