-- How the waiting of an fsync ends.
use Rattle.std.specs.Prelude.{◌≡◌, ℕ, ◌∷◌, ◌++◌, List, [], Option, None, Some}
use mathlib.Core.List.{IsPrefix}
use Rattle.tree_laws.specs.declared.history.Entry.{Entry}
use Rattle.tree_laws.specs.declared.reply.Reply.{Reply}
use Rattle.tree_laws.specs.declared.reply.Reply.TheVariants as reply
use Rattle.stamp_table.specs.Table.{IsBetweenCalls, IsSameCore, with_answer}
use Rattle.mem_values.specs.Start.{FileHand, FileState, given_by}
use Rattle.mem_calls.specs.Working.{IsWorking}
use Rattle.fsync_catch.specs.Catch.{GoesOn}
use Rattle.fsync_catch.specs.declared.looking.WaitingFsync.{WaitingFsync}
use Rattle.journal_set.specs.declared.fault.CommitFault.{CommitFault}
use Rattle.journal_set.specs.declared.fault.CommitFault.TheVariants as fault

-- the reply to an fsync whose commit was refused so; `Moved` is no answer
abbrev pub reply_to : CommitFault → Option Reply
reply_to (fault.DiskFailed faults) = Some reply.DiskFailed
reply_to (fault.NoSpace kind need free) = Some (reply.NoSpace kind need free)
reply_to (fault.Stopped faults) = Some (reply.Stopped faults)
reply_to (fault.Moved node last) = None
reply_to fault.NoMemory = Some reply.NoMemory

-- A core whose last entry was an fsync that waited has its answer, with its acknowledgement; it is between two calls.
pub record EndsWaiting (t : FileState) (fsync : WaitingFsync) (given : Reply) (ack : Option ℕ) (before after : FileHand) : Type 0 where
  pub between : IsBetweenCalls t after
  pub same : IsSameCore before after
  pub seen : IsPrefix before.view.seen after.view.seen
  pub answered : (front : List Entry) × (last : Entry) × (last.stamp.0 ≡ fsync.stamp.0) × (before.entries ≡ front ++ last ∷ [])
      × (after.entries ≡ front ++ with_answer last given ack ∷ [])

-- So it ended, and nothing was told.
pub record EndsUntold (t : FileState) (fsync : WaitingFsync) (given : Reply) (before after : FileHand) : Type 0 where
  pub ends : EndsWaiting t fsync given None before after
  pub mine : after.view.mine ≡ before.view.mine

-- A core whose fsync waits has let all go, and it waits on.
pub record LetsGoWaiting (t : FileState) (before after : FileHand) : Type 0 where
  pub work : IsWorking (given_by t) t after
  pub on : GoesOn before after
  pub holds_none : after.held ≡ []
  pub none_held : after.view.held ≡ []
