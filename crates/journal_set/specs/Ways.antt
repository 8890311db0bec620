-- The ways that the turns of an fsync go, by what its calls answered.
use Rattle.std.specs.Prelude.{◌≡◌, ◌<◌, ◌++◌, List, Result, Ok, Err}
use Rattle.space_map.specs.Space.{GrantedNumbers}
use Rattle.tree_laws.specs.declared.reply.Reply.{Reply}
use Rattle.tree_laws.specs.declared.turns.Turn.{Turn}
use Rattle.tree_laws.specs.declared.reply.Reply.TheVariants as reply
use Rattle.turn_laws.specs.Ways.{GoesWay}
use Rattle.slot_laws.specs.Labels.{OwnTold}
use Rattle.disk_box.specs.Pens.{PenHand, own_at}
use Rattle.journal_set.specs.declared.fault.CommitFault.{CommitFault}
use Rattle.journal_set.specs.declared.fault.Ack.{Ack}
use Rattle.journal_set.specs.Reserving.{ReserveRequest, Reserves}
use Rattle.journal_set.specs.Committing.{Commits}
use Rattle.journal_set.specs.Returning.{ReturnsNumber}
use Rattle.journal_set.specs.Emptying.{Empties}
use Rattle.journal_set.specs.declared.fault.CommitFault.TheVariants as fault

-- A core took these turns more, which go one of the ways with this answer.
pub record TakesWay (given : Reply) (before after : OwnTold) : Type 0 where
  pub turns : List Turn
  pub told_is : after.told ≡ before.told ++ turns
  pub way : GoesWay turns given

-- the reply of an fsync whose number was refused so; `Moved` is none of an fsync's, which begins anew
abbrev pub IsReplyTo : CommitFault → Reply → Type 0
IsReplyTo (fault.DiskFailed faults) given = given ≡ reply.DiskFailed
IsReplyTo (fault.NoSpace kind need free) given = given ≡ reply.NoSpace kind need free
IsReplyTo (fault.Stopped faults) given = given ≡ reply.Stopped faults
IsReplyTo (fault.Moved node last) given = ⊥
IsReplyTo fault.NoMemory given = given ≡ reply.NoMemory

-- and of one whose commit was answered so
abbrev pub IsAnsweredBy : Result Ack CommitFault → Reply → Type 0
IsAnsweredBy (Ok ack) given = given ≡ reply.Ok
IsAnsweredBy (Err refused) given = IsReplyTo refused given

-- An fsync that was refused a number goes one of the ways.
abbrev pub RefusalsGoWays : Type 1
RefusalsGoWays = (D : Type 0) (asked : ReserveRequest) (before after : PenHand D) (refused : CommitFault) (given : Reply)
    → Reserves asked before after (Err refused) → IsReplyTo refused given → TakesWay given (own_at before) (own_at after)

-- So does one that reserved, and whose commit was answered, or that gave back.
abbrev pub CommitsGoWays : Type 1
CommitsGoWays = (D : Type 0) (asked : ReserveRequest) (before middle : PenHand D) (grant : GrantedNumbers) (after : OwnTold) (result : Result Ack CommitFault)
    (given : Reply) (reserves : Reserves asked before middle (Ok grant)) → 0 < reserves.number
    → Commits before.view.core asked.flush (own_at middle) after result → IsAnsweredBy result given → TakesWay given (own_at before) after

abbrev pub ReturnsGoWays : Type 1
ReturnsGoWays = (D : Type 0) (asked : ReserveRequest) (before middle : PenHand D) (grant : GrantedNumbers) (after : OwnTold)
    (reserves : Reserves asked before middle (Ok grant)) → 0 < reserves.number → ReturnsNumber before.view.core asked.flush (own_at middle) after
    → TakesWay reply.NoMemory (own_at before) after

-- And one whose commit wrote nothing.
abbrev pub EmptyCommitsGoWays : Type 1
EmptyCommitsGoWays = (D : Type 0) (asked : ReserveRequest) (before after : PenHand D) (result : Result Ack CommitFault) (given : Reply)
    → Empties asked before after result → ((ack : Ack) → result ≡ Ok ack → 0 < ack.commit) → IsAnsweredBy result given
    → TakesWay given (own_at before) (own_at after)
