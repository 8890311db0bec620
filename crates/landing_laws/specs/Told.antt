-- That a run tells of a durable commit what its core made.
use Rattle.std.specs.Prelude.{◌≡◌, Some}
use mathlib.Core.List.{IsPrefix}
use Rattle.sfs_base.specs.declared.numbers.NodeId.{NodeId}
use Rattle.mem_values.specs.Account.{account_of}
use Rattle.mem_values.specs.Stands.{StandsPending}
use Rattle.mem_values.specs.Start.{FileState}
use Rattle.mem_values.specs.declared.cell.Pending.{Pending}
use Rattle.note_laws.specs.Run.{IsTableRun, IsToldIn, TableRun}
use Rattle.made_laws.specs.Own.{TellsMaking}
use Rattle.mem_calls.specs.Held.{pending_held}
use Rattle.landing_laws.specs.Made.{MakesPlanned}
use Rattle.landing_laws.specs.Landed.{HasBecomeDurable, LandedFsync, commitment_of}

-- A run of the table goes on from what the core had seen as it planned, and tells the commit; what the core knew of its nodes stood just before that.
pub record TellsLanded (s : LandedFsync) (run : TableRun) : Type 0 where
  pub table : IsTableRun run
  pub given_is : run.given ≡ s.planned.given
  pub first_is : run.first ≡ s.planned.hand.view.first
  pub told : IsToldIn run.log (commitment_of s)
  pub since : IsPrefix s.planned.hand.view.seen told.before
  pub stood : (node : NodeId) (value : Pending) → pending_held s.planned.nodes s.planned.hand.held node ≡ Some value
      → StandsPending run.given run.first (account_of told.before) node.0 value

-- Then it tells what the core made.
abbrev pub LandedAreTold : Type 0
LandedAreTold = (t : FileState) (s : LandedFsync) (made : MakesPlanned s.planned) (run : TableRun) → HasBecomeDurable t s → TellsLanded s run
    → TellsMaking run made.making (commitment_of s)
