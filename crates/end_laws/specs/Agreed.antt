-- That what agreeing cores made gives nothing up where it writes nothing, over all that a mount leaves.
use Rattle.std.specs.Prelude.{◌≡◌, ◌<◌, ℕ, List, Some, length, slice_get}
use Rattle.sfs_image.specs.Super.{IsLayout}
use Rattle.space_map.specs.Space.{Space}
use Rattle.cut_laws.specs.Rules.{IsOneOf}
use Rattle.stamp_table.specs.declared.event.Event.{Event}
use Rattle.stamp_table.specs.Events.{event_core}
use Rattle.stamp_table.specs.Rule.{entries_by}
use Rattle.mem_values.specs.Start.{FileHand, FileState}
use Rattle.mem_values.specs.declared.fact.Fact.{Fact}
use Rattle.slot_laws.specs.Grants.{NoneGranted, SpaceGoes}
use Rattle.slot_laws.specs.Labels.{first_past}
use Rattle.disk_box.specs.Box.{LawfulBox}
use Rattle.disk_box.specs.Pens.{PenHand}
use Rattle.disk_box.specs.declared.key.BoxKey.{BoxKey}
use Rattle.fsync_commit.specs.Asked.{IsSpaceOn}
use Rattle.flush_agrees.specs.Agreement.{CoresAgree, FlushTold}
use Rattle.flush_agrees.specs.Closing.{MountLogs, ReachesEnd}
use Rattle.flush_agrees.specs.Made.{FlushMade}
use Rattle.end_laws.specs.Fitting.{FreesNothing}
use Rattle.end_laws.specs.Kept.{AreWellKept}

-- A core and its pen agree on these fsyncs where they have come to the end of a mount, and what the core told is its part of the table's events.
pub record CoreComesToEnd {D : Type 0} (t : FileState) (key : BoxKey D) (logs : MountLogs) (core : ℕ) (fsyncs : List FlushTold) : Type 0 where
  pub hand : FileHand
  pub pen : PenHand D
  pub core_is : hand.view.core ≡ core
  pub key_is : pen.table.given ≡ key
  pub agree : CoresAgree t hand pen fsyncs
  pub ends : ReachesEnd t hand pen logs
  pub mine : hand.view.mine ≡ entries_by event_core core logs.log

-- A box begins with a layout that its disk can have, and with free space of its own, of which nothing is granted.
pub record BeginsBox {D : Type 0} (key : BoxKey D) : Type 0 where
  pub fits : IsLayout key.layout.blocks key.layout
  pub space : IsSpaceOn key.layout key.space
  pub no_inode : NoneGranted key.space.inodes
  pub no_block : NoneGranted key.space.blocks

-- What all cores leave, a list of fsyncs a core: the table was given well kept nodes, the box began so, its labels are by the rules, free space has gone along
-- them, each event of the table is of one of the cores, and each core agrees with its pen.
pub record CoresEnd {D : Type 0} (t : FileState) (key : BoxKey D) (logs : MountLogs) (fsyncs : List (List FlushTold)) : Type 0 where
  pub given : AreWellKept t.table.given.items
  pub box : BeginsBox key
  pub lawful : LawfulBox key logs.labels
  pub goes : (now : Space) × SpaceGoes key.layout logs.labels (first_past key.start) key.space now
  pub own : (event : Event Fact) → IsOneOf logs.log event → event_core event < length fsyncs
  pub each : (core : ℕ) (told : List FlushTold) → slice_get fsyncs core ≡ Some told → CoreComesToEnd t key logs core told

-- One of a core's fsyncs, and what the core made for it.
pub record IsMadeOne (fsyncs : List (List FlushTold)) (made : FlushMade) : Type 0 where
  pub core : ℕ
  pub told : List FlushTold
  pub own : slice_get fsyncs core ≡ Some told
  pub one : FlushTold
  pub among : IsOneOf told one
  pub is : one.made ≡ Some made

-- Then what was made gives nothing up, where it has no record to write.
abbrev pub AgreedFreeNothing : Type 0 → Type 0
AgreedFreeNothing D = (t : FileState) (key : BoxKey D) (logs : MountLogs) (fsyncs : List (List FlushTold)) (made : FlushMade)
    → CoresEnd t key logs fsyncs → IsMadeOne fsyncs made → FreesNothing made
