-- A mount as it ends, by what its cores and their pens owe alone.
use Rattle.std.specs.Prelude.{◌≡◌, ◌<◌, ℕ, List, Some, length, slice_get, map}
use Rattle.cut_laws.specs.Rules.{IsOneOf}
use Rattle.beside_laws.specs.Answers.{asked}
use Rattle.stamp_table.specs.Rule.{entries_by}
use Rattle.stamp_table.specs.Events.{event_core}
use Rattle.stamp_table.specs.declared.event.Event.{Event}
use Rattle.mem_values.specs.Start.{FileHand}
use Rattle.mem_values.specs.declared.fact.Fact.{Fact}
use Rattle.note_laws.specs.Run.{IsTableRun, calls_of}
use Rattle.slot_laws.specs.Grants.{GoesAlong}
use Rattle.slot_laws.specs.Laws.{AreOfCores, IsAtRest}
use Rattle.slot_laws.specs.Labels.{own_from, nothing_told}
use Rattle.disk_box.specs.Pens.{PenHand}
use Rattle.flush_agrees.specs.Agreement.{FlushTold, CoresAgree}
use Rattle.flush_agrees.specs.Closing.{ReachesEnd}
use Rattle.flush_agrees.specs.Made.{FlushMade}
use Rattle.end_laws.specs.Fitting.{FreesNothing}
use Rattle.end_laws.specs.Mount.{MountEnd, run_at, IsFsyncAt, BeginsAt, MountEnds}

-- A core has come to the end with its pen, and they agree on these fsyncs by what both have seen.
pub record CoreReaches (D : Type 0) (at : MountEnd) (core : ℕ) (fsyncs : List FlushTold) : Type 0 where
  pub hand : FileHand
  pub pen : PenHand D
  pub core_is : hand.view.core ≡ core
  pub layout_is : pen.table.given.layout ≡ at.told.layout
  pub start_is : pen.table.given.start ≡ at.told.moment
  pub space_is : pen.table.given.space ≡ at.told.first
  pub agrees : CoresAgree at.t hand pen fsyncs
  pub reaches : ReachesEnd at.t hand pen at.logs
  pub mine : hand.view.mine ≡ entries_by event_core core at.logs.log

-- All of them have, of a mount that began with a volume. Its table's events are a run of it, whose calls ask what the history does, and are of the cores; a map
-- has gone along the box's labels, which are of the cores too, and each core is at rest. No commit that wrote nothing gives anything up.
pub record MountReaches (D : Type 0) (at : MountEnd) : Type 0 where
  pub table : IsTableRun (run_at at)
  pub asks : map asked (calls_of (run_at at)) ≡ map asked at.logs.history
  pub owned : (event : Event Fact) → IsOneOf at.logs.log event → event_core event < length at.fsyncs
  pub labels_are : at.told.log ≡ at.logs.labels
  pub along : GoesAlong at.told.layout at.told.before at.told.moment at.told.log at.told.first at.told.now
  pub own : AreOfCores (length at.fsyncs) at.told.log
  pub rests : (core : ℕ) → IsAtRest (own_from (entries_by event_core core at.told.log) nothing_told)
  pub cores : length at.fsyncs ≡ length at.t.first.made
  pub each : (core : ℕ) (fsyncs : List FlushTold) → slice_get at.fsyncs core ≡ Some fsyncs → CoreReaches D at core fsyncs
  pub frees : (one : FlushTold) (made : FlushMade) → IsFsyncAt at one → one.made ≡ Some made → FreesNothing made
  pub begins : BeginsAt at

-- Then they agree on the whole of it too, and numbers have stamps.
abbrev pub MountsReachEnds : Type 0 → Type 0
MountsReachEnds D = (at : MountEnd) → MountReaches D at → MountEnds D at
