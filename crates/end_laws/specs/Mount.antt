-- A mount of many cores as it ends: the run of its table, what was told at its box, what it began with, and for each core the fsyncs on which it agrees with
-- its pen; and what commits bring by the stamps of these fsyncs.
use Rattle.std.specs.Prelude.{◌≡◌, ◌∷◌, ◌++◌, ◌<◌, ◌^◌, ◌-◌, ℕ, List, [], length, map, Some, slice_get}
use Rattle.sfs_base.specs.declared.numbers.CoreId.{CoreId}
use Rattle.sfs_base.specs.Lists.{Roomy}
use Rattle.space_map.specs.Space.{GrantedNumbers}
use Rattle.disk_nodes.specs.declared.old.OldEntry.{OldEntry}
use Rattle.cut_laws.specs.Rules.{IsOneOf}
use Rattle.beside_laws.specs.Answers.{asked}
use Rattle.flush_laws.specs.Volume.{Volume}
use Rattle.mark_laws.specs.Changed.{HasShortFiles}
use Rattle.book_laws.specs.Imagined.{Imagines}
use Rattle.book_laws.specs.Pairs.{commit_under, bringing_under}
use Rattle.reserve_laws.specs.Olds.{IsKeptIn}
use Rattle.stamp_table.specs.declared.event.Event.{Event}
use Rattle.stamp_table.specs.declared.event.Event.TheVariants.{Told}
use Rattle.stamp_table.specs.Events.{event_core}
use Rattle.stamp_table.specs.Rule.{entries_by}
use Rattle.mem_values.specs.declared.fact.Fact.{Fact}
use Rattle.mem_values.specs.Start.{FileHand, FileState, given_by}
use Rattle.mem_values.specs.Account.{Commitment}
use Rattle.note_laws.specs.Run.{TableRun, IsTableRun, calls_of, TellsCommit}
use Rattle.made_laws.specs.Tells.{IsMadeCommit}
use Rattle.slot_laws.specs.declared.label.Label.{Label}
use Rattle.slot_laws.specs.declared.label.Seen.{Seen}
use Rattle.slot_laws.specs.declared.label.Label.TheVariants as label
use Rattle.slot_laws.specs.Labels.{first_past, nothing_told, own_from, past_from}
use Rattle.slot_laws.specs.Grants.{GoesAlong}
use Rattle.slot_laws.specs.Laws.{AreOfCores, IsAtRest}
use Rattle.disk_box.specs.Pens.{PenHand}
use Rattle.close_laws.specs.Beside.{BeginsLabels, brought_at, stamps_under}
use Rattle.close_laws.specs.Maps.{Numbered, Telling}
use Rattle.flush_agrees.specs.Agreement.{CoresAgree, FlushTold, run_to}
use Rattle.flush_agrees.specs.Closing.{AgreeAtEnd, HasStamps, MountLogs, ReachesEnd, ToldAtEnd}
use Rattle.flush_agrees.specs.Made.{FlushMade}
use Rattle.end_laws.specs.Fitting.{FreesNothing, IsBroughtAs}
use Rattle.end_laws.specs.Pairs.{CommitsMade, BringsMade, IsPairThere}
use Rattle.made_laws.specs.Made.{MadeEitherWay}

-- A mount as it ends: its table with the logs that it leaves, the volume that it began with and what memory kept of that, what was told at its box, and the
-- fsyncs of each core.
pub record MountEnd : Type 0 where
  pub t : FileState
  pub logs : MountLogs
  pub start : Volume
  pub entries : List OldEntry
  pub told : Telling
  pub fsyncs : List (List FlushTold)

-- the run of its table
abbrev pub run_at : MountEnd → TableRun
run_at at = run_to at.t at.logs.log

-- An fsync is one of a core's there.
pub record IsFsyncAt (at : MountEnd) (one : FlushTold) : Type 0 where
  pub core : ℕ
  pub fsyncs : List FlushTold
  pub there : slice_get at.fsyncs core ≡ Some fsyncs
  pub among : IsOneOf fsyncs one

-- A core has come to that end with its pen, which is at rest, and they agree on these fsyncs over the whole of it.
pub record CoreEnds (D : Type 0) (at : MountEnd) (core : ℕ) (fsyncs : List FlushTold) : Type 0 where
  pub hand : FileHand
  pub pen : PenHand D
  pub core_is : hand.view.core ≡ core
  pub layout_is : pen.table.given.layout ≡ at.told.layout
  pub start_is : pen.table.given.start ≡ at.told.moment
  pub space_is : pen.table.given.space ≡ at.told.first
  pub agrees : CoresAgree at.t hand pen fsyncs
  pub reaches : ReachesEnd at.t hand pen at.logs
  pub agree : AgreeAtEnd at.t hand pen fsyncs at.logs
  pub mine : hand.view.mine ≡ entries_by event_core core at.logs.log

-- What it began with: a volume with no fsync on its disk, of the table's first tree and of the history that came, beside which the box's labels begin; what
-- memory kept of it is what the table was given of each node.
pub record BeginsAt (at : MountEnd) : Type 0 where
  pub labels : BeginsLabels at.told.layout at.start at.entries at.told.first
  pub none : at.start.flushes ≡ []
  pub first : at.start.first ≡ at.t.first
  pub history : at.start.history ≡ at.logs.history
  pub short : HasShortFiles at.start.first
  pub kept : (node : ℕ) → IsKeptIn at.entries node (given_by at.t node)
  pub few : at.told.layout.blocks < 2 ^ 32 - 1

-- What is known at such an end. The table's events are a run of it, whose calls ask what the history does, and are of the cores; a map has gone along the box's
-- labels, which are of the cores too, and each core is at rest. Each core agrees with its pen; numbers have stamps; and no commit that wrote nothing gives
-- anything up.
pub record MountEnds (D : Type 0) (at : MountEnd) : Type 0 where
  pub table : IsTableRun (run_at at)
  pub asks : map asked (calls_of (run_at at)) ≡ map asked at.logs.history
  pub owned : (event : Event Fact) → IsOneOf at.logs.log event → event_core event < length at.fsyncs
  pub labels_are : at.told.log ≡ at.logs.labels
  pub along : GoesAlong at.told.layout at.told.before at.told.moment at.told.log at.told.first at.told.now
  pub own : AreOfCores (length at.fsyncs) at.told.log
  pub rests : (core : ℕ) → IsAtRest (own_from (entries_by event_core core at.told.log) nothing_told)
  pub cores : length at.fsyncs ≡ length at.t.first.made
  pub each : (core : ℕ) (fsyncs : List FlushTold) → slice_get at.fsyncs core ≡ Some fsyncs → CoreEnds D at core fsyncs
  pub stamps : HasStamps at.fsyncs
  pub frees : (one : FlushTold) (made : FlushMade) → IsFsyncAt at one → one.made ≡ Some made → FreesNothing made
  pub begins : BeginsAt at

-- At a place of the labels a number was reserved.
pub record ReservedAt (told : Telling) (number : ℕ) (front : List (Event Label)) : Type 0 where
  pub core : CoreId
  pub seen : Roomy Seen
  pub grant : GrantedNumbers
  pub back : List (Event Label)
  pub whole : told.log ≡ front ++ Told core (label.Reserved number seen grant) ∷ back

-- The pair under an fsync's stamp is of what its core made: so are its commit, which is told wherever that is told, and what it brings; and beside each
-- volume that is imagined where its number was reserved it is the pair of that there.
pub record IsPairOf (at : MountEnd) (named : Numbered) (one : FlushTold) (made : FlushMade) : Type 0 where
  pub made_in : MadeEitherWay (run_at at) made.making
  pub commit : CommitsMade made (commit_under named.pairs one.flush.stamp)
  pub made_so : IsMadeCommit (run_at at) (commit_under named.pairs one.flush.stamp)
  pub tells : (told : Commitment) → ToldAtEnd (run_at at) made told → TellsCommit (run_at at) (commit_under named.pairs one.flush.stamp) told
  pub volume : Volume
  pub brings : BringsMade made volume (bringing_under named.pairs one.flush.stamp)
  pub there : (front : List (Event Label)) (volume : Volume) → ReservedAt at.told made.number front
      → Imagines at.start (brought_at named (past_from at.told.layout front (first_past at.told.moment))) volume
      → IsPairThere (run_at at) made volume
      (map (commit_under named.pairs) (stamps_under named (past_from at.told.layout front (first_past at.told.moment)).done)) (named.pairs one.flush.stamp)
  pub is : IsBroughtAs (run_at at) named made

-- What commits bring has the stamps of the fsyncs: each number that was made for one has its stamp, what stands under the stamp of each fsync is of that fsync,
-- and where something was made it is of that.
pub record AreNamedAlong (at : MountEnd) (named : Numbered) : Type 0 where
  pub stamps : (one : FlushTold) (made : FlushMade) → IsFsyncAt at one → one.made ≡ Some made → named.stamps made.number ≡ one.flush.stamp
  pub flush : (one : FlushTold) → IsFsyncAt at one → (bringing_under named.pairs one.flush.stamp).flush ≡ one.flush
  pub pair : (one : FlushTold) (made : FlushMade) → IsFsyncAt at one → one.made ≡ Some made → IsPairOf at named one made
