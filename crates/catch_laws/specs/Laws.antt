-- What an fsync caught, in the words of what a core makes for its commit.
use Rattle.std.specs.Prelude.{◌≡◌, ◌<◌, ℕ, Bool, true, List, length, Option, is_some}
use Rattle.disk_nodes.specs.OldKept.{OldKept}
use Rattle.disk_nodes.specs.declared.old.OldEntry.{OldEntry}
use Rattle.disk_change.specs.declared.files.FileChange.{FileChange}
use Rattle.flush_plan.specs.Concerned.{IsConcernOf}
use Rattle.flush_plan.specs.declared.plans.FsyncPlan.{FsyncPlan}
use Rattle.mem_values.specs.Start.{FileHand}
use Rattle.note_laws.specs.Notes.{CoreNotes, HasNotedAll}
use Rattle.made_laws.specs.Made.{CoreMaking, HasGathered}
use Rattle.fsync_catch.specs.Catch.{IsCaught, run_seen, saw_of}
use Rattle.fsync_catch.specs.declared.looking.Caught.{Caught}
use Rattle.fsync_catch.specs.declared.looking.WaitingFsync.{WaitingFsync}

-- What a core made of what it caught: beside that what the disk has of the nodes, whether the fsync's own node is a file, the change of its bytes, and the
-- plan.
pub record Further : Type 0 where
  pub old : List OldEntry
  pub is_file : Bool
  pub change : Option FileChange
  pub plan : FsyncPlan

-- what it made, by its notes
abbrev pub making_of : CoreNotes → Caught → Further → CoreMaking
making_of noted caught further = record {
  noted = noted;
  gathered = caught.gathered;
  concern = caught.concern;
  old = further.old;
  is_file = further.is_file;
  change = further.change;
  plan = further.plan;
}

-- What was caught is what a core may make its commit of: what it saw of the nodes is what it holds of them, all parts are noted in the run that it has seen,
-- what it gathered is by these notes, and the concern is by what it gathered.
pub record IsGatheredFor (given : ℕ → Option OldKept) (nodes : ℕ) (fsync : WaitingFsync) (hand : FileHand) (caught : Caught) (further : Further) : Type 0 where
  pub noted : CoreNotes
  pub core_is : noted.core ≡ hand.view.core
  pub node_is : noted.node ≡ fsync.node.0
  pub stamp_is : noted.stamp ≡ fsync.stamp.0
  pub saw : noted.pending ≡ saw_of nodes caught.concern.nodes.items hand
  pub notes : HasNotedAll (run_seen given hand) noted
  pub gathers : HasGathered (making_of noted caught further)
  pub concern_is : IsConcernOf (record { 0 = noted.node }) (record { 0 = noted.stamp }) caught.gathered caught.concern

-- So it is, on a table with some core whose disk had something of the root.
abbrev pub CaughtAreGathered : Type 0
CaughtAreGathered = (given : ℕ → Option OldKept) (nodes : ℕ) (fsync : WaitingFsync) (hand : FileHand) (caught : Caught) (further : Further)
    → is_some (given 0) ≡ true → 0 < length hand.view.first.made → IsCaught given nodes fsync hand caught
    → IsGatheredFor given nodes fsync hand caught further
