-- What each of two cores makes for its fsync by what it has seen of the table.
use Rattle.std.specs.Prelude.{◌==◌, ◌∷◌, if◌then◌else◌, ℕ, false, [], Some, None}
use Rattle.mem_cells.specs.Part.{CoreLog}
use Rattle.mem_values.specs.declared.cell.Pending.{Pending}
use Rattle.note_laws.specs.Notes.{CoreNotes}
use Rattle.made_laws.specs.Made.{CoreMaking}
use Rattle.example_laws.specs.Fsyncs.{Flushing, entry_at, gathered_by, concern_by, plan_by}
use Rattle.example_mount.specs.Table.{BOTH_CALLED}

-- what it sees of its node: nothing was flushed of it, and the disk has its inode
abbrev pub pending_seen : Flushing → Pending
pending_seen flushing = record { cut = record { 0 = 0 }; last = 0; made_in = None; old = Some (entry_at flushing.node).old }

-- a core's log: its one call changed nothing
abbrev pub QUIET_LOG : CoreLog
QUIET_LOG = record { logs = []; entries = 1 }

-- it sees its one node, and notes both logs where both fsyncs are under way and no commit is told
abbrev pub notes_of : ℕ → Flushing → CoreNotes
notes_of core flushing = record {
  core = core;
  node = flushing.node;
  stamp = flushing.stamp;
  pending = λ node. if node == flushing.node then Some (pending_seen flushing) else None;
  parts = QUIET_LOG ∷ QUIET_LOG ∷ [];
  notes = λ part. record { at = BOTH_CALLED; mark = λ directory. 0 };
}

-- so it gathers no change, and its plan changes nothing
abbrev pub core_making : ℕ → Flushing → CoreMaking
core_making core flushing = record {
  noted = notes_of core flushing;
  gathered = gathered_by flushing;
  concern = concern_by flushing;
  old = entry_at flushing.node ∷ [];
  is_file = false;
  change = None;
  plan = plan_by flushing;
}
