-- A core that flushes the root before any other call: what is asked of notes can be met.
use Rattle.std.specs.Prelude.{◌≡◌, ◌<◌, ◌==◌, ◌∷◌, if◌then◌else◌, ℕ, true, false, [], length, replicate, Option, Some, None, is_some}
use Rattle.std.specs.FinMap.{get}
use Rattle.tree_laws.specs.declared.call.Call.TheVariants as call
use Rattle.tree_laws.specs.declared.history.Entry.{Entry}
use Rattle.tree_laws.specs.declared.reply.Reply.TheVariants as reply
use Rattle.tree_laws.specs.History.{tree_after}
use Rattle.tree_laws.specs.Laws.{IsSoundTree}
use Rattle.tree_laws.specs.Tree.{TreeState, is_directory}
use Rattle.disk_nodes.specs.OldKept.{OldKept}
use Rattle.beside_laws.specs.Box.{NO_COMMIT}
use Rattle.beside_laws.specs.Commits.{CoreCommit}
use Rattle.dep_closure.specs.Gathered.{look_of}
use Rattle.dep_closure.specs.declared.gathered.Gathered.{Gathered}
use Rattle.core_logs.specs.Logs.{blank_part}
use Rattle.stamp_table.specs.declared.event.Event.TheVariants.{Called}
use Rattle.mem_values.specs.declared.cell.Pending.{Pending}
use Rattle.note_laws.specs.Run.{TableRun}
use Rattle.note_laws.specs.Notes.{CoreNotes}
use Rattle.note_laws.specs.Merged.{is_noted_by}
use Rattle.note_laws.specs.Joined.{Reserving, MayReserve}

-- the first core's fsync of the root, which waits for its answer
abbrev pub ROOT_FSYNC : Entry
ROOT_FSYNC = record {
  stamp = record { 0 = 0 };
  core = record { 0 = 0 };
  call = call.Fsync (record { 0 = 0 });
  reply = reply.NoMemory;
  ack = None;
}

-- a run in which that is all
abbrev pub run_of_one : (ℕ → Option OldKept) → TreeState → TableRun
run_of_one given first = record { given = given; first = first; log = Called ROOT_FSYNC ∷ [] }

-- what was flushed of the root: what the disk had at first
abbrev pub root_pending : (ℕ → Option OldKept) → Pending
root_pending given = record { cut = record { 0 = 0 }; last = 0; made_in = None; old = given 0 }

-- it holds the root, and notes that no core has logged anything
abbrev pub root_notes : (ℕ → Option OldKept) → TreeState → CoreNotes
root_notes given first = record {
  core = 0;
  node = 0;
  stamp = 0;
  pending = λ node. if node == 0 then Some (root_pending given) else None;
  parts = replicate (length first.made) blank_part;
  notes = λ part. record { at = Called ROOT_FSYNC ∷ []; mark = λ directory. 0 };
}

-- it gathers no change
abbrev pub ROOT_GATHERED : Gathered
ROOT_GATHERED = record {
  logs = record { items = []; spare = 0 };
  cuts = record { items = []; spare = 0 };
  births = record { items = []; spare = 0 };
  inodes = record { items = record { 0 = 0 } ∷ []; spare = 0 };
}

-- its commit
abbrev pub root_commit : (ℕ → Option OldKept) → TreeState → CoreCommit
root_commit given first = record {
  number = 1;
  look = look_of (record { 0 = 0 }) (record { 0 = 0 }) ROOT_GATHERED;
  counts = is_noted_by (run_of_one given first) (root_notes given first);
  late = 1;
  mark = λ stamp node. if is_directory (tree_after first (ROOT_FSYNC ∷ [])) node then 0 else (if node == 0 then 0 else 1);
  members = 0 ∷ [];
  holds = λ node. node == 0;
  last = λ node. 0;
  makes = record {
    lifted = λ node. 0;
    found = record { named = λ node. false; directory = true };
    gets = λ node. false;
    loses = λ node. false;
  };
}

-- it reserves before any other commit
abbrev pub root_reserving : (ℕ → Option OldKept) → TreeState → Reserving
root_reserving given first = record {
  run = run_of_one given first;
  made = record { noted = root_notes given first; gathered = ROOT_GATHERED; commit = root_commit given first };
  box = NO_COMMIT;
  all = [];
}

-- So it may reserve, on each sound tree of some cores of whose nodes the disk has something.
abbrev pub NotesCanBeMet : Type 0
NotesCanBeMet = (given : ℕ → Option OldKept) (first : TreeState) → IsSoundTree first → 0 < length first.made
    → ((node : ℕ) → is_some (given node) ≡ is_some (get first.nodes node)) → MayReserve (root_reserving given first)
