-- The table of a mount in which each of two cores flushes one of two directories while the other one's fsync is under way.
use Rattle.std.specs.Prelude.{◌∷◌, ◌++◌, ℕ, false, List, [], Some, None, Vec, refl}
use Rattle.std.specs.declared.alloc.Global.{Global}
use lib.Dec.{lit<, lit≤}
use denote.RawPtr.{null_ptr}
use Rattle.atomic_table.specs.Seated.{TableId}
use Rattle.tree_laws.specs.declared.reply.Reply.TheVariants as reply
use Rattle.tree_laws.specs.declared.history.Entry.{Entry}
use Rattle.merge_laws.specs.Worked.{TWO_CORES, own_fsync, other_fsync}
use Rattle.stamp_table.specs.Rule.{entries_by}
use Rattle.stamp_table.specs.Events.{event_core}
use Rattle.stamp_table.specs.declared.event.Event.{Event}
use Rattle.stamp_table.specs.declared.event.Event.TheVariants.{Called, Told}
use Rattle.mem_values.specs.Start.{FileHand, FileState, given_by}
use Rattle.mem_values.specs.declared.fact.Fact.{Fact}
use Rattle.mem_values.specs.declared.fact.Fact.TheVariants.{Committed, Trimmed}
use Rattle.mem_values.specs.declared.fact.HeldNode.{HeldNode}
use Rattle.note_laws.specs.Run.{TableRun}
use Rattle.example_laws.specs.Fsyncs.{Flushing, entry_at, roomless}

-- The first core flushes the directory at stamp 0 and the second one the root at stamp 1, as in the example of labels; here the second core's commit comes
-- first at the box, so its number is 1.
abbrev pub OWN_FLUSH : Flushing
OWN_FLUSH = record { node = 1; stamp = 0; number = 2 }

abbrev pub OTHER_FLUSH : Flushing
OTHER_FLUSH = record { node = 0; stamp = 1; number = 1 }

-- the table's own numbers in memory, which play no part
abbrev pub SOME_TABLE : TableId
SOME_TABLE = record { words = 0; slots = 1; views_name = 0; atom = 0; block = 0; offset = 0; slot_names = [] }

-- a table over the tree of two directories, of each of which the disk has the inode with its number
abbrev pub TWO_TABLE : FileState
TWO_TABLE = record {
  table = record { id = SOME_TABLE; given = roomless (entry_at 0 ∷ entry_at 1 ∷ []); measure = 2 };
  first = TWO_CORES;
  cores = 2;
}

-- a vector of one item
abbrev pub vector_of_one : {X : Type 0} → Global → X → Vec X Global
vector_of_one alloc item = record { ptr = null_ptr; len = 1; cap = 1; alloc = alloc; items = item ∷ []; ok = (refl, lit≤ tt); small = lit< tt }

-- what a commit writes of its one node: the fsync's stamp as its cut, and the inode as it was
abbrev pub held_by_flush : Flushing → HeldNode
held_by_flush flushing =
    record { node = record { 0 = flushing.node }; new_cut = record { 0 = flushing.stamp }; new = Some (entry_at flushing.node).old }

-- what a core tells as its commit ends: the commit, and that both logs are trimmed for it
abbrev pub told_of_flush : Global → ℕ → Flushing → List (Event Fact)
told_of_flush alloc core flushing =
    Told (record { 0 = core })
    (Committed flushing.number (record { 0 = flushing.node }) (record { 0 = flushing.stamp }) (vector_of_one alloc (record { 0 = flushing.node }))
    (vector_of_one alloc (held_by_flush flushing)))
    ∷ Told (record { 0 = core }) (Trimmed flushing.number (record { 0 = 0 }))
    ∷ Told (record { 0 = core }) (Trimmed flushing.number (record { 0 = 1 }))
    ∷ []

-- both fsyncs are stamped, and wait for their answers
abbrev pub BOTH_CALLED : List (Event Fact)
BOTH_CALLED = Called (own_fsync reply.NoMemory None) ∷ Called (other_fsync reply.NoMemory None) ∷ []

-- then the second core's commit ends, and the first one's behind it
abbrev pub table_log : Global → List (Event Fact)
table_log alloc = BOTH_CALLED ++ told_of_flush alloc 1 OTHER_FLUSH ++ told_of_flush alloc 0 OWN_FLUSH

-- a core at the end of the mount, with its one entry: it has seen all that was called and told
abbrev pub hand_at_end : Global → ℕ → Entry → FileHand
hand_at_end alloc core entry = record {
  table = TWO_TABLE.table;
  view = record {
    gathers = false;
    gone = false;
    first = TWO_CORES;
    core = core;
    seen = table_log alloc;
    mine = entries_by event_core core (table_log alloc);
    held = [];
    cores = 2;
    lists = [];
    saws = [];
  };
  entries = entry ∷ [];
  waiting = None;
  held = [];
  spare = 0;
  room = 0;
  leads = false;
  cores = 2;
}

-- the run of the table
abbrev pub two_run : Global → TableRun
two_run alloc = record { given = given_by TWO_TABLE; first = TWO_CORES; log = table_log alloc }
