-- What the pens of the two cores tell at the box of a disk at rest, one behind the other.
use Rattle.std.specs.Prelude.{◌++◌, ℕ, List, [], None, false}
use Rattle.tree_laws.specs.declared.turns.Turn.{Turn}
use Rattle.tree_laws.specs.declared.turns.TurnAct.{TurnAct}
use Rattle.tree_laws.specs.declared.turns.TurnAct.TheVariants as act
use Rattle.merge_laws.specs.Worked.{TWO_CORES}
use Rattle.stamp_table.specs.Rule.{entries_by}
use Rattle.stamp_table.specs.Events.{event_core}
use Rattle.stamp_table.specs.declared.event.Event.{Event}
use Rattle.slot_laws.specs.declared.label.Label.{Label}
use Rattle.slot_laws.specs.Telling.{BoxTurn, turn_empties, at_box, labels_in}
use Rattle.slot_laws.specs.Worked.{seen_one}
use Rattle.disk_box.specs.declared.key.BoxKey.{BoxKey}
use Rattle.disk_box.specs.Pens.{PenHand}
use Rattle.close_laws.specs.Maps.{Telling}
use Rattle.example_laws.specs.Fsyncs.{Flushing}
use Rattle.example_laws.specs.Image.{TWELVE_BLOCKS}
use Rattle.example_laws.specs.Map.{TWO_TAKEN}
use Rattle.example_mount.specs.Table.{OWN_FLUSH, OTHER_FLUSH, SOME_TABLE}

-- a turn of a core's commit at a moment
abbrev pub flush_turn : ℕ → Flushing → ℕ → TurnAct → Turn
flush_turn core flushing now did = record {
  core = record { 0 = core };
  node = record { 0 = flushing.node };
  stamp = record { 0 = flushing.stamp };
  commit = flushing.number;
  now = now;
  faults = 0;
  act = did;
}

-- in one turn at the box a core reserves a number, has nothing to write, and its commit ends
abbrev pub ends_at : ℕ → Flushing → ℕ → BoxTurn
ends_at core flushing now =
    turn_empties flushing.number (seen_one flushing.node 0) (flush_turn core flushing now act.CutAt) (flush_turn core flushing now act.Opened)
    (flush_turn core flushing now act.Durable)

-- the second core's ends at the fifth device call, at which the mount began, and the first one's at the eighth
abbrev pub OTHER_ENDS : List (Event Label)
OTHER_ENDS = at_box 1 (labels_in (ends_at 1 OTHER_FLUSH 5))

abbrev pub OWN_ENDS : List (Event Label)
OWN_ENDS = at_box 0 (labels_in (ends_at 0 OWN_FLUSH 8))

-- all that was told at the box, beside the map of free space, which stays as it is
abbrev pub TURN_BY_TURN : Telling
TURN_BY_TURN = record { layout = TWELVE_BLOCKS; before = 0; moment = 5; log = OTHER_ENDS ++ OWN_ENDS; first = TWO_TAKEN; now = TWO_TAKEN }

-- the box: its disk has twelve blocks, counted five calls and no fault as the box was made, and had this map
abbrev pub TWO_KEY : {D : Type 0} → BoxKey D
TWO_KEY = record { layout = TWELVE_BLOCKS; faults = 0; start = 5; space = TWO_TAKEN; first = None }

-- a pen at the end of the mount: it has seen all that was told
abbrev pub pen_at_end : {D : Type 0} → ℕ → PenHand D
pen_at_end core = record {
  table = record { id = SOME_TABLE; given = TWO_KEY; measure = 0 };
  view = record {
    gathers = false;
    gone = false;
    first = TWO_CORES;
    core = core;
    seen = TURN_BY_TURN.log;
    mine = entries_by event_core core TURN_BY_TURN.log;
    held = [];
    cores = 2;
    lists = [];
    saws = [];
  };
  entries = [];
  waiting = None;
  held = [];
  spare = 0;
  room = 0;
  leads = false;
  cores = 2;
}
