-- A longer worked history: a durable commit lingers in its slot while a later one gives up its fresh block and a third one writes there; then it is
-- placed and its slot is shut. Beside it goes a map of two blocks and two inodes.
use Rattle.std.specs.Prelude.{◌∷◌, ◌++◌, ℕ, List, [], true}
use Rattle.journal_one.specs.declared.slot.Filling.{Filling}
use Rattle.space_map.specs.declared.status.Status.{Status}
use Rattle.space_map.specs.Pool.{Pool}
use Rattle.space_map.specs.Space.{Space}
use Rattle.space_map.specs.declared.status.Status.TheVariants.{Free, Granted, Taken}
use Rattle.tree_laws.specs.declared.turns.TurnAct.{TurnAct}
use Rattle.tree_laws.specs.declared.turns.Turn.{Turn}
use Rattle.tree_laws.specs.declared.turns.TurnAct.TheVariants as act
use Rattle.stamp_table.specs.declared.event.Event.{Event}
use Rattle.slot_laws.specs.declared.label.Label.{Label}
use Rattle.slot_laws.specs.Worked.{other_hold, seen_one, one_block, list_of_one, list_of_none, own_hold, BeginsIn, both_reserve, own_begins, other_begins, both_fill, both_land, TWO_RINGS}
use Rattle.slot_laws.specs.declared.label.Label.TheVariants as label
use Rattle.slot_laws.specs.Grants.{GoesAlong}

-- the turns of the later commit of the first one's node, and of one of another node that takes the block
abbrev pub third_turn : ℕ → TurnAct → Turn
third_turn now did = record {
  core = record { 0 = 1 };
  node = record { 0 = 1 };
  stamp = record { 0 = 2 };
  commit = 3;
  now = now;
  faults = 0;
  act = did;
}

abbrev pub fourth_turn : ℕ → TurnAct → Turn
fourth_turn now did = record {
  core = record { 0 = 0 };
  node = record { 0 = 2 };
  stamp = record { 0 = 3 };
  commit = 4;
  now = now;
  faults = 0;
  act = did;
}

-- the later commit reserves, having seen the first one end, begins in the other core's second slot, and gives up the first one's block
abbrev pub later_reserves : List (Event Label)
later_reserves =
    other_hold (label.Took ∷ label.Reserved 3 (seen_one 1 1) (one_block 1) ∷ label.Noted (third_turn 5 act.Granted) ∷ [])

abbrev pub later_begins : Filling → List (Event Label)
later_begins later =
    other_hold (label.Took ∷ label.Began later 3 (record { 0 = 1 }) (record { 0 = 2 }) (list_of_one 0) list_of_none ∷ [])

-- it is durable, and the block is free
abbrev pub later_lands : List (Event Label)
later_lands =
    other_hold
    (label.Took
    ∷ label.Filled 3 0 true
    ∷ label.Filled 3 1 true
    ∷ label.Filled 3 2 true
    ∷ label.Filled 3 3 true
    ∷ label.Synced 6
    ∷ label.Opened 3 true (third_turn 7 act.CutAt) (third_turn 7 act.Opened)
    ∷ label.Synced 8 ∷ label.Settled 3 (third_turn 8 act.Durable) ∷ label.Learned (third_turn 8 act.Durable) ∷ [])

-- the last one is granted the block, and writes there
abbrev pub last_reserves : List (Event Label)
last_reserves =
    own_hold (label.Took ∷ label.Reserved 4 (seen_one 2 0) (one_block 0) ∷ label.Noted (fourth_turn 8 act.Granted) ∷ [])

abbrev pub last_begins : Filling → List (Event Label)
last_begins last = own_hold (label.Took ∷ label.Began last 4 (record { 0 = 2 }) (record { 0 = 3 }) list_of_none list_of_none ∷ [])

abbrev pub last_writes : List (Event Label)
last_writes = own_hold (label.Took ∷ label.Filled 1 0 true ∷ [])

-- the first one's record is placed, and its slot is idle again
abbrev pub first_goes_home : List (Event Label)
first_goes_home = own_hold (label.Took ∷ label.Placed 0 0 true ∷ label.Synced 9 ∷ label.Shut 0 true ∷ label.Synced 10 ∷ label.Idled 0 ∷ [])

-- the four commits
pub record WorkedCommits : Type 0 where
  pub own : Filling
  pub other : Filling
  pub later : Filling
  pub last : Filling

-- each begins in its slot with its stamp and has its fresh blocks
pub record AreWorked (all : WorkedCommits) : Type 0 where
  pub own : BeginsIn all.own 0 1 (0 ∷ [])
  pub other : BeginsIn all.other 2 2 []
  pub later : BeginsIn all.later 3 3 (1 ∷ [])
  pub last : BeginsIn all.last 1 4 (0 ∷ [])

-- the history up to where the first slot still lingers, over a block that is written by another; and to where it is idle again
abbrev pub both_end : WorkedCommits → List (Event Label)
both_end all = both_reserve ++ own_begins all.own ++ other_begins all.other ++ both_fill ++ both_land

abbrev pub block_moves : WorkedCommits → List (Event Label)
block_moves all = later_reserves ++ later_begins all.later ++ later_lands ++ last_reserves ++ last_begins all.last ++ last_writes

abbrev pub longer_log : WorkedCommits → List (Event Label)
longer_log all = both_end all ++ block_moves all ++ first_goes_home

-- two numbers of one kind, with their statuses
abbrev pub two_numbers : Status → Status → Pool
two_numbers one two = record { first = 0; statuses = one ∷ two ∷ [] }

-- the map before the history, and behind it
abbrev pub FREE_MAP : Space
FREE_MAP = record { blocks = two_numbers Free Free; inodes = two_numbers Free Free }

abbrev pub LAST_MAP : Space
LAST_MAP = record { blocks = two_numbers Granted Taken; inodes = two_numbers Taken Free }

-- The history may be told, and the map goes along it.
abbrev pub LingeringSlotsCanBeMet : Type 0
LingeringSlotsCanBeMet = (all : WorkedCommits) → AreWorked all → GoesAlong TWO_RINGS 0 0 (longer_log all) FREE_MAP LAST_MAP
