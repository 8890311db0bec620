-- A worked history of two cores with two slots each: their commits go side by side, one sync makes both durable, and the older one is placed and
-- its slot shut while the other lingers.
use Rattle.std.specs.Prelude.{◌≡◌, ◌∷◌, ◌++◌, ◌+◌, ℕ, true, List, [], length, map}
use Rattle.sfs_base.specs.Lists.{Roomy}
use Rattle.sfs_image.specs.Super.{Layout}
use Rattle.journal_one.specs.Job.{IsJob, fill_count}
use Rattle.journal_one.specs.declared.slot.Filling.{Filling}
use Rattle.space_map.specs.Space.{GrantedNumbers}
use Rattle.tree_laws.specs.declared.turns.Turn.{Turn}
use Rattle.tree_laws.specs.declared.turns.TurnAct.TheVariants as act
use Rattle.merge_laws.specs.Worked.{own_turn, other_turn}
use Rattle.stamp_table.specs.declared.event.Event.{Event}
use Rattle.stamp_table.specs.declared.event.Event.TheVariants.{Told}
use Rattle.stamp_table.specs.Events.{event_core}
use Rattle.stamp_table.specs.Rule.{entries_by}
use Rattle.slot_laws.specs.Rings.{ShareInode, BeginApart}
use Rattle.slot_laws.specs.declared.label.Label.{Label}
use Rattle.slot_laws.specs.declared.label.Label.TheVariants as label
use Rattle.slot_laws.specs.Slots.{place_at}
use Rattle.slot_laws.specs.Labels.{nothing_told, first_past, past_from, own_from}
use Rattle.slot_laws.specs.Rules.{MayFrom}
use Rattle.slot_laws.specs.Laws.{IsAtRest}
use Rattle.slot_laws.specs.declared.label.Seen.{Seen}

-- two cores with two slots each: slots 0 and 1 are the first core's
abbrev pub TWO_RINGS : Layout
TWO_RINGS = record { blocks = 64; inodes = 8; cores = 2; slots = 2 }

-- A commit of one record, with these fresh blocks, that begins in a slot with a stamp.
pub record BeginsIn (filling : Filling) (k drawn : ℕ) (blocks : List ℕ) : Type 0 where
  pub place : filling.job.place ≡ place_at TWO_RINGS k
  pub stamp : filling.job.stamp ≡ drawn
  pub is : IsJob filling.job
  pub pieces : fill_count filling.job ≡ length blocks + 3
  pub writes : map (λ one. one.block) filling.job.fresh ≡ blocks
  pub one : length filling.job.entries ≡ 1

-- what each core tells while it has the box
abbrev pub own_hold : List Label → List (Event Label)
own_hold [] = Told (record { 0 = 0 }) label.Gave ∷ []
own_hold (fact ∷ facts) = Told (record { 0 = 0 }) fact ∷ own_hold facts

abbrev pub other_hold : List Label → List (Event Label)
other_hold [] = Told (record { 0 = 1 }) label.Gave ∷ []
other_hold (fact ∷ facts) = Told (record { 0 = 1 }) fact ∷ other_hold facts

-- one node was seen, with the number of its last commit
abbrev pub seen_one : ℕ → ℕ → Roomy Seen
seen_one node last = record { items = record { node = record { 0 = node }; last = last } ∷ []; spare = 0 }

-- one block, or one inode, granted or given up
abbrev pub one_block : ℕ → GrantedNumbers
one_block block = record { inodes = []; blocks = block ∷ [] }

abbrev pub one_inode : ℕ → GrantedNumbers
one_inode inode = record { inodes = inode ∷ []; blocks = [] }

abbrev pub list_of_one : ℕ → Roomy ℕ
list_of_one number = record { items = number ∷ []; spare = 0 }

abbrev pub list_of_none : Roomy ℕ
list_of_none = record { items = []; spare = 0 }

-- both reserve
abbrev pub both_reserve : List (Event Label)
both_reserve =
    own_hold (label.Took ∷ label.Reserved 1 (seen_one 1 0) (one_block 0) ∷ label.Noted (own_turn 0 0 act.Granted) ∷ [])
    ++ other_hold (label.Took ∷ label.Reserved 2 (seen_one 0 0) (one_inode 0) ∷ label.Noted (other_turn 0 0 act.Granted) ∷ [])

-- both fill their slots, and one sync serves both
abbrev pub both_fill : List (Event Label)
both_fill =
    own_hold (label.Took ∷ label.Filled 0 0 true ∷ label.Filled 0 1 true ∷ label.Filled 0 2 true ∷ label.Filled 0 3 true ∷ [])
    ++ other_hold (label.Took ∷ label.Filled 2 0 true ∷ label.Filled 2 1 true ∷ label.Filled 2 2 true ∷ label.Synced 2 ∷ [])

-- both gates are opened, and one sync makes both commits durable
abbrev pub both_land : List (Event Label)
both_land =
    other_hold (label.Took ∷ label.Opened 2 true (other_turn 3 0 act.CutAt) (other_turn 3 0 act.Opened) ∷ [])
    ++ own_hold (label.Took ∷ label.Opened 0 true (own_turn 4 0 act.CutAt) (own_turn 4 0 act.Opened) ∷ [])
    ++ other_hold
    (label.Took
    ∷ label.Synced 5
    ∷ label.Settled 2 (other_turn 5 0 act.Durable)
    ∷ label.Settled 0 (own_turn 5 0 act.Durable) ∷ label.Learned (other_turn 5 0 act.Durable) ∷ [])
    ++ own_hold (label.Took ∷ label.Learned (own_turn 5 0 act.Durable) ∷ [])

-- the record of the older one is placed, and its slot is shut
abbrev pub one_goes_home : List (Event Label)
one_goes_home = own_hold (label.Took ∷ label.Placed 0 0 true ∷ label.Synced 6 ∷ label.Shut 0 true ∷ label.Synced 7 ∷ label.Idled 0 ∷ [])

-- both commits begin
abbrev pub own_begins : Filling → List (Event Label)
own_begins own = own_hold (label.Took ∷ label.Began own 1 (record { 0 = 1 }) (record { 0 = 0 }) list_of_none list_of_none ∷ [])

abbrev pub other_begins : Filling → List (Event Label)
other_begins other = other_hold (label.Took ∷ label.Began other 2 (record { 0 = 0 }) (record { 0 = 1 }) list_of_none list_of_none ∷ [])

-- the history
abbrev pub rings_log : Filling → Filling → List (Event Label)
rings_log own other = both_reserve ++ own_begins own ++ other_begins other ++ both_fill ++ both_land ++ one_goes_home

-- the record of turns behind it
abbrev pub WORKED_RECORD : List Turn
WORKED_RECORD =
    own_turn 0 0 act.Granted
    ∷ other_turn 0 0 act.Granted
    ∷ other_turn 3 0 act.CutAt
    ∷ other_turn 3 0 act.Opened
    ∷ own_turn 4 0 act.CutAt
    ∷ own_turn 4 0 act.Opened
    ∷ other_turn 5 0 act.Durable
    ∷ own_turn 5 0 act.Durable
    ∷ []

-- It may be told, its commits begin apart where they share no inode, it comes to this record, and both cores are at rest behind it.
pub record IsMetBy (own other : Filling) : Type 0 where
  pub may : MayFrom TWO_RINGS 0 (rings_log own other) (first_past 0)
  pub apart : (ShareInode own.job other.job → ⊥) → BeginApart TWO_RINGS (rings_log own other) (first_past 0)
  pub turns : (past_from TWO_RINGS (rings_log own other) (first_past 0)).turns ≡ WORKED_RECORD
  pub own_rests : IsAtRest (own_from (entries_by event_core 0 (rings_log own other)) nothing_told)
  pub other_rests : IsAtRest (own_from (entries_by event_core 1 (rings_log own other)) nothing_told)

-- So it is of each two such commits.
abbrev pub LabelsCanBeMet : Type 0
LabelsCanBeMet = (own other : Filling) → BeginsIn own 0 1 (0 ∷ []) → BeginsIn other 2 2 [] → IsMetBy own other
