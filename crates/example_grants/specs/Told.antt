-- Two cores tell labels of a disk on which each commit writes a record and a block through its own journal slot.
use Rattle.std.specs.Prelude.{◌≡◌, ◌==◌, ◌∷◌, ◌++◌, if◌then◌else◌, ℕ, List, [], true}
use Rattle.sfs_image.specs.Bytes.{zeros}
use Rattle.sfs_image.specs.Inode.{inode_bytes}
use Rattle.space_map.specs.declared.status.Status.TheVariants.{Taken}
use Rattle.journal_one.specs.Job.{Job}
use Rattle.tree_laws.specs.declared.turns.TurnAct.TheVariants as act
use Rattle.stamp_table.specs.declared.event.Event.{Event}
use Rattle.slot_laws.specs.declared.label.Label.{Label}
use Rattle.slot_laws.specs.declared.label.Label.TheVariants as label
use Rattle.slot_laws.specs.Slots.{place_at}
use Rattle.slot_laws.specs.Worked.{own_hold, other_hold, seen_one, list_of_none}
use Rattle.close_laws.specs.Maps.{Numbered, Telling, past_of}
use Rattle.close_laws.specs.Beside.{IsToldBeside}
use Rattle.close_laws.specs.Close.{PensAgree}
use Rattle.example_grants.specs.Image.{FIFTEEN_BLOCKS, TWO_FILES, file_inode}
use Rattle.example_grants.specs.Fsyncs.{Writer, OWN, OTHER, ENTRIES, grant_by, FILES_KEPT}
use Rattle.example_grants.specs.Map.{FIRST_MAP, map_with}
use Rattle.example_grants.specs.Turns.{own_act, other_act, FILES_TURNS, FILES_PENS}

-- the job of a commit through a slot, with a commit stamp: the file's record, and the block
abbrev pub job_by : Writer → ℕ → ℕ → Job
job_by writer slot stamp = record {
  place = place_at FIFTEEN_BLOCKS slot;
  stamp = stamp;
  entries = record { inode = writer.file; bytes = inode_bytes (file_inode 1 writer.block) } ∷ [];
  fresh = record { block = writer.block; bytes = writer.byte ∷ zeros 4095 } ∷ [];
}

-- each core has one slot, and the second core's commit begins first
abbrev pub OWN_JOB : Job
OWN_JOB = job_by OWN 0 2

abbrev pub OTHER_JOB : Job
OTHER_JOB = job_by OTHER 1 1

-- both reserve
abbrev pub RESERVE : List (Event Label)
RESERVE =
    own_hold (label.Took ∷ label.Reserved 1 (seen_one 1 0) (grant_by OWN) ∷ label.Noted (own_act 0 act.Granted) ∷ [])
    ++ other_hold (label.Took ∷ label.Reserved 2 (seen_one 2 0) (grant_by OTHER) ∷ label.Noted (other_act 0 act.Granted) ∷ [])

-- both begin
abbrev pub BEGIN : List (Event Label)
BEGIN =
    other_hold
    (label.Took ∷ label.Began (record { job = OTHER_JOB; done = 0 }) 2 (record { 0 = 2 }) (record { 0 = 3 }) list_of_none list_of_none ∷ [])
    ++ own_hold
    (label.Took ∷ label.Began (record { job = OWN_JOB; done = 0 }) 1 (record { 0 = 1 }) (record { 0 = 2 }) list_of_none list_of_none ∷ [])

-- both fill their slots, with four device calls each, and the ninth call syncs the disk
abbrev pub FILL : List (Event Label)
FILL =
    other_hold (label.Took ∷ label.Filled 1 0 true ∷ label.Filled 1 1 true ∷ label.Filled 1 2 true ∷ label.Filled 1 3 true ∷ [])
    ++ own_hold
    (label.Took
    ∷ label.Filled 0 0 true ∷ label.Filled 0 1 true ∷ label.Filled 0 2 true ∷ label.Filled 0 3 true ∷ label.Synced 9 ∷ [])

-- both gates are opened, and so both commits are aloft
abbrev pub OPEN : List (Event Label)
OPEN =
    other_hold (label.Took ∷ label.Opened 1 true (other_act 10 act.CutAt) (other_act 10 act.Opened) ∷ [])
    ++ own_hold (label.Took ∷ label.Opened 0 true (own_act 11 act.CutAt) (own_act 11 act.Opened) ∷ [])

-- the second core's commit is durable at the twelfth device call, and the first one's at the thirteenth
abbrev pub LAND : List (Event Label)
LAND =
    other_hold
    (label.Took ∷ label.Synced 12 ∷ label.Settled 1 (other_act 12 act.Durable) ∷ label.Learned (other_act 12 act.Durable) ∷ [])
    ++ own_hold
    (label.Took ∷ label.Synced 13 ∷ label.Settled 0 (own_act 13 act.Durable) ∷ label.Learned (own_act 13 act.Durable) ∷ [])

-- the first core's commit has number 1, and the second one's number 2
abbrev pub FILES_NUMBERED : Numbered
FILES_NUMBERED = record { pairs = FILES_KEPT.pairs; stamps = λ number. if number == 1 then 2 else 3 }

-- their history, along which the map of free space loses both blocks
abbrev pub FILES_TOLD : Telling
FILES_TOLD = record {
  layout = FIFTEEN_BLOCKS;
  before = 0;
  moment = 0;
  log = RESERVE ++ (BEGIN ++ (FILL ++ (OPEN ++ LAND)));
  first = FIRST_MAP;
  now = map_with Taken Taken;
}

-- The labels are told beside what the two commits bring, their turns are those of the record, and both pens agree.
pub record WritersTellLabels : Type 0 where
  pub labels : IsToldBeside TWO_FILES ENTRIES FILES_NUMBERED FILES_TOLD
  pub turns : (past_of FILES_TOLD).turns ≡ FILES_TURNS
  pub pens : PensAgree TWO_FILES FILES_TOLD FILES_PENS
