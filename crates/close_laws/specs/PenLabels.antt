-- What cores owe beside the rules of labels, where their pens tell turn by turn at the box.
use Rattle.std.specs.Prelude.{◌≡◌, ℕ, List, flat_map, map}
use Rattle.fmt_journal.specs.declared.tx.Tx.{Tx}
use Rattle.journal_one.specs.Job.{Job}
use Rattle.journal_one.specs.Packed.{block_of, record_entry}
use Rattle.space_map.specs.Space.{GrantedNumbers}
use Rattle.disk_nodes.specs.declared.old.OldEntry.{OldEntry}
use Rattle.disk_change.specs.Written.{IsTransactionOf}
use Rattle.commit_laws.specs.CommitOfPlan.{change_planned}
use Rattle.cut_laws.specs.Rules.{IsOneOf}
use Rattle.flush_laws.specs.Volume.{Volume}
use Rattle.merge_laws.specs.Pens.{FsyncTurns}
use Rattle.book_laws.specs.Brings.{Bringing}
use Rattle.stamp_table.specs.declared.event.Event.{Event}
use Rattle.stamp_table.specs.Events.{event_core}
use Rattle.stamp_table.specs.Rule.{entries_by}
use Rattle.slot_laws.specs.declared.label.Label.{Label}
use Rattle.slot_laws.specs.Grants.{GoesAlong}
use Rattle.slot_laws.specs.Labels.{nothing_told, own_from, first_past}
use Rattle.slot_laws.specs.Laws.{IsAtRest, IsPenOf}
use Rattle.slot_laws.specs.Nodes.{no_numbers}
use Rattle.slot_laws.specs.Telling.{BoxTurn, PenTold, turn_begins, turn_empties, turn_reserves, turns_in}
use Rattle.slot_image_laws.specs.Run.{BeginWell}
use Rattle.close_laws.specs.Maps.{IsEmptyAs, IsTold, Numbered, ReservedAs, Telling, bringing_of, past_of}
use Rattle.close_laws.specs.Own.{StandBeside}
use Rattle.close_laws.specs.Beside.{BeginsLabels, TellAlong, run_told}

-- What each core told of a history its pen told turn by turn at the box.
abbrev pub PensTold : (ℕ → ℕ) → List (Event Label) → Type 0
PensTold stamps log = (core : ℕ) → PenTold stamps core (entries_by event_core core log)

-- Then the turns that they note stand beside their labels.
abbrev pub PensStandBeside : Type 0
PensStandBeside = (stamps : ℕ → ℕ) (log : List (Event Label)) → PensTold stamps log → StandBeside stamps log

-- A job is of the transaction of what an fsync brings, which gives up these numbers.
pub record IsJobBrought (one : Bringing) (job : Job) (numbers : GrantedNumbers) : Type 0 where
  pub tx : Tx
  pub is : IsTransactionOf (change_planned one.plan) one.grant tx
  pub entries : job.entries ≡ map record_entry tx.records.items
  pub fresh : job.fresh ≡ map block_of tx.fresh.items
  pub inodes : tx.freed_inodes.items ≡ numbers.inodes
  pub blocks : tx.freed_blocks.items ≡ numbers.blocks

-- What is told in one turn at the box is of what commits bring: a number is reserved for the commit that its core made, with a grant that is as much as it
-- needs; a commit begins with the job of its transaction; and one that wrote nothing gives nothing.
abbrev pub TurnFits : Numbered → BoxTurn → Type 0
TurnFits named (turn_reserves number seen grant turn) = ReservedAs named number seen.items grant
TurnFits named (turn_empties number seen cut opened durable) = ReservedAs named number seen.items no_numbers × IsEmptyAs (bringing_of named number)
TurnFits named (turn_begins filling number node stamp blocks inodes) =
    IsJobBrought (bringing_of named number) filling.job (record { inodes = inodes.items; blocks = blocks.items })
TurnFits named _ = Unit {0}

-- Free space has gone along a history, its pens told it turn by turn, and each of their turns is of what commits bring.
pub record PensTell (named : Numbered) (told : Telling) : Type 0 where
  pub along : GoesAlong told.layout told.before told.moment told.log told.first told.now
  pub pens : PensTold named.stamps told.log
  pub fit : (core : ℕ) (one : BoxTurn) → IsOneOf (pens core).turns one → TurnFits named one

-- So it is told beside what commits bring.
abbrev pub PensTellLabels : Type 0
PensTellLabels = (named : Numbered) (told : Telling) → PensTell named told → IsTold named told

-- A core at rest and its pen have the same turns, where those that it told at the box are the pen's.
abbrev pub PensHaveTurns : Type 0
PensHaveTurns = (stamps : ℕ → ℕ) (core : ℕ) (log : List (Event Label)) (fsyncs : List FsyncTurns) (pen : PenTold stamps core (entries_by event_core core log))
    → IsAtRest (own_from (entries_by event_core core log) nothing_told) → turns_in pen.turns ≡ flat_map (λ one. one.turns) fsyncs → IsPenOf core log fsyncs

-- Where cores also tell of their pairs, each commit begins where it may.
pub record PensTellBeside (start : Volume) (entries : List OldEntry) (named : Numbered) (told : Telling) : Type 0 where
  pub pens : PensTell named told
  pub begins : BeginsLabels told.layout start entries told.first
  pub tell : TellAlong told.layout start named told.log (first_past told.moment)

abbrev pub PensBeginWell : Type 0
PensBeginWell = (start : Volume) (entries : List OldEntry) (named : Numbered) (told : Telling) → PensTellBeside start entries named told
    → BeginWell (run_told start named told) (past_of told)
