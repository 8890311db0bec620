-- That what cores made for their fsyncs fits what commits bring.
use Rattle.std.specs.Prelude.{◌≡◌, ◌<◌, ◌^◌, ◌-◌, []}
use Rattle.sfs_image.specs.Super.{Layout}
use Rattle.fmt_journal.specs.declared.tx.Tx.{Tx}
use Rattle.disk_change.specs.Written.{IsTransactionOf}
use Rattle.flush_laws.specs.Volume.{Volume}
use Rattle.note_laws.specs.Run.{TableRun}
use Rattle.slot_laws.specs.Telling.{BoxTurn}
use Rattle.slot_laws.specs.Nodes.{no_numbers}
use Rattle.close_laws.specs.Maps.{Numbered, commit_numbered, bringing_of}
use Rattle.close_laws.specs.PenLabels.{TurnFits}
use Rattle.flush_agrees.specs.Made.{FlushMade, GrantsNeed, TurnMade, change_of}
use Rattle.end_laws.specs.Pairs.{CommitsMade, BringsMade}
use Rattle.made_laws.specs.Made.{MadeEitherWay}

-- What was made for a number is what commits bring under its stamp: the commit as its core made it, and the plan with its grant, in some volume.
pub record IsBroughtAs (run : TableRun) (named : Numbered) (made : FlushMade) : Type 0 where
  pub made_in : MadeEitherWay run made.making
  pub commit : CommitsMade made (commit_numbered named made.number)
  pub volume : Volume
  pub brings : BringsMade made volume (bringing_of named made.number)

-- Where what was planned has no record to write, with no grant, it gives nothing up.
abbrev pub FreesNothing : FlushMade → Type 0
FreesNothing made = (tx : Tx) → IsTransactionOf (change_of made) no_numbers tx → tx.records.items ≡ []
    → (tx.freed_inodes.items ≡ []) × (tx.freed_blocks.items ≡ [])

-- Then each turn of it at the box fits what commits bring, on a disk with no more blocks than a word counts.
abbrev pub MadesFit : Type 0
MadesFit = (run : TableRun) (layout : Layout) (named : Numbered) (made : FlushMade) (turn : BoxTurn) → IsBroughtAs run named made → GrantsNeed layout made
    → layout.blocks < 2 ^ 32 - 1 → FreesNothing made → TurnMade made turn → TurnFits named turn
