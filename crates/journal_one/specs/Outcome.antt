-- What a write of many leads to.
use Rattle.std.specs.Prelude.{◌≡◌, ◌<◌}
use Rattle.journal_one.specs.Stage.{Stage, left_to_fill, left_to_place, next_stage}
use Rattle.journal_one.specs.declared.slot.Fill.{Fill}
use Rattle.journal_one.specs.declared.slot.Fill.TheVariants.{More, Done}
use Rattle.journal_one.specs.declared.slot.Put.{Put}
use Rattle.journal_one.specs.declared.slot.Put.TheVariants.{More as MoreToPlace, Done as AllPlaced}

-- More comes with writes to come, of which there is one less; Done comes with the last.
abbrev pub FillsOn : Stage → Fill → Type 0
FillsOn stage (More next) = (next ≡ next_stage stage) × (1 < left_to_fill stage)
FillsOn stage (Done filled) = (filled ≡ stage.job) × (left_to_fill stage ≡ 1)

-- The same of the records that are placed.
abbrev pub PlacesOn : Stage → Put → Type 0
PlacesOn stage (MoreToPlace next) = (next ≡ next_stage stage) × (1 < left_to_place stage)
PlacesOn stage (AllPlaced placed) = (placed ≡ stage.job) × (left_to_place stage ≡ 1)
