-- The laws of the example, each of which a function of the module laws proves.
use Rattle.std.specs.Prelude.{[]}
use Rattle.turn_laws.specs.Recorded.{IsRecorded}
use Rattle.turn_ties.specs.Plans.{image_held}
use Rattle.merge_laws.specs.Worked.{TWO_CORES, BOTH_HISTORY, BOTH_TURNS, BOTH_PENS}
use Rattle.book_laws.specs.WalkLaws.{AgreesWithBooks}
use Rattle.book_laws.specs.Walk.{FitsRecord}
use Rattle.book_laws.specs.Worked.{TwoReserve}
use Rattle.reserve_laws.specs.Fits.{CoresTell}
use Rattle.reserve_laws.specs.Looks.{CoreTells, ServesPair}
use Rattle.example_laws.specs.Image.{TWO_DIRECTORIES}
use Rattle.example_laws.specs.Map.{TWO_MAPPED}
use Rattle.example_laws.specs.Fsyncs.{Flushing, FIRST_FLUSH, SECOND_FLUSH, sources_by, pair_by, TWO_KEPT}

-- The core of an fsync tells so of its pair beside the first volume, and its grant serves its plan.
pub record TellsOf (flushing : Flushing) : Type 0 where
  pub tells : CoreTells TWO_DIRECTORIES [] (pair_by flushing) (sources_by flushing)
  pub serves : ServesPair TWO_DIRECTORIES (pair_by flushing)

-- Both cores do, and tell what they do along the worked record of both, with a map that goes along it; so the record fits what its books are kept from; both
-- fsyncs reserve with the first volume, one behind the other; the record agrees with the books; and its turns are recorded.
pub record AreTwoCores : Type 0 where
  pub first : TellsOf FIRST_FLUSH
  pub second : TellsOf SECOND_FLUSH
  pub told : CoresTell TWO_MAPPED BOTH_TURNS
  pub fits : FitsRecord TWO_KEPT BOTH_TURNS
  pub reserve : TwoReserve TWO_KEPT
  pub agrees : AgreesWithBooks TWO_KEPT 0 0 0 BOTH_TURNS BOTH_PENS
  pub recorded : IsRecorded TWO_CORES BOTH_HISTORY (image_held TWO_DIRECTORIES) 0 0 BOTH_TURNS
