use Rattle.std.specs.Prelude.{Some}
use Rattle.fsync_dir.proofs.Told.{fact_of}
use Rattle.fsync_dir.proofs.ending.end_landed.Given as goal

abbrev pub ghosts-finish : goal.ghosts-finish
ghosts-finish g a = record { fact = Some (fact_of a.ending) }
