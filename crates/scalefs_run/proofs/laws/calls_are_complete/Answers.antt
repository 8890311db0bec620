use Rattle.scalefs_run.proofs.Complete.{runs_are_complete, makings_are_complete, showings_are_complete}
use Rattle.scalefs_run.proofs.Telling.{checks_are_complete, verdicts_are_complete}
use Rattle.scalefs_run.proofs.laws.calls_are_complete.Goals as goal

pub returns : goal.returns
returns g c = record {
  runs = runs_are_complete _ _;
  makings = makings_are_complete _ _;
  showings = showings_are_complete _ _;
  checks = checks_are_complete _ _;
  verdicts = verdicts_are_complete _ _;
}
