-- The status tells the verdict.
use Rattle.scalefs_run.proofs.verified.verify_image.Goals as goal

pub returns-clause-verifies : goal.returns-clause-verifies
returns-clause-verifies g c = record {
  verdict = c.write_verdict.result;
  status_is = c.status_of_verdict.ensures.is;
  given = c.write_verdict.ensures.verdict;
}
