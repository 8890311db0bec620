use Rattle.image_verdict.specs.Verdicts.{part, whole}
use Rattle.image_verdict.proofs.judging.write_text.Goals as goal

pub returns-in-Ok : goal.returns-in-Ok
returns-in-Ok g c = whole c.in-Ok.ensures.ok

pub returns-in-Err : goal.returns-in-Err
returns-in-Err g c = part c.in-Err.field-0.taken c.in-Err.ensures.err.0 c.in-Err.ensures.err.1 c.in-Err.ensures.cause
