use Rattle.script.proofs.ReadyLemmas.{phases_may}
use Rattle.bench_spool.proofs.spools.phases_in.Goals as goal

pub returns-in-Ok : goal.returns-in-Ok
returns-in-Ok g = phases_may g.as_bytes.result.now g.in-Ok.script g.in-Ok.ensures.ok
