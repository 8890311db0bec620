-- What is taken behind the phases leaves the entries as they are.
use Rattle.mount.specs.Phases.{own_of}
use Rattle.scalefs_run.proofs.Ending.{made_still, so_far_still}
use Rattle.scalefs_run.proofs.running.run_on.Goals as goal

pub returns-clause-ok : goal.returns-clause-ok
returns-clause-ok g c =
    made_still c.run_phases-ended.result c.args.volume.now.table.first (own_of c.run_phases-ended.new.workers) (own_of c.end_of-ending.new.workers)
    c.args.phases.now c.end_of-ending.ensures.entries c.run_phases-ended.ensures.ok

pub returns-clause-err : goal.returns-clause-err
returns-clause-err g c =
    so_far_still c.run_phases-ended.result c.args.volume.now.table.first (own_of c.run_phases-ended.new.workers) (own_of c.end_of-ending.new.workers)
    c.args.phases.now c.end_of-ending.ensures.entries c.run_phases-ended.ensures.err
