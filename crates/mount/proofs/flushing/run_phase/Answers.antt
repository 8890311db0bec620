use Rattle.std.proofs.Common.{subst}
use Rattle.stamp_table.specs.Table.{TableState}
use Rattle.mem_values.specs.Start.{FileState}
use Rattle.disk_box.specs.declared.key.BoxKey.{BoxKey}
use Rattle.workers.specs.Works.{WorksEach}
use Rattle.mount.specs.Workers.{AgreeAt}
use Rattle.mount.proofs.Teams.{run_again}
use Rattle.mount.proofs.flushing.run_phase.Goals as goal

pub returns-clause-workers : goal.returns-clause-workers
returns-clause-workers g c =
    let site = c.site-site.ensures in
    let driven = c.run_at.ensures in
    let before = c.args.workers.now in
    let after = c.run_at.new.workers in
    run_again c.args.volume.now before c.requires.workers c.args.phase.now driven.each.0 after driven.count
    (subst (λ (z : FileState × TableState (BoxKey _)). WorksEach z.0 (AgreeAt z.0 z.1) c.args.phase.now driven.each.0 before after)
    (λ i. (site.table i, site.set i)) driven.each.1)
