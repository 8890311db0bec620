use Rattle.std.proofs.Common.{arith, refl, sym}
use Rattle.sfs_base.proofs.BasicOptions.{on_err}
use Rattle.mount.proofs.Ran.{RunsOne, front_more, front_part, no_phase_made}
use Rattle.mount.proofs.running.run_phases.Goals as goal

pub loop-phase-init : goal.loop-phase-init
loop-phase-init g c = record {
  count = refl;
  workers = c.requires.workers;
  made = no_phase_made c.args.volume.now.table.first c.args.workers.now c.requires.none;
}

pub loop-phase-preserved : goal.loop-phase-preserved
loop-phase-preserved g c =
    let ran = c.in_ok-run_phase.ensures in
    let run : RunsOne c.args.volume.now c.args.phases.now c.args.workers.now c.loop-phase.workers c.run_phase.new.workers c.loop-phase.phase-index
    c.phase-item.result ran.each.0 = record {
      front = c.loop-phase.invariant;
      low = omega arith;
      there = c.phase-item.is;
      within = c.requires.within;
      cores = c.requires.volume.table_cores;
      workers = ran.workers;
      count = ran.count;
      each = ran.each.1;
    } in
    front_more c.args.volume.now c.args.phases.now c.args.workers.now c.loop-phase.workers c.run_phase.new.workers c.loop-phase.phase-index
    c.phase-item.result ran.each.0 run (sym ran.refused)

pub returns-in_err-run_phase-clause-err : goal.returns-in_err-run_phase-clause-err
returns-in_err-run_phase-clause-err g c =
    let ran = c.in_err-run_phase.ensures in
    let run : RunsOne c.args.volume.now c.args.phases.now c.args.workers.now c.loop-phase.workers c.run_phase.new.workers c.loop-phase.phase-index
    c.phase-item.result ran.each.0 = record {
      front = c.loop-phase.invariant;
      low = omega arith;
      there = c.phase-item.is;
      within = c.requires.within;
      cores = c.requires.volume.table_cores;
      workers = ran.workers;
      count = ran.count;
      each = ran.each.1;
    } in
    on_err c.from_residual.result
    (front_part c.args.volume.now c.args.phases.now c.args.workers.now c.loop-phase.workers c.run_phase.new.workers c.loop-phase.phase-index
    c.phase-item.result ran.each.0 run)
