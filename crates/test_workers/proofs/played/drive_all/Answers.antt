use Rattle.std.proofs.Common.{ℕ, ◌<◌, refl, arith}
use Rattle.std.specs.Prelude.{slice_index_or}
use Rattle.script.specs.Ready.{LinesMayRun}
use Rattle.workers.proofs.Added.{same_after}
use Rattle.test_workers.proofs.Crews.{each_of}
use Rattle.test_workers.proofs.played.drive_all.Goals as goal

pub drive_plainly-requires-clause-ready : goal.drive_plainly-requires-clause-ready
drive_plainly-requires-clause-ready g c κs within =
    each_of LinesMayRun c.args.phases.now c.loop-phase.phase-index c.phase-item.result c.loop-phase-test.true c.phase-item.is c.requires.ready
