use Rattle.std.proofs.Common.{refl}
use Rattle.flush_core.specs.Named.{StandsInDirectory}
use Rattle.flush_core.proofs.Gathered.{gather_none, gather_more, gather_all}
use Rattle.flush_core.proofs.named.add_changed.Goals as goal

pub loop-change-preserved : goal.loop-change-preserved
loop-change-preserved c =
    gather_more StandsInDirectory c.args.changes.now c.loop-change.change-index c.change-item.result c.change-item.result c.args.directories.now
    c.loop-change.directories c.add_directory.new.directories c.loop-change-test.true c.change-item.is c.loop-change.invariant c.in_ok-add_directory.ensures

pub returns : goal.returns
returns c =
    gather_all StandsInDirectory c.args.changes.now c.loop-change.change-index c.args.directories.now c.loop-change.directories c.loop-change-test.false
    c.loop-change.invariant

pub loop-change-init : goal.loop-change-init
loop-change-init c = gather_none StandsInDirectory c.args.changes.now c.args.directories.now c.args.directories.now (λ node. refl)
