use Rattle.std.proofs.Common.{get_or, refl}
use Rattle.flush_core.specs.Named.{IsChildIn}
use Rattle.flush_core.proofs.Gathered.{gather_none, gather_more, gather_alone}
use Rattle.flush_core.proofs.named.children_in.Goals as goal

pub loop-directory-preserved : goal.loop-directory-preserved
loop-directory-preserved c =
    gather_more (IsChildIn c.args.first.now c.args.changes.now c.args.cut.now) c.args.directories.now c.loop-directory.directory-index 0
    (get_or c.args.directories.now c.loop-directory.directory-index 0) c.new-named.result c.loop-directory.named c.add_children_in.new.named
    c.loop-directory-test.true refl c.loop-directory.invariant c.in_ok-add_children_in.ensures

pub loop-directory-init : goal.loop-directory-init
loop-directory-init c =
    gather_none (IsChildIn c.args.first.now c.args.changes.now c.args.cut.now) c.args.directories.now c.new-named.result c.new-named.result (λ node. refl)

pub returns : goal.returns
returns c =
    gather_alone
    (IsChildIn c.args.first.now c.args.changes.now c.args.cut.now) c.args.directories.now c.loop-directory.directory-index c.new-named.result
    c.loop-directory.named c.loop-directory-test.false c.new-named.ensures c.loop-directory.invariant
