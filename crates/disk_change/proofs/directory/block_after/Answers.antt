use Rattle.std.proofs.Common.{sym, ◌∙◌, reverse}
use Rattle.disk_change.proofs.Untouched.{stays_untouched}
use Rattle.disk_change.proofs.directory.block_after.Goals as goal

pub returns-then-not-is_touched : goal.returns-then-not-is_touched
returns-then-not-is_touched c =
    let stays =
    stays_untouched c.args.directories.now c.args.net.now c.args.block.now (reverse c.args.waiting.now.items)
    (sym (c.is_touched.ensures c.args.directories.now) ∙ c.if-not-is_touched.true) in
    record {
      block = sym stays.filled;
      left = sym stays.left;
      touched = sym stays.untouched;
    }

pub returns-clause-touched : goal.returns-clause-touched
returns-clause-touched c = sym c.if-not-is_touched.false ∙ c.is_touched.ensures c.args.directories.now
