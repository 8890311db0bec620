-- What is left of a write, by cases on the drawn number.
use Rattle.std.proofs.Common.{arith}
use Rattle.sfs_dev.proofs.Draws.{torn_nothing, torn_half}
use Rattle.sfs_dev.proofs.left.tear.Goals as goal

pub returns-in-0-clause-torn : goal.returns-in-0-clause-torn
returns-in-0-clause-torn c = torn_nothing c.args.number c.args.at c.args.new.now c.args.bytes.now.items c.in-0.is c.requires

pub returns-in_default-clause-torn : goal.returns-in_default-clause-torn
returns-in_default-clause-torn c =
    rw (c.spoil.ensures, c.put_at-in_default.ensures)
    (torn_half c.args.number c.args.at c.args.new.now c.args.bytes.now.items (omega arith) (omega arith) c.requires)
