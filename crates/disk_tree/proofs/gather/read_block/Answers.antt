use Rattle.std.proofs.Common.{◌*◌, arith}
use Rattle.disk_tree.proofs.TablesRead.{block_given}
use Rattle.disk_tree.proofs.gather.read_block.Goals as goal

pub returns-clause-ok : goal.returns-clause-ok
returns-clause-ok g c =
    block_given _ c.args.pointer (4096 * c.from.result) c.read_at.new.into (omega arith) (omega (arith, c.read_at.auto.into))
    (omega arith) c.in_ok-read_at.ensures.ok
