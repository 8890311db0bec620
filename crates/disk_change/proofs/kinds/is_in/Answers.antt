use Rattle.disk_change.proofs.Blocks.{node_missed}
use Rattle.disk_change.proofs.kinds.is_in.Goals as goal

pub returns-in-Err : goal.returns-in-Err
returns-in-Err c = node_missed c.args.numbers.now c.requires c.args.number c.in-Err.field-0 c.in-Err.ensures.bound c.in-Err.ensures.position
