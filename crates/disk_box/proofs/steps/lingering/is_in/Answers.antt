use Rattle.disk_box.proofs.Older.{is_missed}
use Rattle.disk_box.proofs.steps.lingering.is_in.Goals as goal

pub returns-in-Err : goal.returns-in-Err
returns-in-Err c = is_missed c.args.numbers.now c.requires c.args.number c.in-Err.field-0 c.in-Err.ensures.bound c.in-Err.ensures.position
