use Rattle.disk_box.proofs.NextOldest.{oldest_may_place}
use Rattle.disk_box.proofs.steps.stepping.step_oldest.Goals as goal

pub place_one-requires-clause-oldest : goal.place_one-requires-clause-oldest
place_one-requires-clause-oldest g c κs within slot there =
    oldest_may_place g.D.Disk.view c.args.table.now c.args.pen.now c.args.desk.now c.args.k c.requires.work c.in-Durable.ensures slot there
    c.requires.oldest
