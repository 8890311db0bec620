use Rattle.std.proofs.Common.{◌+◌, ◌∙◌, arith}
use Rattle.disk_box.proofs.ServedAll.{all_served, served_more}
use Rattle.disk_box.proofs.SyncSteps.{count_kept, goes_both}
use Rattle.disk_box.proofs.steps.serving.serve_all.Goals as goal

pub loop-k-preserved : goal.loop-k-preserved
loop-k-preserved g c =
    let was = c.loop-k.invariant in
    record {
      serving = c.serve_one.ensures.serving;
      beside = goes_both c.args.pen.now c.loop-k.pen c.serve_one.new.pen was.beside c.serve_one.ensures.beside;
      told = served_more c.args.pen.now c.loop-k.pen c.serve_one.new.pen c.loop-k.k was.told c.serve_one.ensures.told;
      count = count_kept g.D.Disk.view c.args.table.now c.loop-k.pen c.serve_one.new.pen c.loop-k.desk c.serve_one.new.desk c.loop-k.k
          (c.loop-k.k + 1) was.serving c.serve_one.ensures.serving c.serve_one.ensures.beside ∙ was.count;
    }

pub returns-clause-told : goal.returns-clause-told
returns-clause-told g c k =
    let test = c.loop-k-test.false in
    let end = c.len-k-end.ensures in
    all_served g.D.Disk.view c.args.table.now c.args.pen.now c.loop-k.pen c.args.desk.now 0 c.loop-k.k c.requires.serving (omega (arith, test, end))
    c.loop-k.invariant.told k
