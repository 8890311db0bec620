use Rattle.mem_calls.specs.Table.{nodes_of}
use Rattle.flush_agrees.specs.Laws.{FlushPlace}
use Rattle.flush_agrees.proofs.Growing.{agreeing_cores_tell}
use Rattle.mount.proofs.Agreeing.{served_agrees, site_at}
use Rattle.mount.proofs.flushing.serve.Goals as goal

pub flush-requires-clause-site : goal.flush-requires-clause-site
flush-requires-clause-site g c κs within =
    let site = c.args.site.now in
    site_at site.table.now site.set.now site.cores c.args.pen.now c.requires.site c.requires.may.agree.ready

pub flush-requires-clause-agree : goal.flush-requires-clause-agree
flush-requires-clause-agree g c κs within =
    let agree = c.requires.may.agree in
    agreeing_cores_tell g.row.D.Denot c.args.site.now.table.now c.args.core.now c.args.pen.now agree.fsyncs agree.agree

pub returns : goal.returns
returns g c =
    let site = c.args.site.now in
    let flushed = c.flush.ensures in
    let at : FlushPlace g.row.D.Denot = record {
      t = site.table.now;
      nodes = nodes_of site.table.now;
      cores = site.cores;
      node = c.args.node;
      before = c.args.core.now;
      after = c.flush.new.core;
      pen = c.args.pen.now;
      done = c.flush.new.pen;
    } in
    record {
      adds = flushed.answers.adds;
      between = flushed.answers.between;
      same = flushed.answers.same;
      agree = served_agrees site.set.now at c.flush.result
          (site_at site.table.now site.set.now site.cores c.args.pen.now c.requires.site c.requires.may.agree.ready) c.requires.site.few c.requires.may.agree
          (record { answers = flushed.answers; ready = flushed.ready; goes = flushed.goes; comes = flushed.comes });
    }
