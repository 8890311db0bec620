-- A legal text is told of.
use Rattle.sfs_base.specs.Ends.{HasRisen}
use Rattle.scalefs_run.proofs.Checking.{legal_ends}
use Rattle.scalefs_run.proofs.checked.check_over.Goals as goal

pub returns-in-Ok : goal.returns-in-Ok
returns-in-Ok g c =
    let sink = c.args.sink.now in
    let last = c.write_legal.new.sink in
    legal_ends c.args.tree c.args.text.now c.in-Ok.count (HasRisen (g.K.Sink.faults sink) (g.K.Sink.faults last)) (g.K.Sink.written sink)
    (g.K.Sink.written last) c.write_legal.result c.in-Ok.ensures.ok c.write_legal.ensures.status c.write_legal.ensures.text
