use Rattle.tree_laws.specs.declared.call.Call.TheVariants as call
use Rattle.tree_laws.specs.declared.reply.Code.TheVariants as code
use Rattle.tree_laws.specs.declared.reply.Reply.TheVariants as reply
use Rattle.workers.proofs.Added.{adds_call}
use Rattle.workers.proofs.plain.serve_plainly.Goals as goal

pub returns-in-None : goal.returns-in-None
returns-in-None g c = record {
  adds = adds_call c.args.table.now (call.Fsync c.args.node) (reply.Error code.NoEntry) c.args.core.now c.stamp_fsync.new.core c.in-None.ensures;
  between = c.in-None.ensures.between;
  same = c.in-None.ensures.same;
}
