use Rattle.std.proofs.Common.{◌≡◌, ◌∙◌, sym, subst}
use Rattle.tree_laws.specs.declared.call.Call.TheVariants as call
use Rattle.mem_calls.specs.Outcome.{IsAnswered}
use Rattle.mem_calls.proofs.AnsweredOn.{answered_on}
use Rattle.mem_calls.proofs.Statuses.{still_node}
use Rattle.mem_calls.proofs.status.stat.Goals as goal

pub stat_in-answer-requires-clause-held : goal.stat_in-answer-requires-clause-held
stat_in-answer-requires-clause-held g c =
    still_node c.nodes-nodes.result c.hold_node.new.core c.hold_part.new.core c.args.node c.hold_part.ensures.still c.hold_node.ensures.node

pub returns : goal.returns
returns g c =
    let t = c.args.table.now in
    let asked = call.Stat c.args.node in
    let same : c.reply.result ≡ c.reply-2.result = c.reply.ensures ∙ sym c.reply-2.ensures in
    let answered : IsAnswered t asked c.reply.result c.hold_part.new.core c.finish.new.core = rw c.shared-shared.ensures at c.finish.ensures in
    subst (λ reply. IsAnswered t asked reply c.args.core.now c.finish.new.core) same
    (answered_on t asked c.reply.result c.args.core.now c.hold_node.new.core c.finish.new.core c.hold_node.ensures.on
    (answered_on t asked c.reply.result c.hold_node.new.core c.hold_part.new.core c.finish.new.core c.hold_part.ensures.on answered))
