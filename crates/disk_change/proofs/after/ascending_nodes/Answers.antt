use Rattle.std.proofs.Common.{◌≡◌, map, sym, ap, ◌∙◌}
use Rattle.std.proofs.lemmas.Iterator.Adapters.{YieldsList-from_vec}
use Rattle.std.proofs.lemmas.Iterator.Consumers.{YieldsList-end}
use Rattle.std.proofs.lemmas.Result.{IfOk-weaker}
use Rattle.disk_change.proofs.Directories.{map_itself}
use Rattle.disk_change.specs.Lists.{ascending_by, put_over}
use Rattle.disk_change.specs.Parts.{parts_keyed, parts_node}
use Rattle.disk_change.proofs.Ascending.{ascending_last}
use Rattle.disk_change.proofs.after.ascending_nodes.Goals as goal

pub loop-node-preserved : goal.loop-node-preserved
loop-node-preserved c =
    c.in_ok-put_built.ensures ∙ ap (put_over parts_node c.in-Some.node) c.loop-node.invariant
    ∙ sym (ascending_last parts_node c.loop-node.yielded c.in-Some.node)

pub returns-clause-items : goal.returns-clause-items
returns-clause-items c =
    let gives = c.into_iter-node-iterator.ensures.into_iter_gives in
    let end =
    YieldsList-end
    (YieldsList-from_vec c.args.nodes.items gives.0 (gives.1 ∙ c.args.nodes.ok.0)) c.loop-node.yielded c.loop-node.node-iterator c.loop-node.yielded_by
    _ c.next.new.self c.in-None.is c.next.ensures.steps in
    IfOk-weaker c.listed.result (λ list. list.items ≡ map parts_keyed c.loop-node.by_node.entries)
    (λ list. list.items ≡ ascending_by parts_node c.args.nodes.items)
    (λ list is. is ∙ c.loop-node.invariant ∙ ap (ascending_by parts_node) (sym (map_itself c.loop-node.yielded) ∙ end.0)) c.listed.ensures.items
