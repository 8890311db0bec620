use Rattle.std.proofs.Common.{sym, ap, subst, ◌∙◌, map}
use Rattle.std.specs.List.Sorted.{IsStrictlyIncreasing}
use Rattle.std.proofs.lemmas.List.{map-id}
use Rattle.std.proofs.lemmas.Iterator.Consumers.{YieldsList-end, YieldsList-from_rest}
use Rattle.std.proofs.lemmas.Map.Keys.{IsStrictlyIncreasing-from_sorted}
use Rattle.tree_laws.specs.NameRow.{node_number}
use Rattle.dep_closure.proofs.members.node_list.Goals as goal

pub returns-clause-ascending : goal.returns-clause-ascending
returns-clause-ascending c =
    let gives = c.into_iter-node-iterator.ensures.into_iter_gives in
    let end =
    YieldsList-end
    (YieldsList-from_rest c.args.numbers.keys gives.0) c.loop-node.yielded c.loop-node.node-iterator c.loop-node.yielded_by _ c.next.new.self
    c.in-None.is c.next.ensures.steps in
    let all = ap (λ l. map node_number l.items) c.from_vec.ensures ∙ c.loop-node.invariant ∙ sym (map-id c.loop-node.yielded) ∙ end.0 in
    subst IsStrictlyIncreasing (sym all) (IsStrictlyIncreasing-from_sorted c.args.numbers.keys gives.4)
