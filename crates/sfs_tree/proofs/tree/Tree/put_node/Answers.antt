use Rattle.std.proofs.Common.{sym, ap, subst, ◌∙◌, ◌<◌}
use Rattle.std.specs.FinMap.{insert}
use Rattle.tree_laws.specs.Tree.{TreeState, Node}
use Rattle.tree_laws.specs.Build.{IsFounded}
use Rattle.sfs_tree.proofs.Founded.{IsFounded-node}
use Rattle.sfs_tree.proofs.tree.Tree.put_node.Goals as goal

pub invariant_of-self-2 : goal.invariant_of-self-2
invariant_of-self-2 c =
    let node : Node = record { kind = c.args.kind; bytes = c.args.bytes.items } in
    subst (λ m. IsFounded m c.self.inside.first c.self.inside.share c.self.inside.made.items)
    (sym (c.put_node.ensures.nodes ∙ ap (λ m. insert m c.args.node.0 node) c.grow.ensures.nodes))
    (IsFounded-node c.self.inside.store.nodes c.self.inside.first c.self.inside.share c.self.inside.made.items c.self.invariant c.args.node.0 node
    (subst (λ (t : TreeState). c.args.node.0 < t.first) (sym c.self.view_is) c.requires.low))
