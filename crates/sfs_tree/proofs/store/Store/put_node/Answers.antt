use Rattle.std.proofs.Common.{◌<◌, sym, ap, subst, ◌∙◌}
use Rattle.std.specs.FinMap.{get}
use Rattle.sfs_tree.specs.StoreState.{StoreState}
use Rattle.sfs_tree.specs.Nodes.{node_of}
use Rattle.sfs_tree.proofs.StoreKept.{IsStored-node}
use Rattle.sfs_tree.proofs.store.Store.put_node.Goals as goal

pub invariant_of-self : goal.invariant_of-self
invariant_of-self c =
    IsStored-node c.self.inside.nodes c.self.inside.counts c.self.inside.rows c.self.invariant c.put.new.self c.args.number
    (node_of c.args.node) c.put.ensures.nodes c.put.ensures.places
    (subst (λ (s : StoreState). c.args.number < s.places) (sym c.self.view_is) c.requires.place)
    (ap (λ (s : StoreState). get s.nodes c.args.number) c.self.view_is ∙ c.requires.absent)
