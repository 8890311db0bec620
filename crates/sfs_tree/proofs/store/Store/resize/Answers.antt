use Rattle.tree_laws.specs.Effect.{Resizes}
use Rattle.sfs_tree.proofs.StoreKept.{IsStored-edited}
use Rattle.sfs_tree.proofs.store.Store.resize.Goals as goal

pub invariant_of-self-2 : goal.invariant_of-self-2
invariant_of-self-2 c =
    IsStored-edited c.self.inside.nodes c.self.inside.counts c.self.inside.rows c.resize.new.self c.args.number
    (Resizes c.args.size) c.self.invariant c.in_ok-resize.ensures.ok c.resize.ensures.places
