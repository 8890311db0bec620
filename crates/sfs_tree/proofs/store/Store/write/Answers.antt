use Rattle.tree_laws.specs.Effect.{Puts}
use Rattle.sfs_tree.proofs.StoreKept.{IsStored-edited}
use Rattle.sfs_tree.proofs.store.Store.write.Goals as goal

pub invariant_of-self-2 : goal.invariant_of-self-2
invariant_of-self-2 c =
    IsStored-edited c.self.inside.nodes c.self.inside.counts c.self.inside.rows c.write.new.self c.args.number
    (Puts c.args.at c.args.written.now) c.self.invariant c.in_ok-write.ensures.ok c.write.ensures.places
