use Rattle.sfs_tree.proofs.StoreKept.{IsStored-new}
use Rattle.sfs_tree.proofs.store.Store.new.Goals as goal

pub invariant_of-result : goal.invariant_of-result
invariant_of-result c =
    IsStored-new c.new.result c.new-2.result c.new-3.result c.new.ensures.nodes c.new.ensures.places c.new-3.ensures.rows c.new-3.ensures.places
    c.new-2.ensures.counted c.new-2.ensures.wide
