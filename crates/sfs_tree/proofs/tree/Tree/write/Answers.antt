use Rattle.std.proofs.Common.{sym, subst}
use Rattle.tree_laws.specs.Effect.{Puts}
use Rattle.tree_laws.specs.Build.{IsFounded}
use Rattle.sfs_tree.proofs.Founded.{IsFounded-edited}
use Rattle.sfs_tree.proofs.tree.Tree.write.Goals as goal

pub invariant_of-self-2 : goal.invariant_of-self-2
invariant_of-self-2 c =
    subst (λ m. IsFounded m c.self.inside.first c.self.inside.share c.self.inside.made.items) (sym c.in_ok-write.ensures.ok)
    (IsFounded-edited c.self.inside.store.nodes c.self.inside.first c.self.inside.share c.self.inside.made.items c.self.invariant c.args.file.0
    (Puts c.args.at c.bytes-bytes.result.now))
