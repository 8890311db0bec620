use Rattle.std.proofs.Common.{◌≡◌, ℕ, sym, subst, slice_index}
use Rattle.sfs_tree.specs.contracts.tree.Tree.{the_view}
use Rattle.tree_laws.specs.Tree.{TreeState}
use Rattle.sfs_tree.proofs.Founded.{founded_numbers, numbered_unmade}
use Rattle.sfs_tree.proofs.tree.Tree.allow.Goals as goal

pub returns-clause-numbered : goal.returns-clause-numbered
returns-clause-numbered c =
    numbered_unmade (the_view c.self.inside) c.args.share (founded_numbers _ c.self.invariant)
    (subst (λ (t : TreeState). (core : ℕ) → slice_index t.made core ≡ 0) (sym c.self.view_is) c.requires.unmade)
