use Rattle.std.proofs.Common.{refl, sym, subst, arith}
use Rattle.tree_laws.specs.Tree.{TreeState}
use Rattle.tree_laws.proofs.SoundTrees.{root_alone_is_sound}
use Rattle.test_tree.proofs.Trials.{IsTrial}
use Rattle.test_tree.proofs.calls.root_alone.Goals as goal

pub invariant_of-result : goal.invariant_of-result
invariant_of-result c =
    subst (λ (t : TreeState). IsTrial t) (sym c.in_ok-tree.ensures.ok) (root_alone_is_sound 64 c.args.share 2 (omega arith), refl)
