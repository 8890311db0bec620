use Rattle.std.proofs.Common.{refl, sym, subst, arith}
use Rattle.tree_laws.specs.Tree.{TreeState}
use Rattle.tree_laws.proofs.SoundTrees.{root_alone_is_sound}
use Rattle.test_tree.proofs.Trials.{IsTrial, after_call}
use Rattle.test_tree.proofs.shapes.first_tree.Goals as goal

pub loop-asked-init : goal.loop-asked-init
loop-asked-init g c = subst (λ (t : TreeState). IsTrial t) (sym c.in_ok-tree.ensures.ok) (root_alone_is_sound c.args.first 8 2 (omega arith), refl)

pub loop-asked-preserved : goal.loop-asked-preserved
loop-asked-preserved g c =
    subst (λ (t : TreeState). IsTrial t) (sym c.in_ok-reply.ensures.tree)
    (after_call c.loop-asked.tree 0 c.call_of-call.result c.loop-asked.invariant (omega arith))
