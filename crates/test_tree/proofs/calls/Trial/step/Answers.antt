use Rattle.std.proofs.Common.{◌≡◌, sym, subst, Result, Ok, Err, OnOk, OnErr}
use Rattle.tree_laws.specs.Tree.{TreeState}
use Rattle.tree_laws.specs.Verdict.{tree_after_call}
use Rattle.test_tree.proofs.Trials.{IsTrial, after_call}
use Rattle.test_tree.proofs.calls.Trial.step.Goals as goal

pub invariant_of-self : goal.invariant_of-self
invariant_of-self c =
    let old = c.self.inside.tree in
    let new = c.step.new.self in
    elim c.step.result as (λ r. OnOk r (new ≡ tree_after_call old c.args.core c.args.call.now) → OnErr r (new ≡ old) → IsTrial new) [
      | Ok reply ↦ λ ok err. subst (λ (t : TreeState). IsTrial t) (sym ok) (after_call old c.args.core c.args.call.now c.self.invariant c.requires.core)
      | Err refused ↦ λ ok err. subst (λ (t : TreeState). IsTrial t) (sym err) c.self.invariant
    ] c.step.ensures.tree c.step.ensures.err
