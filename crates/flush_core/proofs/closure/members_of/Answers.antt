use Rattle.std.proofs.Common.{◌≡◌, ◌^◌, true, inl, inr, sym, subst, ◌∙◌, arith}
use Rattle.cut_laws.specs.Closure.{every_entry, Closure, itself}
use Rattle.flush_core.specs.NodeSets.{has_node}
use Rattle.sfs_base.proofs.BasicTruth.{not_both}
use Rattle.flush_core.proofs.Marks.{with_in, with_kept, with_cases, marked_within}
use Rattle.flush_core.proofs.Counting.{one_more_less}
use Rattle.flush_core.proofs.Required.{required_is_in, in_members}
use Rattle.flush_core.proofs.closure.members_of.Goals as goal

pub loop-required-init : goal.loop-required-init
loop-required-init c = record {
  own = c.in_ok-insert.ensures.ok c.args.node ∙ with_in c.args.node _ (has_node c.new-members.result);
  sound = λ first history is x h. elim (with_cases c.args.node x (has_node c.new-members.result) (sym (c.in_ok-insert.ensures.ok x) ∙ h)) [
    | inl e ↦
        subst (λ y. Closure first history every_entry c.args.cut.now (has_node c.args.inodes.now) (record { node = c.args.node; stamp = c.args.stamp }) y) e
        itself
    | inr old ↦ absurd (not_both old (c.new-members.ensures x))
  ];
}

pub loop-required-smaller : goal.loop-required-smaller
loop-required-smaller c =
    let grown = c.insert-in-Some.new.self in
    let is_in : has_node grown c.in-Some.required ≡ true =
    c.in_ok-insert-2.ensures.ok c.in-Some.required ∙ with_in c.in-Some.required _ (has_node c.loop-required.members) in
    let place = marked_within grown.has.items c.in-Some.required is_in in
    let small = grown.small in
    one_more_less (has_node c.loop-required.members) (has_node grown) c.in-Some.required (2 ^ 32) (omega arith) c.in-Some.ensures.1 c.in_ok-insert-2.ensures.ok

pub loop-required-preserved : goal.loop-required-preserved
loop-required-preserved c = record {
  own = c.in_ok-insert-2.ensures.ok c.args.node ∙ with_kept c.in-Some.required c.args.node (has_node c.loop-required.members) c.loop-required.invariant.own;
  sound = λ first history is x h. elim (with_cases c.in-Some.required x (has_node c.loop-required.members) (sym (c.in_ok-insert-2.ensures.ok x) ∙ h)) [
    | inl e ↦
        subst (λ y. Closure first history every_entry c.args.cut.now (has_node c.args.inodes.now) (record { node = c.args.node; stamp = c.args.stamp }) y) e
        (required_is_in first history c.args.past.now is c.args.cut.now c.args.inodes.now c.loop-required.members
        (record { node = c.args.node; stamp = c.args.stamp }) (c.loop-required.invariant.sound first history is) c.in-Some.required c.in-Some.ensures.0)
    | inr old ↦ c.loop-required.invariant.sound first history is x old
  ];
}

pub returns : goal.returns
returns c = λ first history is x. (
  c.loop-required.invariant.sound first history is x,
  in_members first history c.args.past.now is c.args.cut.now c.args.inodes.now c.loop-required.members
      (record { node = c.args.node; stamp = c.args.stamp }) c.loop-required.invariant.own c.in_default.ensures x,
)
