use Rattle.std.proofs.Common.{◌≡◌, ℕ, List, map, true, ◌∙◌, ◌↔◌, inl, inr, refl, sym, subst}
use Rattle.std.proofs.lemmas.List.{take_all}
use Rattle.std.specs.List.Sorted.{IsStrictlyIncreasing}
use Rattle.sfs_base.specs.declared.numbers.NodeId.{NodeId}
use Rattle.sfs_base.specs.Listed.{is_listed}
use Rattle.tree_laws.specs.NameRow.{node_number}
use Rattle.cut_laws.specs.Elements.{OfSome}
use Rattle.cut_laws.specs.Rules.{IsOneOf}
use Rattle.dep_closure.specs.Brought.{AddsTo}
use Rattle.cut_laws.proofs.Listed.{listed_one}
use Rattle.dep_closure.proofs.Growing.{set_more}
use Rattle.flush_plan.specs.Concerned.{IsTouchedBy, AreNodes}
use Rattle.flush_plan.proofs.Picked.{if_both}
use Rattle.flush_plan.proofs.concerning.touched_nodes.Goals as goal

pub loop-member-preserved : goal.loop-member-preserved
loop-member-preserved c =
    let brings : NodeId → ℕ → Type 0 = IsTouchedBy c.args.logs.now c.args.below in
    set_more brings c.as_slice-nodes.result.now c.loop-member.member-index
    (record { 0 = 0 }) _ c.new-touched.result c.loop-member.touched c.add_touched.new.touched c.loop-member-test.true refl c.loop-member.invariant
    c.in_ok-add_touched.ensures

pub returns : goal.returns
returns c =
    let brings : NodeId → ℕ → Type 0 = IsTouchedBy c.args.logs.now c.args.below in
    let keys = c.loop-member.touched.keys in
    let grown = subst (λ (l : List NodeId). AddsTo c.new-touched.result c.loop-member.touched (OfSome l brings))
    (take_all c.loop-member.member-index c.as_slice-nodes.result.now c.loop-member-test.false ∙ c.as_slice-nodes.ensures) c.loop-member.invariant in
    if_both c.node_list.result (λ nodes. map node_number nodes.items ≡ keys) (λ nodes. IsStrictlyIncreasing (map node_number nodes.items))
    (λ nodes. AreNodes nodes.items (OfSome c.args.members.now.items brings))
    (λ nodes same up. record {
      ascending = up;
      each = λ node. subst (λ (l : List ℕ). (is_listed l node ≡ true) ↔ OfSome c.args.members.now.items brings node) (sym same) (
        λ has. elim ((grown node).0 ((listed_one keys node).0 has)) [
          | inl old ↦ absurd (subst (λ (l : List ℕ). IsOneOf l node) c.new-touched.ensures.empty old)
          | inr some ↦ some
        ],
        λ some. (listed_one keys node).1 ((grown node).1 (inr some)),
      );
    })
    c.node_list.ensures.members c.node_list.ensures.ascending
