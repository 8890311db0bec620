use Rattle.std.proofs.Common.{◌≡◌, ℕ, ◌+◌, Bool, true, cond, List, map, take, get_or, sym, ap, ◌∙◌, nat_lt}
use Rattle.std.specs.Prelude.{◌&&◌}
use Rattle.std.specs.Ordering.{nat_cmp}
use Rattle.std.specs.BTreeMap.{is_at}
use Rattle.std.specs.BTreeSet.{BTreeSet, contains}
use Rattle.std.specs.List.{list_any}
use Rattle.std.proofs.lemmas.List.{take_all, take_more}
use Rattle.sfs_base.specs.declared.numbers.NodeId.{NodeId}
use Rattle.sfs_base.specs.Listed.{is_listed}
use Rattle.tree_laws.specs.NameRow.{node_number}
use Rattle.flush_plan.specs.Names.{is_named_after}
use Rattle.flush_plan.proofs.MemberNets.{listed_more}
use Rattle.flush_plan.proofs.Naming.{comes, stays_out}
use Rattle.flush_plan.proofs.Told.{at_number}
use Rattle.flush_plan.proofs.moved.named_after.Goals as goal
use Rattle.flush_plan.proofs.moved.named_after.Goals.{then-leave_a_name+in_ok-insert, else-leave_a_name}

pub loop-node-init : goal.loop-node-init
loop-node-init c = λ node. ap (list_any (is_at (nat_cmp node))) c.new-named.ensures.empty

-- whether the node at hand is named
told : (c : goal.Joined-leave_a_name)
    → c.leave_a_name.result
    ≡ is_named_after c.args.old.now.items c.args.nets.now.items (get_or c.as_slice-touched.result.now c.loop-node.node-index (record { 0 = 0 })).0
told c =
    let own : NodeId = get_or c.as_slice-touched.result.now c.loop-node.node-index (record { 0 = 0 }) in
    c.leave_a_name.ensures ∙ (λ i. nat_lt (c.in_ok-changes.ensures.going own.0 i) (c.names_kept.ensures i + c.in_ok-changes.ensures.coming own.0 i))

pub loop-node-preserved : goal.loop-node-preserved
loop-node-preserved c = λ node.
    let nodes = c.as_slice-touched.result.now in
    let i = c.loop-node.node-index in
    let own : NodeId = get_or nodes i (record { 0 = 0 }) in
    let passes : ℕ → Bool = is_named_after c.args.old.now.items c.args.nets.now.items in
    let listed = is_listed (map node_number (take i nodes)) node in
    let more =
    ap (λ (l : List NodeId). is_listed (map node_number l) node && passes node) (take_more nodes i (record { 0 = 0 }) c.loop-node-test.true)
    ∙ ap (λ b. b && passes node) (listed_more (take i nodes) own node) in
    elim c.if-leave_a_name.branch [
      | then-leave_a_name+in_ok-insert w ↦
          ap (λ (s : BTreeSet ℕ). contains nat_cmp s node) w.named-is
          ∙ w.in_ok-insert.ensures.updates.0 node
          ∙ ap (λ b. cond b true (contains nat_cmp c.loop-node.named node)) (at_number own.0 node)
          ∙ comes own.0 node listed passes (contains nat_cmp c.loop-node.named node) (sym (told c) ∙ w.if-leave_a_name.true) (c.loop-node.invariant node)
          ∙ sym more
      | else-leave_a_name w ↦
          ap (λ (s : BTreeSet ℕ). contains nat_cmp s node) w.named-is
          ∙ stays_out own.0 node listed passes (contains nat_cmp c.loop-node.named node) (sym (told c) ∙ w.if-leave_a_name.false) (c.loop-node.invariant node)
          ∙ sym more
    ]

pub returns : goal.returns
returns c = λ node has.
    c.loop-node.invariant node
    ∙ ap (λ (l : List NodeId). is_listed (map node_number l) node && is_named_after c.args.old.now.items c.args.nets.now.items node)
    (take_all c.loop-node.node-index c.as_slice-touched.result.now c.loop-node-test.false ∙ c.as_slice-touched.ensures)
    ∙ ap (λ b. b && is_named_after c.args.old.now.items c.args.nets.now.items node) has
