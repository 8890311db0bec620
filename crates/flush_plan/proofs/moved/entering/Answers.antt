use Rattle.std.proofs.Common.{◌≡◌, ℕ, ◌<◌, ◌∷◌, ◌++◌, [], cond, get_or, ap, Bool, ◌∙◌, List, map, take, refl, sym, subst}
use Rattle.std.specs.Prelude.{All}
use Rattle.std.specs.List.Sorted.{IsStrictlyIncreasing}
use Rattle.sfs_base.specs.Lists.{Roomy}
use Rattle.sfs_base.specs.declared.numbers.NodeId.{NodeId}
use Rattle.tree_laws.specs.NameRow.{node_number}
use Rattle.disk_change.specs.declared.enter.Enter.{Enter}
use Rattle.disk_change.specs.Nodes.{enter_node}
use Rattle.flush_plan.specs.Moved.{gets_inode, enter_by}
use Rattle.flush_plan.proofs.Picked.{picked_as, pushed_if, kept_if, picked_below, below_next}
use Rattle.flush_plan.proofs.moved.entering.Goals as goal
use Rattle.flush_plan.proofs.moved.entering.Goals.{then-gets+in_ok-reserve, else-gets}

pub push-requires-clause-above : goal.push-requires-clause-above
push-requires-clause-above c =
    let nodes = c.as_slice-touched.result.now in
    let i = c.loop-node.node-index in
    let made = enter_by c.args.start c.args.is_file c.args.facts.now in
    let test : NodeId → Bool = λ node. gets_inode c.args.start c.args.is_file c.args.logs.now c.args.facts.now node.0 in
    let up = subst (λ (l : List NodeId). IsStrictlyIncreasing (map node_number l)) (sym c.as_slice-touched.ensures) c.requires.nodes in
    let below =
    picked_below enter_node made (λ node. refl) test (take i nodes) (get_or nodes i (record { 0 = 0 })).0
    (below_next nodes up i (record { 0 = 0 }) c.loop-node-test.true) in
    let items = c.in_ok-reserve.ensures.items ∙ c.loop-node.invariant in
    subst (λ (n : ℕ). All (λ one. enter_node one < n) c.reserve.new.self.items) (sym (ap enter_node c.entered.ensures))
    (subst (All (λ one. enter_node one < (get_or nodes i (record { 0 = 0 })).0)) (sym items) below)

grown : (c : goal.Joined-gets)
    → c.if-gets.enter.items
    ≡ c.loop-node.enter.items
    ++ cond c.gets.result
    (enter_by c.args.start c.args.is_file c.args.facts.now (get_or c.as_slice-touched.result.now c.loop-node.node-index (record { 0 = 0 })) ∷ []) []
grown c =
    elim c.if-gets.branch [
      | then-gets+in_ok-reserve w ↦
          pushed_if c.gets.result c.loop-node.enter.items w.reserve.new.self.items c.if-gets.enter.items _ w.if-gets.true w.in_ok-reserve.ensures.items
          (ap (λ (l : Roomy Enter). l.items) w.enter-is ∙ w.push.ensures.items ∙ ap (λ one. w.reserve.new.self.items ++ one ∷ []) w.entered.ensures)
      | else-gets w ↦ kept_if c.gets.result c.loop-node.enter.items c.if-gets.enter.items _ w.if-gets.false (ap (λ (l : Roomy Enter). l.items) w.enter-is)
    ]

pub loop-node-preserved : goal.loop-node-preserved
loop-node-preserved c =
    let test : NodeId → Bool = λ node. gets_inode c.args.start c.args.is_file c.args.logs.now c.args.facts.now node.0 in
    picked_as test c.as_slice-touched.result.now c.loop-node.node-index (record { 0 = 0 }) c.loop-node-test.true c.gets.result c.gets.ensures
    (enter_by c.args.start c.args.is_file c.args.facts.now) c.loop-node.enter.items c.if-gets.enter.items c.loop-node.invariant (grown c)
