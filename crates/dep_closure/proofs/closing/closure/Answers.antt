use Rattle.std.proofs.Common.{◌≡◌, ℕ, List, map, true, ◌↔◌, sym, ap, subst, ◌∙◌}
use Rattle.std.proofs.lemmas.Result.{IfOk-weaker}
use Rattle.sfs_base.specs.Listed.{is_listed}
use Rattle.look_laws.specs.Look.{Gathers}
use Rattle.tree_laws.specs.NameRow.{node_number}
use Rattle.dep_closure.specs.Gathered.{look_of}
use Rattle.cut_laws.proofs.Listed.{listed_one}
use Rattle.dep_closure.proofs.Closed.{closes_first, closes_next, closes_sooner, closes_last}
use Rattle.dep_closure.proofs.closing.closure.Goals as goal

pub loop-node-init : goal.loop-node-init
loop-node-init c =
    closes_first
    (look_of c.args.start c.args.below c.args.logs.now) c.new-found.result c.add.new.self c.new-found.ensures.members c.new-found.ensures.due
    c.new-found.ensures.ordered c.in_ok-add.ensures

pub loop-node-preserved : goal.loop-node-preserved
loop-node-preserved c =
    closes_next (look_of c.args.start c.args.below c.args.logs.now) c.loop-node.found c.next.new.self c.follow.new.found c.in-Some.node.0 c.loop-node.invariant
    (ap (λ m. m.keys) c.in-Some.ensures.members) c.in-Some.ensures.due (c.in_ok-follow.ensures c.args.start)

pub loop-node-smaller : goal.loop-node-smaller
loop-node-smaller c =
    let look = look_of c.args.start c.args.below c.args.logs.now in
    let keys = ap (λ m. m.keys) c.in-Some.ensures.members in
    let grows = c.in_ok-follow.ensures c.args.start in
    closes_sooner look c.loop-node.found c.next.new.self c.follow.new.found c.in-Some.node.0
    (closes_next look c.loop-node.found c.next.new.self c.follow.new.found c.in-Some.node.0 c.loop-node.invariant keys c.in-Some.ensures.due grows) keys
    c.in-Some.ensures.due grows

pub returns-clause-members : goal.returns-clause-members
returns-clause-members c =
    let look = look_of c.args.start c.args.below c.args.logs.now in
    let keys = ap (λ m. m.keys) c.in_default.ensures.members in
    IfOk-weaker c.into_list.result (λ nodes. map node_number nodes.items ≡ c.next.new.self.members.keys)
    (λ nodes. (node : ℕ) → (is_listed (map node_number nodes.items) node ≡ true) ↔ Gathers look node)
    (λ nodes same node.
    let last = closes_last look c.loop-node.found c.loop-node.invariant c.in_default.ensures.none node in
    let listed = listed_one c.loop-node.found.members.keys node in
    subst (λ (l : List ℕ). (is_listed l node ≡ true) ↔ Gathers look node) (sym (same ∙ keys))
    ((λ has. last.0 (listed.0 has)), (λ gathered. listed.1 (last.1 gathered))))
    c.into_list.ensures.members
