use Rattle.std.proofs.Common.{◌≡◌, ◌≢◌, ◌+◌, ◌<◌, false, List, [], ◌∷◌, ◌++◌, map, take, get_or, refl, sym, ap, subst, ◌∙◌, arith}
use Rattle.std.specs.Prelude.{All}
use Rattle.std.specs.List.Sorted.{IsStrictlyIncreasing}
use Rattle.std.proofs.lemmas.List.{take_all, take_more}
use Rattle.sfs_base.specs.Lists.{Roomy}
use Rattle.sfs_base.specs.declared.numbers.NodeId.{NodeId}
use Rattle.sfs_base.specs.Listed.{is_listed}
use Rattle.tree_laws.specs.NameRow.{node_number}
use Rattle.tree_laws.specs.declared.changes.Change.{Change}
use Rattle.dep_closure.specs.Gathered.{span_in}
use Rattle.disk_change.specs.declared.directory_net.DirectoryNet.{DirectoryNet}
use Rattle.keyed_list.specs.Ascending.{AscendBy}
use Rattle.disk_change.specs.Nodes.{net_node}
use Rattle.disk_change.proofs.Names.{net_ascends}
use Rattle.flush_plan.specs.Concerned.{AreNetsOf, HaveGoodNames}
use Rattle.flush_plan.specs.Net.{IsNetBy}
use Rattle.flush_plan.proofs.GoodNames.{no_nets_named, net_more, pushed_ascends}
use Rattle.flush_plan.proofs.MemberNets.{no_nets, none_more, pushed_net, pushed_below}
use Rattle.flush_plan.proofs.Picked.{below_next, unlisted_next, apart_from_last, nothing, something}
use Rattle.flush_plan.proofs.concerning.member_nets.Goals as goal
use Rattle.flush_plan.proofs.concerning.member_nets.Goals.{then-not-is_empty+in_ok-reserve, else-not-is_empty}

pub loop-member-init : goal.loop-member-init
loop-member-init c = record {
  are = subst (AreNetsOf c.args.logs.now c.args.below []) (sym (ap (λ (l : Roomy DirectoryNet). l.items) c.new-nets.ensures)) (no_nets c.args.logs.now c.args.below);
  under = λ b _. subst (All (λ one. net_node one < b)) (sym (ap (λ (l : Roomy DirectoryNet). l.items) c.new-nets.ensures)) (λ k d within. absurd (omega arith));
  ascend = subst (AscendBy net_node) (sym (ap (λ (l : Roomy DirectoryNet). l.items) c.new-nets.ensures)) (λ i j d lt within. absurd (omega arith));
  names = subst HaveGoodNames (sym (ap (λ (l : Roomy DirectoryNet). l.items) c.new-nets.ensures)) no_nets_named;
}

pub invariant_of-push : goal.invariant_of-push
invariant_of-push c = record { ascending = net_ascends c.in_ok-net.net.items c.in_ok-net.ensures.net.ascending }

pub push-requires-clause-above : goal.push-requires-clause-above
push-requires-clause-above c =
    let nodes = c.as_slice-nodes.result.now in
    let i = c.loop-member.member-index in
    let up = subst (λ (l : List NodeId). IsStrictlyIncreasing (map node_number l)) (sym c.as_slice-nodes.ensures) c.requires.members in
    subst (All (λ one. net_node one < (get_or nodes i (record { 0 = 0 })).0)) (sym c.in_ok-reserve.ensures.items)
    (c.loop-member.invariant.under (get_or nodes i (record { 0 = 0 })).0 (below_next nodes up i (record { 0 = 0 }) c.loop-member-test.true))

pub loop-member-preserved : goal.loop-member-preserved
loop-member-preserved c =
    let nodes = c.as_slice-nodes.result.now in
    let i = c.loop-member.member-index in
    let no_node : NodeId = record { 0 = 0 } in
    let member = get_or nodes i no_node in
    let up = subst (λ (l : List NodeId). IsStrictlyIncreasing (map node_number l)) (sym c.as_slice-nodes.ensures) c.requires.members in
    let more : take (i + 1) nodes ≡ take i nodes ++ member ∷ [] = take_more nodes i no_node c.loop-member-test.true in
    let apart : is_listed (map node_number (take i nodes)) member.0 ≡ false = unlisted_next nodes up i no_node c.loop-member-test.true in
    let net = subst (λ (l : List Change). IsNetBy l c.in_ok-net.net.items) c.span.ensures c.in_ok-net.ensures.net in
    elim c.if-not-is_empty.branch [
      | then-not-is_empty+in_ok-reserve w ↦
          let some_row : c.in_ok-net.net.items ≢ [] = λ none. something c.in_ok-net.net.items (sym c.is_empty.ensures ∙ w.if-not-is_empty.true) none in
          let is = ap (λ (l : Roomy DirectoryNet). l.items) w.nets-is in
          record {
            are = subst (λ (l : List DirectoryNet). AreNetsOf c.args.logs.now c.args.below (take (i + 1) nodes) l) (sym is)
                (subst (λ (l : List NodeId). AreNetsOf c.args.logs.now c.args.below l w.push.new.self.items) (sym more)
                (pushed_net c.args.logs.now c.args.below
                (take i nodes) member apart c.loop-member.nets.items c.loop-member.invariant.are _ w.reserve.new.self.items w.push.new.self.items
                w.push.ensures.items w.in_ok-reserve.ensures.items refl net some_row));
            under = λ b below.
                let each = apart_from_last (λ (one : NodeId). one.0 < b) (take i nodes) member (subst (All (λ (one : NodeId). one.0 < b)) more below) in
                subst (All (λ one. net_node one < b)) (sym is)
                (pushed_below _ c.loop-member.nets.items w.reserve.new.self.items w.push.new.self.items w.push.ensures.items w.in_ok-reserve.ensures.items b
                (c.loop-member.invariant.under b each.0) each.1);
            ascend = subst (AscendBy net_node) (sym is)
                (pushed_ascends _ c.loop-member.nets.items w.reserve.new.self.items w.push.new.self.items w.push.ensures.items
                w.in_ok-reserve.ensures.items c.loop-member.invariant.ascend
                (c.loop-member.invariant.under member.0 (below_next nodes up i no_node c.loop-member-test.true)));
            names = subst HaveGoodNames (sym is)
                (net_more _ c.loop-member.nets.items w.reserve.new.self.items w.push.new.self.items w.push.ensures.items
                w.in_ok-reserve.ensures.items c.loop-member.invariant.names c.in_ok-net.ensures.names);
          }
      | else-not-is_empty w ↦
          let empty : c.in_ok-net.net.items ≡ [] = nothing c.in_ok-net.net.items (sym c.is_empty.ensures ∙ w.if-not-is_empty.false) in
          let same = ap (λ (l : Roomy DirectoryNet). l.items) w.nets-is in
          record {
            are = subst (λ (l : List DirectoryNet). AreNetsOf c.args.logs.now c.args.below (take (i + 1) nodes) l) (sym same)
                (subst (λ (l : List NodeId). AreNetsOf c.args.logs.now c.args.below l c.loop-member.nets.items) (sym more)
                (none_more c.args.logs.now c.args.below (take i nodes) member apart c.loop-member.nets.items c.loop-member.invariant.are
                (subst (IsNetBy (span_in c.args.logs.now c.args.below member.0)) empty net)));
            under = λ b below.
                let each = apart_from_last (λ (one : NodeId). one.0 < b) (take i nodes) member (subst (All (λ (one : NodeId). one.0 < b)) more below) in
                subst (All (λ one. net_node one < b)) (sym same) (c.loop-member.invariant.under b each.0);
            ascend = subst (AscendBy net_node) (sym same) c.loop-member.invariant.ascend;
            names = subst HaveGoodNames (sym same) c.loop-member.invariant.names;
          }
    ]

pub returns-clause-nets : goal.returns-clause-nets
returns-clause-nets c =
    subst (λ (l : List NodeId). AreNetsOf c.args.logs.now c.args.below l c.loop-member.nets.items)
    (take_all c.loop-member.member-index c.as_slice-nodes.result.now c.loop-member-test.false ∙ c.as_slice-nodes.ensures) c.loop-member.invariant.are
