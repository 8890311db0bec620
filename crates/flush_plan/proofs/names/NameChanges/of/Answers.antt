use Rattle.std.proofs.Common.{◌<◌, ◌++◌, length, sym, ap, ◌∙◌, arith, get_or, filter_map, List, ℕ, Option}
use Rattle.std.proofs.lemmas.List.{take_all}
use Rattle.std.proofs.lemmas.List.Sorted.{sum_by-IsPermutation}
use Rattle.sfs_base.specs.declared.numbers.NodeId.{NodeId}
use Rattle.tree_laws.specs.NameRow.{number_of}
use Rattle.disk_change.specs.Links.{times_in}
use Rattle.absorb.specs.declared.nets.NetRow.{NetRow}
use Rattle.disk_change.specs.declared.directory_net.DirectoryNet.{DirectoryNet}
use Rattle.disk_change.proofs.Counted.{flat_map_last}
use Rattle.flush_plan.specs.Names.{named_coming, named_going}
use Rattle.flush_plan.proofs.names.NameChanges.of.Goals as goal

-- the nodes that a net names on one side, before or after
named_of : (NetRow → Option NodeId) → DirectoryNet → List ℕ
named_of side one = filter_map (λ row. number_of (side row)) one.net.items

pub loop-one-preserved : goal.loop-one-preserved
unfolding named_of
loop-one-preserved c =
    let same = c.as_slice-one-items.ensures.items in
    let long = ap length same in
    let within : c.loop-one.one-index < length c.args.nets.now.items = omega arith in
    let one = c.one-item.is ∙ ap (λ those. get_or those c.loop-one.one-index c.one-item.result) same in
    record {
      coming =
          c.in_ok-push_rows.ensures.coming ∙ (λ i. c.loop-one.invariant.coming i ++ named_of (λ row. row.after) (one i))
          ∙ sym (flat_map_last (named_of (λ row. row.after)) c.args.nets.now.items c.loop-one.one-index c.one-item.result within);
      going =
          c.in_ok-push_rows.ensures.going ∙ (λ i. c.loop-one.invariant.going i ++ named_of (λ row. row.before) (one i))
          ∙ sym (flat_map_last (named_of (λ row. row.before)) c.args.nets.now.items c.loop-one.one-index c.one-item.result within);
    }

pub returns-clause-coming : goal.returns-clause-coming
returns-clause-coming c =
    let long = ap length c.as_slice-one-items.ensures.items in
    λ node. sum_by-IsPermutation _ c.loop-one.coming.items _ c.sort_unstable.ensures.permutation
    ∙ ap (λ those. times_in those node) (c.loop-one.invariant.coming ∙ ap named_coming (take_all c.loop-one.one-index c.args.nets.now.items (omega arith)))

pub returns-clause-going : goal.returns-clause-going
returns-clause-going c =
    let long = ap length c.as_slice-one-items.ensures.items in
    λ node. sum_by-IsPermutation _ c.loop-one.going.items _ c.sort_unstable-2.ensures.permutation
    ∙ ap (λ those. times_in those node) (c.loop-one.invariant.going ∙ ap named_going (take_all c.loop-one.one-index c.args.nets.now.items (omega arith)))
