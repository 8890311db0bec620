use Rattle.std.proofs.Common.{◌<◌, ◌++◌, length, sym, ap, ◌∙◌, arith, get_or, filter_map, List, ℕ, Option}
use Rattle.std.proofs.lemmas.List.{take_all}
use Rattle.std.proofs.lemmas.List.Sorted.{sum_by-IsPermutation}
use Rattle.sfs_base.specs.declared.numbers.NodeId.{NodeId}
use Rattle.disk_change.specs.Links.{linked_by, rows_coming, rows_going, times_in}
use Rattle.absorb.specs.declared.nets.NetRow.{NetRow}
use Rattle.disk_change.specs.declared.directory_net.DirectoryNet.{DirectoryNet}
use Rattle.disk_change.proofs.Counted.{flat_map_last}
use Rattle.disk_change.proofs.links.LinkChanges.of.Goals as goal

-- the directories that a net names on one side, before or after
linked_of : (NetRow → Option NodeId) → List ℕ → DirectoryNet → List ℕ
linked_of side dirs one = filter_map (λ row. linked_by dirs one.node.0 (side row)) one.net.items

pub loop-one-preserved : goal.loop-one-preserved
unfolding linked_of
loop-one-preserved c =
    let dirs = c.args.directories.now in
    let same = c.as_slice-one-items.ensures.items in
    let long = ap length same in
    let within : c.loop-one.one-index < length c.args.nets.now.items = omega arith in
    let one = c.one-item.is ∙ ap (λ those. get_or those c.loop-one.one-index c.one-item.result) same in
    record {
      coming =
          c.in_ok-push_rows.ensures.coming ∙ (λ i. c.loop-one.invariant.coming i ++ linked_of (λ row. row.after) dirs (one i))
          ∙ sym (flat_map_last (linked_of (λ row. row.after) dirs) c.args.nets.now.items c.loop-one.one-index c.one-item.result within);
      going =
          c.in_ok-push_rows.ensures.going ∙ (λ i. c.loop-one.invariant.going i ++ linked_of (λ row. row.before) dirs (one i))
          ∙ sym (flat_map_last (linked_of (λ row. row.before) dirs) c.args.nets.now.items c.loop-one.one-index c.one-item.result within);
    }

pub returns-clause-coming : goal.returns-clause-coming
returns-clause-coming c =
    let long = ap length c.as_slice-one-items.ensures.items in
    λ node. sum_by-IsPermutation _ c.loop-one.coming.items _ c.sort_unstable.ensures.permutation
    ∙ ap (λ those. times_in those node)
    (c.loop-one.invariant.coming ∙ ap (rows_coming c.args.directories.now) (take_all c.loop-one.one-index c.args.nets.now.items (omega arith)))

pub returns-clause-going : goal.returns-clause-going
returns-clause-going c =
    let long = ap length c.as_slice-one-items.ensures.items in
    λ node. sum_by-IsPermutation _ c.loop-one.going.items _ c.sort_unstable-2.ensures.permutation
    ∙ ap (λ those. times_in those node)
    (c.loop-one.invariant.going ∙ ap (rows_going c.args.directories.now) (take_all c.loop-one.one-index c.args.nets.now.items (omega arith)))
