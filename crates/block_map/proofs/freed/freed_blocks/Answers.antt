use Rattle.std.proofs.Common.{◌≡◌, sym, ap, ◌∙◌, arith, ◌++◌, length, get_or}
use Rattle.std.specs.Prelude.{slice_index}
use Rattle.std.specs.List.{range_with_len, flat_map}
use Rattle.std.proofs.lemmas.List.{append-nil, take_all}
use Rattle.std.proofs.lemmas.List.Filters.{dedup_is}
use Rattle.sfs_image.specs.Inode.{Inode}
use Rattle.sfs_image.proofs.Basics.{get_or-tabulate}
use Rattle.block_map.specs.declared.rewrite.TableFate.TheVariants.{Stays}
use Rattle.block_map.specs.Remap.{rewrite_of, table_left, table_fate}
use Rattle.block_map.proofs.GivenUp.{ONE, of_data, of_table, data_more, table_more, are_freed}
use Rattle.block_map.proofs.freed.freed_blocks.Goals as goal

pub loop-one-preserved : goal.loop-one-preserved
loop-one-preserved c =
    let same = c.as_slice-one-items.ensures.items in
    let long = ap length same in
    data_more c.args.inode.now c.args.tables.now.items c.args.changed.now.items c.as_slice-one-items.ensures.ascending c.loop-one.one-index ONE
    c.loop-one.freed.items c.push_block.new.freed.items c.data_left.result
    (omega arith) c.loop-one.invariant
    (rw (← same) c.data_left.ensures) c.in_ok-push_block.ensures

pub loop-k-init : goal.loop-k-init
loop-k-init c =
    let long = ap length c.as_slice-one-items.ensures.items in
    c.loop-one.invariant
    ∙ ap (flat_map (of_data c.args.inode.now c.args.tables.now.items c.args.changed.now.items c.as_slice-one-items.ensures.ascending))
    (take_all c.loop-one.one-index c.args.changed.now.items (omega arith))
    ∙ sym (append-nil _)

pub loop-k-preserved : goal.loop-k-preserved
loop-k-preserved c =
    let fate =
    ap (λ those. get_or those c.loop-k.k Stays) c.requires
    ∙ get_or-tabulate 16
    (table_fate (rewrite_of c.args.inode.now c.args.tables.now.items c.args.changed.now.items)) c.loop-k.k Stays c.loop-k-test.true in
    let block = ap (λ (i : Inode). slice_index i.indirect c.loop-k.k) c.inode.view_is in
    table_more c.args.inode.now c.args.tables.now.items c.args.changed.now.items c.as_slice-one-items.ensures.ascending c.loop-k.k c.loop-k.freed.items _
    c.table_left.result c.loop-k.invariant
    (c.table_left.ensures ∙ (λ i. table_left (fate i) (block i))) c.in_ok-push_block-2.ensures

pub returns : goal.returns
returns c =
    let k_is : c.loop-k.k ≡ 16 = omega (arith, c.loop-k.auto.k-end) in
    let of_all = of_data c.args.inode.now c.args.tables.now.items c.args.changed.now.items c.as_slice-one-items.ensures.ascending in
    let of_each = of_table (rewrite_of c.args.inode.now c.args.tables.now.items c.args.changed.now.items) c.args.inode.now in
    let all = c.loop-k.invariant ∙ ap (λ k. flat_map of_all c.args.changed.now.items ++ flat_map of_each (range_with_len 0 k)) k_is in
    are_freed c.args.inode.now c.args.tables.now.items c.args.changed.now.items c.as_slice-one-items.ensures.ascending c.loop-k.freed.items
    c.sort_unstable.new.self.items _ all c.sort_unstable.ensures.permutation c.sort_unstable.ensures.sorted
    (ap (λ l. l.items) c.from_vec.ensures ∙ dedup_is _ c.sort_unstable.new.self.items _ c.dedup.ensures.filtered)
