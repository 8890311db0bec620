use Rattle.std.proofs.Common.{arith, sym, ◌∙◌, ◌+◌}
use Rattle.sfs_image.specs.Seen.{FILE_BLOCKS}
use Rattle.image_laws.specs.Need.{takes_place}
use Rattle.block_map.specs.Remap.{rewrite_of}
use Rattle.block_map.proofs.Counts.{rank_of_tables, rank_within, next_fate_counts}
use Rattle.block_map.proofs.rewrite.blocks_needed.Goals as goal

pub loop-k-init : goal.loop-k-init
loop-k-init c =
    c.data_needed-count.ensures.count
    ∙ sym (rank_of_tables c.args.inode.now c.args.tables.now.items c.args.changed.now.items c.data_needed-count.ensures.ascending)

pub overflow_add-count : goal.overflow_add-count
overflow_add-count c =
    let rewrite = rewrite_of c.args.inode.now c.args.tables.now.items c.args.changed.now.items in
    let same =
    next_fate_counts rewrite c.table_fates-fates.result _ c.loop-k.k _ _ c.table_fates-fates.ensures c.loop-k-test.true c.loop-k.invariant
    c.fresh_blocks-count.ensures in
    let within = rank_within (takes_place rewrite) (FILE_BLOCKS + (c.loop-k.k + 1)) in
    omega arith

pub loop-k-preserved : goal.loop-k-preserved
loop-k-preserved c =
    next_fate_counts
    (rewrite_of c.args.inode.now c.args.tables.now.items c.args.changed.now.items) c.table_fates-fates.result _ c.loop-k.k _ _ c.table_fates-fates.ensures
    c.loop-k-test.true c.loop-k.invariant c.fresh_blocks-count.ensures
