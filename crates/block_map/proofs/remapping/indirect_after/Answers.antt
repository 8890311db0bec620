use Rattle.std.proofs.Common.{rules, arith, ◌≡◌, sym, ap, ◌∙◌, ◌+◌, ◌<◌, get_or, List, ℕ}
use Rattle.std.specs.Prelude.{slice_index}
use Rattle.std.proofs.lemmas.List.{length-set}
use Rattle.sfs_image.specs.Inode.{Inode, Table}
use Rattle.sfs_image.specs.Part.{tabulate}
use Rattle.sfs_image.specs.Seen.{FILE_BLOCKS}
use Rattle.sfs_image.proofs.Basics.{get_or-tabulate}
use Rattle.image_laws.specs.Need.{takes_place, rank}
use Rattle.block_map.specs.declared.rewrite.TableFate.{TableFate}
use Rattle.block_map.specs.declared.rewrite.TableFate.TheVariants.{Stays}
use Rattle.block_map.specs.declared.changed.ChangedBlock.{ChangedBlock}
use Rattle.block_map.specs.Remap.{rewrite_of, pointer_remapped, table_fate, own_pointer}
use Rattle.block_map.proofs.Counts.{rank_of_tables, rank_within, next_fate_counts}
use Rattle.block_map.proofs.Places.{own_pointer_is}
use Rattle.block_map.proofs.Tables.{tabulated, set_more}
use Rattle.block_map.proofs.remapping.indirect_after.Goals as goal

-- the next fate gives its indirect block its pointer
pointed : (inode : Inode) (tables : List Table) (changed : List ChangedBlock) (fresh : List ℕ) (fates : List TableFate) (d : TableFate)
    (k taken block free pointer : ℕ)
    → fates ≡ tabulate 16 (table_fate (rewrite_of inode tables changed)) → k < 16
    → taken ≡ rank (takes_place (rewrite_of inode tables changed)) (FILE_BLOCKS + k)
    → block ≡ slice_index inode.indirect k → free ≡ slice_index fresh taken → pointer ≡ own_pointer (get_or fates k d) block free
    → pointer ≡ pointer_remapped (rewrite_of inode tables changed) fresh (FILE_BLOCKS + k)
pointed inode tables changed fresh fates d k taken block free pointer all within before block_is free_is is =
    is
    ∙ (λ i. own_pointer ((ap (λ those. get_or those k d) all ∙ get_or-tabulate 16 (table_fate (rewrite_of inode tables changed)) k d within) i) (block_is i)
    ((free_is ∙ ap (slice_index fresh) before) i))
    ∙ own_pointer_is inode tables changed fresh k

pub loop-k-init : goal.loop-k-init
loop-k-init c = record {
  taken =
      c.data_needed-taken.ensures.count
      ∙ sym (rank_of_tables c.args.inode.now c.args.tables.now.items c.args.changed.now.items c.data_needed-taken.ensures.ascending);
  count = search rules;
  each = λ j d within. absurd (omega arith);
}

pub overflow_add-taken : goal.overflow_add-taken
overflow_add-taken c =
    let rewrite = rewrite_of c.args.inode.now c.args.tables.now.items c.args.changed.now.items in
    let same =
    next_fate_counts rewrite c.args.fates.now Stays c.loop-k.k _ c.fresh_blocks-taken.result c.requires c.loop-k-test.true c.loop-k.invariant.taken
    c.fresh_blocks-taken.ensures in
    let within = rank_within (takes_place rewrite) (FILE_BLOCKS + (c.loop-k.k + 1)) in
    omega arith

pub loop-k-preserved : goal.loop-k-preserved
loop-k-preserved c =
    let rewrite = rewrite_of c.args.inode.now c.args.tables.now.items c.args.changed.now.items in
    record {
      taken =
          next_fate_counts rewrite c.args.fates.now Stays c.loop-k.k _ c.fresh_blocks-taken.result c.requires c.loop-k-test.true c.loop-k.invariant.taken
          c.fresh_blocks-taken.ensures;
      count = length-set _ _ _ ∙ c.loop-k.invariant.count;
      each =
          set_more c.loop-k.indirect c.loop-k.k _ (λ j. pointer_remapped rewrite c.args.fresh.now (FILE_BLOCKS + j))
          (omega (arith, c.loop-k.invariant.count)) c.loop-k.invariant.each
          (pointed c.args.inode.now c.args.tables.now.items c.args.changed.now.items c.args.fresh.now c.args.fates.now Stays c.loop-k.k c.loop-k.taken _
          c.fresh_at.result _ c.requires c.loop-k-test.true c.loop-k.invariant.taken
          (ap (λ (i : Inode). slice_index i.indirect c.loop-k.k) c.inode.view_is) c.fresh_at.ensures c.own_pointer.ensures);
    }

pub returns : goal.returns
returns c = tabulated 16 _ c.loop-k.indirect c.loop-k.invariant.count (λ j d within. c.loop-k.invariant.each j d (omega arith))
