use Rattle.std.proofs.Common.{arith, ◌≡◌, ◌≤◌, ◌<◌, ◌+◌, ◌++◌, [], ◌∷◌, ℕ, List, Option, sym, ap, ◌∙◌, get_or, filter_map}
use Rattle.std.specs.List.{range_with_len}
use Rattle.sfs_image.specs.Inode.{Table}
use Rattle.sfs_image.specs.Part.{tabulate}
use Rattle.sfs_image.proofs.Basics.{get_or-tabulate}
use Rattle.image_laws.specs.Need.{Rewrite}
use Rattle.block_map.specs.declared.rewrite.TableFate.{TableFate}
use Rattle.block_map.specs.declared.rewrite.TableFate.TheVariants.{Stays}
use Rattle.block_map.specs.Remap.{rewrite_of, table_fate, table_by_fate, table_remapped}
use Rattle.block_map.proofs.Places.{remapped_at_place, one_more_given, one_more_none, all_below_more, all_below_next}
use Rattle.block_map.proofs.remapping.tables_after.Goals as goal
use Rattle.block_map.proofs.remapping.tables_after.Goals.{in-Some, in_default}

-- what a fate gives is the indirect block afterwards
by_its_fate : (rewrite : Rewrite) (fresh : List ℕ) (tables : List Table) (fates : List TableFate) (k : ℕ) (table : Option Table)
    → fates ≡ tabulate 16 (table_fate rewrite) → k < 16
    → table ≡ table_by_fate (get_or fates k Stays) rewrite fresh tables k → table ≡ table_remapped rewrite fresh tables k
by_its_fate rewrite fresh tables fates k table all within is =
    is
    ∙ ap (λ fate. table_by_fate fate rewrite fresh tables k)
    (ap (λ those. get_or those k Stays) all ∙ get_or-tabulate 16 (table_fate rewrite) k Stays within)

pub push-requires-clause-above : goal.push-requires-clause-above
push-requires-clause-above c =
    let rewrite = rewrite_of c.args.inode.now c.args.tables.now.items c.args.changed.now.items in
    let is =
    by_its_fate rewrite c.args.fresh.now c.args.tables.now.items c.args.fates.now c.loop-k.k _ c.requires.fates c.loop-k-test.true c.in_ok-table.ensures in
    let place = remapped_at_place rewrite c.args.fresh.now c.args.tables.now.items c.loop-k.k c.in-Some.table (sym is ∙ c.in-Some.is) in
    λ k d within. let below = c.loop-k.invariant.below k d within in omega arith

pub loop-k-preserved : goal.loop-k-preserved
loop-k-preserved c =
    let rewrite = rewrite_of c.args.inode.now c.args.tables.now.items c.args.changed.now.items in
    let is =
    by_its_fate rewrite c.args.fresh.now c.args.tables.now.items c.args.fates.now c.loop-k.k _ c.requires.fates c.loop-k-test.true c.in_ok-table.ensures in
    let f = table_remapped rewrite c.args.fresh.now c.args.tables.now.items in
    elim c.match-table.branch [
      | in-Some w ↦
          let given = sym is ∙ w.in-Some.is in
          let place = remapped_at_place rewrite c.args.fresh.now c.args.tables.now.items c.loop-k.k w.in-Some.table given in
          let spare : 16 ≤ w.push.new.self.spare + (c.loop-k.k + 1) = omega (arith, c.loop-k.invariant.spare, w.push.ensures.spare) in
          rw (w.after-is) (record {
            items =
                w.push.ensures.items ∙ ap (λ items. items ++ w.in-Some.table ∷ []) c.loop-k.invariant.items
                ∙ sym (one_more_given f c.loop-k.k w.in-Some.table given);
            below = rw w.push.ensures.items (all_below_more c.loop-k.after.items c.loop-k.k w.in-Some.table c.loop-k.invariant.below place);
            spare = spare;
          })
      | in_default w ↦
          let spare : 16 ≤ c.loop-k.after.spare + (c.loop-k.k + 1) = omega (arith, c.loop-k.invariant.spare) in
          rw (w.after-is) (record {
            items = c.loop-k.invariant.items ∙ sym (one_more_none f c.loop-k.k (sym is ∙ w.in_default.is));
            below = all_below_next c.loop-k.after.items c.loop-k.k c.loop-k.invariant.below;
            spare = spare;
          })
    ]

pub returns : goal.returns
returns c = let k_is : c.loop-k.k ≡ 16 = omega (arith, c.loop-k.auto.k-end) in
    c.loop-k.invariant.items
    ∙ ap (λ k. filter_map
    (table_remapped (rewrite_of c.args.inode.now c.args.tables.now.items c.args.changed.now.items) c.args.fresh.now c.args.tables.now.items)
    (range_with_len 0 k))
    k_is
