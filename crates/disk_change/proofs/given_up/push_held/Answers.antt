use Rattle.std.proofs.Common.{◌≡◌, ◌≤◌, inl, inr, length, subst, sym, ap, ◌∙◌, ◌++◌, arith}
use Rattle.std.specs.List.{range_with_len, flat_map}
use Rattle.std.proofs.lemmas.Bool.{cases_lt}
use Rattle.sfs_image.specs.Inode.{Inode}
use Rattle.block_map.specs.Remap.{there}
use Rattle.disk_change.specs.GivenUp.{pointers_of_place}
use Rattle.disk_change.proofs.Left.{range_more_flat}
use Rattle.disk_change.proofs.Held.{held_behind}
use Rattle.disk_change.proofs.given_up.push_held.Goals as goal

pub loop-k-preserved : goal.loop-k-preserved
loop-k-preserved c = record {
  blocks =
      range_more_flat
      (λ k. flat_map there (pointers_of_place c.args.tables.now.items k)) _ c.loop-k.k c.loop-k.blocks.items _ c.loop-k.invariant.blocks
      c.in_ok-push_table.ensures.blocks;
  counts = λ k less. elim (cases_lt k c.loop-k.k) [
    | inl earlier ↦ c.loop-k.invariant.counts k earlier
    | inr not_earlier ↦ let same : c.loop-k.k ≡ k = omega arith in
        subst (λ n. length (pointers_of_place c.args.tables.now.items n) ≤ 1024) same c.in_ok-push_table.ensures.count
  ];
}

pub returns : goal.returns
returns c =
    let k_is : c.loop-k.k ≡ 16 = omega (arith, c.loop-k.auto.k-end) in
    let view = c.inode.view_is in
    let first = c.in_ok-push_pointers.ensures ∙ ap (λ (inode : Inode). c.args.blocks.now.items ++ flat_map there inode.direct) view in
    let second = c.in_ok-push_pointers-2.ensures ∙ (λ i. first i ++ flat_map there (view i).indirect) in
    held_behind c.args.inode.now c.args.tables.now.items (ap (λ (inode : Inode). length inode.direct) (sym view) ∙ c.inode.told.0)
    (ap (λ (inode : Inode). length inode.indirect) (sym view) ∙ c.inode.told.1)
    (λ k less. c.loop-k.invariant.counts k (omega (arith, less, k_is))) c.args.blocks.now.items c.loop-k.blocks.items
    (c.loop-k.invariant.blocks ∙ (λ i. second i ++ flat_map (λ k. flat_map there (pointers_of_place c.args.tables.now.items k)) (range_with_len 0 (k_is i))))
