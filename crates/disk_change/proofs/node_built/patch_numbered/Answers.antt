use Rattle.std.proofs.Common.{◌≡◌, ◌<◌, ◌++◌, ◌∷◌, [], List, Option, None, length, map, get_or, take, sym, ap, subst, ◌∙◌, arith}
use Rattle.std.specs.BTreeMap.{get}
use Rattle.std.specs.Option.{unwrap_or}
use Rattle.std.specs.Ordering.{nat_cmp}
use Rattle.std.proofs.lemmas.List.{map_more, take_all}
use Rattle.sfs_image.specs.Slot.{Row}
use Rattle.keyed_list.specs.Ascending.{AscendBy}
use Rattle.disk_change.specs.Numbered.{block_numbered}
use Rattle.disk_change.specs.Patched.{SlotsPatch, FitsBlocks, patched, slots_place}
use Rattle.disk_change.specs.declared.placed.PlacedSlots.{PlacedSlots}
use Rattle.disk_change.proofs.Patches.{placed_by, patch_by, mapped_ascend, mapped_fits, patched_by}
use Rattle.disk_change.proofs.Untouched.{block_keeps}
use Rattle.disk_change.proofs.node_built.patch_numbered.Goals as goal

pub loop-one-preserved : goal.loop-one-preserved
loop-one-preserved c =
    let f : List (Option Row) → List (Option Row) = block_numbered (λ node. unwrap_or (get nat_cmp c.args.numbers.now node) None) c.args.net.now in
    let xs = c.args.patch.now.changed in
    let one : PlacedSlots = c.one-item.result in
    let same = c.deref-one-items.ensures.value ∙ ap (λ (p : SlotsPatch). p.changed) c.patch.view_is in
    let long = ap length same in
    let within : c.loop-one.one-index < length xs = omega (arith, long, c.loop-one-test.true) in
    let is : one ≡ get_or xs c.loop-one.one-index one = c.one-item.is ∙ ap (λ l. get_or l c.loop-one.one-index one) same in
    c.in_ok-push.ensures.items ∙ (λ i. c.loop-one.invariant i ++ (record { place = one.place; slots = c.in_ok-slots.ensures i }) ∷ [])
    ∙ sym
    (map_more (placed_by f) xs c.loop-one.one-index one within
    ∙ ap (λ p. map (placed_by f) (take c.loop-one.one-index xs) ++ placed_by f p ∷ []) (sym is))

pub loop-block-preserved : goal.loop-block-preserved
loop-block-preserved c =
    let f : List (Option Row) → List (Option Row) = block_numbered (λ node. unwrap_or (get nat_cmp c.args.numbers.now node) None) c.args.net.now in
    let xs = c.args.patch.now.further in
    let block : List (Option Row) = c.block-item.result in
    let same = c.deref-block-items.ensures.value ∙ ap (λ (p : SlotsPatch). p.further) c.patch.view_is in
    let long = ap length same in
    let within : c.loop-block.block-index < length xs = omega (arith, long, c.loop-block-test.true) in
    let is : block ≡ get_or xs c.loop-block.block-index block = c.block-item.is ∙ ap (λ l. get_or l c.loop-block.block-index block) same in
    c.in_ok-push-2.ensures.items ∙ (λ i. c.loop-block.invariant i ++ c.in_ok-block_renumbered.ensures i ∷ [])
    ∙ sym (map_more f xs c.loop-block.block-index block within ∙ ap (λ b. map f (take c.loop-block.block-index xs) ++ f b ∷ []) (sym is))

all_changed : (c : goal.After-loop-block) → c.loop-one.changed.items
    ≡ map (placed_by (block_numbered (λ node. unwrap_or (get nat_cmp c.args.numbers.now node) None) c.args.net.now)) c.args.patch.now.changed
all_changed c =
    let same = c.deref-one-items.ensures.value ∙ ap (λ (p : SlotsPatch). p.changed) c.patch.view_is in
    let long = ap length same in
    c.loop-one.invariant
    ∙ ap (map (placed_by (block_numbered (λ node. unwrap_or (get nat_cmp c.args.numbers.now node) None) c.args.net.now)))
    (take_all c.loop-one.one-index c.args.patch.now.changed (omega (arith, long, c.loop-one-test.false)))

all_further : (c : goal.After-loop-block) → c.loop-block.further.items
    ≡ map (block_numbered (λ node. unwrap_or (get nat_cmp c.args.numbers.now node) None) c.args.net.now) c.args.patch.now.further
all_further c =
    let same = c.deref-block-items.ensures.value ∙ ap (λ (p : SlotsPatch). p.further) c.patch.view_is in
    let long = ap length same in
    c.loop-block.invariant
    ∙ ap (map (block_numbered (λ node. unwrap_or (get nat_cmp c.args.numbers.now node) None) c.args.net.now))
    (take_all c.loop-block.block-index c.args.patch.now.further (omega (arith, long, c.loop-block-test.false)))

ascend : (c : goal.After-loop-block) → AscendBy slots_place c.args.patch.now.changed
ascend c = subst (λ (p : SlotsPatch). AscendBy slots_place p.changed) c.patch.view_is c.patch.invariant

pub invariant_of-result : goal.invariant_of-result
invariant_of-result c =
    subst (AscendBy slots_place) (sym (all_changed c)) (mapped_ascend (block_numbered (λ node. unwrap_or (get nat_cmp c.args.numbers.now node) None) c.args.net.now) c.args.patch.now.changed (ascend c))

pub returns : goal.returns
returns c =
    let f : List (Option Row) → List (Option Row) = block_numbered (λ node. unwrap_or (get nat_cmp c.args.numbers.now node) None) c.args.net.now in
    let now : (record { changed = c.loop-one.changed.items; further = c.loop-block.further.items }) ≡ patch_by f c.args.patch.now =
    λ i. record { changed = all_changed c i; further = all_further c i } in
    record {
      slots =
          ap (λ (p : SlotsPatch). take c.args.end (patched p c.args.slots.now)) now
          ∙ patched_by f c.args.net.now c.args.end c.args.slots.now c.args.patch.now (ascend c)
          (block_keeps c.args.net.now (λ node. unwrap_or (get nat_cmp c.args.numbers.now node) None)) c.requires.patch;
      fits = subst (FitsBlocks c.args.slots.now) (sym now) (mapped_fits f c.args.slots.now c.args.patch.now c.requires.patch.fits);
    }
