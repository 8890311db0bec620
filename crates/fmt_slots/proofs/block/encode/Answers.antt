use Rattle.std.proofs.Common.{◌≡◌, subst, ap, ◌∙◌, arith}
use Rattle.sfs_image.specs.Slot.{IsSlot, slot_bytes}
use Rattle.sfs_image.specs.Bytes.{zeros}
use Rattle.sfs_image.specs.SlotBlock.{slots_bytes, AreSlots}
use Rattle.sfs_image.proofs.BytesLaws.{length-part}
use Rattle.fmt_slots.proofs.SlotsWritten.{SlotsWritten, one_written, all_written, all_fit}
use Rattle.fmt_slots.proofs.block.encode.Goals as goal

pub loop-k-preserved : goal.loop-k-preserved
loop-k-preserved c =
    one_written _ _ _ _ _ c.index.result.now c.slots.invariant c.loop-k-test.true (omega arith) c.loop-k.invariant c.index.ensures
    (subst IsSlot c.as_ref.ensures.value c.encode_slot.ensures.fits) (c.encode_slot.ensures.bytes ∙ ap slot_bytes c.as_ref.ensures.value)

pub returns-clause-bytes : goal.returns-clause-bytes
returns-clause-bytes c =
    let e : c.loop-k.k ≡ 15 = omega arith in
    let all = subst (SlotsWritten c.slots.inside.slots.items c.loop-k.block) e c.loop-k.invariant in
    let rest = length-part 3960 136 c.loop-k.block (let len = all.len in omega arith) in
    all_written _ _ _ 136 c.slots.invariant (omega arith) all (c.clear.ensures ∙ ap zeros rest) ∙ ap slots_bytes c.slots.view_is

pub returns-clause-fits : goal.returns-clause-fits
returns-clause-fits c =
    let e : c.loop-k.k ≡ 15 = omega arith in
    let all = subst (SlotsWritten c.slots.inside.slots.items c.loop-k.block) e c.loop-k.invariant in
    subst AreSlots c.slots.view_is (all_fit _ _ c.slots.invariant all)
