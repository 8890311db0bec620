use Rattle.std.proofs.Common.{◌≡◌, subst, sym, ◌∙◌, arith}
use Rattle.std.proofs.lemmas.Result.{err_from_is_err_and}
use Rattle.sfs_image.proofs.SlotBlockLaws.{AreSlots-slots_of}
use Rattle.sfs_image.specs.SlotBlock.{AreSlots}
use Rattle.fmt_slots.proofs.SlotsSoFar.{SlotsSoFar, one_more, next_fault, last_fault, all_slots, count_slots}
use Rattle.fmt_slots.proofs.block.decode.Goals as goal

pub returns-in_err-decode_in-clause-err : goal.returns-in_err-decode_in-clause-err
returns-in_err-decode_in-clause-err c =
    let p = err_from_is_err_and c.from_residual-in_err-decode_in.result c.from_residual-in_err-decode_in.ensures.1 in
    rw (p.1, p.2) (next_fault _ _ _ _ c.loop-k.invariant c.loop-k-test.true c.in_err-decode_in.ensures.err)

pub loop-k-preserved : goal.loop-k-preserved
loop-k-preserved c =
    one_more _ _ _ _ _ c.loop-k.invariant c.in_ok-decode_in.ensures.ok.0 c.in_ok-decode_in.ensures.ok.1 c.in_ok-push.ensures.items

pub returns-in-Some-clause-err : goal.returns-in-Some-clause-err
returns-in-Some-clause-err c =
    let e : c.loop-k.k ≡ 15 = omega arith in
    last_fault _ _ (subst (SlotsSoFar c.args.block.now c.loop-k.slots.items) e c.loop-k.invariant) ∙ sym c.first_nonzero.ensures ∙ c.in-Some.is

pub invariant_of-result : goal.invariant_of-result
invariant_of-result c =
    let e : c.loop-k.k ≡ 15 = omega arith in
    count_slots _ _ (subst (SlotsSoFar c.args.block.now c.loop-k.slots.items) e c.loop-k.invariant)

pub returns-clause-ok : goal.returns-clause-ok
returns-clause-ok c =
    let e : c.loop-k.k ≡ 15 = omega arith in
    let all = subst (SlotsSoFar c.args.block.now c.loop-k.slots.items) e c.loop-k.invariant in
    (last_fault _ _ all ∙ sym c.first_nonzero.ensures ∙ c.in_default.is, all_slots _ _ all)

pub returns-clause-fits : goal.returns-clause-fits
returns-clause-fits c =
    let e : c.loop-k.k ≡ 15 = omega arith in
    let all = subst (SlotsSoFar c.args.block.now c.loop-k.slots.items) e c.loop-k.invariant in
    let none = last_fault _ _ all ∙ sym c.first_nonzero.ensures ∙ c.in_default.is in
    subst AreSlots (sym (all_slots _ _ all)) (AreSlots-slots_of c.args.block.now c.told-block c.fits-block none)
