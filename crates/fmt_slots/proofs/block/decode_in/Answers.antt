use Rattle.std.proofs.Common.{◌≡◌, ◌*◌, ◌+◌, ◌<◌, ◌-◌, Some, option_map, take, drop, sym, ap, ◌∙◌, arith}
use Rattle.sfs_image.specs.Bytes.{part}
use Rattle.sfs_image.specs.Slot.{slot_fault, slot_of}
use Rattle.sfs_image.proofs.BytesLaws.{part-between, length-part, AreBytes-part}
use Rattle.sfs_image.proofs.SlotLaws.{slot_fault-lt}
use Rattle.fmt_slots.proofs.SlotsSoFar.{bad_place}
use Rattle.fmt_slots.proofs.block.decode_in.Goals as goal

-- the slot's own fault, at the place that the refusal names
refused : (c : goal.In-Bad) → slot_fault (part (264 * c.args.k) 264 c.args.block.now) ≡ Some c.in-Bad.at
refused c =
    let whole = part-between (264 * c.args.k) 264 c.args.block.now in
    ap slot_fault (sym whole)
    ∙ bad_place _ c.in-Bad.at
    (slot_fault (take (264 * c.args.k + 264 - 264 * c.args.k) (drop (264 * c.args.k) c.args.block.now))) c.in-Bad.is c.in-Err.ensures.err

pub overflow_add-result : goal.overflow_add-result
overflow_add-result c =
    let len = length-part (264 * c.args.k) 264 c.args.block.now (omega arith) in
    let within : c.in-Bad.at < 264 = slot_fault-lt _ c.in-Bad.at len (AreBytes-part (264 * c.args.k) 264 c.args.block.now c.fits-block) (refused c) in
    omega arith

pub returns-in-Ok-clause-ok : goal.returns-in-Ok-clause-ok
returns-in-Ok-clause-ok c =
    let e = part-between (264 * c.args.k) 264 c.args.block.now in
    let ok = c.in-Ok.ensures.ok in
    (ap (option_map (λ at. 264 * c.args.k + at)) (ap slot_fault (sym e) ∙ ok.0), ok.1 ∙ ap slot_of e)

pub returns-in-Bad-clause-err : goal.returns-in-Bad-clause-err
returns-in-Bad-clause-err c = ap (option_map (λ at. 264 * c.args.k + at)) (refused c)
