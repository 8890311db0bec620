use Rattle.std.proofs.Common.{rules, sym, ap, ◌∙◌, arith, Some}
use Rattle.std.proofs.lemmas.List.Sorted.{answers_always}
use Rattle.keyed_list.proofs.Searched.{search_finds, search_misses}
use Rattle.disk_change.specs.Patched.{SlotsPatch, slots_place}
use Rattle.disk_change.proofs.Patches.{patched_behind, block_found, block_own}
use Rattle.disk_change.proofs.patch.block_of.Goals as goal

pub returns-then-n-slots : goal.returns-then-n-slots
returns-then-n-slots c = c.further_at.ensures ∙ sym (patched_behind c.args.patch.now c.args.slots.now c.args.n c.if-n-slots.true)

pub returns-in-Ok : goal.returns-in-Ok
returns-in-Ok c =
    let by_key = c.in-Ok.ensures.position slots_place (answers_always _ _ _ (λ f a r h called. search rules)) in
    let found =
    search_finds slots_place c.patch.inside.changed.items c.patch.invariant c.args.n c.in-Ok.at c.index.result.now
    (rw (← c.deref.ensures.value) c.in-Ok.ensures.bound) (rw (← c.deref.ensures.value) by_key) in
    block_found c.args.patch.now c.args.slots.now c.args.n c.patch.inside.changed.items (ap (λ (p : SlotsPatch). p.changed) c.patch.view_is)
    c.patch.invariant (omega (arith, c.if-n-slots.false)) c.index.result.now (ap Some c.index.ensures ∙ found)

pub returns-in-Err : goal.returns-in-Err
returns-in-Err c =
    let by_key = c.in-Err.ensures.position slots_place (answers_always _ _ _ (λ f a r h called. search rules)) in
    block_own c.args.patch.now c.args.slots.now c.args.n c.patch.inside.changed.items (ap (λ (p : SlotsPatch). p.changed) c.patch.view_is)
    c.patch.invariant (omega (arith, c.if-n-slots.false)) c.index-slots-n.result
    (search_misses slots_place c.patch.inside.changed.items c.patch.invariant c.args.n c.in-Err.field-0
    (rw (← c.deref.ensures.value) c.in-Err.ensures.bound) (rw (← c.deref.ensures.value) by_key))
    c.index-slots-n.is
