use Rattle.std.proofs.Common.{rules, [], sym, ap, ◌∙◌, arith, is_some}
use Rattle.std.proofs.lemmas.List.Sorted.{answers_always}
use Rattle.keyed_list.specs.Ascending.{item_with}
use Rattle.keyed_list.proofs.Searched.{search_finds, search_misses}
use Rattle.disk_change.specs.Patched.{SlotsPatch, slots_place}
use Rattle.disk_change.specs.declared.placed.PlacedSlots.{PlacedSlots}
use Rattle.disk_change.proofs.Patches.{length-patched}
use Rattle.disk_change.proofs.rewritten.is_touched.Goals as goal

abbrev NO_SLOTS : PlacedSlots
NO_SLOTS = record { place = 0; slots = [] }

pub returns-then-n-slots : goal.returns-then-n-slots
returns-then-n-slots c = λ touched told.
    let long = length-patched c.args.patch.now c.args.slots.now in
    sym (told.behind c.args.n c.if-n-slots.true (omega (arith, long, told.count, c.requires)))

pub returns-in-Ok : goal.returns-in-Ok
returns-in-Ok c = λ touched told.
    let by_key = c.in-Ok.ensures.position slots_place (answers_always _ _ _ (λ f a r h called. search rules)) in
    ap is_some
    (search_finds slots_place c.patch.inside.changed.items c.patch.invariant c.args.n c.in-Ok.field-0 NO_SLOTS
    (rw (← c.deref.ensures.value) c.in-Ok.ensures.bound)
    (rw (← c.deref.ensures.value) by_key))
    ∙ ap (λ (p : SlotsPatch). is_some (item_with slots_place c.args.n p.changed)) c.patch.view_is
    ∙ sym (told.there c.args.n (omega (arith, c.if-n-slots.false)))

pub returns-in-Err : goal.returns-in-Err
returns-in-Err c = λ touched told.
    let by_key = c.in-Err.ensures.position slots_place (answers_always _ _ _ (λ f a r h called. search rules)) in
    ap is_some
    (search_misses slots_place c.patch.inside.changed.items c.patch.invariant c.args.n c.in-Err.field-0
    (rw (← c.deref.ensures.value) c.in-Err.ensures.bound) (rw (← c.deref.ensures.value) by_key))
    ∙ ap (λ (p : SlotsPatch). is_some (item_with slots_place c.args.n p.changed)) c.patch.view_is
    ∙ sym (told.there c.args.n (omega (arith, c.if-n-slots.false)))
