use Rattle.std.proofs.Common.{rules, ap, ◌∙◌, Some}
use Rattle.std.proofs.lemmas.List.Sorted.{answers_always}
use Rattle.keyed_list.proofs.Searched.{search_finds, search_misses}
use Rattle.keyed_list.proofs.list.KeyedList.find.Goals as goal

pub returns-in-Ok : goal.returns-in-Ok
returns-in-Ok g c =
    let by_key = c.in-Ok.ensures.position g.T.Numbered.number (answers_always _ _ _ (λ f a r h called. search rules)) in
    let found =
    search_finds g.T.Numbered.number c.self.inside.items.items c.self.invariant _ c.in-Ok.at c.index.result.now
    (rw (← c.deref.ensures.value) c.in-Ok.ensures.bound) (rw (← c.deref.ensures.value) by_key) in
    rw (← c.self.view_is) (ap Some c.index.ensures ∙ found)

pub returns-in-Err : goal.returns-in-Err
returns-in-Err g c =
    let by_key = c.in-Err.ensures.position g.T.Numbered.number (answers_always _ _ _ (λ f a r h called. search rules)) in
    rw (← c.self.view_is)
    (search_misses g.T.Numbered.number c.self.inside.items.items c.self.invariant _ c.in-Err.field-0
    (rw (← c.deref.ensures.value) c.in-Err.ensures.bound) (rw (← c.deref.ensures.value) by_key))
