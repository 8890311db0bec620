use Rattle.std.proofs.Common.{◌<◌, rules, sym, ap, subst, ◌∙◌, Some}
use Rattle.std.proofs.lemmas.List.Sorted.{answers_always}
use Rattle.std.proofs.lemmas.List.Quantifiers.{all_pairs_remove}
use Rattle.keyed_list.specs.Ascending.{AscendBy, without}
use Rattle.keyed_list.proofs.Searched.{search_finds, search_misses}
use Rattle.keyed_list.proofs.Places.{remove_is_without, nothing_without, found_number}
use Rattle.keyed_list.proofs.list.KeyedList.take.Goals as goal

pub invariant_of-self : goal.invariant_of-self
invariant_of-self g c =
    subst (λ those. AscendBy g.T.Numbered.number those) (sym c.remove.ensures.items)
    (all_pairs_remove (λ first later. g.T.Numbered.number first < g.T.Numbered.number later) c.self.inside.items.items c.in-Ok.at
    (rw (← c.deref.ensures.value) c.in-Ok.ensures.bound) c.self.invariant)

pub returns-in-Ok-clause-value : goal.returns-in-Ok-clause-value
returns-in-Ok-clause-value g c =
    let by_key = c.in-Ok.ensures.position g.T.Numbered.number (answers_always _ _ _ (λ f a r h called. search rules)) in
    let found =
    search_finds g.T.Numbered.number c.self.inside.items.items c.self.invariant c.args.number c.in-Ok.at c.remove.result
    (rw (← c.deref.ensures.value) c.in-Ok.ensures.bound) (rw (← c.deref.ensures.value) by_key) in
    rw (← c.self.view_is) (ap Some c.remove.ensures.value ∙ found)

pub returns-in-Ok-clause-items : goal.returns-in-Ok-clause-items
returns-in-Ok-clause-items g c =
    let by_key = c.in-Ok.ensures.position g.T.Numbered.number (answers_always _ _ _ (λ f a r h called. search rules)) in
    let items = c.self.inside.items.items in
    let same = found_number g.T.Numbered.number items c.args.number c.in-Ok.at c.remove.result (rw (← c.deref.ensures.value) by_key) in
    rw (← c.self.view_is)
    (c.remove.ensures.items
    ∙ remove_is_without g.T.Numbered.number items c.self.invariant c.in-Ok.at c.remove.result (rw (← c.deref.ensures.value) c.in-Ok.ensures.bound)
    ∙ ap (λ n. without g.T.Numbered.number n items) same)

pub returns-in-Err-clause-value : goal.returns-in-Err-clause-value
returns-in-Err-clause-value g c =
    let by_key = c.in-Err.ensures.position g.T.Numbered.number (answers_always _ _ _ (λ f a r h called. search rules)) in
    rw (← c.self.view_is)
    (search_misses g.T.Numbered.number c.self.inside.items.items c.self.invariant c.args.number c.in-Err.field-0
    (rw (← c.deref.ensures.value) c.in-Err.ensures.bound) (rw (← c.deref.ensures.value) by_key))

pub returns-in-Err-clause-items : goal.returns-in-Err-clause-items
returns-in-Err-clause-items g c =
    let by_key = c.in-Err.ensures.position g.T.Numbered.number (answers_always _ _ _ (λ f a r h called. search rules)) in
    rw (← c.self.view_is)
    (nothing_without g.T.Numbered.number c.self.inside.items.items c.args.number
    (sym
    (search_misses g.T.Numbered.number c.self.inside.items.items c.self.invariant c.args.number c.in-Err.field-0
    (rw (← c.deref.ensures.value) c.in-Err.ensures.bound) (rw (← c.deref.ensures.value) by_key))))
