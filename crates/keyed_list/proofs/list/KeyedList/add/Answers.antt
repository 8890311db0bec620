use Rattle.std.proofs.Common.{sym, ap, subst, ◌∙◌}
use Rattle.keyed_list.specs.Ascending.{AscendBy, item_with}
use Rattle.keyed_list.proofs.Places.{insert_is_put, ascends_put}
use Rattle.keyed_list.proofs.list.KeyedList.add.Goals as goal

pub invariant_of-self-2 : goal.invariant_of-self-2
invariant_of-self-2 g c =
    let items = c.self.inside.items.items in
    let none = ap (λ l. item_with g.T.Numbered.number (g.T.Numbered.number c.args.item) l.items) c.self.view_is ∙ c.requires in
    let put =
    insert_is_put g.T.Numbered.number items c.args.item c.place_of-place.result (rw (← c.deref.ensures.value) c.place_of-place.ensures.bound) none
    (rw (← c.deref.ensures.value, ← c.key-number.ensures) c.place_of-place.ensures.parted) in
    subst (λ those. AscendBy g.T.Numbered.number those) (sym (c.in_ok-insert.ensures.items ∙ put))
    (ascends_put g.T.Numbered.number items c.args.item c.self.invariant none)

pub returns-clause-ok : goal.returns-clause-ok
returns-clause-ok g c =
    let items = c.self.inside.items.items in
    let none = ap (λ l. item_with g.T.Numbered.number (g.T.Numbered.number c.args.item) l.items) c.self.view_is ∙ c.requires in
    let put =
    insert_is_put g.T.Numbered.number items c.args.item c.place_of-place.result (rw (← c.deref.ensures.value) c.place_of-place.ensures.bound) none
    (rw (← c.deref.ensures.value, ← c.key-number.ensures) c.place_of-place.ensures.parted) in
    rw (← c.self.view_is) (c.in_ok-insert.ensures.items ∙ put)
