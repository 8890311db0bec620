use Rattle.std.proofs.Common.{◌+◌, ◌<◌, ◌^◌, slice_get, OnSome, sym, ap, subst, ◌∙◌}
use Rattle.tree_laws.specs.Merged.{entries_in, entry_with}
use Rattle.tree_laws.specs.Kept.{kept_entries, IsWhole}
use Rattle.tree_laws.proofs.ByStamps.{get-by_stamps, room_for_next}
use Rattle.tree_laws.proofs.history.History.entry_at.Goals as goal

pub returns-in-Parts-clause-entry : goal.returns-in-Parts-clause-entry
returns-in-Parts-clause-entry c =
    let whole = subst IsWhole c.in-Parts.is c.self.invariant in
    c.next_stamped.ensures
    ∙ ap (λ parts. entry_with (entries_in parts) c.cursor.inside.place) c.deref-in-Parts.ensures.value
    ∙ sym (get-by_stamps (entries_in c.in-Parts.parts.items) whole c.cursor.inside.place)
    ∙ ap (λ es. slice_get es c.cursor.inside.place) (ap kept_entries (sym c.in-Parts.is) ∙ c.self.view_is)
    ∙ ap (slice_get c.args.self.now) c.cursor.view_is

pub returns-in-Parts-clause-small : goal.returns-in-Parts-clause-small
returns-in-Parts-clause-small c =
    let whole = subst IsWhole c.in-Parts.is c.self.invariant in
    subst (λ place. OnSome c.next_stamped.result (place + 1 < 2 ^ 64)) c.cursor.view_is
    (room_for_next (entries_in c.in-Parts.parts.items) c.cursor.inside.place c.next_stamped.result whole
    (c.next_stamped.ensures ∙ ap (λ parts. entry_with (entries_in parts) c.cursor.inside.place) c.deref-in-Parts.ensures.value))
