use Rattle.std.proofs.Common.{rules, ◌≡◌, ◌∷◌, ◌<◌, List, Some, None, ap, sym, ◌∙◌, subst}
use Rattle.atomic_table.specs.Table.{rest}
use Rattle.stamp_table.specs.declared.held.HeldCell.{HeldCell}
use Rattle.tree_laws.specs.Tree.{TreeState}
use Rattle.stamp_table.specs.declared.event.Event.{Event}
use Rattle.stamp_table.specs.declared.view.View.{View}
use Rattle.stamp_table.specs.Hand.{IsCore, Desk, empty_slots}
use Rattle.stamp_table.specs.Placing.{by_given, at_slots}
use Rattle.stamp_table.specs.Table.{GoesHome}
use Rattle.stamp_table.proofs.Hands.{last_within, last_slot, goes_home}
use Rattle.stamp_table.proofs.hand.Core.give_last.Goals as goal

pub slot_of-slot-requires : goal.slot_of-slot-requires
slot_of-slot-requires g c =
    let whole =
    subst (λ (l : List (HeldCell g.row.C.Denot)). IsCore g.M.Meaning.place_at c.self.inside.seat c.self.inside.number.0 c.self.inside.entries.items l)
    c.in-Some.ensures.items c.self.invariant.0 in
    subst (λ t. c.in-Some.field-0.place < t.slots) (ap (λ h. h.table.id) c.self.view_is ∙ ap (λ d. d.id) c.requires.table)
    (last_within g.M.Meaning.slot_at g.M.Meaning.place_at g.M.Meaning.one_to_one c.self.inside.seat _ _ c.pop.new.self.items c.in-Some.field-0 whole)

pub put-requires-clause-top : goal.put-requires-clause-top
put-requires-clause-top g c =
    let desk : c.args.shared.now.table ≡ record {
      id = c.self.inside.seat.table_id;
      given = c.self.inside.seat.me.0.first.1.0;
      measure = c.self.inside.seat.me.0.first.1.1;
    } = sym c.requires.table ∙ ap (λ h. h.table) (sym c.self.view_is) in
    let cell = c.in-Some.field-0 in
    let slot : c.slot_of-slot.result ≡ g.M.Meaning.slot_at c.self.inside.seat.me.0.first.1.1 cell.place =
    c.slot_of-slot.ensures.slot ∙ ap (λ d. g.M.Meaning.slot_at d.measure cell.place) desk in
    let whole =
    subst (λ (l : List (HeldCell g.row.C.Denot)). IsCore g.M.Meaning.place_at c.self.inside.seat c.self.inside.number.0 c.self.inside.entries.items l)
    c.in-Some.ensures.items c.self.invariant.0 in
    let held = last_slot g.M.Meaning.slot_at g.M.Meaning.place_at g.M.Meaning.one_to_one c.self.inside.seat _ _ c.pop.new.self.items cell whole in
    let top = whole.slots ∙ ap empty_slots held in
    subst (λ k. c.self.inside.seat.me.1 ≡ (k, None) ∷ rest c.self.inside.seat.me.1) (sym slot)
    (top ∙ ap (λ l. (g.M.Meaning.slot_at c.self.inside.seat.me.0.first.1.1 cell.place, None) ∷ rest l) (sym top))

pub give-requires-clause-home : goal.give-requires-clause-home
give-requires-clause-home g c =
    let desk : c.args.shared.now.table ≡ record {
      id = c.self.inside.seat.table_id;
      given = c.self.inside.seat.me.0.first.1.0;
      measure = c.self.inside.seat.me.0.first.1.1;
    } = sym c.requires.table ∙ ap (λ h. h.table) (sym c.self.view_is) in
    let cell = c.in-Some.field-0 in
    let slot : c.slot_of-slot.result ≡ g.M.Meaning.slot_at c.self.inside.seat.me.0.first.1.1 cell.place =
    c.slot_of-slot.ensures.slot ∙ ap (λ d. g.M.Meaning.slot_at d.measure cell.place) desk in
    let whole =
    subst (λ (l : List (HeldCell g.row.C.Denot)). IsCore g.M.Meaning.place_at c.self.inside.seat c.self.inside.number.0 c.self.inside.entries.items l)
    c.in-Some.ensures.items c.self.invariant.0 in
    subst (λ k. GoesHome (by_given g.M.Meaning.lawful) (at_slots g.M.Meaning.place_at g.M.Meaning.stands) k c.put.new.seat.me) (sym slot)
    (goes_home g.M.Meaning.slot_at g.M.Meaning.place_at g.M.Meaning.one_to_one c.self.inside.seat _ _ c.pop.new.self.items cell whole
    g.M.Meaning.lawful g.M.Meaning.stands c.put.new.seat.me
    (subst (λ (z : Desk g.row.G.Denot × View TreeState (Event g.row.X.Denot)). g.M.Meaning.stands z.0.given z.1.first z.1.seen cell.place cell.value)
    (λ i. (desk i, ap (λ h. h.view) (sym c.self.view_is) i))
    (c.requires.home c.pop.new.self.items cell (sym (ap (λ h. h.held) c.self.view_is) ∙ c.in-Some.ensures.items)))
    (subst (λ k. c.put.new.seat.me ≡ (c.self.inside.seat.me.0, (k, Some cell.value) ∷ rest c.self.inside.seat.me.1)) slot c.put.ensures.full))

pub returns-clause-last : goal.returns-clause-last
returns-clause-last g c = (c.in-Some.field-0, search rules)
