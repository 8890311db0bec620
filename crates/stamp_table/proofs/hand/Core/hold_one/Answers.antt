use Rattle.std.proofs.Common.{rules, ◌≡◌, ◌∷◌, ◌<◌, ◌-◌, ℕ, List, Some, None, ap, sym, ◌∙◌, subst, length, is_some, option_map}
use Rattle.std.specs.Vec.{vec_capacity, vec_len}
use Rattle.atomic_table.specs.Table.{rest}
use Rattle.sfs_base.specs.declared.numbers.Stamp.{Stamp}
use Rattle.stamp_table.specs.Ascending.{LiesAbove}
use Rattle.stamp_table.specs.declared.held.HeldCell.{HeldCell}
use Rattle.stamp_table.specs.Events.{SeatView, tree_view}
use Rattle.stamp_table.specs.Hand.{Desk, Hand, IsCore, LeadsWell, spare_of}
use Rattle.stamp_table.specs.Placing.{by_given, at_slots}
use Rattle.stamp_table.specs.Table.{TakesCell, HoldsMore}
use Rattle.stamp_table.proofs.Hands.{taken_there, IsBrought, brought_fits, brought_saw, brought_stands}
use Rattle.stamp_table.proofs.hand.Core.hold_one.Goals as goal

pub bring-value-requires-clause-top : goal.bring-value-requires-clause-top
bring-value-requires-clause-top g c =
    taken_there (by_given g.M.Meaning.lawful) (at_slots g.M.Meaning.place_at g.M.Meaning.stands) _ _ _ c.take.ensures.takes

pub invariant_of-self : goal.invariant_of-self
invariant_of-self g c =
    let desk : c.args.shared.now.table ≡ record {
      id = c.self.inside.seat.table_id;
      given = c.self.inside.seat.me.0.first.1.0;
      measure = c.self.inside.seat.me.0.first.1.1;
    } = sym c.requires.table ∙ ap (λ h. h.table) (sym c.self.view_is) in
    let slot : c.slot_of-slot.result ≡ g.M.Meaning.slot_at c.self.inside.seat.me.0.first.1.1 c.args.place =
    c.slot_of-slot.ensures.slot ∙ ap (λ d. g.M.Meaning.slot_at d.measure c.args.place) desk in
    let value = c.bring-value.result in
    let is : IsBrought g.M.Meaning.lawful g.M.Meaning.stands g.M.Meaning.slot_at g.M.Meaning.place_at c.self.inside.seat c.take.new.seat
    c.bring-value.new.seat c.args.place value = record {
      table = c.bring-value.ensures.same.table ∙ c.take.ensures.same.table;
      takes = subst (λ k. TakesCell (by_given g.M.Meaning.lawful) (at_slots g.M.Meaning.place_at g.M.Meaning.stands) k c.self.inside.seat.me
          c.take.new.seat.me) slot c.take.ensures.takes;
      out = subst (λ k. c.take.new.seat.me.1 ≡ (k, Some value) ∷ rest c.take.new.seat.me.1) slot c.bring-value.ensures.value;
      empty = subst (λ k. c.bring-value.new.seat.me ≡ (c.take.new.seat.me.0, (k, None) ∷ rest c.take.new.seat.me.1)) slot c.bring-value.ensures.empty;
      above = subst (LiesAbove c.args.place) (ap (λ h. h.view.held) (sym c.self.view_is)) c.requires.above;
      within = subst (λ (d : Desk g.row.G.Denot). c.args.place < d.id.slots) desk c.requires.cell;
    } in (
      subst (λ (l : List (HeldCell g.row.C.Denot)). IsCore g.M.Meaning.place_at c.bring-value.new.seat c.self.inside.number.0 c.self.inside.entries.items l)
          (sym c.push_reserved.ensures.items)
          (brought_fits g.M.Meaning.lawful g.M.Meaning.stands g.M.Meaning.slot_at g.M.Meaning.place_at g.M.Meaning.one_to_one c.self.inside.seat
          c.take.new.seat c.bring-value.new.seat _ _ _ c.args.place value c.self.invariant.0 is),
      subst (λ t. LeadsWell t c.self.inside.cores c.self.inside.lead) (sym is.table) c.self.invariant.1,
      c.self.invariant.2,
    )

pub returns : goal.returns
returns g c =
    let desk : c.args.shared.now.table ≡ record {
      id = c.self.inside.seat.table_id;
      given = c.self.inside.seat.me.0.first.1.0;
      measure = c.self.inside.seat.me.0.first.1.1;
    } = sym c.requires.table ∙ ap (λ h. h.table) (sym c.self.view_is) in
    let slot : c.slot_of-slot.result ≡ g.M.Meaning.slot_at c.self.inside.seat.me.0.first.1.1 c.args.place =
    c.slot_of-slot.ensures.slot ∙ ap (λ d. g.M.Meaning.slot_at d.measure c.args.place) desk in
    let value = c.bring-value.result in
    let is : IsBrought g.M.Meaning.lawful g.M.Meaning.stands g.M.Meaning.slot_at g.M.Meaning.place_at c.self.inside.seat c.take.new.seat
    c.bring-value.new.seat c.args.place value = record {
      table = c.bring-value.ensures.same.table ∙ c.take.ensures.same.table;
      takes = subst (λ k. TakesCell (by_given g.M.Meaning.lawful) (at_slots g.M.Meaning.place_at g.M.Meaning.stands) k c.self.inside.seat.me
          c.take.new.seat.me) slot c.take.ensures.takes;
      out = subst (λ k. c.take.new.seat.me.1 ≡ (k, Some value) ∷ rest c.take.new.seat.me.1) slot c.bring-value.ensures.value;
      empty = subst (λ k. c.bring-value.new.seat.me ≡ (c.take.new.seat.me.0, (k, None) ∷ rest c.take.new.seat.me.1)) slot c.bring-value.ensures.empty;
      above = subst (LiesAbove c.args.place) (ap (λ h. h.view.held) (sym c.self.view_is)) c.requires.above;
      within = subst (λ (d : Desk g.row.G.Denot). c.args.place < d.id.slots) desk c.requires.cell;
    } in
    let before = c.self.inside.seat.me.0 in
    let saw = brought_saw g.M.Meaning.lawful g.M.Meaning.stands g.M.Meaning.slot_at g.M.Meaning.place_at g.M.Meaning.one_to_one c.self.inside.seat
    c.take.new.seat c.bring-value.new.seat _ _ _ c.args.place value c.self.invariant.0 is in
    let first : c.bring-value.new.seat.me.0.first ≡ before.first =
    ap (λ m. m.0.first) is.empty ∙ ap (λ (v : SeatView (g.row.G.Denot × ℕ) g.row.X.Denot). v.first) is.takes.saw.frame in
    subst (λ (z : Desk g.row.G.Denot × Hand g.row.C.Denot g.row.X.Denot g.row.G.Denot). HoldsMore (g.M.Meaning.lawful z.0.given) (g.M.Meaning.stands z.0.given)
    c.args.place z.1 (record {
      table = record { id = c.bring-value.new.seat.table_id; given = c.bring-value.new.seat.me.0.first.1.0; measure = c.bring-value.new.seat.me.0.first.1.1 };
      view = tree_view g.M.Meaning.place_at c.bring-value.new.seat.me.0;
      entries = c.self.inside.entries.items;
      waiting = option_map (λ (stamp : Stamp). stamp.0) c.self.inside.waiting;
      held = c.push_reserved.new.self.items;
      spare = spare_of (vec_capacity c.self.inside.entries) (length c.self.inside.entries.items);
      room = vec_capacity c.push_reserved.new.self - vec_len c.push_reserved.new.self;
      leads = is_some c.self.inside.lead;
      cores = c.self.inside.cores;
    }))
    (λ i. (sym desk i, c.self.view_is i))
    (record {
      frame = λ i. record {
        table = record { id = is.table i; given = (first i).1.0; measure = (first i).1.1 };
        view = tree_view g.M.Meaning.place_at before;
        entries = c.self.inside.entries.items;
        waiting = option_map (λ (stamp : Stamp). stamp.0) c.self.inside.waiting;
        held = c.self.inside.held.items;
        spare = spare_of (vec_capacity c.self.inside.entries) (length c.self.inside.entries.items);
        room = vec_capacity c.self.inside.held - vec_len c.self.inside.held;
        leads = is_some c.self.inside.lead;
        cores = c.self.inside.cores;
      };
      room = search rules;
      saw = saw;
      value = (
        value,
        c.push_reserved.ensures.items,
        brought_stands g.M.Meaning.lawful g.M.Meaning.stands g.M.Meaning.slot_at g.M.Meaning.place_at g.M.Meaning.one_to_one c.self.inside.seat
            c.take.new.seat c.bring-value.new.seat _ _ _ c.args.place value c.self.invariant.0 is,
      );
    })
