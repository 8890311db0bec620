use Rattle.std.proofs.Common.{◌≡◌, ◌++◌, ap, sym, ◌∙◌, List, length, reverse, take, drop, arith}
use Rattle.std.specs.Vec.{vec_len}
use Rattle.std.proofs.lemmas.Grind.{common_steps}
use Rattle.stamp_table.specs.declared.held.HeldCell.{HeldCell}
use Rattle.stamp_table.specs.Hand.{places_of}
use Rattle.stamp_table.specs.Table.{with_values}
use Rattle.stamp_table.proofs.Exchanging.{places_stay, with_long, written_over}
use Rattle.stamp_table.proofs.hand.Core.swap_values.Goals as goal

pub invariant_of-self : goal.invariant_of-self
invariant_of-self g c =
    let values = c.args.values.now.items in
    let held = c.args.self.now.held in
    let was = ap (λ h. h.held) c.self.view_is in
    let new : c.swap_all.new.cells ≡ with_values values held =
    c.swap_all.ensures.cells ∙ (λ i. with_values (c.as_mut_slice-2.ensures.value i) ((c.as_mut_slice.ensures.value ∙ was) i)) in
    let long : length c.swap_all.new.cells ≡ length c.self.inside.held.items =
    ap length new ∙ (with_long values held c.requires ∙ ap length (sym was)) in
    let counted : vec_len c.self.inside.held ≡ length c.self.inside.held.items = grind (arith, common_steps) in
    let items : take c.self.inside.held.len (c.swap_all.new.cells ++ drop (length c.swap_all.new.cells) c.self.inside.held.items) ≡ with_values values held =
    written_over c.self.inside.held.items c.swap_all.new.cells c.self.inside.held.len counted long ∙ new in
    let core = c.self.invariant.0 in (
      record {
        lives = core.lives;
        calls = core.calls;
        number_known = core.number_known;
        entries_are = core.entries_are;
        few = core.few;
        places =
            core.places ∙ ap (λ (l : List (HeldCell g.row.C.Denot)). reverse (places_of l)) was
            ∙ (ap reverse (sym (places_stay values held c.requires)) ∙ ap (λ (l : List (HeldCell g.row.C.Denot)). reverse (places_of l)) (sym items));
        falls = core.falls;
        slots = core.slots;
        within = core.within;
      },
      c.self.invariant.1,
      c.self.invariant.2,
    )

pub returns-clause-cells : goal.returns-clause-cells
returns-clause-cells g c =
    let values = c.args.values.now.items in
    let held = c.args.self.now.held in
    let was = ap (λ h. h.held) c.self.view_is in
    let new : c.swap_all.new.cells ≡ with_values values held =
    c.swap_all.ensures.cells ∙ (λ i. with_values (c.as_mut_slice-2.ensures.value i) ((c.as_mut_slice.ensures.value ∙ was) i)) in
    let long : length c.swap_all.new.cells ≡ length c.self.inside.held.items =
    ap length new ∙ (with_long values held c.requires ∙ ap length (sym was)) in
    let counted : vec_len c.self.inside.held ≡ length c.self.inside.held.items = grind (arith, common_steps) in
    let items : take c.self.inside.held.len (c.swap_all.new.cells ++ drop (length c.swap_all.new.cells) c.self.inside.held.items) ≡ with_values values held =
    written_over c.self.inside.held.items c.swap_all.new.cells c.self.inside.held.len counted long ∙ new in
    (λ i. record {
      table = (c.self.view_is i).table;
      view = (c.self.view_is i).view;
      entries = (c.self.view_is i).entries;
      waiting = (c.self.view_is i).waiting;
      held = items i;
      spare = (c.self.view_is i).spare;
      room = (c.self.view_is i).room;
      leads = (c.self.view_is i).leads;
      cores = (c.self.view_is i).cores;
    })
