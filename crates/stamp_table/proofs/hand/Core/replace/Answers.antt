use Rattle.std.proofs.Common.{rules, ◌<◌, length, ◌∙◌, ap, sym, subst, List, reverse, option_map}
use Rattle.keyed_list.specs.Ascending.{AscendBy}
use Rattle.stamp_table.specs.Ascending.{Falls}
use Rattle.stamp_table.specs.declared.held.HeldCell.{HeldCell}
use Rattle.stamp_table.specs.Hand.{places_of, place_in}
use Rattle.stamp_table.specs.Table.{cells_before}
use Rattle.stamp_table.proofs.Finding.{ascend}
use Rattle.stamp_table.proofs.Replacing.{within_found, replaced, same_places}
use Rattle.stamp_table.proofs.hand.Core.replace.Goals as goal

pub find_index-at-requires-clause-ascend : goal.find_index-at-requires-clause-ascend
find_index-at-requires-clause-ascend g c =
    subst (λ (l : List (HeldCell g.row.C.Denot)). AscendBy place_in l) (sym c.deref.ensures.value)
    (ascend c.self.inside.held.items (subst Falls c.self.invariant.0.places c.self.invariant.0.falls))

pub index_mut-requires : goal.index_mut-requires
index_mut-requires g c =
    let held = ap (λ h. h.held) c.self.view_is in
    let index = c.find_index-at.ensures ∙ ap (cells_before c.args.place) c.deref.ensures.value in
    subst (λ k. c.find_index-at.result < k) (ap length (sym c.deref.ensures.value) ∙ c.deref.ensures.len)
    (within_found c.args.place c.self.inside.held.items c.args.self.now.held c.find_index-at.result held c.requires index)

pub invariant_of-self : goal.invariant_of-self
invariant_of-self g c =
    let held = ap (λ h. h.held) c.self.view_is in
    let index = c.find_index-at.ensures ∙ ap (cells_before c.args.place) c.deref.ensures.value in
    let done =
    replaced c.args.place c.self.inside.held.items c.args.self.now.held c.find_index-at.result c.index_mut.result.now c.replace.new.dest c.args.value held
    c.requires index c.index_mut.ensures.value c.replace.ensures.after in
    let core = c.self.invariant.0 in (
      record {
        lives = core.lives;
        calls = core.calls;
        number_known = core.number_known;
        entries_are = core.entries_are;
        few = core.few;
        places =
            core.places ∙ ap (λ (l : List (HeldCell g.row.C.Denot)). reverse (places_of l)) held
            ∙ (ap reverse (sym (same_places c.args.place c.args.self.now.held c.args.value))
            ∙ ap (λ (l : List (HeldCell g.row.C.Denot)). reverse (places_of l)) (sym done.1));
        falls = core.falls;
        slots = core.slots;
        within = core.within;
      },
      c.self.invariant.1,
      c.self.invariant.2,
    )

pub returns-clause-old : goal.returns-clause-old
returns-clause-old g c =
    let held = ap (λ h. h.held) c.self.view_is in
    let index = c.find_index-at.ensures ∙ ap (cells_before c.args.place) c.deref.ensures.value in
    let done =
    replaced c.args.place c.self.inside.held.items c.args.self.now.held c.find_index-at.result c.index_mut.result.now c.replace.new.dest c.args.value held
    c.requires index c.index_mut.ensures.value c.replace.ensures.after in
    ap (option_map (λ (x : HeldCell g.row.C.Denot). x.value)) done.0 ∙ search rules

pub returns-clause-new : goal.returns-clause-new
returns-clause-new g c =
    let held = ap (λ h. h.held) c.self.view_is in
    let index = c.find_index-at.ensures ∙ ap (cells_before c.args.place) c.deref.ensures.value in
    let done =
    replaced c.args.place c.self.inside.held.items c.args.self.now.held c.find_index-at.result c.index_mut.result.now c.replace.new.dest c.args.value held
    c.requires index c.index_mut.ensures.value c.replace.ensures.after in
    (λ i. record {
      table = (c.self.view_is i).table;
      view = (c.self.view_is i).view;
      entries = (c.self.view_is i).entries;
      waiting = (c.self.view_is i).waiting;
      held = done.1 i;
      spare = (c.self.view_is i).spare;
      room = (c.self.view_is i).room;
      leads = (c.self.view_is i).leads;
      cores = (c.self.view_is i).cores;
    })
