use Rattle.std.proofs.Common.{rules, ◌≡◌, ◌∙◌, ap, sym, subst, filter, List, ℕ, length}
use lib.ListN.{get_elem?}
use Rattle.std.specs.Mem.Slots.{slots_items}
use Rattle.tree_laws.specs.History.{IsLegal}
use Rattle.tree_laws.specs.Merged.{is_core}
use Rattle.tree_laws.specs.Tree.{TreeState}
use Rattle.tree_laws.specs.declared.history.Entry.{Entry}
use Rattle.stamp_table.specs.Placing.{by_given, at_slots}
use Rattle.stamp_table.specs.Hand.{Desk}
use Rattle.stamp_table.specs.Table.{IsLogAtEnd, AreAtHome}
use Rattle.stamp_table.proofs.Closing.{closes, home_by_place}
use Rattle.stamp_table.proofs.shared.Shared.close.Goals as goal

pub from_parts-requires : goal.from_parts-requires
from_parts-requires g c =
    let end =
    closes (by_given g.M.Meaning.lawful)
    (at_slots g.M.Meaning.place_at g.M.Meaning.stands) _ _ _ _ _ c.args.cores.items c.gather_all-lead.result.1.items c.close_with.ensures.values.2
    c.gather_all-lead.ensures.lead.1 c.gather_all-lead.ensures.lists c.gather_all-lead.ensures.saws c.gather_all-lead.ensures.cores
    c.gather_all-lead.ensures.parts c.gather_all-lead.ensures.calls
    (c.requires.count ∙ (sym (ap (λ t. t.cores) c.self.view_is) ∙ c.self.invariant.5)) in
    end.2.end.made.once

pub values_of-values-requires-clause-home : goal.values_of-values-requires-clause-home
values_of-values-requires-clause-home g c =
    let end =
    closes (by_given g.M.Meaning.lawful)
    (at_slots g.M.Meaning.place_at g.M.Meaning.stands) _ _ _ _ _ c.args.cores.items c.gather_all-lead.result.1.items c.close_with.ensures.values.2
    c.gather_all-lead.ensures.lead.1 c.gather_all-lead.ensures.lists c.gather_all-lead.ensures.saws c.gather_all-lead.ensures.cores
    c.gather_all-lead.ensures.parts c.gather_all-lead.ensures.calls
    (c.requires.count ∙ (sym (ap (λ t. t.cores) c.self.view_is) ∙ c.self.invariant.5)) in
    (end.2.inside, end.2.slots_are)

pub returns-clause-legal : goal.returns-clause-legal
returns-clause-legal g c =
    let end =
    closes (by_given g.M.Meaning.lawful)
    (at_slots g.M.Meaning.place_at g.M.Meaning.stands) _ _ _ _ _ c.args.cores.items c.gather_all-lead.result.1.items c.close_with.ensures.values.2
    c.gather_all-lead.ensures.lead.1 c.gather_all-lead.ensures.lists c.gather_all-lead.ensures.saws c.gather_all-lead.ensures.cores
    c.gather_all-lead.ensures.parts c.gather_all-lead.ensures.calls
    (c.requires.count ∙ (sym (ap (λ t. t.cores) c.self.view_is) ∙ c.self.invariant.5)) in
    subst (λ (z : TreeState × List Entry). IsLegal z.0 z.1)
    (λ i. (ap (λ t. t.first) c.self.view_is i, sym (c.from_parts.ensures ∙ end.2.end.made.merged) i)) end.2.end.legal

pub returns-clause-own : goal.returns-clause-own
returns-clause-own g c core hand at =
    let end =
    closes (by_given g.M.Meaning.lawful)
    (at_slots g.M.Meaning.place_at g.M.Meaning.stands) _ _ _ _ _ c.args.cores.items c.gather_all-lead.result.1.items c.close_with.ensures.values.2
    c.gather_all-lead.ensures.lead.1 c.gather_all-lead.ensures.lists c.gather_all-lead.ensures.saws c.gather_all-lead.ensures.cores
    c.gather_all-lead.ensures.parts c.gather_all-lead.ensures.calls
    (c.requires.count ∙ (sym (ap (λ t. t.cores) c.self.view_is) ∙ c.self.invariant.5)) in
    ap (filter (is_core core)) (c.from_parts.ensures ∙ end.2.end.made.merged) ∙ end.2.end.own core hand at

pub returns-clause-log : goal.returns-clause-log
returns-clause-log g c =
    let end =
    closes (by_given g.M.Meaning.lawful)
    (at_slots g.M.Meaning.place_at g.M.Meaning.stands) _ _ _ _ _ c.args.cores.items c.gather_all-lead.result.1.items c.close_with.ensures.values.2
    c.gather_all-lead.ensures.lead.1 c.gather_all-lead.ensures.lists c.gather_all-lead.ensures.saws c.gather_all-lead.ensures.cores
    c.gather_all-lead.ensures.parts c.gather_all-lead.ensures.calls
    (c.requires.count ∙ (sym (ap (λ t. t.cores) c.self.view_is) ∙ c.self.invariant.5)) in
    let history = c.from_parts.ensures ∙ end.2.end.made.merged in
    let inside = end.2.inside in
    let values = c.values_of-values.result.items in
    let start : TreeState × (g.row.G.Denot × ℕ) = (
      c.self.inside.table.shared.key.0.value,
      (
        c.self.inside.table.shared.key.1.0.value,
        c.self.inside.table.shared.key.1.1.value,
      ),
    ) in
    let number : c.self.inside.measure ≡ start.1.1 = search rules in
    let table = ap (λ t. t.table) c.self.view_is in
    let first = ap (λ t. t.first) c.self.view_is in
    let slots : length (slots_items c.close_with.result.slots) ≡ c.args.self.table.id.slots = search rules in
    let count : length c.values_of-values.result.items ≡ length (slots_items c.close_with.result.slots) = search rules in (
      end.0,
      subst (λ (z : (Desk g.row.G.Denot × TreeState) × List Entry). IsLogAtEnd (g.M.Meaning.lawful z.0.0.given) z.0.1 c.args.cores.items z.1 end.0)
          (λ i. ((table i, first i), sym history i)) end.2.end.log_is,
      subst (λ (z : (Desk g.row.G.Denot × TreeState) × ℕ). AreAtHome (g.M.Meaning.stands z.0.0.given) z.0.1 end.0 z.1 c.values_of-values.result.items)
          (λ i. ((table i, first i), slots i))
          (subst (λ l. AreAtHome (g.M.Meaning.stands start.1.0) start.0 end.0 (length l) values) (sym end.2.slots_are)
          (home_by_place g.M.Meaning.stands start end.0 g.M.Meaning.slot_at g.M.Meaning.place_at inside values (g.M.Meaning.one_to_one start.1.1)
          (subst (λ l. AreAtHome (at_slots g.M.Meaning.place_at g.M.Meaning.stands start.1) start.0 end.0 (length l) inside) end.2.slots_are end.2.home)
          (count ∙ ap length end.2.slots_are)
          (λ place value at. ap (λ l. get_elem? l (g.M.Meaning.slot_at start.1.1 place)) (sym end.2.slots_are)
          ∙ (ap (λ k. get_elem? (slots_items c.close_with.result.slots) (g.M.Meaning.slot_at k place)) (sym number)
          ∙ c.values_of-values.ensures.each place value at)))),
    )
