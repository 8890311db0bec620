use Rattle.std.proofs.Common.{rules, arith, ◌≡◌, ◌+◌, ℕ, length, subst, sym, ap, ◌∙◌, get_or, replicate}
use Rattle.std.proofs.lemmas.List.{length-replicate}
use Rattle.atomic_table.specs.Table.{opening}
use Rattle.tree_laws.specs.Tree.{TreeState}
use Rattle.stamp_table.specs.Placing.{by_given, at_slots}
use Rattle.stamp_table.specs.Hand.{Hand}
use Rattle.stamp_table.specs.Rule.{Kept}
use Rattle.stamp_table.specs.Events.{event_core, is_call, LawfulFrom, StandsFrom}
use Rattle.stamp_table.specs.Steps.{gatherer}
use Rattle.stamp_table.proofs.Beginning.{asks_new, all_zero, held_none, in_slots_stood, room_led}
use Rattle.stamp_table.proofs.shared.Shared.make_of_slots.Goals as goal

pub new-requires-2 : goal.new-requires-2
new-requires-2 g c =
    let count = length c.args.slots.items in
    let words : c.as_slice.result.now ≡ replicate (16 + count) 0 = search rules in
    let start : TreeState × (g.row.G.Denot × ℕ) = (c.args.first.now, (c.args.given.value, c.args.measure)) in
    subst (λ (z : ℕ × TreeState). Kept event_core is_call (LawfulFrom (by_given g.M.Meaning.lawful))
    (StandsFrom (at_slots g.M.Meaning.place_at g.M.Meaning.stands)) (z.1, (c.args.given.value, z.0))
    (opening c.as_slice.result.now c.args.slots.items (gatherer (z.1, (c.args.given.value, z.0)))))
    (λ i. (sym c.of-2.ensures i, sym c.of.ensures i))
    (asks_new (by_given g.M.Meaning.lawful) (at_slots g.M.Meaning.place_at g.M.Meaning.stands) start c.as_slice.result.now c.args.slots.items
    (ap (λ l. get_or l 0 0) words ∙ all_zero (16 + count) 0)
    (ap length words ∙ length-replicate (16 + count) 0) c.requires.lawful
    (in_slots_stood g.M.Meaning.stands start g.M.Meaning.place_at c.args.slots.items c.requires.cells))

pub cores_of-hands-requires-clause-held : goal.cores_of-hands-requires-clause-held
cores_of-hands-requires-clause-held g c =
    let made = c.in-Ok.ensures.held in
    (made.0, held_none c.args.cores.1 c.in-Ok.room.held.items made.1)

pub returns-clause-room : goal.returns-clause-room
returns-clause-room g c =
    let made = c.in-Ok.ensures.held in
    let hands = c.cores_of-hands.ensures in
    let count = hands.count in
    let some = c.requires.cores.0 in
    room_led c.args.cores.1 c.cores_of-hands.result.items c.index_mut.result.now c.lead_with.new.self (hands.room c.args.cores.1 made.1)
    c.index_mut.ensures.value (omega (arith, count, some)) (ap (λ (h : Hand g.row.C.Denot g.row.X.Denot g.row.G.Denot). h.room) c.lead_with.ensures)
