use Rattle.std.proofs.Common.{rules, arith, ◌≡◌, ◌≤◌, ◌∷◌, ℕ, ◌<◌, List, length, subst, sym, ap, ◌∙◌}
use Rattle.std.proofs.lemmas.Grind.{common_steps}
use Rattle.tree_laws.specs.Tree.{TreeState}
use Rattle.stamp_table.specs.Placing.{by_given, at_slots}
use Rattle.stamp_table.specs.Hand.{Hand, Desk}
use Rattle.stamp_table.specs.Table.{IsIdleCore, AreIdleFrom, CoresHaveRoom, HaveRoomFor, IsNew, AreNew}
use Rattle.atomic_table.specs.Table.{Splits}
use Rattle.stamp_table.specs.Rule.{Kept}
use Rattle.stamp_table.specs.Events.{places_shown, event_core, is_call, LawfulFrom, StandsFrom}
use Rattle.stamp_table.specs.Steps.{one_more, newcomer}
use Rattle.stamp_table.proofs.Beginning.{asks_split, ready_next, new_snoc, room_snoc}
use Rattle.stamp_table.proofs.shared.Shared.cores_of.Goals as goal

pub split_seat-seat-requires : goal.split_seat-seat-requires
split_seat-seat-requires g c =
    let few : c.args.cores < 256 = search rules in
    let goes : c.loop-list.list-iterator.rest.items ≡ c.in-Some.list ∷ c.next.new.self.rest.items = grind (arith, common_steps) in
    let long = ap length goes in
    let within = c.loop-list.invariant.within in
    let low : c.loop-list.number < c.args.cores = omega (arith, long, within) in
    let asked =
    asks_split (by_given g.M.Meaning.lawful) (at_slots g.M.Meaning.place_at g.M.Meaning.stands)
    (c.args.table.now.shared.key.0.value, (c.args.table.now.shared.key.1.0.value, c.args.table.now.shared.key.1.1.value)) c.loop-list.lead.id
    c.loop-list.number c.args.cores
    low few in (
      search rules,
      search rules,
      subst (λ v. Splits
          (Kept event_core is_call (LawfulFrom (by_given g.M.Meaning.lawful)) (StandsFrom (at_slots g.M.Meaning.place_at g.M.Meaning.stands))
          (c.args.table.now.shared.key.0.value, (c.args.table.now.shared.key.1.0.value, c.args.table.now.shared.key.1.1.value))) c.loop-list.lead.id v
          (one_more v) (newcomer v))
          (sym (ap (λ m. m.0) c.loop-list.invariant.lead)) asked,
    )

pub loop-list-preserved : goal.loop-list-preserved
loop-list-preserved g c =
    let inv = c.loop-list.invariant in
    let goes : c.loop-list.list-iterator.rest.items ≡ c.in-Some.list ∷ c.next.new.self.rest.items = grind (arith, common_steps) in
    let long = ap length goes in
    let was = inv.within in
    let split = c.split_seat-seat.ensures in
    let lead = ap (λ m. m.0) inv.lead in
    let knows : c.split_seat-seat.result.me.0 ≡ newcomer c.loop-list.lead.me.0 = ap (λ m. m.0) split.4 in
    let first_is : c.split_seat-seat.result.me.0.first ≡
    (c.args.table.now.shared.key.0.value, (c.args.table.now.shared.key.1.0.value, c.args.table.now.shared.key.1.1.value)) =
    ap (λ v. v.first) knows ∙ ap (λ v. v.first) lead in
    let core_is : c.split_seat-seat.result.me.0.core ≡ c.loop-list.number = ap (λ v. v.core) knows ∙ ap (λ v. v.cores) lead in
    let desk : Desk g.row.G.Denot = record
    { id = c.args.table.now.shared.table_id; given = c.args.table.now.shared.key.1.0.value; measure = c.args.table.now.shared.key.1.1.value } in
    let ready : IsIdleCore desk c.args.cores (length c.loop-list.hands.items) c.begin.result =
    subst (λ (z : Desk g.row.G.Denot × ℕ). IsIdleCore z.0 c.args.cores z.1 c.begin.result)
    (λ i. (record { id = (split.3 ∙ inv.table) i; given = (first_is i).1.0; measure = (first_is i).1.1 }, (core_is ∙ sym inv.count) i)) c.begin.ensures.ready in
    let new : IsNew c.args.table.now.shared.key.0.value c.begin.result = record {
      first_is = ap (λ v. v.first) c.begin.ensures.view ∙ ap (λ (z : TreeState × (g.row.G.Denot × ℕ)). z.0) first_is;
      none_seen = ap (λ v. v.seen) c.begin.ensures.view ∙ ap (λ v. v.seen) knows;
      none_mine = ap (λ v. v.mine) c.begin.ensures.view ∙ ap (λ v. v.mine) knows;
      none_held = ap (λ v. v.held) c.begin.ensures.view ∙ ap (places_shown g.M.Meaning.place_at) knows;
      none_entered = c.begin.ensures.entries;
      none_waits = c.begin.ensures.waiting;
    } in
    record {
      table = split.0 ∙ inv.table;
      lead = split.2 ∙ ap (λ m. (one_more m.0, m.1)) inv.lead;
      within = omega (arith, long, was);
      count = search rules;
      room = search rules;
      ready =
          subst (λ (hands : List (Hand g.row.C.Denot g.row.X.Denot g.row.G.Denot)). AreIdleFrom desk c.args.cores 0 hands)
          (sym c.push_reserved.ensures.items)
          (ready_next desk c.args.cores c.loop-list.hands.items c.begin.result inv.ready ready);
      new =
          subst (λ (hands : List (Hand g.row.C.Denot g.row.X.Denot g.row.G.Denot)). AreNew c.args.table.now.shared.key.0.value hands)
          (sym c.push_reserved.ensures.items)
          (new_snoc c.args.table.now.shared.key.0.value c.loop-list.hands.items c.begin.result inv.new new);
      cells = λ room have.
          let had = inv.cells room have in
          let rest : HaveRoomFor room (c.in-Some.list ∷ c.next.new.self.rest.items) = subst (HaveRoomFor room) goes had.0 in (
            rest.1,
            subst (λ (hands : List (Hand g.row.C.Denot g.row.X.Denot g.row.G.Denot)). CoresHaveRoom room hands) (sym c.push_reserved.ensures.items)
                (room_snoc room c.loop-list.hands.items c.begin.result had.1 (subst (λ n. room ≤ n) (sym c.begin.ensures.room) rest.0.1)),
          );
    }

pub begin-requires-clause-none : goal.begin-requires-clause-none
begin-requires-clause-none g c =
    let goes : c.loop-list.list-iterator.rest.items ≡ c.in-Some.list ∷ c.next.new.self.rest.items = grind (arith, common_steps) in
    let had = (c.loop-list.invariant.cells 0 c.requires.held.1).0 in
    (subst (HaveRoomFor 0) goes had).0.0

pub returns-clause-room : goal.returns-clause-room
returns-clause-room g c = λ room have. (c.loop-list.invariant.cells room have).1
