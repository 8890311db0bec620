use Rattle.std.proofs.Common.{rules, ◌≡◌, ◌+◌, ℕ, List, [], ◌∷◌, ◌++◌, take, drop, map, subst, sym, ap, ◌∙◌, None, Contains}
use Rattle.std.specs.Prelude.{◌↔◌}
use Rattle.std.specs.Ordering.{nat_cmp}
use Rattle.std.specs.BTreeMap.{get}
use Rattle.std.specs.List.{flat_map}
use Rattle.std.specs.Option.{unwrap_or}
use Rattle.std.proofs.lemmas.List.{append-nil, map-append, map_more, take_all}
use Rattle.std.proofs.lemmas.List.Elements.{All-push}
use Rattle.std.proofs.lemmas.Grind.{flat_map-append}
use Rattle.disk_change.specs.AllBuilt.{built_by, fresh_of_node, nodes_built as built_of_seats}
use Rattle.disk_change.specs.Built.{Built}
use Rattle.disk_change.specs.GivenUp.{IsLeftBySeat}
use Rattle.disk_change.specs.Parts.{BuiltParts, SeatParts, CanBePut, CanAllBePut, built_in, built_with, seat_in, seat_with, slots_begun}
use Rattle.disk_change.specs.Patched.{IsPatchFor}
use Rattle.disk_change.specs.Planned.{blocks_taken}
use Rattle.disk_change.specs.Seated.{Seated, CommitChanges, changes_in, net_of_node}
use Rattle.disk_change.proofs.BuiltNodes.{fresh_behind, built_last, behind_last}
use Rattle.disk_change.proofs.Left.{seats_more}
use Rattle.disk_change.proofs.all_built.nodes_built.Goals as goal

pub build_seat-requires : goal.build_seat-requires
build_seat-requires c =
    let seat : SeatParts = c.seat-item.result in
    let slots = c.slots_of-slots.ensures ∙ ap (λ (s : SeatParts). slots_begun c.args.old.now.items s.number s.node) c.seat.view_is in
    subst (λ l. IsPatchFor (net_of_node c.args.plans.now.nets.items seat.node) seat.end l seat.patch) (sym slots)
    (subst
    (λ (s : SeatParts). IsPatchFor (net_of_node c.args.plans.now.nets.items s.node) s.end (slots_begun c.args.old.now.items s.number s.node) s.patch)
    (sym c.seat-item.is) (c.requires c.loop-seat.seat-index seat c.loop-seat-test.true))

pub loop-seat-preserved : goal.loop-seat-preserved
loop-seat-preserved c =
    let numbers : ℕ → _ = λ node. unwrap_or (get nat_cmp c.args.numbers.now node) None in
    let changes : CommitChanges = changes_in c.args.plans.now.directories c.args.plans.now.nets.items c.args.plans.now.files.items in
    let files = c.args.plans.now.files.items in
    let old = c.args.old.now.items in
    let seats = c.args.seats.now in
    let i = c.loop-seat.seat-index in
    let seat : SeatParts = c.seat-item.result in
    let one : BuiltParts = c.in_ok-one.one.built in
    let before = map (seat_in old) (take i seats) in
    let slots = c.slots_of-slots.ensures ∙ ap (λ (s : SeatParts). slots_begun old s.number s.node) c.seat.view_is in
    let node : one.node ≡ seat.node = ap (λ (b : Built). b.node) c.in_ok-one.ensures.built in
    let begun : slots_begun old one.own one.node ≡ c.slots_of-slots.result.now =
    (λ j. slots_begun old (c.in_ok-one.ensures.own j) (node j)) ∙ sym slots in
    let built : built_in old one ≡ built_with c.slots_of-slots.result.now one = ap (λ l. built_with l one) begun in
    let left = c.loop-seat.invariant.left in
    let count : c.blocks_needed-count.result ≡ blocks_taken (seat_in old seat) =
    c.blocks_needed-count.ensures ∙ ap (λ (s : SeatParts). blocks_taken (seat_with [] s)) c.seat.view_is in
    let lent = c.as_slice.ensures in
    let first = c.first_of.ensures ∙ (λ j. take (count j) (left j)) in
    let next : map (seat_in old) (take (i + 1) seats) ≡ before ++ seat_in old seat ∷ [] =
    map_more (seat_in old) seats i seat c.loop-seat-test.true ∙ ap (λ s. before ++ seat_in old s ∷ []) (sym c.seat-item.is) in
    let own : built_in old one ≡ built_by changes numbers (take (blocks_taken (seat_in old seat)) (fresh_behind before c.args.fresh.now)) (seat_in old seat) =
    built ∙ c.in_ok-one.ensures.built ∙ (λ j. built_by changes numbers (first j) (seat_with (slots j) seat)) in
    let nodes = c.in_ok-push.ensures.items in
    record {
      nodes =
          ap (map (built_in old)) nodes ∙ map-append (built_in old) c.loop-seat.nodes.items (one ∷ []) ∙ (λ j. c.loop-seat.invariant.nodes j ++ own j ∷ [])
          ∙ sym (ap (λ l. built_of_seats changes numbers l c.args.fresh.now) next ∙ built_last changes numbers before (seat_in old seat) c.args.fresh.now);
      written =
          c.in_ok-push_blocks.ensures ∙ ap (λ l. c.loop-seat.written.items ++ fresh_of_node files (built_with l one)) lent
          ∙ (λ j. c.loop-seat.invariant.written j ++ fresh_of_node files (sym built j))
          ∙ sym
          (ap (λ l. flat_map (fresh_of_node files) (map (built_in old) l)) nodes
          ∙ ap (flat_map (fresh_of_node files)) (map-append (built_in old) c.loop-seat.nodes.items (one ∷ []))
          ∙ flat_map-append (fresh_of_node files) (map (built_in old) c.loop-seat.nodes.items) (built_in old one ∷ [])
          ∙ ap (λ l. flat_map (fresh_of_node files) (map (built_in old) c.loop-seat.nodes.items) ++ l) (append-nil (fresh_of_node files (built_in old one))));
      left =
          c.rest_of-left.ensures ∙ (λ j. drop (count j) (left j))
          ∙ sym (ap (λ l. fresh_behind l c.args.fresh.now) next ∙ behind_last before (seat_in old seat) c.args.fresh.now);
      freed =
          subst (λ (those : List Seated). (block : ℕ) → Contains c.extend_from_slice.new.self.items block ↔ IsLeftBySeat those block) (sym next)
          (seats_more before (seat_in old seat) c.loop-seat.freed.items _ _ c.loop-seat.invariant.freed c.in_ok-one.ensures.freed (search rules));
      put =
          subst (CanAllBePut old) (sym nodes)
          (All-push (λ (parts : BuiltParts). CanBePut (slots_begun old parts.own parts.node) parts) c.loop-seat.nodes.items one c.loop-seat.invariant.put
          (subst (λ l. CanBePut l one) (sym begun) c.in_ok-one.ensures.put));
    }

pub returns : goal.returns
returns c =
    let numbers : ℕ → _ = λ node. unwrap_or (get nat_cmp c.args.numbers.now node) None in
    let changes : CommitChanges = changes_in c.args.plans.now.directories c.args.plans.now.nets.items c.args.plans.now.files.items in
    let all = ap (map (seat_in c.args.old.now.items)) (take_all c.loop-seat.seat-index c.args.seats.now c.loop-seat-test.false) in
    record {
      nodes = c.loop-seat.invariant.nodes ∙ ap (λ l. built_of_seats changes numbers l c.args.fresh.now) all;
      written = c.loop-seat.invariant.written;
      freed = subst (λ (those : List Seated). (block : ℕ) → Contains c.loop-seat.freed.items block ↔ IsLeftBySeat those block) all c.loop-seat.invariant.freed;
      put = c.loop-seat.invariant.put;
    }
