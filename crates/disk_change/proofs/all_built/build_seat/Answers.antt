use Rattle.std.proofs.Common.{◌≡◌, ℕ, List, subst, sym, ap, ◌∙◌, None, IfOk}
use Rattle.std.specs.Ordering.{nat_cmp}
use Rattle.std.specs.BTreeMap.{get}
use Rattle.std.specs.Option.{unwrap_or}
use Rattle.absorb.specs.declared.nets.NetRow.{NetRow}
use Rattle.disk_change.specs.Built.{Built, built}
use Rattle.disk_change.specs.Parts.{SeatParts, built_with, seat_with}
use Rattle.disk_change.specs.Patched.{IsPatchFor}
use Rattle.disk_change.specs.Seated.{net_of_node}
use Rattle.disk_change.proofs.all_built.build_seat.Goals as goal

pub build_node-requires : goal.build_node-requires
build_node-requires c = record {
  ascending = c.net_of-net.ensures.ascending;
  patch =
      subst (λ (net : List NetRow). IsPatchFor net c.args.seat.now.end c.args.slots.now c.args.seat.now.patch)
      (sym (c.net_of-net.ensures.rows ∙ ap (λ (s : SeatParts). net_of_node c.args.plans.now.nets.items s.node) c.seat.view_is)) c.requires;
}

pub returns-clause-built : goal.returns-clause-built
returns-clause-built c =
    let numbers : ℕ → _ = λ node. unwrap_or (get nat_cmp c.args.numbers.now node) None in
    subst (λ (b : Built). IfOk c.build_node.result (λ r. built_with c.args.slots.now r.built ≡ b))
    (λ i. built numbers ((c.net_of-net.ensures.rows ∙ ap (λ (s : SeatParts). net_of_node c.args.plans.now.nets.items s.node) c.seat.view_is) i)
    ((c.number_of-number.ensures ∙ ap (λ (s : SeatParts). unwrap_or (numbers s.node) 0) c.seat.view_is) i) c.args.fresh.now
    (seat_with c.args.slots.now c.args.seat.now))
    c.build_node.ensures.built
