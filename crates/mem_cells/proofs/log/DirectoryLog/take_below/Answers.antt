use Rattle.std.proofs.Common.{◌≡◌, filter, refl, ◌∙◌, sym, subst, arith}
use Rattle.mem_cells.specs.Log.{Log, is_from, IsInOrder}
use Rattle.mem_cells.proofs.Order.{filter-rest, in_order-drop}
use Rattle.mem_cells.proofs.log.DirectoryLog.take_below.Goals as goal

pub invariant_of-self : goal.invariant_of-self
invariant_of-self c = record {
  in_order = subst IsInOrder (sym c.pop_front.ensures.rest) (in_order-drop 1 c.self.inside.changes.items c.self.invariant.in_order);
  places =
      let shorter = c.pop_front.ensures.len in
      let capacity = c.pop_front.ensures.capacity in
      let were = c.self.invariant.places in omega arith;
}

pub returns-else-begins_below : goal.returns-else-begins_below
returns-else-begins_below c =
    let all =
    filter-rest c.args.below.0 c.self.inside.changes.items c.self.invariant.in_order (sym c.begins_below.ensures ∙ c.if-begins_below.false) in
    (subst (λ (log : Log). filter (is_from c.args.below.0) log.changes ≡ log.changes) c.self.view_is all, refl)
