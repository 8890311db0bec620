use Rattle.std.proofs.Common.{◌<◌, ◌≤◌, subst, sym, arith}
use Rattle.std.specs.Prelude.{All}
use Rattle.mem_cells.specs.Log.{Log, IsInOrder, log_place}
use Rattle.mem_cells.proofs.Order.{in_order-push}
use Rattle.mem_cells.proofs.log.DirectoryLog.push.Goals as goal

pub invariant_of-self : goal.invariant_of-self
invariant_of-self c = record {
  in_order =
      subst IsInOrder (sym c.push_back_reserved.ensures.items)
      (in_order-push c.self.inside.changes.items c.args.change c.self.invariant.in_order
      (subst (λ (log : Log). All (λ other. log_place other ≤ log_place c.args.change) log.changes) (sym c.self.view_is) c.requires.last));
  places =
      let longer = c.push_back_reserved.ensures.len in
      let capacity = c.push_back_reserved.ensures.capacity in
      let were = c.self.invariant.places in
      let some = subst (λ (log : Log). 0 < log.room) (sym c.self.view_is) c.requires.room in omega arith;
}
