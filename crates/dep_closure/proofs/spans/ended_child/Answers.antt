use Rattle.std.proofs.Common.{◌∷◌, arith, suc, get_or}
use Rattle.mem_cells.proofs.Order.{in_order-drop, stamps_rise}
use Rattle.dep_closure.proofs.spans.ended_child.Goals as goal

pub of_stamp-own-requires-clause-order : goal.of_stamp-own-requires-clause-order
of_stamp-own-requires-clause-order c = in_order-drop 1 (c.args.change.now ∷ c.args.later.now) c.requires

pub of_stamp-own-requires-clause-no_lower : goal.of_stamp-own-requires-clause-no_lower
of_stamp-own-requires-clause-no_lower c =
    λ k d within. stamps_rise c.args.change.now (get_or c.args.later.now k d) (c.requires.rises 0 (suc k) d (omega arith) (omega arith))
