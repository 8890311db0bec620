use Rattle.std.proofs.Common.{sym, subst}
use Rattle.std.proofs.lemmas.List.{take_rest}
use Rattle.mem_cells.specs.Log.{IsInOrder}
use Rattle.mem_cells.proofs.Order.{in_order-drop}
use Rattle.dep_closure.proofs.spans.from_stamp.Goals as goal

pub returns-clause-in_order : goal.returns-clause-in_order
returns-clause-in_order c =
    subst IsInOrder (sym (take_rest c.args.changes.now c.place_of.result)) (in_order-drop c.place_of.result c.args.changes.now c.requires)
