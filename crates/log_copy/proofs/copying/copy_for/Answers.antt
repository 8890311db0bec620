use Rattle.std.proofs.Common.{sym, subst}
use Rattle.log_copy.specs.Copies.{is_one_of, KeepsFor}
use Rattle.log_copy.proofs.Counted.{counted_enough}
use Rattle.log_copy.proofs.copying.copy_for.Goals.{then-not-are_counted+in_ok-copy_naming, else-not-are_counted}
use Rattle.log_copy.proofs.copying.copy_for.Goals as goal

pub returns : goal.returns
returns c = elim c.if-not-are_counted.branch [
  | then-not-are_counted+in_ok-copy_naming w ↦ subst (KeepsFor (is_one_of c.args.nodes.now) c.args.part.now) (sym w.copy-is) w.in_ok-copy_naming.ensures
  | else-not-are_counted w ↦
      subst (KeepsFor (is_one_of c.args.nodes.now) c.args.part.now) (sym w.copy-is)
      (counted_enough c.args.part.now c.in_ok-copy.copy c.args.nodes.now c.requires.ascend c.in_ok-copy.ensures (c.are_counted.ensures w.if-not-are_counted.false))
]
