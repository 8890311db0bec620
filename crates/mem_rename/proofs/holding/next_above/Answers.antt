use Rattle.std.proofs.Common.{sym, subst, take}
use Rattle.std.proofs.lemmas.List.{take_more}
use Rattle.mem_values.specs.declared.cell_id.CellId.TheVariants.{Lock}
use Rattle.mem_rename.specs.Holding.{IsNextAbove}
use Rattle.mem_rename.proofs.Nearest.{next_more, next_all}
use Rattle.mem_rename.proofs.holding.next_above.Goals as goal

pub loop-cell-init : goal.loop-cell-init
loop-cell-init c = λ cell among. absurd among

pub loop-cell-preserved : goal.loop-cell-preserved
loop-cell-preserved c =
    subst (λ l. IsNextAbove c.args.nodes c.args.last l c.nearer-next.result)
    (sym (take_more c.args.cells.now c.loop-cell.cell-index Lock c.loop-cell-test.true))
    (subst (IsNextAbove c.args.nodes c.args.last _) (sym c.nearer-next.ensures)
    (next_more c.args.nodes c.args.last (take c.loop-cell.cell-index c.args.cells.now) c.loop-cell.next _ c.loop-cell.invariant))

pub returns : goal.returns
returns c = next_all c.args.nodes c.args.last c.args.cells.now c.loop-cell.cell-index c.loop-cell.next c.loop-cell.invariant c.loop-cell-test.false
