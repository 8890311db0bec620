use Rattle.std.proofs.Common.{sym, ap, subst, ◌∙◌}
use Rattle.mem_values.specs.Start.{given_in}
use Rattle.mem_begin.specs.Beginning.{IsFlushedOf}
use Rattle.mem_begin.proofs.Cells.{given_without}
use Rattle.mem_begin.proofs.cell.take_given.Goals as goal

pub returns-in-Pending-clause-left : goal.returns-in-Pending-clause-left
returns-in-Pending-clause-left c = λ node apart.
    ap (λ items. given_in items node) c.take_old.ensures.items
    ∙ given_without c.in-Pending.node.0 node c.args.given.now.items (λ same. apart (subst (IsFlushedOf node) (sym c.in-Pending.is) same))
