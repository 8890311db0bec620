use Rattle.std.proofs.Common.{arith, sym, subst, List}
use Rattle.std.proofs.lemmas.Grind.{common_steps}
use Rattle.absorb.specs.Net.{child_after}
use Rattle.absorb.specs.declared.nets.NetRow.{NetRow}
use Rattle.flush_plan.specs.Net.{HasGoodNames}
use Rattle.flush_plan.proofs.GoodNames.{row_more}
use Rattle.flush_plan.proofs.nets.rows_between.Goals as goal

pub loop-change-preserved : goal.loop-change-preserved
loop-change-preserved c =
    let change = c.in-Some.change.now.now in
    let stood = c.child_stood.result in
    let left = child_after change.act change.child in
    record {
      rows = grind (arith, common_steps);
      names = subst (λ (l : List NetRow). HasGoodNames l) (sym c.in_ok-push_row.ensures)
          (row_more c.loop-change.net.items change.name stood left c.loop-change.invariant.names c.child_stood.ensures.grammar);
    }
