use Rattle.std.proofs.Common.{◌≡◌, ◌+◌, suc, get_or, set, ap, ◌∙◌, arith}
use Rattle.stamp_table.proofs.Exchanging.{cells_until, values_until, cells_next, values_next}
use Rattle.stamp_table.proofs.values.swap_all.Goals as goal

pub loop-at-preserved : goal.loop-at-preserved
loop-at-preserved g c =
    let at = c.loop-at.at in
    let inv = c.loop-at.invariant in
    let values = c.args.values.now in
    let cells = c.args.cells.now in
    let next : suc at ≡ at + 1 = omega arith in (
      (λ i. set (inv.0 i) at (record {
        place = (get_or (inv.0 i) at c.index-cells-at.result).place;
        value = (c.swap.ensures.x_after ∙ ap (λ l. get_or l at c.index-values-at.result) inv.1) i;
      }))
          ∙ (cells_next at values cells c.index-cells-at.result c.index-values-at.result c.requires c.loop-at-test.true
          ∙ ap (λ n. cells_until n values cells) next),
      (λ i. set (inv.1 i) at ((c.swap.ensures.y_after ∙ ap (λ l. (get_or l at c.index-cells-at.result).value) inv.0) i))
          ∙ (values_next at values cells c.index-cells-at.result c.requires c.loop-at-test.true ∙ ap (λ n. values_until n values cells) next),
    )
