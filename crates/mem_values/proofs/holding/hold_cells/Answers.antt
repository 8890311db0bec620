use Rattle.std.proofs.Common.{◌≡◌, ◌+◌, ◌∷◌, ℕ, List, length, drop, get_or, map, subst, sym, ap, ◌∙◌, arith}
use Rattle.std.proofs.lemmas.List.{drop_more}
use Rattle.stamp_table.specs.Ascending.{AreBelow, RiseAbove}
use Rattle.stamp_table.specs.Table.{HoldsAll}
use Rattle.mem_values.specs.Start.{given_by}
use Rattle.mem_values.specs.declared.cell_id.CellId.TheVariants.{Lock}
use Rattle.mem_values.specs.Places.{cell_place}
use Rattle.mem_values.specs.Stands.{StandsAt}
use Rattle.mem_values.specs.Facts.{IsLawfulLog}
use Rattle.mem_values.proofs.holding.hold_cells.Goals as goal

pub loop-cell-preserved : goal.loop-cell-preserved
loop-cell-preserved g c =
    let inv = c.loop-cell.invariant in
    let h = c.hold_one.ensures in
    let first : drop c.loop-cell.cell-index c.args.cells.now
    ≡ get_or c.args.cells.now c.loop-cell.cell-index Lock ∷ drop (c.loop-cell.cell-index + 1) c.args.cells.now =
    drop_more c.args.cells.now c.loop-cell.cell-index Lock c.loop-cell-test.true in
    let next : map (cell_place c.args.nodes) (drop c.loop-cell.cell-index c.args.cells.now)
    ≡ c.place.result ∷ map (cell_place c.args.nodes) (drop (c.loop-cell.cell-index + 1) c.args.cells.now) =
    ap (map (cell_place c.args.nodes)) first
    ∙ ap (λ (p : ℕ). p ∷ map (cell_place c.args.nodes) (drop (c.loop-cell.cell-index + 1) c.args.cells.now)) (sym c.place.ensures) in
    record {
      table = ap (λ x. x.table) h.frame ∙ inv.table;
      within = (subst (λ (l : List ℕ). AreBelow c.args.shared.now.table.id.slots l) next inv.within).1;
      above =
          subst (λ (l : List ℕ). RiseAbove l (map (cell_place c.args.nodes) (drop (c.loop-cell.cell-index + 1) c.args.cells.now))) (sym h.saw.held)
          (subst (λ (l : List ℕ). RiseAbove c.loop-cell.core.view.held l) next inv.above).1;
      room = (let r = inv.room in let l = ap length first in let less = h.room in omega (arith, r, l, less));
      rest =
          λ after tail. inv.rest after
          (subst (λ (l : List ℕ). HoldsAll (IsLawfulLog (given_by c.args.shared.now)) (StandsAt (given_by c.args.shared.now)) l c.loop-cell.core after)
          (sym next)
          (c.hold_one.new.self, h, tail));
    }
