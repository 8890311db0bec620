use Rattle.std.proofs.Common.{List, ◌≡◌, ℕ, sym, subst, arith}
use Rattle.std.specs.Prelude.{reverse}
use Rattle.mem_values.specs.Start.{given_in}
use Rattle.mem_values.specs.declared.cell.Cell.{Cell}
use Rattle.mem_begin.proofs.Standing.{StandFrom}
use Rattle.mem_begin.proofs.Cells.{each_stands}
use Rattle.mem_begin.proofs.table.cells_of.Goals as goal

pub returns-clause-stand : goal.returns-clause-stand
returns-clause-stand c =
    let given = (given_in c.args.start.now.value.items) in
    let first = c.args.tree.now in
    let none : c.loop-place.place ≡ 0 = (let test = c.loop-place-test.false in omega (arith, test)) in
    let stand : StandFrom given first 0 (reverse c.loop-place.cells.items) = subst
    (λ (p : ℕ). StandFrom given first p (reverse c.loop-place.cells.items)) none c.loop-place.invariant.last.stand in
    each_stands given first c.reverse.new.self.items (subst (StandFrom given first 0) (sym {A = List Cell} c.reverse.ensures.items) stand)
