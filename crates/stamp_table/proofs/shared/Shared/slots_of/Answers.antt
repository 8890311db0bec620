use Rattle.std.proofs.Common.{rules, arith, ◌≡◌, ◌<◌, ◌∷◌, [], ◌∙◌, Some, sym, subst, set}
use Rattle.std.proofs.lemmas.Grind.{common_steps}
use lib.ListN.{get_elem?}
use mathlib.Core.Option.{some}
use Rattle.stamp_table.proofs.Laying.{next_of, laid_next, laid_all}
use Rattle.stamp_table.proofs.shared.Shared.slots_of.Goals as goal

pub loop-cell-preserved : goal.loop-cell-preserved
loop-cell-preserved g c =
    let inv = c.loop-cell.invariant in
    let slot_at = g.M.Meaning.slot_at c.args.measure in
    let goes : c.loop-cell.cell-iterator.rest.items ≡ c.in-Some.cell ∷ c.next.new.self.rest.items = grind (arith, common_steps) in
    let next = next_of c.args.cells.items c.loop-cell.place c.in-Some.cell c.next.new.self.rest.items (sym inv.rest ∙ goes) in
    record {
      long = search rules;
      rest = next.after;
      laid = λ place value lt at. subst (λ k. get_elem? (set c.loop-cell.slots.items k (Some c.in-Some.cell)) (slot_at place) ≡ some (Some value))
          (sym c.slot_of.ensures)
          (laid_next slot_at (g.M.Meaning.place_at c.args.measure) (g.M.Meaning.one_to_one c.args.measure) c.args.cells.items c.loop-cell.slots.items
          c.loop-cell.place c.in-Some.cell next.there
          (subst (λ n. slot_at c.loop-cell.place < n) (sym inv.long) (c.requires.laid.fills.slots c.loop-cell.place next.within)) inv.laid place value lt at);
    }

pub returns-clause-each : goal.returns-clause-each
returns-clause-each g c =
    let none : c.loop-cell.cell-iterator.rest.items ≡ [] = grind (arith, common_steps) in
    laid_all (g.M.Meaning.slot_at c.args.measure) (g.M.Meaning.place_at c.args.measure) (g.M.Meaning.one_to_one c.args.measure) c.args.cells.items
    c.loop-cell.slots.items c.loop-cell.place (sym c.loop-cell.invariant.rest ∙ none) c.loop-cell.invariant.laid
