use Rattle.std.proofs.Common.{[], ℕ, ◌+◌, ◌*◌, sym, subst}
use Rattle.std.proofs.lemmas.Result.{IfOk-weaker}
use Rattle.mem_values.specs.Start.{given_in}
use Rattle.mem_values.specs.Stands.{StandsAt}
use Rattle.mem_values.specs.Home.{BeginsAs}
use Rattle.mem_begin.specs.Beginning.{IsGivenOf}
use Rattle.mem_begin.specs.Lying.{IsWhatLiesAt}
use Rattle.mem_begin.proofs.Cells.{begins_at, given_there, given_left}
use Rattle.mem_begin.proofs.table.begin_place.Goals as goal

pub begin_cell-requires-clause-given : goal.begin_cell-requires-clause-given
begin_cell-requires-clause-given c =
    subst (IsGivenOf (given_in c.args.start.now.value.items) c.cell_lying_at-cell.result) (sym c.take_given-old.ensures.old)
    (given_there (given_in c.args.start.now.value.items) c.args.given.now.items
    (16 + 9 * c.args.nodes) c.args.place c.cell_lying_at-cell.result c.cell_lying_at-cell.ensures.flushed c.requires.given)

pub returns-clause-stands : goal.returns-clause-stands
returns-clause-stands c =
    let lies = subst (λ (n : ℕ). IsWhatLiesAt n c.args.place c.cell_lying_at-cell.result) c.requires.nodes c.cell_lying_at-cell.ensures.lies in
    IfOk-weaker c.begin_cell.result (BeginsAs (given_in c.args.start.now.value.items) c.args.tree.now c.cell_lying_at-cell.result)
    (StandsAt (given_in c.args.start.now.value.items) c.args.tree.now [] c.args.place)
    (λ value. begins_at (given_in c.args.start.now.value.items) c.args.tree.now c.args.place c.cell_lying_at-cell.result value lies) c.begin_cell.ensures

pub returns-clause-left : goal.returns-clause-left
returns-clause-left c =
    given_left (given_in c.args.start.now.value.items) c.args.given.now.items c.take_given-old.new.given.items
    (16 + 9 * c.args.nodes) c.args.place c.cell_lying_at-cell.result c.cell_lying_at-cell.ensures.flushed c.requires.given c.take_given-old.ensures.left
