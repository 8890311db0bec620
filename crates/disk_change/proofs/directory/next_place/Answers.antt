use Rattle.std.proofs.Common.{inl, inr, arith, sym, ap, ◌∙◌}
use Rattle.std.proofs.lemmas.Bool.{eqb-true}
use Rattle.disk_change.proofs.Putting.{none_left}
use Rattle.disk_change.proofs.directory.next_place.Goals as goal

pub returns-then-is_empty-clause-passed : goal.returns-then-is_empty-clause-passed
returns-then-is_empty-clause-passed c = λ n over under. (
  c.first_from.ensures.passed n over (omega (arith, under, c.min-next.ensures)),
  inl (none_left c.args.waiting.now.items (let none = eqb-true _ 0 (sym c.is_empty.ensures ∙ c.if-is_empty.true) in sym c.args.waiting.now.ok.0 ∙ none)),
)

pub returns-else-is_empty-clause-passed : goal.returns-else-is_empty-clause-passed
returns-else-is_empty-clause-passed c = λ n over under. (
  c.first_from.ensures.passed n over (omega (arith, under, c.min.ensures, c.min-next.ensures)),
  inr (c.room_from.ensures.full n over (omega (arith, under, c.min.ensures)) (omega (arith, under, c.min.ensures, c.min-next.ensures, c.len.ensures))),
)
