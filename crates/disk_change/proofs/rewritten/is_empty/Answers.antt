use Rattle.std.proofs.Common.{◌≡◌, sym, ap, ◌∙◌, arith, inl, inr, is_none, None, get_or}
use Rattle.std.proofs.lemmas.Bool.{cases_lt}
use Rattle.disk_change.proofs.Rewriting.{all_empty, one_taken}
use Rattle.disk_change.proofs.Blocks.{is_lent, not_lent}
use Rattle.disk_change.proofs.rewritten.is_empty.Goals as goal

pub returns-then-is_some : goal.returns-then-is_some
returns-then-is_some c =
    one_taken c.args.block.now c.loop-place.place (omega (arith, c.len-place-end.ensures.count))
    (is_lent c.row.result _ c.row.ensures (sym c.if-is_some.ensures))

pub loop-place-preserved : goal.loop-place-preserved
loop-place-preserved c = λ k within. elim (cases_lt k c.loop-place.place) [
  | inl before ↦ c.loop-place.invariant k before
  | inr here ↦ let same : k ≡ c.loop-place.place = omega arith in
      ap (λ j. is_none (get_or c.args.block.now j None)) same ∙ not_lent c.row.result _ c.row.ensures (sym c.if-is_some.ensures)
]

pub returns : goal.returns
returns c = all_empty c.args.block.now (λ k within. c.loop-place.invariant k (omega (arith, c.len-place-end.ensures.count)))
