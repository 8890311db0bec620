use Rattle.std.proofs.Common.{◌≡◌, ◌<◌, sym, ap, ◌∙◌, length, arith, inl, inr, None, is_none, get_or}
use Rattle.std.proofs.lemmas.Bool.{cases_lt}
use Rattle.std.proofs.lemmas.List.{get_or_default}
use Rattle.std.proofs.lemmas.List.Folds.{list_any_at, list_any_none}
use Rattle.disk_nodes.proofs.Lent.{is_lent, not_lent}
use Rattle.disk_nodes.proofs.rooms.has_room.Goals as goal

pub returns-then-is_none : goal.returns-then-is_none
returns-then-is_none c =
    let within : c.loop-place.place < length c.args.block.now = omega (arith, c.len-place-end.ensures.count) in
    sym
    (list_any_at is_none c.args.block.now c.loop-place.place None within
    (not_lent c.row.result (get_or c.args.block.now c.loop-place.place None) c.row.ensures c.if-is_none.ensures))

pub loop-place-preserved : goal.loop-place-preserved
loop-place-preserved c = λ k within. elim (cases_lt k c.loop-place.place) [
  | inl before ↦ c.loop-place.invariant k before
  | inr here ↦ let same : k ≡ c.loop-place.place = omega arith in
      ap (λ j. is_none (get_or c.args.block.now j None)) same
      ∙ is_lent c.row.result (get_or c.args.block.now c.loop-place.place None) c.row.ensures c.if-is_none.ensures
]

pub returns : goal.returns
returns c =
    sym
    (list_any_none is_none c.args.block.now
    (λ k d within.
    ap is_none (get_or_default c.args.block.now k d None within) ∙ c.loop-place.invariant k (omega (arith, c.len-place-end.ensures.count))))
