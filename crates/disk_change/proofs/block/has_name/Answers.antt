use Rattle.std.proofs.Common.{◌≡◌, ◌<◌, sym, ap, ◌∙◌, length, arith, inl, inr, None, get_or}
use Rattle.std.proofs.lemmas.Bool.{cases_lt}
use Rattle.std.proofs.lemmas.List.{get_or_default}
use Rattle.std.proofs.lemmas.List.Folds.{list_any_at, list_any_none}
use Rattle.disk_change.specs.Directory.{is_in_net}
use Rattle.disk_change.proofs.Untouched.{is_named}
use Rattle.disk_change.proofs.block.has_name.Goals as goal

pub returns-then-is_some : goal.returns-then-is_some
returns-then-is_some c =
    let within : c.loop-place.place < length c.args.block.now = omega (arith, c.len-place-end.ensures.count) in
    sym
    (list_any_at (is_in_net c.args.net.now) c.args.block.now c.loop-place.place None within
    (is_named c.args.net.now (get_or c.args.block.now c.loop-place.place None) c.changed_at.result c.changed_at.ensures ∙ sym c.if-is_some.ensures))

pub loop-place-preserved : goal.loop-place-preserved
loop-place-preserved c = λ k within. elim (cases_lt k c.loop-place.place) [
  | inl before ↦ c.loop-place.invariant k before
  | inr here ↦ let same : k ≡ c.loop-place.place = omega arith in
      ap (λ j. is_in_net c.args.net.now (get_or c.args.block.now j None)) same
      ∙ is_named c.args.net.now (get_or c.args.block.now c.loop-place.place None) c.changed_at.result c.changed_at.ensures ∙ sym c.if-is_some.ensures
]

pub returns : goal.returns
returns c =
    sym
    (list_any_none (is_in_net c.args.net.now) c.args.block.now
    (λ k d within.
    ap (is_in_net c.args.net.now) (get_or_default c.args.block.now k d None within)
    ∙ c.loop-place.invariant k (omega (arith, c.len-place-end.ensures.count))))
