use Rattle.std.proofs.Common.{◌≡◌, ◌++◌, ◌+◌, ℕ, List, Option, ◌<◌, length, ap, ◌∙◌, arith, get_or, take, filter_map}
use Rattle.std.specs.Prelude.{option_to_list}
use Rattle.disk_change.specs.Fresh.{data_written}
use Rattle.disk_change.specs.Parts.{BuiltParts, built_with}
use Rattle.disk_change.proofs.Counted.{pushed_more}
use Rattle.disk_change.proofs.fresh.push_data.Goals as goal

more_of : {X Y : Type 0} (f : X → Option Y) (front : List Y) (ys xs : List X) (i : ℕ) (d : X) (before new : List Y) {o : Option Y} → i < length xs → ys ≡ xs
    → before ≡ front ++ filter_map f (take i xs)
    → o ≡ f (get_or ys i d) → new ≡ before ++ option_to_list o → new ≡ front ++ filter_map f (take (i + 1) xs)
more_of f front ys xs i d before new {o} within same was is after =
    pushed_more f front xs i d before new o within was (is ∙ ap (λ those. f (get_or those i d)) same) after

pub loop-one-preserved : goal.loop-one-preserved
loop-one-preserved c =
    let f = data_written (built_with c.args.slots.now c.args.built.now) c.args.pages.now.items in
    let same = c.as_slice-one-items.ensures.items ∙ ap (λ (b : BuiltParts). b.changed) c.built.view_is in
    let long = ap length same in
    let within : c.loop-one.one-index < length c.args.built.now.changed = omega arith in
    more_of f c.args.fresh.now.items c.as_slice-one-items.result.now c.args.built.now.changed c.loop-one.one-index _ c.loop-one.fresh.items _ within same
    c.loop-one.invariant c.data_block.ensures c.in_ok-push_block.ensures
