-- The inodes of link count 0 are found one after another.
use Rattle.std.proofs.Common.{refl, sym, ◌∙◌, ap, cond, ◌++◌, [], ◌∷◌, List, ℕ, slice_index_or}
use Rattle.recovery.specs.Freed.{is_unlinked}
use Rattle.recovery.proofs.Unlinked.{none_unlinked, next_unlinked}
use Rattle.recovery.proofs.orphans.unlinked_in.Goals as goal

pub loop-place-init : goal.loop-place-init
loop-place-init c = record { end = refl; so_far = c.new-inodes.ensures.items ∙ sym (none_unlinked c.args.records.now) }

pub loop-place-preserved : goal.loop-place-preserved
loop-place-preserved c = record {
  end = c.loop-place.invariant.end;
  so_far = c.in_ok-add_unlinked.ensures
      ∙ ap (λ (l : List ℕ). l ++ cond (is_unlinked (slice_index_or c.args.records.now c.loop-place.place [])) (c.loop-place.place ∷ []) [])
      c.loop-place.invariant.so_far
      ∙ next_unlinked c.args.records.now c.loop-place.place;
}
