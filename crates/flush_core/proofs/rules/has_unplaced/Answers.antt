use Rattle.std.proofs.Common.{◌∷◌, ℕ, slice_index, add-one, sym, ap}
use borrow.Author.Count.{below_more}
use Rattle.flush_core.specs.Broken.{IsUnplaced}
use Rattle.sfs_base.proofs.BasicTruth.{not_both}
use Rattle.flush_core.proofs.rules.has_unplaced.Goals as goal

pub loop-holder-preserved : goal.loop-holder-preserved
loop-holder-preserved c = record {
  node_is = ap (λ (place : ℕ). slice_index (c.args.change.now.directory ∷ c.args.above.now) place) (sym (add-one c.loop-holder.holder-index));
  none =
      below_more
      (λ place. IsUnplaced c.args.changes.now c.args.cut.now c.args.change.now.stamp (slice_index (c.args.change.now.directory ∷ c.args.above.now) place)
      (slice_index c.args.above.now place)
      → ⊥)
      c.loop-holder.holder-index c.loop-holder.invariant.none
      (λ unplaced. not_both (c.is_unplaced.ensures.1 (rw c.loop-holder.invariant.node_is unplaced)) c.if-is_unplaced.false);
}
