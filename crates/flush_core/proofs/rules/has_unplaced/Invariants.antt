use Rattle.std.proofs.Common.{◌≡◌, ◌∷◌, ℕ, ◌<◌, slice_index}
use Rattle.flush_core.specs.Broken.{IsUnplaced}
use Rattle.flush_core.proofs.rules.has_unplaced.Given as goal

abbrev pub invariant-loop-holder : goal.invariant-loop-holder
invariant-loop-holder l = record {
  node_is : l.node ≡ slice_index (l.change.directory ∷ l.above) l.holder-index;
  none : (place : ℕ) → place < l.holder-index
      → IsUnplaced l.changes l.cut l.change.stamp (slice_index (l.change.directory ∷ l.above) place) (slice_index l.above place) → ⊥;
}
