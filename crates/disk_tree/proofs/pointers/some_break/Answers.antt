use Rattle.std.proofs.Common.{◌∙◌, sym, ap, not, arith}
use Rattle.sfs_image.proofs.Basics.{any_below-from, any_below-at}
use Rattle.disk_tree.proofs.pointers.some_break.Goals as goal

pub returns-then-not-points_well : goal.returns-then-not-points_well
returns-then-not-points_well c = sym (any_below-at _ _ c.loop-place.place (omega arith) (ap not (sym c.points_well.ensures ∙ c.if-not-points_well.true)))

pub returns : goal.returns
returns c = sym (any_below-from _ _ (λ k below. ap not (c.loop-place.invariant k (omega arith))))
