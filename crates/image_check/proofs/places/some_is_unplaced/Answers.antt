use Rattle.std.proofs.Common.{◌≡◌, true, sym, arith, rules}
use Rattle.sfs_image.proofs.Basics.{any_below-at, any_below-from}
use Rattle.image_check.specs.Checks.{is_unplaced}
use Rattle.image_check.proofs.places.some_is_unplaced.Goals as goal

pub returns-then-named-place-ne1 : goal.returns-then-named-place-ne1
returns-then-named-place-ne1 c =
    let e : is_unplaced c.args.inodes.now c.args.rows.now c.args.holders.now.items c.loop-place.place ≡ true = search rules in
    sym (any_below-at _ _ c.loop-place.place (omega arith) e)

pub returns : goal.returns
returns c = sym (any_below-from _ _ (λ k below. c.loop-place.invariant k (omega arith)))
