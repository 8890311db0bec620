use Rattle.std.proofs.Common.{List, sym, ap, ◌∙◌, arith}
use Rattle.std.specs.List.{list_any}
use Rattle.sfs_image.specs.Slot.{Row}
use Rattle.sfs_image.proofs.Basics.{any_below-at, any_below-from}
use Rattle.disk_tree.proofs.RowsCounted.{rows_of_number}
use Rattle.image_check.specs.Checks.{is_elsewhere}
use Rattle.image_check.proofs.places.some_row_is_elsewhere.Goals as goal

pub returns-then-has_row_elsewhere : goal.returns-then-has_row_elsewhere
returns-then-has_row_elsewhere c =
    let own = c.as_slice.ensures ∙ rows_of_number c.args.rows.now c.loop-place.place _ (omega arith) c.index-rows-place.is in
    sym (any_below-at _ _ c.loop-place.place (omega arith)
    (ap (λ (rows : List Row). list_any (is_elsewhere c.args.holders.now.items c.loop-place.place) rows) (sym own)
    ∙ sym c.has_row_elsewhere.ensures ∙ c.if-has_row_elsewhere.true))

pub returns : goal.returns
returns c = sym (any_below-from _ _ (λ k below. c.loop-place.invariant k (omega arith)))
