use Rattle.std.proofs.Common.{ℕ, All, ◌<◌, List, length, sym, subst, ◌∙◌, arith}
use Rattle.sfs_image.specs.Slot.{Row}
use Rattle.disk_tree.specs.Rows.{rows_of_inode}
use Rattle.disk_tree.proofs.RowsCounted.{rows_of_number}
use Rattle.image_check.specs.Climbs.{named_directory}
use Rattle.image_check.specs.Writes.{Writes}
use Rattle.image_check.proofs.HoldersRead.{low_hold, more_hold}
use Rattle.image_check.proofs.climb.hold_all.Goals as goal

pub hold-requires : goal.hold-requires
hold-requires c =
    let own = c.as_slice.ensures ∙ rows_of_number c.args.rows.now c.loop-place.place _ (omega arith) c.index-rows-place.is in
    let size = c.loop-place.invariant.size in
    subst (All (λ (row : Row). row.inode < length c.loop-place.above)) (sym own)
    (subst (λ (n : ℕ). All (λ (row : Row). row.inode < n) (rows_of_inode c.args.rows.now c.loop-place.place)) (sym size)
    (c.requires.within c.loop-place.place (omega arith)))

pub loop-place-preserved : goal.loop-place-preserved
loop-place-preserved c =
    let own = c.as_slice.ensures ∙ rows_of_number c.args.rows.now c.loop-place.place _ (omega arith) c.index-rows-place.is in
    let writes =
    subst (λ (rows : List Row). Writes c.loop-place.above c.hold.new.above 0 c.loop-place.place (named_directory rows) (length rows)) own c.hold.ensures in
    let size = writes.size in
    let before = c.loop-place.invariant.size in
    record {
      size = size ∙ before;
      low = low_hold c.args.rows.now c.loop-place.place c.loop-place.above c.hold.new.above c.loop-place.invariant.holders writes _ (omega arith)
          c.loop-place.invariant.low;
      holders = more_hold c.args.rows.now c.loop-place.place c.loop-place.above c.hold.new.above c.loop-place.invariant.holders writes;
    }
