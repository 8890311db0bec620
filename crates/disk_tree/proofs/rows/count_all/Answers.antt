use Rattle.std.proofs.Common.{ℕ, All, ◌<◌, length, sym, ap, subst, ◌∙◌, arith}
use Rattle.sfs_image.specs.Slot.{Row}
use Rattle.disk_tree.specs.Rows.{rows_of_inode}
use Rattle.disk_tree.proofs.RowsCounted.{rows_below, more_counted, rows_of_number}
use Rattle.disk_tree.proofs.rows.count_all.Goals as goal

pub count_in-requires-clause-within : goal.count_in-requires-clause-within
count_in-requires-clause-within c =
    let own = c.as_slice.ensures ∙ rows_of_number c.args.rows.now c.loop-place.place _ (omega arith) c.index-rows-place.is in
    let size = c.loop-place.invariant.size in
    subst (All (λ (row : Row). row.inode < length c.loop-place.named)) (sym own)
    (subst (λ (n : ℕ). All (λ (row : Row). row.inode < n) (rows_of_inode c.args.rows.now c.loop-place.place)) (sym size)
    (c.requires.within c.loop-place.place (omega arith)))

pub count_in-requires-clause-room : goal.count_in-requires-clause-room
count_in-requires-clause-room c = λ i.
    let own = c.as_slice.ensures ∙ rows_of_number c.args.rows.now c.loop-place.place _ (omega arith) c.index-rows-place.is in
    let room = c.loop-place.invariant.room i in
    let below = rows_below c.args.rows.now c.loop-place.place (length c.args.rows.now) (omega arith) in
    let few = c.requires.few in
    omega (arith, ap length own)

pub loop-place-preserved : goal.loop-place-preserved
loop-place-preserved c =
    let own = c.as_slice.ensures ∙ rows_of_number c.args.rows.now c.loop-place.place _ (omega arith) c.index-rows-place.is in
    more_counted c.args.rows.now c.loop-place.place c.args.named.now c.loop-place.named c.count_in.new.named c.loop-place.invariant c.as_slice.result.now own
    c.count_in.ensures
