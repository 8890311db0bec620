use Rattle.std.proofs.Common.{◌≡◌, ◌+◌, ◌*◌, sym, ap, not, false, arith, rules}
use Rattle.std.specs.Prelude.{slice_index}
use Rattle.sfs_image.proofs.Basics.{any_below-from, any_below-at}
use Rattle.disk_tree.specs.Pointers.{points_well}
use Rattle.disk_tree.proofs.pointers.table_breaks.Goals as goal

pub returns-then-not-points_well : goal.returns-then-not-points_well
returns-then-not-points_well c =
    let e : points_well c.args.layout.now c.args.size (slice_index c.args.table.now.pointers c.loop-entry.entry)
    (4096 * (108 + 1024 * c.args.table.now.place) + 4096 * c.loop-entry.entry)
    ≡ false =
    search rules in
    sym (any_below-at _ _ c.loop-entry.entry (omega arith) (ap not e))

pub returns : goal.returns
returns c = sym (any_below-from _ _ (λ k below. ap not (c.loop-entry.invariant k (omega arith))))
