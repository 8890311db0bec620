use Rattle.std.proofs.Common.{◌≡◌, eqb, true, sym, arith, rules}
use Rattle.std.specs.List.{find}
use Rattle.sfs_image.proofs.Basics.{any_below-from, any_below-at}
use Rattle.disk_tree.specs.Pointers.{table_points_badly}
use Rattle.disk_tree.proofs.pointers.tables_break.Goals as goal

pub returns-then-found_breaks : goal.returns-then-found_breaks
returns-then-found_breaks c =
    let e : table_points_badly c.args.layout.now c.args.size (find (λ table. eqb table.place c.loop-place.place) c.args.tables.now.items) ≡ true =
    search rules in
    sym (any_below-at _ _ c.loop-place.place (omega arith) e)

pub returns : goal.returns
returns c = sym (any_below-from _ _ (λ k below. c.loop-place.invariant k (omega arith)))
