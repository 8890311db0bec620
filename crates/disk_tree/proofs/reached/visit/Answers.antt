use Rattle.std.proofs.Common.{◌<◌, length, arith, subst, sym}
use Rattle.std.proofs.lemmas.List.{get_or_read}
use Rattle.std.proofs.lemmas.List.Elements.{All-get_or}
use Rattle.sfs_image.specs.Slot.{Row}
use Rattle.disk_tree.specs.Rows.{NO_ROW}
use Rattle.disk_tree.proofs.Visited.{visited_more}
use Rattle.disk_tree.proofs.reached.visit.Goals as goal

pub loop-row-preserved : goal.loop-row-preserved
loop-row-preserved c =
    let within =
    subst (λ (row : Row). row.inode < length c.args.reached.now) (sym c.row-item.is)
    (All-get_or (λ (row : Row). row.inode < length c.args.reached.now) c.args.rows.now c.loop-row.row-index _ (omega arith) c.requires) in
    let size = c.loop-row.auto.reached in
    visited_more c.args.rows.now c.loop-row.row-index c.args.reached.now c.loop-row.reached c.visit_row.new.reached c.args.pending.now.items
    c.loop-row.pending.items c.visit_row.new.pending.items _ c.loop-row.invariant
    (get_or_read c.args.rows.now c.loop-row.row-index _ (omega arith) c.row-item.is NO_ROW) (omega arith) c.in_ok-visit_row.ensures
