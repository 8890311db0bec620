use Rattle.std.proofs.Common.{ℕ, List, ◌<◌, length, ◌∙◌, All, subst, sym}
use Rattle.sfs_image.specs.Slot.{Row}
use Rattle.disk_tree.specs.Reached.{Visits}
use Rattle.disk_tree.specs.Rows.{rows_of_inode}
use Rattle.disk_tree.proofs.RowsCounted.{rows_of_number}
use Rattle.disk_tree.proofs.Visited.{root_frontier, next_frontier, popped_within}
use Rattle.disk_tree.proofs.reached.walk.Goals as goal

pub loop-directory-init : goal.loop-directory-init
loop-directory-init c =
    record {
      frontier = root_frontier c.args.rows.now
          (length c.args.rows.now) c.args.reached.now _ c.requires.some c.requires.size c.requires.unmarked c.in_ok-pending.ensures.items;
    }

pub bounds-rows-directory : goal.bounds-rows-directory
bounds-rows-directory c =
    popped_within c.args.rows.now
    (length c.args.rows.now) c.loop-directory.reached c.loop-directory.pending.items c.pop.new.self.items c.in-Some.directory
    c.loop-directory.invariant.frontier c.in-Some.ensures.items

pub visit-requires : goal.visit-requires
visit-requires c =
    let inside =
    popped_within c.args.rows.now
    (length c.args.rows.now) c.loop-directory.reached c.loop-directory.pending.items c.pop.new.self.items c.in-Some.directory
    c.loop-directory.invariant.frontier c.in-Some.ensures.items in
    let own = c.as_slice.ensures ∙ rows_of_number c.args.rows.now c.in-Some.directory _ inside c.index-rows-directory.is in
    let size = c.loop-directory.invariant.frontier.size in
    subst (All (λ (row : Row). row.inode < length c.loop-directory.reached)) (sym own)
    (subst (λ (n : ℕ). All (λ (row : Row). row.inode < n) (rows_of_inode c.args.rows.now c.in-Some.directory)) (sym size)
    (c.requires.within c.in-Some.directory inside))

pub loop-directory-preserved : goal.loop-directory-preserved
loop-directory-preserved c =
    let inside =
    popped_within c.args.rows.now
    (length c.args.rows.now) c.loop-directory.reached c.loop-directory.pending.items c.pop.new.self.items c.in-Some.directory
    c.loop-directory.invariant.frontier c.in-Some.ensures.items in
    let own = c.as_slice.ensures ∙ rows_of_number c.args.rows.now c.in-Some.directory _ inside c.index-rows-directory.is in
    record {
      frontier =
          next_frontier c.args.rows.now
          (length c.args.rows.now) c.loop-directory.reached c.visit.new.reached c.loop-directory.pending.items c.pop.new.self.items
          c.visit.new.pending.items c.in-Some.directory c.loop-directory.invariant.frontier c.in-Some.ensures.items
          (subst
          (λ (rows : List Row). Visits rows (length rows) c.loop-directory.reached c.visit.new.reached c.pop.new.self.items c.visit.new.pending.items) own
          c.in_ok-visit.ensures);
    }
