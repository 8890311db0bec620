use Rattle.std.proofs.Common.{ℕ, subst, arith, ◌≡◌}
use Rattle.sfs_dev.proofs.ReadRuns.{read_more_by}
use Rattle.disk_tree.proofs.TablesRead.{TablesSoFar, all_below, next_table, told_same, all_tables}
use Rattle.disk_tree.proofs.gather.read_tables.Goals as goal

pub read_table-requires-clause-above : goal.read_table-requires-clause-above
read_table-requires-clause-above g c κs within = all_below _ c.args.inode.now c.loop-place.place c.loop-place.tables.items c.loop-place.invariant.tables

pub loop-place-preserved : goal.loop-place-preserved
loop-place-preserved g c = record {
  run = read_more_by _ _ _ c.read_table.result _ c.loop-place.invariant.run c.in_ok-read_table.was c.read_table.ensures.reads;
  tables =
      next_table _ c.args.inode.now c.loop-place.place _ _ c.loop-place.invariant.tables
      (told_same _ _ c.args.inode.now c.loop-place.place _ _ c.loop-place.invariant.run.unwritten.content c.in_ok-read_table.ensures.ok);
}

pub returns-clause-ok : goal.returns-clause-ok
returns-clause-ok g c =
    let all : c.loop-place.place ≡ 16 = omega arith in
    all_tables _ c.args.inode.now c.loop-place.tables.items
    (subst (λ (k : ℕ). TablesSoFar (g.D.Disk.view c.args.disk.now).content c.args.inode.now k c.loop-place.tables.items) all c.loop-place.invariant.tables)
