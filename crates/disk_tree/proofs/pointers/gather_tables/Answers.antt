use Rattle.std.proofs.Common.{Option, None, Some, [], subst, arith}
use Rattle.sfs_base.specs.Lists.{Roomy}
use Rattle.sfs_image.specs.Inode.{Table}
use Rattle.disk_tree.specs.Pointers.{FindsTables}
use Rattle.sfs_dev.proofs.ReadRuns.{read_more_by}
use Rattle.disk_tree.proofs.TablesGathered.{more_tables, fourth_broken, found_at}
use Rattle.disk_tree.proofs.pointers.gather_tables.Goals as goal

pub returns-in-None-clause-bad : goal.returns-in-None-clause-bad
returns-in-None-clause-bad g c =
    fourth_broken _ c.args.layout.now c.args.inodes.now c.loop-place.place c.loop-place.list.items [] c.loop-place.invariant.tables (omega arith)
    (found_at _ _ c.args.layout.now c.args.inodes.now c.loop-place.place _ None c.loop-place.invariant.run.unwritten.content
    (omega arith) c.index-inodes-place.is
    (subst
    (λ (o : Option (Roomy Table)). FindsTables (g.D.Disk.view c.loop-place.disk).content c.args.layout.now c.index-inodes-place.result o)
    c.in-None.is c.in_ok-tables.ensures.ok))

pub loop-place-preserved : goal.loop-place-preserved
loop-place-preserved g c = record {
  run = read_more_by _ _ _ c.judged_tables.result _ c.loop-place.invariant.run c.in_ok-tables.was c.judged_tables.ensures.reads;
  tables =
      more_tables _ c.args.layout.now c.args.inodes.now c.loop-place.place c.loop-place.list.items _ c.loop-place.invariant.tables _
      c.in_ok-push-in-Some.ensures.items
      (found_at _ _ c.args.layout.now c.args.inodes.now c.loop-place.place _ (Some c.in-Some.tables) c.loop-place.invariant.run.unwritten.content
      (omega arith) c.index-inodes-place.is
      (subst
      (λ (o : Option (Roomy Table)). FindsTables (g.D.Disk.view c.loop-place.disk).content c.args.layout.now c.index-inodes-place.result o)
      c.in-Some.is c.in_ok-tables.ensures.ok));
}
