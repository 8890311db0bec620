use Rattle.std.proofs.Common.{arith}
use Rattle.sfs_dev.proofs.ReadRuns.{read_more_by}
use Rattle.disk_tree.proofs.ContentsRead.{more_contents, content_of_number}
use Rattle.disk_tree.proofs.contents.gather_contents.Goals as goal

pub loop-place-preserved : goal.loop-place-preserved
loop-place-preserved g c = record {
  run = read_more_by _ _ _ c.content_of.result _ c.loop-place.invariant.run c.in_ok-bytes.was c.content_of.ensures.reads;
  contents =
      more_contents _ c.args.inodes.now c.args.tables.now c.loop-place.place c.loop-place.list.items _ c.loop-place.invariant.contents _
      c.in_ok-push.ensures.items
      (content_of_number _ _ c.args.inodes.now c.args.tables.now c.loop-place.place _ _ _ c.loop-place.invariant.run.unwritten.content (omega arith)
      (omega arith) c.index-inodes-place.is c.index-tables-place.is c.in_ok-bytes.ensures.ok);
}
