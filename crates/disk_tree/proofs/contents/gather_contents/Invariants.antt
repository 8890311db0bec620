use Rattle.disk_tree.specs.Contents.{AreReadContents}
use Rattle.sfs_dev.proofs.Runs.{ReadSoFar}
use Rattle.disk_tree.proofs.contents.gather_contents.Given as goal

abbrev pub invariant-loop-place : goal.invariant-loop-place
invariant-loop-place g l = record {
  run : ReadSoFar (g.D.Disk.view l.initial.disk) (g.D.Disk.view l.disk);
  contents : AreReadContents (g.D.Disk.view l.initial.disk).content l.inodes l.tables l.place l.list.items;
}
