use Rattle.disk_tree.specs.Reading.{HasContent}
use Rattle.sfs_dev.proofs.Runs.{ReadSoFar}
use Rattle.disk_tree.proofs.gather.read_content.Given as goal

abbrev pub invariant-loop-n : goal.invariant-loop-n
invariant-loop-n g l = record {
  run : ReadSoFar (g.D.Disk.view l.initial.disk) (g.D.Disk.view l.disk);
  content : HasContent (g.D.Disk.view l.initial.disk).content l.inode l.tables.items l.n l.bytes.items;
}
