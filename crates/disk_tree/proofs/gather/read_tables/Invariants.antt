use Rattle.sfs_dev.proofs.Runs.{ReadSoFar}
use Rattle.disk_tree.proofs.TablesRead.{TablesSoFar}
use Rattle.disk_tree.proofs.gather.read_tables.Given as goal

abbrev pub invariant-loop-place : goal.invariant-loop-place
invariant-loop-place g l = record {
  run : ReadSoFar (g.D.Disk.view l.initial.disk) (g.D.Disk.view l.disk);
  tables : TablesSoFar (g.D.Disk.view l.initial.disk).content l.inode l.place l.tables.items;
}
