use Rattle.disk_tree.specs.Gathered.{AreTables}
use Rattle.sfs_dev.proofs.Runs.{ReadSoFar}
use Rattle.disk_tree.proofs.pointers.gather_tables.Given as goal

abbrev pub invariant-loop-place : goal.invariant-loop-place
invariant-loop-place g l = record {
  run : ReadSoFar (g.D.Disk.view l.initial.disk) (g.D.Disk.view l.disk);
  tables : AreTables (g.D.Disk.view l.initial.disk).content l.layout l.inodes l.place l.list.items;
}
