use Rattle.std.proofs.Common.{◌≡◌, take}
use Rattle.std.specs.FinMap.{entries, from_entries}
use Rattle.tree_laws.specs.Order.{name_cmp}
use Rattle.tree_laws.specs.Tree.{bucket_rows}
use Rattle.tree_laws.specs.Lock.{stands_of}
use Rattle.tree_laws.specs.NameRow.{number_of}
use Rattle.mem_begin.specs.Beginning.{ShowsDirectories}
use Rattle.mem_begin.proofs.bucket.bucket_of.Given as goal

abbrev pub invariant-loop-place : goal.invariant-loop-place
invariant-loop-place l = record {
  rows : l.bucket.rows ≡ from_entries {R = name_cmp} (take l.place (entries (bucket_rows l.node.0 l.number l.tree.rows)));
  directories : ShowsDirectories l.tree l.bucket;
  stands : number_of l.bucket.stands ≡ stands_of l.tree l.node.0;
}
