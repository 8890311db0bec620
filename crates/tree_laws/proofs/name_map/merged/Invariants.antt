use Rattle.std.proofs.Common.{◌≡◌, ◌≤◌, ◌+◌, ◌-◌, ◌++◌, map, drop, length}
use Rattle.tree_laws.specs.NameRow.{name_and_child, both_lists}
use Rattle.tree_laws.proofs.name_map.merged.Given as goal

abbrev pub invariant-loop-place : goal.invariant-loop-place
invariant-loop-place l = record {
  place : l.place ≤ length l.rows;
  other : l.other ≤ length l.others;
  both : map name_and_child l.both.items ++ both_lists (map name_and_child (drop l.place l.rows)) (map name_and_child (drop l.other l.others))
      ≡ both_lists (map name_and_child l.rows) (map name_and_child l.others);
}

abbrev pub decreases-loop-place : goal.decreases-loop-place
decreases-loop-place l = (length l.rows - l.place) + (length l.others - l.other)
