use Rattle.std.proofs.Common.{◌≡◌, take}
use Rattle.disk_change.specs.Links.{rows_coming, rows_going}
use Rattle.disk_change.proofs.links.LinkChanges.of.Given as goal

abbrev pub invariant-loop-one : goal.invariant-loop-one
invariant-loop-one l = record {
  coming : l.coming.items ≡ rows_coming l.directories (take l.one-index l.nets.items);
  going : l.going.items ≡ rows_going l.directories (take l.one-index l.nets.items);
}
