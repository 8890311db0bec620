use Rattle.std.proofs.Common.{◌≡◌, map, take}
use Rattle.tree_laws.specs.NameKinds.{name_kind}
use Rattle.tree_laws.proofs.listing.NameRows.copy.Given as goal

abbrev pub invariant-loop-row : goal.invariant-loop-row
invariant-loop-row l = map name_kind l.rows.items ≡ map name_kind (take l.row-index l.row-items)
