use Rattle.std.proofs.Common.{◌≡◌, map, take}
use Rattle.tree_laws.specs.NameKinds.{name_kind}
use Rattle.tree_laws.proofs.listing.NameRows.equals.Given as goal

abbrev pub invariant-loop-place : goal.invariant-loop-place
invariant-loop-place l = map name_kind (take l.place l.self-inside.rows.items) ≡ map name_kind (take l.place l.other-inside.rows.items)
