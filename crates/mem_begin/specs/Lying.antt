-- Which cell lies at a place.
use Rattle.std.specs.Prelude.{◌≡◌, ℕ, ◌+◌, ◌*◌, ◌<◌}
use Rattle.mem_values.specs.declared.cell_id.CellId.{CellId}
use Rattle.mem_values.specs.declared.cell_id.CellId.TheVariants.{Bucket, File}
use Rattle.mem_values.specs.Places.{cell_place, IsCell}

-- A cell is what lies at a place of a table of so many nodes, where one does.
abbrev pub IsWhatLiesAt : ℕ → ℕ → CellId → Type 0
IsWhatLiesAt nodes place cell = (cores : ℕ) (other : CellId) → IsCell nodes cores other → cell_place nodes other ≡ place → cell ≡ other

-- A bucket or a file lies so many places behind the first bucket of node 0.
abbrev pub LiesBehind : ℕ → CellId → Type 0
LiesBehind place (Bucket node number) = (place ≡ 9 * node.0 + number) × (number < 8)
LiesBehind place (File node) = place ≡ 9 * node.0 + 8
LiesBehind place _ = ⊥
