-- The rows of a directory as a list.
use Rattle.std.specs.Prelude.{ℕ, zero, suc, List, [], ◌++◌, map, is_some}
use Rattle.std.specs.Option.{option_map_or}
use Rattle.std.specs.Ordering.{is_lt}
use Rattle.std.specs.FinMap.{get, entries}
use Rattle.std.specs.List.Sorted.{IsSortedBy}
use Rattle.std.specs.Prelude.{Bool}
use Rattle.sfs_base.specs.declared.numbers.NodeId.{NodeId}
use Rattle.sfs_base.specs.declared.numbers.Kind.{Kind}
use Rattle.tree_laws.specs.Order.{name_cmp}
use Rattle.tree_laws.specs.Tree.{kind_if}
use Rattle.tree_laws.specs.declared.listing.NameKind.{NameKind}
use Rattle.stamp_table.specs.declared.held.HeldCell.{HeldCell}
use Rattle.mem_values.specs.declared.cell.Cell.{Cell}
use Rattle.mem_values.specs.declared.bucket.Bucket.{Bucket}
use Rattle.mem_calls.specs.Held.{bucket_held}

-- a row of a bucket, with the kind of its node
abbrev pub with_kind : Bucket → List ℕ × ℕ → List ℕ × Kind
with_kind bucket row = (row.0, kind_if (is_some (get bucket.directories row.0)))

-- the rows of a bucket, with the kinds of their nodes
abbrev pub kinds_in : Bucket → List (List ℕ × Kind)
kinds_in bucket = map (with_kind bucket) (entries bucket.rows)

-- the rows of a bucket that is held, with the kinds of their nodes
abbrev pub kinds_held : ℕ → List (HeldCell Cell) → NodeId → ℕ → List (List ℕ × Kind)
kinds_held nodes held node number = option_map_or kinds_in (bucket_held nodes held node number) []

-- the first of some lists, one behind the other
abbrev pub join_until : ℕ → (ℕ → List (List ℕ × Kind)) → List (List ℕ × Kind)
join_until zero f = []
join_until (suc n) f = join_until n f ++ f n

-- whether the name of one row comes before that of another
abbrev pub precedes_by_name : NameKind → NameKind → Bool
precedes_by_name row other = is_lt (name_cmp row.name other.name)

-- no row's name comes before that of the row before it
abbrev pub AreInNameOrder : List NameKind → Type 0
AreInNameOrder rows = IsSortedBy precedes_by_name rows
