use Rattle.std.proofs.Common.{rules}
use Rattle.std.specs.Ordering.{is_lt}
use Rattle.tree_laws.specs.Order.{name_cmp}
use Rattle.tree_laws.specs.declared.name_map.NameRow.{NameRow}
use Rattle.std.proofs.lemmas.List.Sorted.{IsPartitionPoint-from_clause}
use Rattle.tree_laws.proofs.RowsByName.{IsPartitionedBy-sorted, IsPlaceOf-partition}
use Rattle.tree_laws.proofs.name_map.place_of.Goals as goal

pub returns : goal.returns
returns c =
    IsPlaceOf-partition c.args.rows.now c.args.name.now c.partition_point.result c.partition_point.ensures.bound
    (IsPartitionPoint-from_clause
    (λ (row : NameRow). is_lt (name_cmp row.name c.args.name.now)) c.args.rows.now c.partition_point.result c.partition_point.ensures.partitioned
    (IsPartitionedBy-sorted c.args.rows.now c.args.name.now c.requires) (λ a r f h. search rules))
