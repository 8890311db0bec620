use Rattle.std.proofs.Common.{rules}
use Rattle.std.specs.Ordering.{is_lt}
use Rattle.std.proofs.lemmas.List.Sorted.{IsPartitionPoint-from_clause}
use Rattle.tree_laws.specs.Order.{name_cmp}
use Rattle.absorb.specs.declared.nets.NetRow.{NetRow}
use Rattle.disk_change.proofs.Names.{parted}
use Rattle.disk_change.proofs.block.place_of.Goals as goal

pub returns-clause-parted : goal.returns-clause-parted
returns-clause-parted c =
    IsPartitionPoint-from_clause
    (λ (row : NetRow). is_lt (name_cmp row.name c.args.name.now)) c.args.net.now c.partition_point.result c.partition_point.ensures.partitioned
    (parted c.args.name.now c.args.net.now c.requires) (λ a r f h. search rules)
