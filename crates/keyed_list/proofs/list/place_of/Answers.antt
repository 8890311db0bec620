use Rattle.std.proofs.Common.{rules, nat_lt}
use Rattle.std.proofs.lemmas.List.Sorted.{IsPartitionPoint-from_clause}
use Rattle.keyed_list.proofs.Places.{parted_by}
use Rattle.keyed_list.proofs.list.place_of.Goals as goal

pub returns-clause-parted : goal.returns-clause-parted
returns-clause-parted g c =
    IsPartitionPoint-from_clause
    (λ one. nat_lt (g.T.Numbered.number one) c.args.number) c.args.items.now c.partition_point.result c.partition_point.ensures.partitioned
    (parted_by g.T.Numbered.number c.args.items.now c.requires c.args.number) (λ a r f h. search rules)
