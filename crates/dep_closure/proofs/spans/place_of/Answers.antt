use Rattle.std.proofs.Common.{rules, nat_lt}
use Rattle.std.proofs.lemmas.List.Sorted.{IsPartitionPoint-from_clause}
use Rattle.tree_laws.specs.declared.changes.Change.{Change}
use Rattle.dep_closure.proofs.Parts.{stamps_parted, behind_place, before_place}
use Rattle.dep_closure.proofs.spans.place_of.Goals as goal

pub returns-clause-behind : goal.returns-clause-behind
returns-clause-behind c =
    let parted =
    IsPartitionPoint-from_clause
    (λ (change : Change). nat_lt change.stamp.0 c.args.stamp.0) c.args.changes.now c.partition_point.result c.partition_point.ensures.partitioned
    (stamps_parted c.args.changes.now c.requires c.args.stamp.0) (λ a r f h. search rules) in
    behind_place c.args.changes.now c.requires c.args.stamp.0 c.partition_point.result c.partition_point.ensures.bound parted

pub returns-clause-before : goal.returns-clause-before
returns-clause-before c =
    let parted =
    IsPartitionPoint-from_clause
    (λ (change : Change). nat_lt change.stamp.0 c.args.stamp.0) c.args.changes.now c.partition_point.result c.partition_point.ensures.partitioned
    (stamps_parted c.args.changes.now c.requires c.args.stamp.0) (λ a r f h. search rules) in
    before_place c.args.changes.now c.requires c.args.stamp.0 c.partition_point.result c.partition_point.ensures.bound parted
