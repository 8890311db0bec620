use Rattle.std.proofs.Common.{rules, nat_lt}
use Rattle.std.specs.Prelude.{nat_le}
use Rattle.std.proofs.lemmas.List.Sorted.{IsPartitionPoint-from_clause, IsNonDecreasingBy-from_sort}
use Rattle.disk_change.proofs.Counted.{below_parted, upto_parted, times_between}
use Rattle.flush_plan.proofs.names.times_of.Goals as goal

pub overflow_sub-result : goal.overflow_sub-result
overflow_sub-result c =
    let rise = IsNonDecreasingBy-from_sort (λ x. x) c.args.numbers.now c.requires in
    (times_between c.args.numbers.now c.args.number c.partition_point-from.result c.partition_point-to.result c.partition_point-from.ensures.bound
    c.partition_point-to.ensures.bound
    (IsPartitionPoint-from_clause (λ x. nat_lt x c.args.number) c.args.numbers.now c.partition_point-from.result c.partition_point-from.ensures.partitioned
    (below_parted c.args.numbers.now c.args.number rise) (λ a r f h. search rules))
    (IsPartitionPoint-from_clause (λ x. nat_le x c.args.number) c.args.numbers.now c.partition_point-to.result c.partition_point-to.ensures.partitioned
    (upto_parted c.args.numbers.now c.args.number rise) (λ a r f h. search rules))).0

pub returns : goal.returns
returns c =
    let rise = IsNonDecreasingBy-from_sort (λ x. x) c.args.numbers.now c.requires in
    (times_between c.args.numbers.now c.args.number c.partition_point-from.result c.partition_point-to.result c.partition_point-from.ensures.bound
    c.partition_point-to.ensures.bound
    (IsPartitionPoint-from_clause (λ x. nat_lt x c.args.number) c.args.numbers.now c.partition_point-from.result c.partition_point-from.ensures.partitioned
    (below_parted c.args.numbers.now c.args.number rise) (λ a r f h. search rules))
    (IsPartitionPoint-from_clause (λ x. nat_le x c.args.number) c.args.numbers.now c.partition_point-to.result c.partition_point-to.ensures.partitioned
    (upto_parted c.args.numbers.now c.args.number rise) (λ a r f h. search rules))).1
