use Rattle.std.proofs.Common.{rules, ap, sym, ◌∙◌, nat_lt, length, is_some}
use borrow.Author.Tests.{ltb-true, ltb-false}
use Rattle.std.proofs.lemmas.List.Sorted.{IsPartitionPoint-from_clause, IsNonDecreasingBy-from_sort}
use Rattle.disk_change.proofs.Counted.{below_parted}
use Rattle.disk_change.proofs.Passing.{first_above, none_above}
use Rattle.disk_change.proofs.directory.first_from.Goals as goal

pub returns-in-Some-clause-on : goal.returns-in-Some-clause-on
returns-in-Some-clause-on c =
    let rise = IsNonDecreasingBy-from_sort (λ x. x) c.args.numbers.now c.requires in
    (first_above c.args.numbers.now c.args.from c.partition_point-at.result rise
    (IsPartitionPoint-from_clause (λ x. nat_lt x c.args.from) c.args.numbers.now c.partition_point-at.result c.partition_point-at.ensures.partitioned
    (below_parted c.args.numbers.now c.args.from rise) (λ a r f h. search rules)) c.in-Some.number.now
    (ltb-true c.partition_point-at.result (length c.args.numbers.now) (sym c.get.ensures.lookup.0 ∙ ap is_some c.in-Some.is)) c.in-Some.ensures.lookup.1).0

pub returns-in-Some-clause-passed : goal.returns-in-Some-clause-passed
returns-in-Some-clause-passed c =
    let rise = IsNonDecreasingBy-from_sort (λ x. x) c.args.numbers.now c.requires in
    (first_above c.args.numbers.now c.args.from c.partition_point-at.result rise
    (IsPartitionPoint-from_clause (λ x. nat_lt x c.args.from) c.args.numbers.now c.partition_point-at.result c.partition_point-at.ensures.partitioned
    (below_parted c.args.numbers.now c.args.from rise) (λ a r f h. search rules)) c.in-Some.number.now
    (ltb-true c.partition_point-at.result (length c.args.numbers.now) (sym c.get.ensures.lookup.0 ∙ ap is_some c.in-Some.is)) c.in-Some.ensures.lookup.1).1

pub returns-in-None-clause-passed : goal.returns-in-None-clause-passed
returns-in-None-clause-passed c = λ n over under has.
    let rise = IsNonDecreasingBy-from_sort (λ x. x) c.args.numbers.now c.requires in
    none_above c.args.numbers.now c.args.from c.partition_point-at.result rise
    (IsPartitionPoint-from_clause (λ x. nat_lt x c.args.from) c.args.numbers.now c.partition_point-at.result c.partition_point-at.ensures.partitioned
    (below_parted c.args.numbers.now c.args.from rise) (λ a r f h. search rules))
    (ltb-false c.partition_point-at.result (length c.args.numbers.now) (sym c.get.ensures.lookup.0 ∙ ap is_some c.in-None.is)) n over has
