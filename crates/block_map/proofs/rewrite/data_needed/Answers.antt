use Rattle.std.proofs.Common.{arith}
use Rattle.block_map.proofs.Counts.{fresh_within, count_of_first}
use Rattle.block_map.proofs.rewrite.data_needed.Goals as goal

pub overflow_add-count : goal.overflow_add-count
overflow_add-count c =
    let within = fresh_within c.args.changed.now.items c.as_slice-one-items.ensures.ascending in
    let first = count_of_first c.args.changed.now.items c.loop-one.one-index in
    omega arith

pub returns-clause-fits : goal.returns-clause-fits
returns-clause-fits c =
    let within = fresh_within c.args.changed.now.items c.as_slice-one-items.ensures.ascending in
    let first = count_of_first c.args.changed.now.items c.loop-one.one-index in
    omega arith
