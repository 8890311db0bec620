use Rattle.std.proofs.Common.{arith}
use Rattle.block_map.proofs.Counts.{fresh_within, count_of_first}
use Rattle.block_map.proofs.remapping.data_pointers.Goals as goal

pub overflow_add-taken : goal.overflow_add-taken
overflow_add-taken c =
    let within = fresh_within c.args.changed.now.items c.as_slice-one-items.ensures.ascending in
    let first = count_of_first c.args.changed.now.items c.loop-one.one-index in
    omega (arith, c.loop-one.invariant.taken)
