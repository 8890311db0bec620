use Rattle.std.proofs.Common.{arith, sym, ap, length, ◌∙◌, false}
use Rattle.block_map.specs.declared.changed.ChangedBlock.{ChangedBlock}
use Rattle.block_map.proofs.Tables.{touched, untouched}
use Rattle.block_map.proofs.rewrite.changes_pointers.Goals as goal

abbrev ONE : ChangedBlock
ONE = record { block = 0; is_zero = false }

pub returns-then-touches_table : goal.returns-then-touches_table
returns-then-touches_table c =
    let same = c.as_slice-one-items.ensures.items in
    let long = ap length same in
    touched c.args.inode.now c.args.tables.now.items c.args.changed.now.items c.as_slice-one-items.ensures.ascending c.args.k c.loop-one.one-index ONE
    (omega arith) (rw (← same) (sym c.touches_table.ensures ∙ c.if-touches_table.true))

pub returns : goal.returns
returns c =
    let same = c.as_slice-one-items.ensures.items in
    let long = ap length same in
    untouched c.args.inode.now c.args.tables.now.items c.args.changed.now.items c.as_slice-one-items.ensures.ascending c.args.k
    (λ i d within. c.loop-one.invariant i d (omega arith))
