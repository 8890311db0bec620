use Rattle.std.proofs.Common.{◌≡◌, ◌≤◌, All, arith, length, map, take, subst, List}
use Rattle.fmt_journal.specs.declared.tx.TxBlock.{TxBlock}
use Rattle.fmt_journal.specs.declared.tx.TxRecord.{TxRecord}
use Rattle.journal_one.specs.Packed.{block_of}
use Rattle.journal_one.proofs.Packing.{IsWholeBlock, Packing, packing_next, looked_next, looked_all, packed_all}
use Rattle.journal_one.proofs.packed.Packed.new.Goals as goal

pub loop-one-preserved : goal.loop-one-preserved
loop-one-preserved c =
    packing_next c.as_slice-one-items.result.now c.loop-one.one-index c.loop-one.numbers.items c.loop-one.records.items c.pack.new.numbers.items
    c.pack.new.records.items
    (omega arith) c.pack.ensures.long c.in_ok-pack.ensures.numbers c.in_ok-pack.ensures.records c.loop-one.invariant

pub loop-one-2-preserved : goal.loop-one-2-preserved
loop-one-2-preserved c =
    looked_next c.as_slice-one-items-2.result.now c.loop-one-2.one-index c.look.ensures c.loop-one-2.invariant

pub invariant_of-result : goal.invariant_of-result
invariant_of-result c =
    let items : c.as_slice-one-items.result.now ≡ c.args.tx.records.items = c.as_slice-one-items.ensures in
    let blocks : c.as_slice-one-items-2.result.now ≡ c.args.tx.fresh.items = c.as_slice-one-items-2.ensures in
    packed_all c.args.tx.records.items _ c.loop-one.numbers.items c.loop-one.records.items c.loop-one.one-index
    (subst (λ (l : List TxRecord). length l ≤ c.loop-one.one-index) items (omega arith)) c.requires c.args.tx.records_ascend
    (subst (λ (l : List TxBlock). All IsWholeBlock (map block_of l)) blocks
    (looked_all c.as_slice-one-items-2.result.now c.loop-one-2.one-index (omega arith) c.loop-one-2.invariant))
    (subst (λ (l : List TxRecord). Packing (take c.loop-one.one-index l) c.loop-one.numbers.items c.loop-one.records.items) items c.loop-one.invariant)
