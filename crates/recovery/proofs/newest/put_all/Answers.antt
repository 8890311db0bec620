-- One record more, and in the end all of them.
use Rattle.std.proofs.Common.{◌<◌, ◌*◌, ℕ, List, length, sym, subst, arith, ◌∙◌, slice_index}
use Rattle.sfs_image.proofs.BytesLaws.{part-between}
use Rattle.recovery.specs.Settling.{AreSettled, with_record, with_body, packed_entries}
use Rattle.recovery.proofs.Newests.{number_small, record_more, settled_same}
use Rattle.recovery.proofs.newest.put_all.Goals as goal

pub put-requires-clause-stamps : goal.put-requires-clause-stamps
put-requires-clause-stamps c = subst (λ n. slice_index c.args.numbers.now c.loop-k.k < n) (sym c.loop-k.invariant.stamps)
    (number_small (length c.args.newest.now.stamps.items) c.args.numbers.now c.requires.numbers c.loop-k.k c.loop-k-test.true)

pub put-requires-clause-records : goal.put-requires-clause-records
put-requires-clause-records c = subst (λ n. slice_index c.args.numbers.now c.loop-k.k < n) (sym (c.loop-k.invariant.records ∙ c.requires.inodes))
    (number_small (length c.args.newest.now.stamps.items) c.args.numbers.now c.requires.numbers c.loop-k.k c.loop-k-test.true)

pub loop-k-preserved : goal.loop-k-preserved
loop-k-preserved c =
    let inodes = length c.args.newest.now.stamps.items in
    let numbers = c.args.numbers.now in
    let k = c.loop-k.k in
    record {
      settled = λ table best begins.
          let was = c.loop-k.invariant.settled table best begins in
          settled_same inodes table _ _ c.put.new.newest
          (record_more inodes numbers c.requires.numbers c.args.stamp c.args.bytes.now best k c.loop-k-test.true)
          (subst
          (λ (bytes : List ℕ). AreSettled inodes table
          (with_record (slice_index numbers k) c.args.stamp bytes
          (with_body (record { stamp = c.args.stamp; entries = packed_entries numbers c.args.bytes.now k }) best))
          c.put.new.newest)
          (c.copy_from_slice.ensures.after ∙ part-between (512 * k) 512 c.args.bytes.now) (c.put.ensures.settled inodes table _ was));
      stamps = c.put.ensures.stamps ∙ c.loop-k.invariant.stamps;
      records = c.put.ensures.records ∙ c.loop-k.invariant.records;
    }

pub returns-clause-settled : goal.returns-clause-settled
returns-clause-settled c = λ table best begins.
    subst (λ n. AreSettled (length c.args.newest.now.stamps.items) table
    (with_body (record { stamp = c.args.stamp; entries = packed_entries c.args.numbers.now c.args.bytes.now n }) best) c.loop-k.newest)
    (let most = c.loop-k.auto.k-end in let least = c.loop-k-test.false in omega arith) (c.loop-k.invariant.settled table best begins)
