use Rattle.std.proofs.Common.{◌<◌, ◌+◌, ◌*◌, ℕ, IsSome, sym, subst, arith, below_more}
use Rattle.stamp_table.specs.Ascending.{LiesAbove}
use Rattle.mem_values.proofs.Basics.{is_value, some_of}
use Rattle.mem_calls.specs.Held.{bucket_held}
use Rattle.mem_calls.proofs.HeldKinds.{still_bucket, holds_bucket}
use Rattle.mem_calls.proofs.Left.{on_again, still_again}
use Rattle.mem_calls.proofs.holding.hold_buckets.Goals as goal

pub loop-number-preserved : goal.loop-number-preserved
loop-number-preserved g c =
    let inv = c.loop-number.invariant in
    let gains = c.hold_more.ensures.gains in
    let less = c.loop-number-test.true in
    let within = c.requires.within in
    record {
      work = c.hold_more.ensures.work;
      on = on_again c.args.core.now c.loop-number.core c.hold_more.new.core inv.on gains.on;
      still = still_again c.args.nodes c.args.core.now c.loop-number.core c.hold_more.new.core inv.still gains.still;
      buckets = below_more (λ k. IsSome (bucket_held c.args.nodes c.hold_more.new.core.held c.args.node k)) c.loop-number.number
          (λ k lt.
          let b = is_value (bucket_held c.args.nodes c.loop-number.core.held c.args.node k) (inv.buckets k lt) in
          some_of (bucket_held c.args.nodes c.hold_more.new.core.held c.args.node k) b.0
          (still_bucket c.args.nodes c.loop-number.core c.hold_more.new.core c.args.node k b.0 gains.still b.1))
          (holds_bucket c.args.nodes c.loop-number.core c.hold_more.new.core c.args.node c.loop-number.number gains);
      above = subst (LiesAbove (16 + 9 * c.args.node.0 + (c.loop-number.number + 1))) (sym gains.top) (next c.args.node.0 c.loop-number.number);
      low = subst (LiesAbove (32 + 10 * c.args.nodes)) (sym gains.top) (under c.args.node.0 c.args.nodes c.loop-number.number within less);
      room = let r = inv.room in let s = gains.room in omega (arith, r, s);
    }
  where
    next : (node number : ℕ) → 16 + 9 * node + number < 16 + 9 * node + (number + 1)
    next node number = omega arith

    under : (node nodes number : ℕ) → node < nodes → number < 8 → 16 + 9 * node + number < 32 + 10 * nodes
    under node nodes number lt less = omega (arith, lt, less)
