-- The slots are gone through from the last one on: what was put before comes behind.
use Rattle.std.proofs.Common.{◌-◌, ◌<◌, ◌≤◌, ◌∙◌, ℕ, length, arith}
use Rattle.sfs_base.proofs.BasicNumbers.{suc_again}
use Rattle.recovery.specs.Open.{IsOpenSlot}
use Rattle.sfs_dev.proofs.ReadRuns.{read_more}
use Rattle.recovery.proofs.SettledRead.{slot_settled, found_has}
use Rattle.recovery.proofs.settled.settle.Goals as goal

pub loop-left-preserved : goal.loop-left-preserved
loop-left-preserved g c =
    let layout = c.args.layout.now in
    let invariant = c.loop-left.invariant in
    let old = g.D.Disk.view c.args.disk.now in
    let less : c.loop-left.left - 1 < length c.args.found.now = within c.loop-left.left (length c.args.found.now) c.loop-left-test.true invariant.within in
    record {
      within = earlier c.loop-left.left (length c.args.found.now) invariant.within;
      run = read_more old (g.D.Disk.view c.loop-left.disk) (g.D.Disk.view c.put_slot.new.disk) _ invariant.run c.in_ok-put_slot.ensures.reads;
      counts = c.in_ok-put_slot.ensures.counts;
      settled = λ image told slots begins.
          slot_settled layout image c.args.found.now c.loop-left.left (c.loop-left.left - 1) c.index-found-left.result c.put_slot.new.newest
          (suc_again c.loop-left.left c.loop-left-test.true) c.index-found-left.is less
          (c.in_ok-put_slot.ensures.ok image (invariant.run.unwritten.content ∙ told)
          (found_has (IsOpenSlot layout image) c.args.found.now (c.loop-left.left - 1) c.index-found-left.result slots less c.index-found-left.is)
          _ _ (invariant.settled image told slots begins));
    }
  where
    within : (n m : ℕ) → 0 < n → n ≤ m → n - 1 < m
    within n m some le = omega arith

    earlier : (n m : ℕ) → n ≤ m → n - 1 ≤ m
    earlier n m le = omega arith
