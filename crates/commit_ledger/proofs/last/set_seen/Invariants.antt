use Rattle.std.proofs.Common.{◌≡◌, ◌-◌, length}
use Rattle.commit_ledger.proofs.SeenLasts.{AreBack}
use Rattle.commit_ledger.proofs.last.set_seen.Given as goal

abbrev pub invariant-loop-one : goal.invariant-loop-one
invariant-loop-one l = record {
  long : length l.lasts.items ≡ length l.fn.lasts.items;
  back : AreBack l.fn.lasts.items l.seen (length l.seen - length l.yielded) l.lasts.items;
}
