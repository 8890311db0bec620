use Rattle.std.proofs.Common.{◌≡◌, length}
use Rattle.commit_ledger.proofs.SeenLasts.{AreSet}
use Rattle.commit_ledger.proofs.last.set_all.Given as goal

abbrev pub invariant-loop-one : goal.invariant-loop-one
invariant-loop-one l = record {
  long : length l.lasts.items ≡ length l.fn.lasts.items;
  sets : AreSet l.fn.lasts.items l.seen l.last l.one-index l.lasts.items;
}
