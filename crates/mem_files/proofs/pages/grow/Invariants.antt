use Rattle.std.proofs.Common.{◌≡◌, length}
use Rattle.mem_files.specs.Pages.{SameBytes}
use Rattle.mem_files.proofs.pages.grow.Given as goal

abbrev pub invariant-loop : goal.invariant-loop
invariant-loop l = record {
  long : length l.pages.items ≡ l.counter;
  same : SameBytes l.fn.pages.items l.pages.items;
}
