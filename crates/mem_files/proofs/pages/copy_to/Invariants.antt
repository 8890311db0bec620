use Rattle.std.proofs.Common.{◌≡◌, ◌+◌, ◌-◌, ◌<◌, ◌≤◌, ℕ, length, get_or}
use Rattle.mem_files.specs.Pages.{byte_at}
use Rattle.mem_files.proofs.pages.copy_to.Given as goal

abbrev pub invariant-loop-done : goal.invariant-loop-done
invariant-loop-done l = record {
  within : l.done ≤ length l.into;
  copied : (k : ℕ) → k < l.done → get_or l.into k 0 ≡ byte_at l.pages (l.at + k);
}

abbrev pub decreases-loop-done : goal.decreases-loop-done
decreases-loop-done l = length l.into - l.done
