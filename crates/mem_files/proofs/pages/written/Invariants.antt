use Rattle.std.proofs.Common.{◌≡◌, ◌-◌, ◌*◌, ◌<◌, ◌≤◌, ℕ, length}
use Rattle.std.specs.Prelude.{vec_capacity}
use Rattle.mem_files.specs.Pages.{byte_at, byte_after}
use Rattle.mem_files.proofs.pages.written.Given as goal

abbrev pub invariant-loop-block : goal.invariant-loop-block
invariant-loop-block l = record {
  from_first : l.fn.first ≤ l.block;
  counted : length l.fresh.items ≡ l.block - l.fn.first;
  room : l.fn.end - l.fn.first ≤ vec_capacity l.fresh;
  written : (place : ℕ) → l.fn.first * 4096 ≤ place → place < l.block * 4096
      → byte_at l.fresh.items (place - l.fn.first * 4096) ≡ byte_after (byte_at l.pages) l.at l.from place;
}
