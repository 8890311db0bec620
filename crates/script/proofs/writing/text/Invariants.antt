use Rattle.std.proofs.Common.{◌≡◌, ◌-◌, ◌≤◌, length, take, flat_map, string_bytes}
use Rattle.script.specs.Texts.{entry_text}
use Rattle.script.proofs.writing.text.Given as goal

abbrev pub invariant-loop-entry : goal.invariant-loop-entry
invariant-loop-entry l = record {
  written : string_bytes l.text ≡ flat_map entry_text (take l.cursor l.history);
  within : l.cursor ≤ length l.history;
}

abbrev pub decreases-loop-entry : goal.decreases-loop-entry
decreases-loop-entry l = length l.history - l.cursor
