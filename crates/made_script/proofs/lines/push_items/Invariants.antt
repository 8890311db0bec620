use Rattle.std.proofs.Common.{◌≡◌, ◌-◌, ◌++◌}
use Rattle.made_script.specs.Made.{drawn, each, item_of, worker_lines}
use Rattle.made_script.proofs.lines.push_items.Given as goal

-- the lines so far and those that are left are all, and the last draw is that of the item before
abbrev pub invariant-loop-item : goal.invariant-loop-item
invariant-loop-item l = record {
  lines : l.lines.items ++ each (item_of l.seed l.worker) l.item (l.count - l.item) ≡ l.fn.lines.items ++ worker_lines l.seed l.count l.worker;
  draw : l.draw ≡ drawn l.seed l.worker l.item;
}
