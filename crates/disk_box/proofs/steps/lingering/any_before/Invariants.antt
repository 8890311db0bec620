use Rattle.std.proofs.Common.{◌≡◌, false, take}
use Rattle.std.specs.List.{list_any}
use Rattle.disk_box.specs.Oldest.{goes_before}
use Rattle.disk_box.proofs.steps.lingering.any_before.Given as goal

abbrev pub invariant-loop-j : goal.invariant-loop-j
invariant-loop-j l = list_any (goes_before l.drawn l.inode) (take l.j l.slots) ≡ false
