use Rattle.std.proofs.Common.{◌≡◌, map, take}
use Rattle.disk_change.specs.Seat.{page_said}
use Rattle.disk_change.proofs.rewritten.file_changed.Given as goal

abbrev pub invariant-loop-page : goal.invariant-loop-page
invariant-loop-page l = l.changed.items ≡ map page_said (take l.page-index l.fn.pages.items)
