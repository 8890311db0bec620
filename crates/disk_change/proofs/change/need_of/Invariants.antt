use Rattle.std.proofs.Common.{◌≡◌, [], take, count_by, sum_by}
use Rattle.disk_change.specs.Parts.{seat_with}
use Rattle.disk_change.specs.Planned.{as_u32, enters, blocks_taken}
use Rattle.disk_change.proofs.change.need_of.Given as goal

abbrev pub invariant-loop-seat : goal.invariant-loop-seat
invariant-loop-seat l = record {
  inodes : l.inodes ≡ as_u32 (count_by (λ seat. enters (seat_with [] seat)) (take l.seat-index l.seats));
  blocks : l.blocks ≡ as_u32 (sum_by (λ seat. blocks_taken (seat_with [] seat)) (take l.seat-index l.seats));
}
