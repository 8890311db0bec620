use Rattle.std.proofs.Common.{ap, ◌∙◌, [], count_by, sum_by}
use Rattle.disk_change.specs.Parts.{seat_with}
use Rattle.disk_change.specs.Planned.{Planned, as_u32, enters, blocks_taken}
use Rattle.disk_change.proofs.Needs.{same_entering, same_taking}
use Rattle.disk_change.proofs.change.need.Goals as goal

pub returns : goal.returns
returns c =
    let seats = c.change.inside.seats.items in
    let old = c.change.inside.old.items in
    record {
      inodes =
          c.need_of.ensures.inodes ∙ ap (λ those. as_u32 (count_by (λ seat. enters (seat_with [] seat)) those)) c.deref.ensures.value
          ∙ ap as_u32 (same_entering old seats) ∙ ap (λ (change : Planned). as_u32 (count_by enters change.seats)) c.change.view_is;
      blocks =
          c.need_of.ensures.blocks ∙ ap (λ those. as_u32 (sum_by (λ seat. blocks_taken (seat_with [] seat)) those)) c.deref.ensures.value
          ∙ ap as_u32 (same_taking old seats) ∙ ap (λ (change : Planned). as_u32 (sum_by blocks_taken change.seats)) c.change.view_is;
    }
