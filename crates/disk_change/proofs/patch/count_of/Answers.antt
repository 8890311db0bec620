use Rattle.std.proofs.Common.{◌+◌, length, sym, ap, ◌∙◌}
use Rattle.disk_change.specs.Patched.{SlotsPatch}
use Rattle.disk_change.proofs.Patches.{length-patched}
use Rattle.disk_change.proofs.patch.count_of.Goals as goal

pub returns : goal.returns
returns c =
    ap (λ k. length c.args.slots.now + k) (c.len.ensures ∙ c.patch.inside.further.ok.0 ∙ ap (λ (p : SlotsPatch). length p.further) c.patch.view_is)
    ∙ sym (length-patched c.args.patch.now c.args.slots.now)
