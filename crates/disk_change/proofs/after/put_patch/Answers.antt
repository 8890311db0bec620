use Rattle.std.proofs.Common.{◌≡◌, length, ap, subst, ◌∙◌, arith}
use Rattle.disk_change.specs.Parts.{HasRoom}
use Rattle.disk_change.specs.Patched.{SlotsPatch}
use Rattle.disk_change.proofs.Patches.{length-placed}
use Rattle.disk_change.proofs.after.put_patch.Goals as goal

pub join-blocks-requires : goal.join-blocks-requires
join-blocks-requires c =
    let room = subst (HasRoom c.args.slots c.args.patch) c.in-Some.is c.requires.room in
    let long : length c.put_placed-blocks.result ≡ length c.args.slots =
    ap length c.put_placed-blocks.ensures ∙ length-placed c.patch.inside.changed.items c.args.slots in
    let further = ap (λ (p : SlotsPatch). length p.further) c.patch.view_is in
    omega (arith, room, long, further)
