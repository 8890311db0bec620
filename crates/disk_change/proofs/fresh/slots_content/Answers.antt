use Rattle.std.proofs.Common.{◌<◌, ◌≤◌, Option, List, sym, ap, ◌∙◌, arith}
use Rattle.std.specs.Prelude.{slice_get}
use Rattle.std.specs.Option.{option_copied, option_map_or}
use Rattle.sfs_image.specs.Slot.{Row}
use Rattle.sfs_image.specs.SlotBlock.{slots_bytes}
use Rattle.disk_change.specs.Fresh.{zero_bytes}
use Rattle.disk_change.specs.Parts.{BuiltParts}
use Rattle.disk_change.specs.Patched.{patched}
use Rattle.disk_change.proofs.Patches.{taken_at, taken_past}
use Rattle.disk_change.proofs.fresh.slots_content.Goals as goal

pub returns-then-n-built : goal.returns-then-n-built
returns-then-n-built c =
    let built = c.args.built.now in
    let end = ap (λ (b : BuiltParts). b.end) c.built.view_is in
    let past : built.end ≤ c.args.n = omega (arith, c.if-n-built.true, end) in
    ap (λ (o : Option (List (Option Row))). option_map_or slots_bytes o zero_bytes)
    (sym (taken_past built.end (patched built.patch c.args.slots.now) c.args.n past))

pub returns-in-Some : goal.returns-in-Some
returns-in-Some c =
    let built = c.args.built.now in
    let slots = c.args.slots.now in
    let end = ap (λ (b : BuiltParts). b.end) c.built.view_is in
    let within : c.args.n < built.end = omega (arith, c.if-n-built.false, end) in
    c.bytes_of_slots.ensures
    ∙ ap (λ (o : Option (List (Option Row))). option_map_or slots_bytes o zero_bytes)
    (sym (ap option_copied c.in-Some.is) ∙ c.block_of.ensures
    ∙ ap (λ (b : BuiltParts). slice_get (patched b.patch slots) c.args.n) c.built.view_is
    ∙ sym (taken_at built.end (patched built.patch slots) c.args.n within))

pub returns-in-None : goal.returns-in-None
returns-in-None c =
    let built = c.args.built.now in
    let slots = c.args.slots.now in
    let end = ap (λ (b : BuiltParts). b.end) c.built.view_is in
    let within : c.args.n < built.end = omega (arith, c.if-n-built.false, end) in
    ap (λ (o : Option (List (Option Row))). option_map_or slots_bytes o zero_bytes)
    (sym (ap option_copied c.in-None.is) ∙ c.block_of.ensures
    ∙ ap (λ (b : BuiltParts). slice_get (patched b.patch slots) c.args.n) c.built.view_is
    ∙ sym (taken_at built.end (patched built.patch slots) c.args.n within))
