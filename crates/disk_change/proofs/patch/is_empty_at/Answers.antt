use Rattle.std.proofs.Common.{Some, None, [], sym, ap, ◌∙◌}
use Rattle.std.specs.Option.{option_copied}
use Rattle.disk_change.specs.Patched.{patched}
use Rattle.disk_change.specs.Seat.{has_no_row}
use Rattle.disk_change.proofs.Patches.{lent_at}
use Rattle.disk_change.proofs.patch.is_empty_at.Goals as goal

pub returns-in-Some : goal.returns-in-Some
returns-in-Some c =
    c.is_empty.ensures
    ∙ ap has_no_row
    (lent_at (patched c.args.patch.now c.args.slots.now) c.args.n [] (Some c.in-Some.block.now)
    (sym (ap option_copied c.in-Some.is) ∙ c.block_of.ensures))

pub returns-in-None : goal.returns-in-None
returns-in-None c =
    ap has_no_row
    (lent_at (patched c.args.patch.now c.args.slots.now) c.args.n [] None (sym (ap option_copied c.in-None.is) ∙ c.block_of.ensures))
