-- The root's record, and zeros as far as the table goes.
use Rattle.std.proofs.Common.{ap, ◌∙◌}
use Rattle.std.specs.Int.{div_ceil}
use Rattle.sfs_image.specs.Super.{Layout}
use Rattle.recovery.proofs.JustMade.{new_table_is}
use Rattle.recovery.proofs.making.new_table.Goals as goal

pub returns : goal.returns
returns c =
    new_table_is c.args.layout.now _ _ _ _ _ c.requires c.in_ok-table.ensures.items c.encode.ensures.spelled
    (c.div_ceil-blocks.ensures ∙ ap (λ (layout : Layout). div_ceil layout.inodes 8) c.layout.view_is) c.in_ok-table.ensures.len c.in_ok-resize.ensures.items
