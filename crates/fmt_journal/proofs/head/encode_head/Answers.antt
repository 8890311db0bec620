use Rattle.std.proofs.Common.{ap, ◌∙◌}
use Rattle.sfs_image.specs.Journal.{head_bytes}
use Rattle.fmt_journal.proofs.HeadWritten.{head_written}
use Rattle.fmt_journal.proofs.head.encode_head.Goals as goal

pub returns : goal.returns
returns c =
    let inside = c.head.inside in
    head_written (record { gate = inside.gate; count = inside.count; stamp = inside.stamp }) c.args.block.now _ _ _ _ _
    c.told-block c.clear.ensures c.write_u32.ensures c.clear-2.ensures c.write_u64.ensures c.clear-3.ensures
    ∙ ap head_bytes c.head.view_is
