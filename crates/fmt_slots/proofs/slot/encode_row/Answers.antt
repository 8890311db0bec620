use Rattle.sfs_image.proofs.SlotLaws.{length-name}
use Rattle.fmt_slots.proofs.RowWritten.{slot_written}
use Rattle.fmt_slots.proofs.slot.encode_row.Goals as goal

pub returns-clause-bytes : goal.returns-clause-bytes
returns-clause-bytes c =
    let fits = (length-name c.row.inside.name c.bytes-name.ensures.grammar).1 in
    rw (c.clear.ensures, c.copy_from_slice-2.ensures.after, c.copy_from_slice.ensures.after, c.write_u32.ensures, ← c.row.view_is, c.bytes-name.ensures.bytes)
    (slot_written
    (record { inode = c.row.inside.inode; kind = c.row.inside.kind; name = c.row.inside.name }) c.args.bytes.now c.kind_byte.result c.requires
    c.kind_byte.ensures fits)

pub returns-clause-fits : goal.returns-clause-fits
returns-clause-fits c = rw (← c.row.view_is) (c.row.invariant, c.bytes-name.ensures.grammar)
