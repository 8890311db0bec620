use Rattle.std.proofs.Common.{arith, sym, ap, ◌∙◌, ◌+◌}
use Rattle.image_laws.specs.Need.{has_pointer}
use Rattle.block_map.specs.Remap.{rewrite_of}
use Rattle.block_map.proofs.Tables.{pointer_found, no_pointer_found}
use Rattle.block_map.proofs.rewrite.has_pointers.Goals as goal

pub returns-then-has_pointer : goal.returns-then-has_pointer
returns-then-has_pointer c =
    let rewrite = rewrite_of c.args.inode.now c.args.tables.now.items c.args.changed.now.items in
    pointer_found rewrite c.args.k c.loop-entry.entry (omega arith)
    (ap (λ first. has_pointer rewrite (first + c.loop-entry.entry)) (sym c.first_of-first.ensures) ∙ sym c.has_pointer.ensures ∙ c.if-has_pointer.true)

pub returns : goal.returns
returns c =
    no_pointer_found (rewrite_of c.args.inode.now c.args.tables.now.items c.args.changed.now.items) c.args.k
    (λ entry within. c.loop-entry.invariant entry (omega arith))
