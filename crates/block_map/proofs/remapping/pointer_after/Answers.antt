use Rattle.std.proofs.Common.{List, ◌∙◌, false, subst}
use Rattle.block_map.specs.Changed.{IsChangeAt}
use Rattle.block_map.specs.declared.changed.ChangedBlock.{ChangedBlock}
use Rattle.block_map.proofs.Places.{given_pointer}
use Rattle.block_map.proofs.remapping.pointer_after.Goals as goal

abbrev ONE : ChangedBlock
ONE = record { block = 0; is_zero = false }

pub returns-in-Some : goal.returns-in-Some
returns-in-Some c =
    let at =
    subst (λ (l : List ChangedBlock). IsChangeAt l c.args.n c.in-Some.at) c.as_slice.ensures.items c.in-Some.ensures.some in
    c.requires.given.each c.in-Some.at ONE at.within
    ∙ given_pointer c.args.inode.now c.args.tables.now.items c.args.changed.now.items c.as_slice.ensures.ascending c.args.fresh.now c.args.n c.in-Some.at ONE
    at c.requires.within
