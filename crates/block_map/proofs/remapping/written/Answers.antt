use Rattle.std.proofs.Common.{arith, ap, ◌∙◌, ◌+◌}
use Rattle.std.proofs.lemmas.List.{length-set}
use Rattle.image_laws.specs.Need.{first_block}
use Rattle.block_map.specs.Remap.{rewrite_of, pointer_remapped}
use Rattle.block_map.proofs.Tables.{tabulated, set_more}
use Rattle.block_map.proofs.remapping.written.Goals as goal

pub loop-entry-preserved : goal.loop-entry-preserved
loop-entry-preserved c =
    let f = pointer_remapped (rewrite_of c.args.inode.now c.args.tables.now.items c.args.changed.now.items) c.args.fresh.now in
    rw c.put.ensures (record {
      place = c.loop-entry.invariant.place;
      count = length-set _ _ _ ∙ c.loop-entry.invariant.count;
      each =
          set_more c.loop-entry.table.pointers c.loop-entry.entry _ (λ j. f (first_block c.args.k + j))
          (omega (arith, c.loop-entry.invariant.count)) c.loop-entry.invariant.each
          (c.pointer_after.ensures ∙ ap (λ first. f (first + c.loop-entry.entry)) c.first_of-first.ensures);
    })

pub returns : goal.returns
returns c =
    let pointers = tabulated 1024 _ c.loop-entry.table.pointers c.loop-entry.invariant.count (λ j d within. c.loop-entry.invariant.each j d (omega arith)) in
    λ i. record { place = c.loop-entry.invariant.place i; pointers = pointers i }
