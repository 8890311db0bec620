use Rattle.std.proofs.Common.{sym, ap, ◌∙◌, length, take, subst}
use Rattle.std.specs.Prelude.{List}
use Rattle.absorb.specs.declared.nets.NetRow.{NetRow}
use Rattle.block_map.specs.Kept.{pointer_kept}
use Rattle.sfs_image.specs.Inode.{Inode}
use Rattle.disk_change.specs.Directory.{slot_blocks_after, directory_touched}
use Rattle.disk_change.specs.Links.{links_with}
use Rattle.disk_change.specs.Patched.{FitsBlocks, IsPatchFor, TellsTouched, patched}
use Rattle.disk_change.specs.Seat.{blocks_to_last_row, directory_changed}
use Rattle.disk_change.specs.Seated.{size_of_blocks}
use Rattle.disk_change.proofs.seat.directory_seat.Goals as goal

pub directory_changed-requires : goal.directory_changed-requires
directory_changed-requires c = record {
  fits = subst (λ l. FitsBlocks l c.in_ok-patch.patch) (sym c.as_slice-blocks.ensures) (c.in_ok-patch.ensures.patch 0).fits;
  end = c.end_of-end.ensures;
}

pub end_of-end-requires : goal.end_of-end-requires
end_of-end-requires c = subst (λ l. FitsBlocks l c.in_ok-patch.patch) (sym c.as_slice-blocks.ensures) (c.in_ok-patch.ensures.patch 0).fits

pub returns-clause-seat : goal.returns-clause-seat
returns-clause-seat c =
    let dirs = c.args.plans.now.directories in
    let slots = c.args.slots.now in
    let base : Inode = c.begun.inside.base in
    let node = c.begun.inside.node.0 in
    let blocks = c.in_ok-patch.ensures.blocks ∙ ap (λ net. slot_blocks_after dirs net slots) c.net_of-net.ensures.rows in
    let lent = c.as_slice-blocks.ensures in
    let touched = ap (λ net. directory_touched dirs net slots) c.net_of-net.ensures.rows in
    let end = c.end_of-end.ensures ∙ ap (λ l. blocks_to_last_row (patched c.in_ok-patch.patch l)) lent ∙ ap blocks_to_last_row blocks in
    let base_is = c.base.view_is in
    let counted = c.args.plans.now.counted in
    let links = c.links_after-links.ensures ∙ (λ i. links_with (base_is i).links (counted.coming node i) (counted.going node i)) in
    let size = c.size_of.ensures ∙ ap size_of_blocks end in
    let meta = c.with-meta.ensures ∙ (λ i. record base { kind = 2; links = links i; size = size i }) in
    let changed =
    c.in_ok-changed.ensures (directory_touched dirs c.net_of-net.result.now slots)
    (subst (λ l. TellsTouched l c.in_ok-patch.patch (directory_touched dirs c.net_of-net.result.now slots)) (sym lent) c.in_ok-patch.ensures.touched)
    ∙ ap
    (λ l. directory_changed (pointer_kept base c.begun.inside.tables.items) (patched c.in_ok-patch.patch l)
    (directory_touched dirs c.net_of-net.result.now slots))
    lent
    ∙ (λ i. directory_changed (pointer_kept base c.begun.inside.tables.items) (blocks i) (touched i)) in
    rw (← c.begun.view_is) (λ i. record {
      node = node;
      number = c.begun.inside.number;
      before = c.begun.inside.before;
      meta = meta i;
      tables = c.begun.inside.tables.items;
      slots = take (end i) (blocks i);
      changed = changed i;
    })

pub returns-clause-patch : goal.returns-clause-patch
returns-clause-patch c =
    subst (λ (net : List NetRow). IsPatchFor net c.end_of-end.result c.args.slots.now c.in_ok-patch.patch) c.net_of-net.ensures.rows
    (c.in_ok-patch.ensures.patch c.end_of-end.result)
