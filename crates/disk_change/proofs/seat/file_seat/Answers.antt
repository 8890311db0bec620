use Rattle.std.proofs.Common.{rules, [], ap, ◌∙◌}
use Rattle.sfs_image.specs.Inode.{Inode}
use Rattle.std.specs.Option.{option_map_or}
use Rattle.disk_change.specs.declared.files.FileChange.{FileChange}
use Rattle.keyed_list.specs.Ascending.{item_with}
use Rattle.disk_change.specs.Nodes.{file_node}
use Rattle.disk_change.specs.Links.{links_with}
use Rattle.disk_change.proofs.Patches.{no_patch_for}
use Rattle.disk_change.proofs.seat.file_seat.Goals as goal

pub returns-clause-seat : goal.returns-clause-seat
returns-clause-seat c =
    let base : Inode = c.begun.inside.base in
    let node = c.begun.inside.node.0 in
    let base_is = c.base.view_is in
    let counted = c.args.plans.now.counted in
    let links = c.links_after-links.ensures ∙ (λ i. links_with (base_is i).links (counted.coming node i) (counted.going node i)) in
    let size =
    c.file_size.ensures
    ∙ ap (λ (b : Inode). option_map_or (λ (one : FileChange). one.size) (item_with file_node node c.args.plans.now.files.items) b.size) base_is in
    let meta = c.with-meta.ensures ∙ (λ i. record base { kind = 1; links = links i; size = size i }) in
    rw (← c.begun.view_is) (λ i. record {
      node = node;
      number = c.begun.inside.number;
      before = c.begun.inside.before;
      meta = meta i;
      tables = c.begun.inside.tables.items;
      slots = [];
      changed = c.in_ok-changed.ensures i;
    })

pub returns-clause-patch : goal.returns-clause-patch
returns-clause-patch c =
    no_patch_for _ c.args.slots.now c.no_patch.result c.no_patch.ensures (search rules)
