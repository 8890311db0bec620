use Rattle.std.proofs.Common.{◌≡◌, ℕ, List, map, Some, sym, ap, subst, ◌∙◌}
use Rattle.sfs_image.specs.Super.{Layout, data_start}
use Rattle.space_map.specs.Pool.{first_status}
use Rattle.disk_change.specs.GivenUp.{entry_number}
use Rattle.disk_nodes.specs.declared.old.OldEntry.{OldEntry}
use Rattle.mount_begin.proofs.free.free_space.Goals as goal

pub returns : goal.returns
returns c =
    let used = c.deref.ensures.value ∙ c.in_ok-used.ensures ∙ ap (map entry_number) c.as_slice.ensures.items in
    record {
      held = c.in_ok-held.held.items;
      held_is = c.in_ok-held.ensures.each;
      blocks = λ block. c.in_ok-space.ensures.blocks block
          ∙ (λ i. first_status (c.data_at.ensures i) (c.layout.view_is i).blocks (c.as_slice-2.ensures i) block);
      inodes = λ inode. c.in_ok-space.ensures.inodes inode
          ∙ (λ i. first_status 0 (c.layout.view_is i).inodes (used i) inode);
    }
