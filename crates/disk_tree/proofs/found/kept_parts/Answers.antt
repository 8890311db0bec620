use Rattle.std.proofs.Common.{Vec, Global, sym, ap, ◌∙◌, arith}
use Rattle.sfs_image.specs.Inode.{Inode}
use Rattle.disk_tree.specs.declared.found.KeptPart.{KeptPart}
use Rattle.disk_tree.proofs.PartsKept.{none_kept, free_passed, used_put}
use Rattle.disk_tree.proofs.found.kept_parts.Goals.{then-inode-ne0+in_ok-part+in_ok-push, else-inode-ne0}
use Rattle.disk_tree.proofs.found.kept_parts.Goals as goal

pub loop-place-init : goal.loop-place-init
loop-place-init c = c.new-list.ensures.items ∙ sym (none_kept c.args.inodes.now c.args.tables.now c.args.slots.now)

pub loop-place-preserved : goal.loop-place-preserved
loop-place-preserved c = elim c.if-inode-ne0.branch [
  | then-inode-ne0+in_ok-part+in_ok-push w ↦ ap (λ (v : Vec KeptPart Global). v.items) w.list-is
      ∙ used_put c.args.inodes.now c.args.tables.now c.args.slots.now c.loop-place.place c.index-inodes-place.result (omega arith) c.index-inodes-place.is
      w.index-tables-place.result w.index-slots-place.result _ _ w.in_ok-part.part (omega arith)
      (omega arith) w.index-tables-place.is w.index-slots-place.is c.loop-place.invariant
      (λ free. w.if-inode-ne0.true (ap (λ (i : Inode). i.kind) c.inode.view_is ∙ free)) w.in_ok-part.ensures w.in_ok-push.ensures.items
  | else-inode-ne0 w ↦ ap (λ (v : Vec KeptPart Global). v.items) w.list-is
      ∙ free_passed c.args.inodes.now c.args.tables.now c.args.slots.now c.loop-place.place c.index-inodes-place.result
      (omega arith) c.index-inodes-place.is _ c.loop-place.invariant
      (sym (ap (λ (i : Inode). i.kind) c.inode.view_is) ∙ w.if-inode-ne0.false)
]
