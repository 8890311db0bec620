use Rattle.std.proofs.Common.{sym, ap, ◌∙◌, arith}
use Rattle.sfs_image.specs.Inode.{Inode}
use Rattle.disk_tree.specs.Blocks.{tail_badly, breaks_tail_at}
use Rattle.disk_tree.specs.Inodes.{inode_at}
use Rattle.disk_tree.proofs.SlotsRead.{none_passes_more, inode_is, bytes_are}
use Rattle.disk_tree.proofs.blocks.first_of_bad_tail.Goals as goal

pub loop-place-preserved : goal.loop-place-preserved
loop-place-preserved c =
    let inode =
    inode_is c.args.inodes.now c.args.contents.now c.loop-place.place _ _ (omega arith) (omega arith) c.index-inodes-place.is c.index-contents-place.is in
    let bytes =
    bytes_are c.args.inodes.now c.args.contents.now c.loop-place.place _ _ (omega arith) (omega arith) c.index-inodes-place.is c.index-contents-place.is in
    none_passes_more c.loop-place.place (breaks_tail_at c.args.inodes.now c.args.contents.now) c.loop-place.invariant
    (sym
    (c.if-breaks_tail.ensures ∙ ap (λ (i : Inode). tail_badly i c.as_slice.result.now) inode
    ∙ ap (tail_badly (inode_at c.args.inodes.now c.loop-place.place)) (c.as_slice.ensures ∙ bytes)))
