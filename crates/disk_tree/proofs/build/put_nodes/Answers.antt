use Rattle.std.proofs.Common.{ℕ, List, ap, ◌∙◌, arith}
use Rattle.std.specs.Prelude.{slice_index}
use Rattle.std.specs.FinMap.{get}
use Rattle.sfs_image.specs.Inode.{Inode}
use Rattle.tree_laws.specs.Tree.{TreeState}
use Rattle.disk_tree.specs.Built.{with_nodes, node_entries, with_node_of}
use Rattle.disk_tree.specs.Inodes.{inode_at}
use Rattle.disk_tree.proofs.NodesPut.{absent_node, put_node_more}
use Rattle.disk_tree.proofs.SlotsRead.{inode_is, bytes_are}
use Rattle.disk_tree.proofs.build.put_nodes.Goals as goal

pub put_node_of-requires-clause-absent : goal.put_node_of-requires-clause-absent
put_node_of-requires-clause-absent c =
    ap (λ (t : TreeState). get t.nodes c.loop-place.place) c.loop-place.invariant
    ∙ absent_node c.args.inodes.now c.args.named.now c.args.contents.now c.loop-place.place

pub loop-place-preserved : goal.loop-place-preserved
loop-place-preserved c =
    let inode =
    inode_is c.args.inodes.now c.args.contents.now c.loop-place.place _ _ (omega arith)
    (omega (arith, c.requires.counts.1)) c.index-inodes-place.is c.index-contents-place.is in
    let bytes =
    bytes_are c.args.inodes.now c.args.contents.now c.loop-place.place _ _ (omega arith)
    (omega (arith, c.requires.counts.1)) c.index-inodes-place.is c.index-contents-place.is in
    c.in_ok-put_node_of.ensures
    ∙ ap (λ (t : TreeState). with_node_of t c.index-inodes-place.result
    (slice_index c.args.named.now c.loop-place.place) c.as_slice.result.now c.loop-place.place)
    c.loop-place.invariant
    ∙ ap (λ (i : Inode). with_node_of (with_nodes c.args.tree.now (node_entries c.args.inodes.now c.args.named.now c.args.contents.now c.loop-place.place)) i
    (slice_index c.args.named.now c.loop-place.place) c.as_slice.result.now c.loop-place.place)
    inode
    ∙ ap (λ (b : List ℕ). with_node_of (with_nodes c.args.tree.now (node_entries c.args.inodes.now c.args.named.now c.args.contents.now c.loop-place.place))
    (inode_at c.args.inodes.now c.loop-place.place) (slice_index c.args.named.now c.loop-place.place) b c.loop-place.place)
    (c.as_slice.ensures ∙ bytes)
    ∙ put_node_more c.args.inodes.now c.args.named.now c.args.contents.now c.args.tree.now c.loop-place.place
