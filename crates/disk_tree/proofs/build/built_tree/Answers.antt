use Rattle.std.proofs.Common.{ℕ, List, sym, ap, ◌∙◌}
use Rattle.sfs_base.specs.Lists.{Roomy}
use Rattle.sfs_image.specs.Inode.{Inode}
use Rattle.tree_laws.specs.Tree.{TreeState}
use Rattle.disk_tree.specs.Built.{with_nodes, node_entries}
use Rattle.disk_tree.proofs.NodesPut.{root_put}
use Rattle.disk_tree.proofs.build.built_tree.Goals as goal

pub put_nodes-requires-clause-start : goal.put_nodes-requires-clause-start
put_nodes-requires-clause-start c =
    let read = c.args.read.now in
    let start = c.in_ok-tree.ensures.ok in
    start ∙ root_put read.inodes.items c.args.named.now read.contents.items c.layout.inside.inodes 0 c.layout.inside.cores c.requires.may.root
    ∙ ap (λ (t : TreeState). with_nodes t (node_entries read.inodes.items c.args.named.now read.contents.items 1)) (sym start)
    ∙ ap (λ (inodes : List Inode). with_nodes c.in_ok-tree.tree (node_entries inodes c.args.named.now read.contents.items 1)) (sym c.deref.ensures.value)
    ∙ ap (λ (contents : List (Roomy ℕ)). with_nodes c.in_ok-tree.tree (node_entries c.deref.result.now c.args.named.now contents 1))
    (sym c.deref-2.ensures.value)
