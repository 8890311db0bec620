use Rattle.std.proofs.Common.{◌≤◌, sym, subst}
use Rattle.tree_laws.specs.Tree.{TreeState, count_of}
use Rattle.tree_laws.proofs.SoundTree.{sound_few}
use Rattle.sfs_tree.proofs.tree.Tree.holder.Goals as goal

pub holder-requires-clause-once : goal.holder-requires-clause-once
holder-requires-clause-once c =
    subst (λ (t : TreeState). count_of t.rows c.args.dir.0 ≤ 1) (sym c.self.view_is)
    (sound_few c.args.self.now c.requires.sound c.args.dir.0 c.requires.directory)
