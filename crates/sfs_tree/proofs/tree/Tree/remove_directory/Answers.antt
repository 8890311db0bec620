use Rattle.std.proofs.Common.{sym, ap, ◌∙◌}
use Rattle.tree_laws.specs.Tree.{TreeState, is_directory, count_of}
use Rattle.tree_laws.proofs.SoundTree.{sound_once}
use Rattle.sfs_tree.proofs.tree.Tree.remove_directory.Goals as goal

pub remove_row-requires-clause-once : goal.remove_row-requires-clause-once
remove_row-requires-clause-once c = λ is.
    ap (λ (t : TreeState). count_of t.rows c.args.child.0) c.self.view_is
    ∙ sound_once c.args.self.now c.requires.sound c.args.dir.0 c.args.name.now c.args.child.0 c.requires.row
    (ap (λ (t : TreeState). is_directory t c.args.child.0) (sym c.self.view_is) ∙ is)
