use Rattle.std.proofs.Common.{sym, ap, ◌∙◌}
use Rattle.tree_laws.specs.NameRow.{number_of}
use Rattle.tree_laws.specs.Tree.{TreeState, is_directory, count_of}
use Rattle.tree_laws.proofs.SoundTree.{sound_once}
use Rattle.sfs_tree.proofs.tree.Tree.move_child.Goals as goal

pub move_onto-requires-clause-once : goal.move_onto-requires-clause-once
move_onto-requires-clause-once c = λ is.
    ap (λ (t : TreeState). count_of t.rows c.args.child.0) c.self.view_is
    ∙ sound_once c.args.self.now c.requires.sound c.args.dir.0 c.args.name.now c.args.child.0 c.requires.row
    (ap (λ (t : TreeState). is_directory t c.args.child.0) (sym c.self.view_is) ∙ is)

pub move_onto-requires-clause-other_once : goal.move_onto-requires-clause-other_once
move_onto-requires-clause-other_once c = λ is.
    ap (λ (t : TreeState). count_of t.rows c.in-Some-there.there.0) c.self.view_is
    ∙ sound_once c.args.self.now c.requires.sound c.args.to_dir.0 c.args.to_name.now c.in-Some-there.there.0
    (sym (sym (ap number_of c.in-Some-there.is) ∙ c.child-there.ensures))
    (ap (λ (t : TreeState). is_directory t c.in-Some-there.there.0) (sym c.self.view_is) ∙ is)

pub move_row-requires-clause-once : goal.move_row-requires-clause-once
move_row-requires-clause-once c = λ is.
    ap (λ (t : TreeState). count_of t.rows c.args.child.0) c.self.view_is
    ∙ sound_once c.args.self.now c.requires.sound c.args.dir.0 c.args.name.now c.args.child.0 c.requires.row
    (ap (λ (t : TreeState). is_directory t c.args.child.0) (sym c.self.view_is) ∙ is)
