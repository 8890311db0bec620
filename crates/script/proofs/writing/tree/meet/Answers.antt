-- A directory's line is written and its children are to be met; a file is noted and its line is written.
use Rattle.std.proofs.Common.{refl, sym, subst}
use Rattle.script.specs.TreeWalk.{item_of, IsGroupIn}
use Rattle.script.proofs.TreeWalkLemmas.{moved, directory_met, file_met}
use Rattle.script.proofs.writing.tree.meet.Goals as goal

pub returns-then-is_directory-clause-walk : goal.returns-then-is_directory-clause-walk
returns-then-is_directory-clause-walk c =
    moved c.args.tree.now _ _ _ _ _ _ c.in_ok-write_directory.ensures refl c.in_ok-add_children.ensures
    (directory_met c.args.tree.now c.requires.sound _ _ (item_of c.args.met.now) _ (sym c.if-is_directory.ensures) c.requires.walk)

pub returns-clause-walk : goal.returns-clause-walk
returns-clause-walk c =
    let noted = c.in_ok-group.ensures.noted in
    moved c.args.tree.now _ _ _ _ _ _ c.in_ok-write_file.ensures noted refl
    (file_met c.args.tree.now c.requires.sound _ _ c.in_ok-group.group (item_of c.args.met.now) _ (sym c.if-is_directory.ensures) c.requires.walk
    (subst (λ files. IsGroupIn files c.args.met.now.node.0 c.in_ok-group.group) noted c.in_ok-group.ensures.group))
