use Rattle.std.proofs.Common.{Some, cond, sym, ap, ◌∙◌}
use Rattle.tree_laws.specs.declared.reply.Code.TheVariants.{Invalid}
use Rattle.tree_laws.specs.NameRow.{number_of}
use Rattle.tree_laws.specs.Tree.{row_of}
use Rattle.tree_laws.specs.Verdict.{place_fault}
use Rattle.sfs_tree.proofs.tree.Tree.move_fault.Goals as goal

pub returns-in-Some : goal.returns-in-Some
returns-in-Some c =
    c.onto_fault.ensures c.args.to_dir.0 c.args.to_name.now
    ∙ ap (place_fault c.args.self.now c.args.child.0 c.args.to_dir.0 c.args.to_name.now) (sym (ap number_of c.in-Some.is) ∙ c.requires.there)
    ∙ ap (λ b. cond b (Some Invalid)
    (place_fault c.args.self.now c.args.child.0 c.args.to_dir.0 c.args.to_name.now (row_of c.args.self.now c.args.to_dir.0 c.args.to_name.now)))
    c.if-is_within.ensures

pub returns-in-None : goal.returns-in-None
returns-in-None c =
    c.room_fault.ensures c.args.child.0
    ∙ ap (place_fault c.args.self.now c.args.child.0 c.args.to_dir.0 c.args.to_name.now) (sym (ap number_of c.in-None.is) ∙ c.requires.there)
    ∙ ap (λ b. cond b (Some Invalid)
    (place_fault c.args.self.now c.args.child.0 c.args.to_dir.0 c.args.to_name.now (row_of c.args.self.now c.args.to_dir.0 c.args.to_name.now)))
    c.if-is_within.ensures
