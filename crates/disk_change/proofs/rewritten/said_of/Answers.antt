use Rattle.std.proofs.Common.{sym, ap, ◌∙◌, Some}
use Rattle.block_map.specs.Kept.{pointer_kept}
use Rattle.disk_change.specs.Patched.{patched}
use Rattle.disk_change.proofs.Rewriting.{said_by, behind_by}
use Rattle.disk_change.proofs.rewritten.said_of.Goals as goal

pub returns-then-is_touched-clause-said : goal.returns-then-is_touched-clause-said
returns-then-is_touched-clause-said c = λ touched told.
    ap Some c.rewritten.ensures
    ∙ sym
    (said_by (pointer_kept c.args.inode.now c.args.tables.now.items) (patched c.args.patch.now c.args.slots.now) touched c.args.n
    (sym (c.is_touched.ensures touched told) ∙ c.if-is_touched.true))

pub returns-then-is_behind-clause-said : goal.returns-then-is_behind-clause-said
returns-then-is_behind-clause-said c = λ touched told.
    ap Some c.rewritten-then-is_behind.ensures
    ∙ sym
    (behind_by (pointer_kept c.args.inode.now c.args.tables.now.items) (patched c.args.patch.now c.args.slots.now) touched c.args.n c.args.end c.requires.end
    (sym (c.is_touched.ensures touched told) ∙ c.if-is_touched.false) (sym c.is_behind.ensures ∙ c.if-is_behind.true))

pub returns-clause-said : goal.returns-clause-said
returns-clause-said c = λ touched told.
    sym
    (behind_by (pointer_kept c.args.inode.now c.args.tables.now.items) (patched c.args.patch.now c.args.slots.now) touched c.args.n c.args.end c.requires.end
    (sym (c.is_touched.ensures touched told) ∙ c.if-is_touched.false) (sym c.is_behind.ensures ∙ c.if-is_behind.false))
