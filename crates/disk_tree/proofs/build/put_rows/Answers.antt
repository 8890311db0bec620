use Rattle.std.proofs.Common.{sym, ap, subst, ◌∙◌}
use Rattle.tree_laws.specs.Tree.{TreeState}
use Rattle.disk_tree.specs.Built.{with_entries, row_entries, MayPut}
use Rattle.disk_tree.proofs.Entries.{no_entries}
use Rattle.disk_tree.proofs.Putting.{may_put_again}
use Rattle.disk_tree.proofs.build.put_rows.Goals as goal

pub loop-place-init : goal.loop-place-init
loop-place-init c = c.requires.start ∙ ap (with_entries c.args.tree.now) (sym (no_entries c.args.rows.now))

pub put_rows_of-requires-clause-may : goal.put_rows_of-requires-clause-may
put_rows_of-requires-clause-may c =
    subst (λ (t : TreeState). MayPut t c.args.rows.now) (sym c.loop-place.invariant)
    (may_put_again c.args.tree.now (row_entries c.args.rows.now c.loop-place.place) c.args.rows.now c.requires.may)
