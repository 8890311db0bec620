use Rattle.std.proofs.Common.{ap, ◌∙◌}
use Rattle.std.proofs.lemmas.Result.{on_ok_weaker}
use Rattle.flush_core.specs.Named.{kept_rows}
use Rattle.flush_core.proofs.ChildRows.{children_join}
use Rattle.flush_core.proofs.named.add_children_in.Goals as goal

pub returns : goal.returns
returns c =
    on_ok_weaker c.add_children.result
    (children_join c.rows.result.now c.in_ok-names.names _ c.args.named.now c.add_children.new.named c.rows.ensures
    (c.in_ok-names.ensures ∙ ap (kept_rows c.args.first.now c.args.changes.now c.args.directory) c.get.ensures))
    c.add_children.ensures
