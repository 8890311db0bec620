use Rattle.std.proofs.Common.{map, sym, ap, ◌∙◌}
use Rattle.std.specs.Prelude.{is_some, ◌||◌}
use denote.Ref.{Bor}
use Rattle.sfs_base.specs.Listed.{is_listed}
use Rattle.disk_change.specs.Nodes.{enter_node}
use Rattle.disk_change.specs.declared.enter.Enter.{Enter}
use Rattle.dep_closure.proofs.Looked.{found_listed, some_mapped}
use Rattle.flush_plan.proofs.planning.has_or_gets_inode.Goals as goal

pub returns-else-has_inode : goal.returns-else-has_inode
returns-else-has_inode c =
    c.is_some.ensures ∙ some_mapped (λ (one : Bor Enter). one.now) c.find.result ∙ ap is_some c.find.ensures
    ∙ found_listed enter_node c.args.enter.now.items c.args.node.0
    ∙ ap (λ b. b || is_listed (map enter_node c.args.enter.now.items) c.args.node.0) (sym c.if-has_inode.false ∙ c.has_inode.ensures)
