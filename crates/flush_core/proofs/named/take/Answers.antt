use Rattle.std.proofs.Common.{◌≡◌, Option, Some, None, false, is_some, sym, ◌∙◌}
use Rattle.sfs_base.specs.declared.numbers.NodeId.{NodeId}
use Rattle.tree_laws.specs.NameRow.{number_of}
use Rattle.flush_core.proofs.ChildRows.{remove_absent}
use Rattle.flush_core.proofs.named.take.Goals as goal

no_number : (found : Option NodeId) → is_some found ≡ false → number_of found ≡ None
no_number None none = cc
no_number (Some node) none = cc

pub returns-else-is_some : goal.returns-else-is_some
returns-else-is_some c =
    remove_absent c.args.names.now c.args.name.now (sym c.get.ensures ∙ no_number c.get.result (sym c.is_some.ensures ∙ c.if-is_some.false))
