use Rattle.std.proofs.Common.{sym, ap, ◌∙◌}
use Rattle.std.specs.FinMap.{get, insert}
use Rattle.tree_laws.specs.NameRow.{number_of}
use Rattle.flush_core.proofs.named.put.Goals as goal

pub insert-requires : goal.insert-requires
insert-requires c = ap (get c.args.names.now) c.in_ok-copy-in-None.ensures.ok ∙ sym c.get.ensures ∙ ap number_of c.in-None.is

pub returns-in_ok-insert-in-None : goal.returns-in_ok-insert-in-None
returns-in_ok-insert-in-None c = c.in_ok-insert-in-None.ensures.ok ∙ ap (λ name. insert c.args.names.now name c.args.child.0) c.in_ok-copy-in-None.ensures.ok
