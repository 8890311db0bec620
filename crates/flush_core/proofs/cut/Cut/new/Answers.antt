use Rattle.std.proofs.Common.{get_or, ap, ◌∙◌}
use Rattle.flush_core.specs.Stamps.{by_nodes}
use Rattle.flush_core.proofs.Stamps.{cut_of-by_nodes}
use Rattle.flush_core.proofs.cut.Cut.new.Goals as goal

pub returns-clause-none : goal.returns-clause-none
returns-clause-none c = ap by_nodes c.new.ensures.items

pub returns-clause-stamps : goal.returns-clause-stamps
returns-clause-stamps c = λ node. cut_of-by_nodes c.new.result.items node ∙ ap (λ l. get_or l node 0) c.new.ensures.items
