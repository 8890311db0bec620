use Rattle.std.proofs.Common.{ap, ◌∙◌, sym, subst}
use Rattle.std.specs.Prelude.{List}
use Rattle.sfs_base.specs.Lists.{Roomy}
use Rattle.absorb.specs.declared.nets.NetRow.{NetRow}
use Rattle.flush_plan.specs.Net.{HasGoodNames}
use Rattle.flush_plan.proofs.Stood.{IsNetBy-from_lent}
use Rattle.flush_plan.proofs.nets.net_by.Goals as goal

pub returns-clause-net : goal.returns-clause-net
returns-clause-net c =
    IsNetBy-from_lent c.args.changes.now c.in_ok-first.first c.in_ok-first.ensures c.in_ok-last.last.entries c.from_vec.result.items c.in_ok-last.ensures
    (ap (λ (net : Roomy NetRow). net.items) c.from_vec.ensures ∙ c.in_ok-rows.ensures.rows)

pub returns-clause-names : goal.returns-clause-names
returns-clause-names c =
    subst (λ (l : List NetRow). HasGoodNames l) (sym (ap (λ (net : Roomy NetRow). net.items) c.from_vec.ensures)) c.in_ok-rows.ensures.names
