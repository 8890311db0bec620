use Rattle.std.proofs.Common.{ap, ◌∙◌}
use Rattle.sfs_base.specs.Lists.{Roomy}
use Rattle.absorb.specs.declared.nets.NetRow.{NetRow}
use Rattle.absorb.proofs.Rows.{IsNet-from_lent}
use Rattle.absorb.proofs.nets.net_of.Goals as goal

pub returns : goal.returns
returns c =
    IsNet-from_lent c.args.rows.now c.args.changes.now.items c.as_slice.result.now c.in_ok-last.last.entries c.from_vec.result.items c.as_slice.ensures
    (ap (λ (net : Roomy NetRow). net.items) c.from_vec.ensures ∙ c.in_ok-net.ensures) c.in_ok-last.ensures
