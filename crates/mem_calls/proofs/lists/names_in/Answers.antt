use Rattle.std.proofs.Common.{◌∙◌}
use Rattle.mem_calls.proofs.Listing.{names_are}
use Rattle.mem_calls.proofs.lists.names_in.Goals as goal

pub returns : goal.returns
returns c = λ tree meets.
    c.from_rows.ensures
    ∙ names_are c.args.core.now c.args.nodes c.args.node c.in_ok-all_rows.field-0.items c.by_name-rows.result.items c.requires.counted c.requires.within
    c.requires.held c.in_ok-all_rows.ensures c.by_name-rows.ensures.rows c.by_name-rows.ensures.ascend tree meets
