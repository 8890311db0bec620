use Rattle.table_totals.proofs.Rested.{counts_at_end, first_saw, if_both}
use Rattle.table_totals.proofs.resting.totals_at_rest.Goals as goal

pub returns-clause-saw : goal.returns-clause-saw
returns-clause-saw g c =
    first_saw c.args.table.now c.last_look-last.result c.index-workers-0.result c.look_for.new.self c.totals.new.core c.args.workers.now (record {
      rest = c.requires.rest;
      until = c.last_look-last.ensures;
      number = c.look_for.result;
      looked = rw c.shared.ensures at c.look_for.ensures.looked;
      enough = c.look_for.ensures.enough;
      saw = c.totals.ensures.saw;
      between = c.totals.ensures.between;
    })

pub returns-clause-end : goal.returns-clause-end
returns-clause-end g c =
    if_both c.totals.result
    (counts_at_end c.args.table.now c.last_look-last.result c.index-workers-0.result c.look_for.new.self c.totals.new.core c.args.workers.now (record {
      rest = c.requires.rest;
      until = c.last_look-last.ensures;
      number = c.look_for.result;
      looked = rw c.shared.ensures at c.look_for.ensures.looked;
      enough = c.look_for.ensures.enough;
      saw = c.totals.ensures.saw;
      between = c.totals.ensures.between;
    })) c.totals.ensures.rows c.totals.ensures.bytes
