use Rattle.sfs_base.proofs.BasicOptions.{none_of}
use Rattle.std.proofs.Common.{sym, ◌∙◌}
use Rattle.mem_cells.proofs.Counts.{blank_put}
use Rattle.mem_cells.proofs.part.make_place.Goals as goal

pub returns-in_ok-put_log-clause-same : goal.returns-in_ok-put_log-clause-same
returns-in_ok-put_log-clause-same c =
    blank_put c.args.logs.now.entries c.put_log.new.logs.entries c.args.dir.0 c.new.result c.new.ensures c.in_ok-put_log.ensures.ordered.0
    (none_of _ (sym c.contains_key.ensures ∙ c.if-not-contains_key.true)) c.in_ok-put_log.ensures.entries c.in_ok-put_log.ensures.ok.0
    c.in_ok-put_log.ensures.ordered.1
