use Rattle.mount.proofs.Totalling.{all_at_rest, entries_stay, still_many, still_workers, totals_are}
use Rattle.mount.proofs.counting.totals.Goals as goal

pub totals_at_rest-requires-clause-rest : goal.totals_at_rest-requires-clause-rest
totals_at_rest-requires-clause-rest g c = all_at_rest c.args.volume.now c.args.workers.now c.requires.volume c.requires.workers

pub returns-clause-count : goal.returns-clause-count
returns-clause-count g c = still_many c.args.volume.now c.args.workers.now c.totals_at_rest.new.workers c.totals_at_rest.ensures.saw

pub returns-clause-workers : goal.returns-clause-workers
returns-clause-workers g c =
    still_workers c.args.volume.now c.args.workers.now c.totals_at_rest.new.workers c.totals_at_rest.ensures.saw c.requires.workers

pub returns-clause-entries : goal.returns-clause-entries
returns-clause-entries g c = entries_stay c.args.volume.now c.args.workers.now c.totals_at_rest.new.workers c.totals_at_rest.ensures.saw

pub returns-clause-totals : goal.returns-clause-totals
returns-clause-totals g c =
    totals_are g.D.Disk.view c.args.volume.now c.totals_at_rest.new.workers c.totals_at_rest.result c.totals_at_rest.ensures.end
