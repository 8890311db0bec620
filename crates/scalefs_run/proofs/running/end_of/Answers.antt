-- The line of `load` has what was counted.
use Rattle.scalefs_run.proofs.Ending.{load_ends}
use Rattle.scalefs_run.proofs.running.end_of.Goals as goal

pub returns-in_ok-found-in-Load-clause-due : goal.returns-in_ok-found-in-Load-clause-due
returns-in_ok-found-in-Load-clause-due g c =
    rw c.in-Load.is (load_ends g.D.Disk.view c.args.volume.now c.totals.new.workers c.in-Load.seed c.in-Load.count c.in-Load.asked c.in_ok-found-in-Load.found
    c.in_ok-found-in-Load.ensures.totals)
