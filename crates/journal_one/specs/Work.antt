-- What the states of a slot hold, as contracts see it.
use Rattle.journal_one.specs.Job.{Place, Job}
use Rattle.journal_one.specs.declared.work.Spot.{Spot}
use Rattle.journal_one.specs.declared.work.Work.{Work}

-- the slot
abbrev pub spot_place : Spot → Place
spot_place spot = record { layout = spot.layout; slot = spot.slot }

-- the commit
abbrev pub job_of : Work → Job
job_of work = record { place = spot_place work.spot; stamp = work.stamp; entries = work.packed.entries; fresh = work.packed.fresh }
