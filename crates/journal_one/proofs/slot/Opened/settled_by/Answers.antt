use Rattle.std.proofs.Common.{subst}
use Rattle.journal_one.specs.Job.{Job}
use Rattle.journal_one.specs.Known.{IsDurable, IsOpened}
use Rattle.journal_one.specs.Work.{job_of}
use Rattle.journal_one.proofs.Steps.{Rests-refl, durable_then}
use Rattle.journal_one.proofs.slot.Opened.settled_by.Goals as goal

pub returns-clause-durable : goal.returns-clause-durable
returns-clause-durable g c =
    let job = job_of c.self.inside.work in
    let disk = g.D.Disk.view c.args._disk.now in
    subst (λ (j : Job). IsOpened j disk → IsDurable j 0 disk) c.self.view_is
    (durable_then job c.self.inside.work.sound disk disk (Rests-refl disk) c.requires.calm)
