use Rattle.std.proofs.Common.{subst}
use Rattle.journal_one.specs.Job.{Job}
use Rattle.journal_one.specs.Known.{IsClosing, IsEnded}
use Rattle.journal_one.specs.Work.{job_of}
use Rattle.journal_one.proofs.Steps.{Rests-refl, closed_then}
use Rattle.journal_one.proofs.close.Closing.ended_by.Goals as goal

pub returns-clause-ended : goal.returns-clause-ended
returns-clause-ended g c =
    let job = job_of c.self.inside.work in
    let disk = g.D.Disk.view c.args._disk.now in
    subst (λ (j : Job). IsClosing j disk → IsEnded j disk) c.self.view_is
    (closed_then job c.self.inside.work.sound disk disk (Rests-refl disk) c.requires.calm)
