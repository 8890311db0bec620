use Rattle.std.proofs.Common.{◌+◌, ◌≤◌, Ok, subst, sym, arith}
use Rattle.journal_one.specs.Job.{fill_piece}
use Rattle.journal_one.specs.Stage.{Stage}
use Rattle.journal_one.specs.Calls.{IsWrite}
use Rattle.journal_one.specs.declared.doubt.Doubt.{Doubt}
use Rattle.journal_one.specs.Known.{IsFilling}
use Rattle.journal_one.specs.Work.{job_of}
use Rattle.journal_one.proofs.Kept.{IsLawful, written_touches, written_stands, write_ok}
use Rattle.sfs_base.proofs.BasicOptions.{on_err}
use Rattle.journal_one.proofs.Steps.{filling_kept, filling_more}
use Rattle.journal_one.proofs.slot.Filling.put_next.Goals as goal

pub returns-in_err-put_piece-clause-err : goal.returns-in_err-put_piece-clause-err
returns-in_err-put_piece-clause-err g c =
    let laws = g.met.D.Disk g.world.𝓛 g.world.𝓜 g.world.𝓡 ((λ s x. x), (λ x. x), (λ x. x), λ x. x) in
    let job = job_of c.self.inside.work in
    let old = g.D.Disk.view c.args.disk.now in
    let new = g.D.Disk.view c.put_piece.new.disk in
    let lawful : IsLawful old = record { whole = laws.whole c.args.disk.now; read_is_left = laws.read_is_left c.args.disk.now } in
    let large : job.place.layout.blocks ≤ old.size = subst (λ (s : Stage). s.job.place.layout.blocks ≤ old.size) (sym c.self.view_is) c.requires.large in
    let touches =
    written_touches (fill_piece (job_of c.self.inside.work) c.self.inside.done) old new
    (let w = c.put_piece.ensures.within in omega (arith, w, large)) lawful c.put_piece.result c.put_piece.ensures.write in
    on_err c.from_residual.result
    (subst (λ (s : Stage). IsFilling s.job s.done old → IsFilling s.job s.done new) c.self.view_is
    (filling_kept job c.self.inside.work.sound c.self.inside.done old new touches c.self.invariant))

pub returns-clause-write : goal.returns-clause-write
returns-clause-write g c =
    let same =
    subst (λ (s : Stage). IsWrite {V = Unit {0}} {E = Doubt} (fill_piece s.job s.done) (g.D.Disk.view c.args.disk.now) (g.D.Disk.view c.put_piece.new.disk)
    (Ok c.in_ok-put_piece.field-0))
    c.self.view_is c.in_ok-put_piece.ensures.write in
    write_ok _ (g.D.Disk.view c.args.disk.now) (g.D.Disk.view c.put_piece.new.disk) c.in_ok-put_piece.field-0 _ same

pub returns-clause-written : goal.returns-clause-written
returns-clause-written g c =
    let laws = g.met.D.Disk g.world.𝓛 g.world.𝓜 g.world.𝓡 ((λ s x. x), (λ x. x), (λ x. x), λ x. x) in
    let job = job_of c.self.inside.work in
    let old = g.D.Disk.view c.args.disk.now in
    let new = g.D.Disk.view c.put_piece.new.disk in
    let lawful : IsLawful old = record { whole = laws.whole c.args.disk.now; read_is_left = laws.read_is_left c.args.disk.now } in
    let large : job.place.layout.blocks ≤ old.size = subst (λ (s : Stage). s.job.place.layout.blocks ≤ old.size) (sym c.self.view_is) c.requires.large in
    let touches =
    written_touches (fill_piece (job_of c.self.inside.work) c.self.inside.done) old new
    (let w = c.put_piece.ensures.within in omega (arith, w, large)) lawful c.put_piece.result c.put_piece.ensures.write in
    let stands =
    written_stands (fill_piece (job_of c.self.inside.work) c.self.inside.done) old new
    (let w = c.put_piece.ensures.within in omega (arith, w, large)) lawful c.in_ok-put_piece.ensures.write.ok in
    subst (λ (s : Stage). IsFilling s.job s.done old → IsFilling s.job (s.done + 1) new) c.self.view_is
    (λ knows. filling_more job c.self.inside.work.sound c.self.inside.done old new touches c.self.invariant knows stands)
