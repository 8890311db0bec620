use Rattle.std.proofs.Common.{◌≤◌, Ok, subst, sym, arith}
use Rattle.journal_one.specs.Job.{Job, gate_piece}
use Rattle.journal_one.specs.Calls.{IsWrite}
use Rattle.journal_one.specs.declared.doubt.Doubt.{Doubt}
use Rattle.journal_one.specs.Known.{AreFilled, IsOpened, IsSealed}
use Rattle.journal_one.specs.Work.{job_of}
use Rattle.journal_one.proofs.Kept.{IsLawful, written_touches, written_stands, write_ok}
use Rattle.sfs_base.proofs.BasicOptions.{on_err}
use Rattle.journal_one.proofs.Steps.{opened_then, opening_doubted}
use Rattle.journal_one.proofs.slot.Sealed.open_gate.Goals as goal

pub returns-in_err-put_gate-clause-err : goal.returns-in_err-put_gate-clause-err
returns-in_err-put_gate-clause-err g c =
    let laws = g.met.D.Disk g.world.𝓛 g.world.𝓜 g.world.𝓡 ((λ s x. x), (λ x. x), (λ x. x), λ x. x) in
    let job = job_of c.self.inside.work in
    let old = g.D.Disk.view c.args.disk.now in
    let new = g.D.Disk.view c.put_gate.new.disk in
    let lawful : IsLawful old = record { whole = laws.whole c.args.disk.now; read_is_left = laws.read_is_left c.args.disk.now } in
    let large : job.place.layout.blocks ≤ old.size = subst (λ (j : Job). j.place.layout.blocks ≤ old.size) (sym c.self.view_is) c.requires.large in
    let touches =
    written_touches (gate_piece (job_of c.self.inside.work).place 1) old new
    (let w = c.put_gate.ensures.within in omega (arith, w, large)) lawful c.put_gate.result c.put_gate.ensures.write in
    on_err c.from_residual.result
    (subst (λ (j : Job). IsSealed j old → AreFilled j new) c.self.view_is (opening_doubted job c.self.inside.work.sound old new touches))

pub returns-clause-write : goal.returns-clause-write
returns-clause-write g c =
    let same =
    subst (λ (j : Job). IsWrite {V = Unit {0}} {E = Doubt} (gate_piece j.place 1) (g.D.Disk.view c.args.disk.now) (g.D.Disk.view c.put_gate.new.disk)
    (Ok c.in_ok-put_gate.field-0))
    c.self.view_is c.in_ok-put_gate.ensures.write in
    write_ok _ (g.D.Disk.view c.args.disk.now) (g.D.Disk.view c.put_gate.new.disk) c.in_ok-put_gate.field-0 _ same

pub returns-clause-opened : goal.returns-clause-opened
returns-clause-opened g c =
    let laws = g.met.D.Disk g.world.𝓛 g.world.𝓜 g.world.𝓡 ((λ s x. x), (λ x. x), (λ x. x), λ x. x) in
    let job = job_of c.self.inside.work in
    let old = g.D.Disk.view c.args.disk.now in
    let new = g.D.Disk.view c.put_gate.new.disk in
    let lawful : IsLawful old = record { whole = laws.whole c.args.disk.now; read_is_left = laws.read_is_left c.args.disk.now } in
    let large : job.place.layout.blocks ≤ old.size = subst (λ (j : Job). j.place.layout.blocks ≤ old.size) (sym c.self.view_is) c.requires.large in
    let touches =
    written_touches (gate_piece (job_of c.self.inside.work).place 1) old new
    (let w = c.put_gate.ensures.within in omega (arith, w, large)) lawful c.put_gate.result c.put_gate.ensures.write in
    let stands =
    written_stands (gate_piece (job_of c.self.inside.work).place 1) old new
    (let w = c.put_gate.ensures.within in omega (arith, w, large)) lawful c.in_ok-put_gate.ensures.write.ok in
    subst (λ (j : Job). IsSealed j old → IsOpened j new) c.self.view_is (opened_then job c.self.inside.work.sound old new touches stands)
