use Rattle.std.proofs.Common.{◌∙◌, Ok, Err, ap, refl, sym}
use Rattle.disk_box.specs.declared.desk.Phase.TheVariants as phase
use Rattle.disk_box.specs.declared.desk.Slot.{Slot}
use Rattle.disk_box.proofs.Wrote.{write_err, write_ok}
use Rattle.disk_box.proofs.desk.Slot.open.Goals as goal

pub returns-in-Ok : goal.returns-in-Ok
returns-in-Ok g c =
    write_ok c.args.self.now (phase.Sealed c.into_sealed.result) (g.D.Disk.view c.args.disk.now) (g.D.Disk.view c.open_gate.new.disk) (Ok c.in-Ok.opened)
    c.in-Ok.ensures.write (sym c.take.ensures.phase ∙ c.into_sealed.ensures) c.put.new.self (phase.Opened c.in-Ok.opened)
    (c.put.ensures ∙ ap (λ (s : Slot). record s { phase = (phase.Opened c.in-Ok.opened) }) c.take.ensures.lost) refl (c.in-Ok.ensures.ok)

pub returns-in-Err : goal.returns-in-Err
returns-in-Err g c =
    write_err c.args.self.now (phase.Sealed c.into_sealed.result) (g.D.Disk.view c.args.disk.now) (g.D.Disk.view c.open_gate.new.disk) (Err c.in-Err.doubt)
    c.in-Err.ensures.write (sym c.take.ensures.phase ∙ c.into_sealed.ensures) c.take.new.self phase.Lost c.in-Err.doubt.faults c.take.ensures.lost refl
    c.in-Err.ensures.faults
