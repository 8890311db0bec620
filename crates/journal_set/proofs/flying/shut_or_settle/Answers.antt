use Rattle.std.proofs.Common.{refl}
use Rattle.disk_box.specs.declared.kind.Kind.TheVariants as kind
use Rattle.disk_box.proofs.StepsTold.{on_ok}
use Rattle.journal_set.proofs.CallsTold.{not_elsewhere}
use Rattle.journal_set.proofs.flying.shut_or_settle.Goals as goal

pub returns-in-Some-clause-counts : goal.returns-in-Some-clause-counts
returns-in-Some-clause-counts g c =
    on_ok c.shut_one.result (λ alone. absurd (not_elsewhere g.D.Disk.view c.args.table.now c.args.pen.now c.args.desk.now c.args.flight.now.slot
    c.in-Some.slot kind.Opened kind.Copied c.requires.work alone c.requires.kind c.in-Some.ensures.some.has refl (λ e. absurd (cc e))))
