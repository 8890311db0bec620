use Rattle.std.proofs.Common.{subst}
use Rattle.disk_box.specs.declared.kind.Kind.TheVariants as kind
use Rattle.disk_box.specs.Pens.{own_at}
use Rattle.journal_set.specs.Flying.{IsUnderWay}
use Rattle.journal_set.proofs.Aloft.{in_no_phase, under_phase, under_within}
use Rattle.journal_set.proofs.flying.advance.Goals as goal

pub kind_at-requires : goal.kind_at-requires
kind_at-requires g c = under_within g.D.Disk.view c.args.table.now c.args.pen.now c.args.desk.now c.requires.work c.requires.learned c.args.flight.now
    c.requires.under.0
    c.requires.under.1

pub before_gate-requires-clause-within : goal.before_gate-requires-clause-within
before_gate-requires-clause-within g c κs within = under_within g.D.Disk.view c.args.table.now c.args.pen.now c.args.desk.now c.requires.work
    c.requires.learned c.args.flight.now c.requires.under.0
    c.requires.under.1

pub before_gate-requires-clause-under : goal.before_gate-requires-clause-under
before_gate-requires-clause-under g c κs within =
    subst (λ b. IsUnderWay c.args.flight.now b (own_at c.args.pen.now))
    (under_phase g.D.Disk.view c.args.table.now c.args.pen.now c.args.desk.now c.requires.work c.requires.learned c.args.flight.now c.requires.under.0
    c.requires.under.1
    kind.Filling c.in-Filling.ensures) c.requires.under.1

pub before_gate-requires-in-Filled-clause-within : goal.before_gate-requires-in-Filled-clause-within
before_gate-requires-in-Filled-clause-within g c κs within = under_within g.D.Disk.view c.args.table.now c.args.pen.now c.args.desk.now c.requires.work
    c.requires.learned c.args.flight.now c.requires.under.0
    c.requires.under.1

pub before_gate-requires-in-Filled-clause-under : goal.before_gate-requires-in-Filled-clause-under
before_gate-requires-in-Filled-clause-under g c κs within =
    subst (λ b. IsUnderWay c.args.flight.now b (own_at c.args.pen.now))
    (under_phase g.D.Disk.view c.args.table.now c.args.pen.now c.args.desk.now c.requires.work c.requires.learned c.args.flight.now c.requires.under.0
    c.requires.under.1
    kind.Filled c.in-Filled.ensures) c.requires.under.1

pub open_turn-requires-clause-under : goal.open_turn-requires-clause-under
open_turn-requires-clause-under g c κs within =
    subst (λ b. IsUnderWay c.args.flight.now b (own_at c.args.pen.now))
    (under_phase g.D.Disk.view c.args.table.now c.args.pen.now c.args.desk.now c.requires.work c.requires.learned c.args.flight.now c.requires.under.0
    c.requires.under.1
    kind.Sealed c.in-Sealed.ensures) c.requires.under.1

pub settle_turn-requires-clause-under : goal.settle_turn-requires-clause-under
settle_turn-requires-clause-under g c κs within =
    subst (λ b. IsUnderWay c.args.flight.now b (own_at c.args.pen.now))
    (under_phase g.D.Disk.view c.args.table.now c.args.pen.now c.args.desk.now c.requires.work c.requires.learned c.args.flight.now c.requires.under.0
    c.requires.under.1
    kind.Opened c.in-Opened.ensures) c.requires.under.1

pub unreachable-requires : goal.unreachable-requires
unreachable-requires g c =
    in_no_phase c.kind_at.result c.requires.under.0 (under_phase g.D.Disk.view c.args.table.now c.args.pen.now c.args.desk.now c.requires.work
    c.requires.learned c.args.flight.now c.requires.under.0
    c.requires.under.1
    c.kind_at.result c.kind_at.ensures) c.in_default.not-Filling c.in_default.not-Filled c.in_default.not-Sealed c.in_default.not-Opened
