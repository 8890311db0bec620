use Rattle.std.proofs.Common.{subst}
use Rattle.stamp_table.specs.Table.{HoldsMore}
use Rattle.mem_values.specs.Start.{given_by}
use Rattle.mem_values.specs.Stands.{StandsAt}
use Rattle.mem_values.specs.Facts.{IsLawfulLog}
use Rattle.mem_calls.proofs.Gained.{works, gains}
use Rattle.mem_calls.proofs.holding.hold_more.Goals as goal

pub returns-clause-work : goal.returns-clause-work
returns-clause-work g c =
    let holds = subst (λ p. HoldsMore (IsLawfulLog (given_by c.args.shared.now))
    (StandsAt (given_by c.args.shared.now)) p c.args.core.now c.hold_one.new.self) c.place.ensures c.hold_one.ensures in
    works (given_by c.args.shared.now) c.args.shared.now c.args.nodes c.args.cell c.args.core.now c.hold_one.new.self c.requires.table c.requires.work
    c.requires.cell
    c.requires.above holds

pub returns-clause-gains : goal.returns-clause-gains
returns-clause-gains g c =
    let holds = subst (λ p. HoldsMore (IsLawfulLog (given_by c.args.shared.now))
    (StandsAt (given_by c.args.shared.now)) p c.args.core.now c.hold_one.new.self) c.place.ensures c.hold_one.ensures in
    gains (given_by c.args.shared.now) c.args.shared.now c.args.nodes c.args.cell c.args.core.now c.hold_one.new.self c.requires.table c.requires.work
    c.requires.cell
    c.requires.above holds
