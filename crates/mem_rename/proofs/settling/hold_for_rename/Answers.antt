use Rattle.std.proofs.Common.{sym, subst, ◌∙◌, arith, map}
use Rattle.tree_laws.specs.NameRow.{node_number}
use Rattle.mem_values.specs.Start.{given_by}
use Rattle.mem_rename.specs.Rounds.{IsPlanWithin}
use Rattle.mem_rename.proofs.Settled.{refused_same, none_within, settled}
use Rattle.mem_rename.proofs.settling.hold_for_rename.Goals as goal

pub loop-init : goal.loop-init
loop-init g c = record {
  again = refused_same c.args.shared.now c.args.core.now c.requires.core;
  within = subst (IsPlanWithin c.args.nodes) (sym c.none-plan.ensures) (none_within c.args.nodes);
}

pub hold_round-requires-clause-room : goal.hold_round-requires-clause-room
hold_round-requires-clause-room g c = let r = c.loop.invariant.again.room in let enough = c.requires.room in omega (arith, r, enough)

pub returns-then-is : goal.returns-then-is
returns-then-is g c =
    settled (given_by c.args.shared.now) c.args.shared.now c.args.nodes c.requires.table c.args.move_.now
    (record { plan = c.loop.plan; look = c.next_plan.result.0; above = c.in-Some-2.above }) c.next_plan.result.1 c.loop.core c.hold_round.new.core
    c.hold_part.new.core
    (rw c.in-Some-2.is at c.in_ok-above.ensures.held) c.hold_part.ensures.work c.hold_part.ensures.on c.hold_part.ensures.still c.hold_part.ensures.legal
    c.args.core.now c.loop.invariant.within c.loop.invariant.again (c.next_plan.ensures.look (map node_number c.in-Some-2.above.items))
    c.next_plan.ensures.asked
    (sym c.is.ensures ∙ c.if-is.true) c.hold_part.ensures.part
