use Rattle.std.proofs.Common.{rules, map, ◌∙◌, subst}
use Rattle.tree_laws.specs.NameRow.{node_number}
use Rattle.mem_values.specs.Start.{given_by}
use Rattle.mem_rename.specs.Holding.{HoldsAsked}
use Rattle.mem_rename.proofs.AskedCells.{asked_is}
use Rattle.mem_rename.proofs.Gathered.{round}
use Rattle.mem_rename.proofs.rounds.hold_round.Goals as goal

pub returns-in-Ok-Some-clause-held : goal.returns-in-Ok-Some-clause-held
returns-in-Ok-Some-clause-held g c =
    round (given_by c.args.shared.now) c.args.shared.now c.args.nodes c.requires.table c.args.move_.now c.args.plan
    (map node_number c.in-Ok-Some.above.items) c.args.core.now c.hold_lock.new.core c.hold_asked.new.core
    c.hold_lock.ensures.work c.hold_asked.ensures.work c.hold_lock.ensures.on
    (subst (λ l. HoldsAsked c.args.nodes l c.hold_lock.new.core c.hold_asked.new.core)
    (c.asked.ensures
    ∙ asked_is c.args.move_.now c.args.plan c.both_buckets-both.result c.deref.result.now c.both_buckets-both.ensures
    (λ more. c.deref.ensures.value ∙ c.in_ok-listed.ensures more)) c.hold_asked.ensures.holds)
    (λ comes. c.hold_lock.ensures.lock (c.is_some-comes.ensures ∙ comes))
    (λ comes. (rw c.in-Ok-Some.field-0-is at c.in-Ok-Some.ensures.way) (c.is_some-comes.ensures ∙ comes))
    (search rules)
