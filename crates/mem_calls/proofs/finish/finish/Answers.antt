use Rattle.std.proofs.Common.{refl, subst, sym, ap}
use Rattle.tree_laws.specs.Verdict.{verdict, answered}
use Rattle.mem_values.specs.Start.{given_by}
use Rattle.mem_calls.specs.Parts.{MayTake, TakesEntry}
use Rattle.mem_calls.proofs.Stamped.{may_come}
use Rattle.mem_calls.proofs.Stamped as stamped
use Rattle.mem_calls.proofs.Finished.{ends}
use Rattle.mem_calls.proofs.Nothing.{does_nothing, nothing_or_part, has_room, final_is, same_count, goes_home}
use Rattle.mem_calls.proofs.finish.finish.Goals as goal

pub stamp-requires-clause-may : goal.stamp-requires-clause-may
stamp-requires-clause-may c =
    may_come (given_by c.args.shared.now) c.args.shared.now c.args.nodes c.args.core.now c.requires.table c.requires.work c.args.call
    (answered c.args.reply) c.requires.call c.requires.due
    (λ tree meets which is_cell. nothing_or_part c.args.nodes c.args.core.now tree c.args.call which
    (does_nothing (verdict tree c.args.core.now.view.core c.args.call) c.args.reply (c.requires.due tree meets)) c.requires.part)

pub add_entry-requires-clause-may : goal.add_entry-requires-clause-may
add_entry-requires-clause-may c =
    subst (λ l. MayTake c.args.nodes l c.stamp.new.self) (sym (ap (λ r. r.items) c.new.ensures))
    (has_room (given_by c.args.shared.now) c.args.shared.now c.args.nodes c.args.core.now c.requires.table c.requires.work c.args.call c.args.reply
    c.stamp.result.0
    c.stamp.new.self c.stamp.ensures
    (c.requires.due
    (stamped.tree (given_by c.args.shared.now) c.args.shared.now c.args.nodes c.args.core.now c.requires.table c.requires.work c.args.call c.args.reply
    c.stamp.result.0 c.stamp.new.self c.stamp.ensures)
    (stamped.meets (given_by c.args.shared.now) c.args.shared.now c.args.nodes c.args.core.now c.requires.table c.requires.work c.args.call c.args.reply
    c.stamp.result.0 c.stamp.new.self c.stamp.ensures))
    c.calls_are_few.ensures)

pub let_go-requires-clause-home : goal.let_go-requires-clause-home
let_go-requires-clause-home c =
    let takes = subst (λ l. TakesEntry c.args.nodes l c.stamp.new.self c.add_entry.new.core) (ap (λ r. r.items) c.new.ensures) c.add_entry.ensures in
    goes_home (given_by c.args.shared.now) c.args.shared.now c.args.nodes c.args.core.now c.requires.table c.requires.work c.args.call c.args.reply
    c.stamp.result.0
    c.stamp.new.self c.stamp.ensures
    (c.requires.due
    (stamped.tree (given_by c.args.shared.now) c.args.shared.now c.args.nodes c.args.core.now c.requires.table c.requires.work c.args.call c.args.reply
    c.stamp.result.0 c.stamp.new.self c.stamp.ensures)
    (stamped.meets (given_by c.args.shared.now) c.args.shared.now c.args.nodes c.args.core.now c.requires.table c.requires.work c.args.call c.args.reply
    c.stamp.result.0 c.stamp.new.self c.stamp.ensures))
    c.add_entry.new.core takes

pub returns : goal.returns
returns c =
    let takes = subst (λ l. TakesEntry c.args.nodes l c.stamp.new.self c.add_entry.new.core) (ap (λ r. r.items) c.new.ensures) c.add_entry.ensures in
    ends (given_by c.args.shared.now) c.args.shared.now c.args.nodes c.args.core.now c.requires.table c.requires.work c.args.call c.args.reply
    c.stamp.result.0
    c.stamp.new.self c.stamp.ensures
    (answered c.args.reply) c.add_entry.new.core c.let_go.new.self
    c.requires.due refl c.requires.call
    (final_is (given_by c.args.shared.now) c.args.shared.now c.args.nodes c.args.core.now c.requires.table c.requires.work c.args.call c.args.reply
    c.stamp.result.0
    c.stamp.new.self c.stamp.ensures
    (c.requires.due
    (stamped.tree (given_by c.args.shared.now) c.args.shared.now c.args.nodes c.args.core.now c.requires.table c.requires.work c.args.call c.args.reply
    c.stamp.result.0 c.stamp.new.self c.stamp.ensures)
    (stamped.meets (given_by c.args.shared.now) c.args.shared.now c.args.nodes c.args.core.now c.requires.table c.requires.work c.args.call c.args.reply
    c.stamp.result.0 c.stamp.new.self c.stamp.ensures))
    c.add_entry.new.core takes)
    (same_count (given_by c.args.shared.now) c.args.shared.now c.args.nodes c.args.core.now c.requires.table c.requires.work c.args.call c.args.reply
    c.stamp.result.0
    c.stamp.new.self c.stamp.ensures
    (c.requires.due
    (stamped.tree (given_by c.args.shared.now) c.args.shared.now c.args.nodes c.args.core.now c.requires.table c.requires.work c.args.call c.args.reply
    c.stamp.result.0 c.stamp.new.self c.stamp.ensures)
    (stamped.meets (given_by c.args.shared.now) c.args.shared.now c.args.nodes c.args.core.now c.requires.table c.requires.work c.args.call c.args.reply
    c.stamp.result.0 c.stamp.new.self c.stamp.ensures))
    c.add_entry.new.core takes)
    c.let_go.ensures.lets_go c.let_go.ensures.left c.let_go.ensures.places
