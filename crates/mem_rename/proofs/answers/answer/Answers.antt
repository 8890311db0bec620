use Rattle.std.proofs.Common.{refl, subst, sym, ap, ◌∙◌}
use Rattle.tree_laws.specs.declared.call.Call.{Call}
use Rattle.tree_laws.specs.declared.reply.Reply.{Reply}
use Rattle.tree_laws.specs.Verdict.{Verdict, answered}
use Rattle.stamp_table.specs.Table.{Stamps, MayCall}
use Rattle.mem_values.specs.Start.{given_by}
use Rattle.mem_values.specs.Stands.{StandsAt}
use Rattle.mem_values.specs.Facts.{IsLawfulLog}
use Rattle.mem_calls.specs.Reply.{reply_of}
use Rattle.mem_calls.specs.Parts.{MayTake, TakesEntry}
use Rattle.mem_calls.proofs.Finished.{ends_as}
use Rattle.mem_calls.proofs.Nothing.{has_room, final_is, same_count, goes_home}
use Rattle.mem_rename.specs.Sights.{rename_call}
use Rattle.mem_rename.specs.Rounds.{way_read}
use Rattle.mem_rename.proofs.Answering.{may_come, verdict_stamped}
use Rattle.mem_rename.proofs.answers.answer.Goals as goal

pub stamp-requires-clause-may : goal.stamp-requires-clause-may
stamp-requires-clause-may c =
    subst (λ (z : Call × Reply). MayCall (IsLawfulLog (given_by c.args.shared.now)) (StandsAt (given_by c.args.shared.now)) c.args.core.now.view z.0 z.1)
    (λ i. (sym c.into_call.ensures i, (ap (λ (v : Verdict). v.reply) c.requires.answers ∙ sym c.reply.ensures) i))
    (may_come (given_by c.args.shared.now) c.args.shared.now c.args.nodes c.requires.table c.args.move_ c.requires.within c.args.settled.plan
    (way_read c.args.settled) c.args.core.now c.requires.ready)

pub add_entry-requires-clause-may : goal.add_entry-requires-clause-may
add_entry-requires-clause-may c =
    let stamps = subst (λ (z : Call × Reply). Stamps (IsLawfulLog (given_by c.args.shared.now))
    (StandsAt (given_by c.args.shared.now)) z.0 z.1 c.args.core.now c.stamp.result.0 c.stamp.new.self)
    (λ i. (c.into_call.ensures i, c.reply.ensures i)) c.stamp.ensures in
    let due = verdict_stamped (given_by c.args.shared.now) c.args.shared.now c.args.nodes c.requires.table c.args.move_ c.requires.within c.args.settled.plan
    (way_read c.args.settled) c.args.core.now c.requires.ready (reply_of c.args.short) c.stamp.result.0 c.stamp.new.self stamps
    ∙ c.requires.answers in
    subst (λ l. MayTake c.args.nodes l c.stamp.new.self) (sym (ap (λ r. r.items) c.new.ensures))
    (has_room (given_by c.args.shared.now) c.args.shared.now c.args.nodes c.args.core.now c.requires.table c.requires.ready.work (rename_call c.args.move_)
    (reply_of c.args.short) c.stamp.result.0 c.stamp.new.self stamps due c.calls_are_few.ensures)

pub let_go-requires-clause-home : goal.let_go-requires-clause-home
let_go-requires-clause-home c =
    let stamps = subst (λ (z : Call × Reply). Stamps (IsLawfulLog (given_by c.args.shared.now))
    (StandsAt (given_by c.args.shared.now)) z.0 z.1 c.args.core.now c.stamp.result.0 c.stamp.new.self)
    (λ i. (c.into_call.ensures i, c.reply.ensures i)) c.stamp.ensures in
    let due = verdict_stamped (given_by c.args.shared.now) c.args.shared.now c.args.nodes c.requires.table c.args.move_ c.requires.within c.args.settled.plan
    (way_read c.args.settled) c.args.core.now c.requires.ready (reply_of c.args.short) c.stamp.result.0 c.stamp.new.self stamps
    ∙ c.requires.answers in
    let takes = subst (λ l. TakesEntry c.args.nodes l c.stamp.new.self c.add_entry.new.core) (ap (λ r. r.items) c.new.ensures) c.add_entry.ensures in
    goes_home (given_by c.args.shared.now) c.args.shared.now c.args.nodes c.args.core.now c.requires.table c.requires.ready.work (rename_call c.args.move_)
    (reply_of c.args.short) c.stamp.result.0 c.stamp.new.self stamps due c.add_entry.new.core takes

pub returns : goal.returns
returns c =
    let stamps = subst (λ (z : Call × Reply). Stamps (IsLawfulLog (given_by c.args.shared.now))
    (StandsAt (given_by c.args.shared.now)) z.0 z.1 c.args.core.now c.stamp.result.0 c.stamp.new.self)
    (λ i. (c.into_call.ensures i, c.reply.ensures i)) c.stamp.ensures in
    let due = verdict_stamped (given_by c.args.shared.now) c.args.shared.now c.args.nodes c.requires.table c.args.move_ c.requires.within c.args.settled.plan
    (way_read c.args.settled) c.args.core.now c.requires.ready (reply_of c.args.short) c.stamp.result.0 c.stamp.new.self stamps
    ∙ c.requires.answers in
    let takes = subst (λ l. TakesEntry c.args.nodes l c.stamp.new.self c.add_entry.new.core) (ap (λ r. r.items) c.new.ensures) c.add_entry.ensures in
    ends_as (given_by c.args.shared.now) c.args.shared.now c.args.nodes c.args.core.now c.requires.table c.requires.ready.work (rename_call c.args.move_)
    (reply_of c.args.short) c.stamp.result.0 c.stamp.new.self stamps (answered (reply_of c.args.short)) c.add_entry.new.core c.let_go.new.self
    due refl refl
    (final_is (given_by c.args.shared.now) c.args.shared.now c.args.nodes c.args.core.now c.requires.table c.requires.ready.work (rename_call c.args.move_)
    (reply_of c.args.short) c.stamp.result.0 c.stamp.new.self stamps due c.add_entry.new.core takes)
    (same_count (given_by c.args.shared.now) c.args.shared.now c.args.nodes c.args.core.now c.requires.table c.requires.ready.work (rename_call c.args.move_)
    (reply_of c.args.short) c.stamp.result.0 c.stamp.new.self stamps due c.add_entry.new.core takes)
    c.let_go.ensures.lets_go c.let_go.ensures.left c.let_go.ensures.places
