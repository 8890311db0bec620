use Rattle.std.proofs.Common.{subst, sym, ap}
use Rattle.mem_values.specs.Start.{given_by}
use Rattle.mem_calls.specs.Parts.{MayTake, TakesEntry}
use Rattle.stamp_table.specs.Table.{Stamps, MayCall}
use Rattle.mem_values.specs.Facts.{IsLawfulLog}
use Rattle.mem_values.specs.Stands.{StandsAt}
use Rattle.tree_laws.specs.declared.call.Call.TheVariants as call
use Rattle.fsync_stamp.proofs.Stamped.{may_stamp, room_for_none, all_home, held_ends}
use Rattle.fsync_stamp.proofs.stamp.stamp_held.Goals as goal

pub stamp-stamp-requires-clause-may : goal.stamp-stamp-requires-clause-may
stamp-stamp-requires-clause-may c =
    subst (λ r. MayCall (IsLawfulLog (given_by c.args.shared.now)) (StandsAt (given_by c.args.shared.now)) c.args.core.now.view (call.Fsync c.args.node) r)
    (sym c.reply_for_now.ensures)
    (may_stamp (given_by c.args.shared.now) c.args.shared.now c.args.nodes c.args.core.now c.requires.table c.requires.work c.args.node c.args.lives
    c.requires.part c.requires.lives)

pub add_entry-requires-clause-may : goal.add_entry-requires-clause-may
add_entry-requires-clause-may c =
    let stamps =
    subst (λ r. Stamps (IsLawfulLog (given_by c.args.shared.now)) (StandsAt (given_by c.args.shared.now)) (call.Fsync c.args.node) r c.args.core.now
    c.stamp-stamp.result.0 c.stamp-stamp.new.self) c.reply_for_now.ensures c.stamp-stamp.ensures in
    subst (λ l. MayTake c.args.nodes l c.stamp-stamp.new.self) (sym (ap (λ r. r.items) c.new.ensures))
    (room_for_none (given_by c.args.shared.now) c.args.shared.now c.args.nodes c.args.core.now c.requires.table c.requires.work c.args.node c.args.lives
    c.requires.lives c.stamp-stamp.result.0 c.stamp-stamp.new.self stamps c.calls_are_few.ensures)

pub let_go-requires-clause-home : goal.let_go-requires-clause-home
let_go-requires-clause-home c =
    let stamps =
    subst (λ r. Stamps (IsLawfulLog (given_by c.args.shared.now)) (StandsAt (given_by c.args.shared.now)) (call.Fsync c.args.node) r c.args.core.now
    c.stamp-stamp.result.0 c.stamp-stamp.new.self) c.reply_for_now.ensures c.stamp-stamp.ensures in
    let takes = subst (λ l. TakesEntry c.args.nodes l c.stamp-stamp.new.self c.add_entry.new.core) (ap (λ r. r.items) c.new.ensures) c.add_entry.ensures in
    all_home (given_by c.args.shared.now) c.args.shared.now c.args.nodes c.args.core.now c.requires.table c.requires.work c.args.node c.args.lives
    c.requires.lives c.stamp-stamp.result.0 c.stamp-stamp.new.self stamps c.add_entry.new.core takes

pub returns : goal.returns
returns c =
    let stamps =
    subst (λ r. Stamps (IsLawfulLog (given_by c.args.shared.now)) (StandsAt (given_by c.args.shared.now)) (call.Fsync c.args.node) r c.args.core.now
    c.stamp-stamp.result.0 c.stamp-stamp.new.self) c.reply_for_now.ensures c.stamp-stamp.ensures in
    let takes = subst (λ l. TakesEntry c.args.nodes l c.stamp-stamp.new.self c.add_entry.new.core) (ap (λ r. r.items) c.new.ensures) c.add_entry.ensures in
    held_ends (given_by c.args.shared.now) c.args.shared.now c.args.nodes c.args.core.now c.requires.table c.requires.work c.args.node c.args.lives
    c.requires.lives c.stamp-stamp.result.0 c.stamp-stamp.new.self stamps c.add_entry.new.core takes c.let_go.new.self c.let_go.ensures.lets_go
    c.let_go.ensures.left c.let_go.ensures.places
