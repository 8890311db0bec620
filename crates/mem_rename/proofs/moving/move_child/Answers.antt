use Rattle.std.proofs.Common.{sym, ap, subst, ◌∙◌}
use Rattle.tree_laws.specs.declared.call.Call.{Call}
use Rattle.tree_laws.specs.declared.reply.Reply.TheVariants as reply
use Rattle.stamp_table.specs.Table.{MayCall, Stamps}
use Rattle.mem_values.specs.Stands.{StandsAt}
use Rattle.mem_values.specs.Facts.{IsLawfulLog}
use Rattle.mem_values.proofs.Basics.{some_of}
use Rattle.sfs_base.specs.Name.{bucket as name_bucket}
use Rattle.mem_calls.specs.Held.{bucket_held, part_held}
use Rattle.mem_rename.specs.Ready.{bucket_or}
use Rattle.mem_rename.proofs.RowsSeen.{shows_seen}
use Rattle.mem_calls.specs.Parts.{MayTake}
use Rattle.mem_rename.specs.declared.looking.Look.{Look}
use Rattle.mem_rename.specs.declared.shifts.Shift.{Shift}
use Rattle.mem_rename.proofs.Sighted.{new_there}
use Rattle.mem_rename.proofs.Turned.{can_change, may, lock_there, part_locked, takes_shift}
use Rattle.mem_rename.proofs.Landed.{goes_home, answers}
use Rattle.std.specs.Prelude.{[]}
use Rattle.std.proofs.Common.{cond, Bool}
use Rattle.mem_values.specs.Start.{given_by}
use Rattle.mem_calls.specs.Parts.{TakesEntry}
use Rattle.mem_rename.specs.Shifts.{shift_logged, shift_of}
use Rattle.mem_rename.specs.Moving.{SetsLock}
use Rattle.mem_rename.specs.Rounds.{way_read}
use Rattle.mem_rename.proofs.moving.move_child.Goals as goal

pub prepare-requires-clause-held : goal.prepare-requires-clause-held
prepare-requires-clause-held c = new_there c.args.nodes c.args.core.now c.args.move_ c.args.settled.plan c.requires.ready.cells

pub prepare-requires-clause-there : goal.prepare-requires-clause-there
prepare-requires-clause-there c =
    shows_seen (bucket_or (bucket_held c.args.nodes c.args.core.now.held c.args.move_.directory (name_bucket c.args.move_.name)))
    (bucket_or (bucket_held c.args.nodes c.args.core.now.held c.args.move_.to_directory (name_bucket c.args.move_.to_name)))
    c.args.move_ c.args.child c.args.settled.look c.by-shift.result c.requires.look c.by-shift.ensures

pub change_held-requires-clause-held : goal.change_held-requires-clause-held
change_held-requires-clause-held c =
    can_change (given_by c.args.shared.now) c.args.shared.now c.args.nodes c.requires.table c.args.move_ c.requires.within c.args.settled.plan c.requires.plan
    (way_read c.args.settled) c.args.core.now c.requires.ready c.args.child c.requires.moves c.by-shift.result
    c.in_ok-noted.noted c.prepare.new.core c.in_ok-noted.ensures

pub stamp-stamp-requires-clause-may : goal.stamp-stamp-requires-clause-may
stamp-stamp-requires-clause-may c =
    subst (λ (z : Call). MayCall (IsLawfulLog (given_by c.args.shared.now)) (StandsAt (given_by c.args.shared.now)) c.change_held.new.core.view z reply.Ok)
    (sym c.into_call.ensures)
    (may (given_by c.args.shared.now) c.args.shared.now c.args.nodes c.requires.table c.args.move_ c.requires.within c.args.settled.plan c.requires.plan
    (way_read c.args.settled) c.args.core.now c.requires.ready c.args.child c.requires.moves c.by-shift.result
    c.in_ok-noted.noted c.prepare.new.core c.in_ok-noted.ensures c.change_held.new.core c.change_held.ensures)

pub set_lock-requires : goal.set_lock-requires
set_lock-requires c = λ comes.
    let stamps = subst (λ (z : Call). Stamps (IsLawfulLog (given_by c.args.shared.now))
    (StandsAt (given_by c.args.shared.now)) z reply.Ok c.change_held.new.core c.stamp-stamp.result.0 c.stamp-stamp.new.self) c.into_call.ensures
    c.stamp-stamp.ensures in
    lock_there (given_by c.args.shared.now) c.args.shared.now c.args.nodes c.requires.table c.args.move_ c.requires.within c.args.settled.plan c.requires.plan
    (way_read c.args.settled) c.args.core.now c.requires.ready c.args.child c.requires.moves c.by-shift.result
    c.in_ok-noted.noted c.prepare.new.core c.in_ok-noted.ensures c.change_held.new.core c.change_held.ensures c.stamp-stamp.result.0 c.stamp-stamp.new.self
    stamps
    (sym c.is_some-comes.ensures ∙ comes)

pub add_entry-requires-clause-part : goal.add_entry-requires-clause-part
add_entry-requires-clause-part c =
    let stamps = subst (λ (z : Call). Stamps (IsLawfulLog (given_by c.args.shared.now))
    (StandsAt (given_by c.args.shared.now)) z reply.Ok c.change_held.new.core c.stamp-stamp.result.0 c.stamp-stamp.new.self) c.into_call.ensures
    c.stamp-stamp.ensures in
    some_of (part_held c.args.nodes c.set_lock.new.core.held c.set_lock.new.core.view.core) _
    (part_locked (given_by c.args.shared.now) c.args.shared.now c.args.nodes c.requires.table c.args.move_ c.requires.within c.args.settled.plan c.requires.plan
    (way_read c.args.settled) c.args.core.now c.requires.ready c.args.child c.requires.moves c.by-shift.result
    c.in_ok-noted.noted c.prepare.new.core c.in_ok-noted.ensures c.change_held.new.core c.change_held.ensures c.stamp-stamp.result.0 c.stamp-stamp.new.self
    stamps c.is_some-comes.result c.set_lock.new.core c.set_lock.ensures)

pub add_entry-requires-clause-may : goal.add_entry-requires-clause-may
add_entry-requires-clause-may c =
    let stamps = subst (λ (z : Call). Stamps (IsLawfulLog (given_by c.args.shared.now))
    (StandsAt (given_by c.args.shared.now)) z reply.Ok c.change_held.new.core c.stamp-stamp.result.0 c.stamp-stamp.new.self) c.into_call.ensures
    c.stamp-stamp.ensures in
    let shift = c.by-shift.ensures ∙ ap (λ (l : Look). shift_of l c.args.move_ c.args.child) c.requires.look in
    subst (λ l. MayTake c.args.nodes l c.set_lock.new.core) (sym c.shifted.ensures)
    (takes_shift (given_by c.args.shared.now) c.args.shared.now c.args.nodes c.requires.table c.args.move_ c.requires.within c.args.settled.plan c.requires.plan
    (way_read c.args.settled) c.args.core.now c.requires.ready c.args.child c.requires.moves c.by-shift.result
    c.in_ok-noted.noted c.prepare.new.core c.in_ok-noted.ensures c.change_held.new.core c.change_held.ensures c.stamp-stamp.result.0 c.stamp-stamp.new.self
    stamps c.is_some-comes.result c.set_lock.new.core c.set_lock.ensures
    c.in_ok-noted.noted.old c.in_ok-noted.noted.new c.way_of-way.result (ap (λ (s : Shift). s.from) shift)
    (ap (λ (s : Shift). s.to) shift) c.calls_are_few.ensures)

pub let_go-requires-clause-home : goal.let_go-requires-clause-home
let_go-requires-clause-home c =
    let stamps = subst (λ (z : Call). Stamps (IsLawfulLog (given_by c.args.shared.now))
    (StandsAt (given_by c.args.shared.now)) z reply.Ok c.change_held.new.core c.stamp-stamp.result.0 c.stamp-stamp.new.self) c.into_call.ensures
    c.stamp-stamp.ensures in
    let lock = subst (λ (b : Bool).
    SetsLock c.args.nodes b c.stamp-stamp.result c.stamp-stamp.new.self c.set_lock.new.core) c.is_some-comes.ensures c.set_lock.ensures in
    let logged = c.shifted.ensures
    ∙ ap (shift_logged c.by-shift.result c.in_ok-noted.noted.old c.in_ok-noted.noted.new c.stamp-stamp.result.0)
    (c.way_of-way.ensures ∙ ap (λ (b : Bool). cond b (way_read c.args.settled) []) c.is_some-comes.ensures) in
    let takes = subst (λ l. TakesEntry c.args.nodes l c.set_lock.new.core c.add_entry.new.core) logged c.add_entry.ensures in
    goes_home (given_by c.args.shared.now) c.args.shared.now c.args.nodes c.requires.table c.args.move_ c.requires.within c.args.settled.plan c.requires.plan
    (way_read c.args.settled) c.args.core.now c.requires.ready c.args.child c.requires.moves c.by-shift.result
    c.in_ok-noted.noted c.prepare.new.core c.in_ok-noted.ensures c.change_held.new.core c.change_held.ensures c.stamp-stamp.result.0 c.stamp-stamp.new.self
    stamps c.set_lock.new.core lock
    (c.by-shift.ensures ∙ ap (λ (l : Look). shift_of l c.args.move_ c.args.child) c.requires.look)
    c.add_entry.new.core takes

pub returns : goal.returns
returns c =
    let stamps = subst (λ (z : Call). Stamps (IsLawfulLog (given_by c.args.shared.now))
    (StandsAt (given_by c.args.shared.now)) z reply.Ok c.change_held.new.core c.stamp-stamp.result.0 c.stamp-stamp.new.self) c.into_call.ensures
    c.stamp-stamp.ensures in
    let lock = subst (λ (b : Bool).
    SetsLock c.args.nodes b c.stamp-stamp.result c.stamp-stamp.new.self c.set_lock.new.core) c.is_some-comes.ensures c.set_lock.ensures in
    let logged = c.shifted.ensures
    ∙ ap (shift_logged c.by-shift.result c.in_ok-noted.noted.old c.in_ok-noted.noted.new c.stamp-stamp.result.0)
    (c.way_of-way.ensures ∙ ap (λ (b : Bool). cond b (way_read c.args.settled) []) c.is_some-comes.ensures) in
    let takes = subst (λ l. TakesEntry c.args.nodes l c.set_lock.new.core c.add_entry.new.core) logged c.add_entry.ensures in
    answers (given_by c.args.shared.now) c.args.shared.now c.args.nodes c.requires.table c.args.move_ c.requires.within c.args.settled.plan c.requires.plan
    (way_read c.args.settled) c.args.core.now c.requires.ready c.args.child c.requires.moves c.by-shift.result
    c.in_ok-noted.noted c.prepare.new.core c.in_ok-noted.ensures c.change_held.new.core c.change_held.ensures c.stamp-stamp.result.0 c.stamp-stamp.new.self
    stamps c.set_lock.new.core lock
    (c.by-shift.ensures ∙ ap (λ (l : Look). shift_of l c.args.move_ c.args.child) c.requires.look)
    c.add_entry.new.core takes c.let_go.new.self c.let_go.ensures.lets_go c.let_go.ensures.left c.let_go.ensures.places
