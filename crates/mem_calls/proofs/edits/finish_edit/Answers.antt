use Rattle.std.proofs.Common.{rules, ◌≡◌, Some, refl, sym, ap, subst, IsSome}
use Rattle.tree_laws.specs.declared.reply.Reply.TheVariants as reply
use Rattle.tree_laws.specs.Effect.{Edits}
use Rattle.tree_laws.specs.Verdict.{done}
use Rattle.stamp_table.specs.Table.{Stamps, MayCall}
use Rattle.mem_values.specs.declared.cell.Cell.TheVariants as cell
use Rattle.mem_values.specs.Stands.{StandsAt}
use Rattle.mem_values.specs.Facts.{IsLawfulLog}
use Rattle.std.specs.Prelude.{IfOk, IfErr}
use Rattle.mem_values.specs.Start.{FileHand, given_by}
use Rattle.mem_calls.specs.Edits.{edit_of, edit_call, IsEdited}
use Rattle.mem_calls.specs.Held.{value_held, as_file}
use Rattle.mem_values.specs.declared.cell_id.CellId.TheVariants as id
use Rattle.mem_values.proofs.Basics.{some_of}
use Rattle.mem_calls.specs.Parts.{MayTake, TakesEntry}
use Rattle.mem_calls.proofs.Stamped.{may_come}
use Rattle.mem_calls.proofs.Finished.{ends}
use Rattle.mem_calls.proofs.Edited.{not_fsync, keeps, stamps, put_may, part_may, room_may, final_is, same_count, goes_home, works_again, back_again}
use Rattle.mem_calls.proofs.Nothing.{some_first}
use Rattle.mem_calls.proofs.Taken.{value_with}
use Rattle.mem_calls.proofs.Left.{known_home, refused}
use Rattle.mem_calls.proofs.edits.finish_edit.Goals as goal

pub stamp-stamp-requires-clause-may : goal.stamp-stamp-requires-clause-may
stamp-stamp-requires-clause-may c =
    subst (λ x. MayCall (IsLawfulLog (given_by c.args.shared.now)) (StandsAt (given_by c.args.shared.now)) c.take_file.new.core.view x reply.Ok)
    (sym c.into_call.ensures)
    (subst (λ (h : FileHand). MayCall (IsLawfulLog (given_by c.args.shared.now)) (StandsAt (given_by c.args.shared.now)) h.view
    (edit_call c.args.file c.args.edit) reply.Ok)
    (sym c.take_file.ensures.held.1)
    (may_come (given_by c.args.shared.now) c.args.shared.now c.args.nodes c.args.core.now c.requires.table c.requires.work (edit_call c.args.file c.args.edit)
    (done (Edits c.args.file.0 (edit_of c.args.edit))) (not_fsync c.args.file c.args.edit) c.requires.due
    (keeps (given_by c.args.shared.now) c.args.shared.now c.args.nodes c.args.core.now c.requires.table c.requires.work c.requires.part c.args.file
    c.args.edit
    c.requires.within c.requires.held c.requires.due)))

pub put-requires : goal.put-requires
put-requires c =
    let drawn = subst (λ x. Stamps (IsLawfulLog (given_by c.args.shared.now))
    (StandsAt (given_by c.args.shared.now)) x reply.Ok c.take_file.new.core c.stamp-stamp.result.0 c.stamp-stamp.new.self) c.into_call.ensures
    c.stamp-stamp.ensures in
    put_may (given_by c.args.shared.now) c.args.shared.now c.args.nodes c.args.core.now c.requires.table c.requires.work c.requires.part c.args.file
    c.args.edit
    c.requires.within c.requires.held c.requires.due
    c.take_file.ensures.held.0 c.take_file.new.core c.take_file.ensures.held.1 c.stamp-stamp.result.0 c.stamp-stamp.new.self drawn

pub add_entry-requires-clause-part : goal.add_entry-requires-clause-part
add_entry-requires-clause-part c =
    let drawn = subst (λ x. Stamps (IsLawfulLog (given_by c.args.shared.now))
    (StandsAt (given_by c.args.shared.now)) x reply.Ok c.take_file.new.core c.stamp-stamp.result.0 c.stamp-stamp.new.self) c.into_call.ensures
    c.stamp-stamp.ensures in
    part_may (given_by c.args.shared.now) c.args.shared.now c.args.nodes c.args.core.now c.requires.table c.requires.work c.requires.part c.args.file
    c.args.edit
    c.requires.within c.requires.held c.requires.due
    c.take_file.ensures.held.0 c.take_file.new.core c.take_file.ensures.held.1 c.stamp-stamp.result.0 c.stamp-stamp.new.self drawn
    (cell.File c.marked-value.result) c.marked-value.result.value refl c.put.new.core c.put.ensures

pub add_entry-requires-clause-may : goal.add_entry-requires-clause-may
add_entry-requires-clause-may c =
    let drawn = subst (λ x. Stamps (IsLawfulLog (given_by c.args.shared.now))
    (StandsAt (given_by c.args.shared.now)) x reply.Ok c.take_file.new.core c.stamp-stamp.result.0 c.stamp-stamp.new.self) c.into_call.ensures
    c.stamp-stamp.ensures in
    subst (λ l. MayTake c.args.nodes l c.put.new.core) (sym (ap (λ r. r.items) c.new.ensures))
    (room_may (given_by c.args.shared.now) c.args.shared.now c.args.nodes c.args.core.now c.requires.table c.requires.work c.requires.part c.args.file
    c.args.edit
    c.requires.within c.requires.held c.requires.due
    c.take_file.ensures.held.0 c.take_file.new.core c.take_file.ensures.held.1 c.stamp-stamp.result.0 c.stamp-stamp.new.self drawn
    (cell.File c.marked-value.result) c.marked-value.result.value refl c.put.new.core c.put.ensures c.calls_are_few.ensures)

pub let_go-requires-clause-home : goal.let_go-requires-clause-home
let_go-requires-clause-home c =
    let drawn = subst (λ x. Stamps (IsLawfulLog (given_by c.args.shared.now))
    (StandsAt (given_by c.args.shared.now)) x reply.Ok c.take_file.new.core c.stamp-stamp.result.0 c.stamp-stamp.new.self) c.into_call.ensures
    c.stamp-stamp.ensures in
    let takes = subst (λ l. TakesEntry c.args.nodes l c.put.new.core c.add_entry.new.core) (ap (λ r. r.items) c.new.ensures) c.add_entry.ensures in
    goes_home (given_by c.args.shared.now) c.args.shared.now c.args.nodes c.args.core.now c.requires.table c.requires.work c.requires.part c.args.file
    c.args.edit
    c.requires.within c.requires.held c.requires.due
    c.take_file.ensures.held.0 c.take_file.new.core c.take_file.ensures.held.1 c.stamp-stamp.result.0 c.stamp-stamp.new.self drawn
    (cell.File c.marked-value.result) c.marked-value.result.value refl c.put.new.core c.put.ensures c.add_entry.new.core takes
    c.take_file.result.value c.edited-value.result.0.value c.take_file.ensures.file c.in-Ok.touched
    (subst (λ r. IfOk r (λ touched.
    IsEdited c.take_file.result.value c.args.edit touched c.edited-value.result.0.value)) c.in-Ok.is c.edited-value.ensures.ok) c.marked-value.ensures.links
    c.marked-value.ensures.bytes c.marked-value.ensures.marks

pub returns-in-Ok : goal.returns-in-Ok
returns-in-Ok c =
    let drawn = subst (λ x. Stamps (IsLawfulLog (given_by c.args.shared.now))
    (StandsAt (given_by c.args.shared.now)) x reply.Ok c.take_file.new.core c.stamp-stamp.result.0 c.stamp-stamp.new.self) c.into_call.ensures
    c.stamp-stamp.ensures in
    let takes = subst (λ l. TakesEntry c.args.nodes l c.put.new.core c.add_entry.new.core) (ap (λ r. r.items) c.new.ensures) c.add_entry.ensures in
    ends (given_by c.args.shared.now) c.args.shared.now c.args.nodes c.args.core.now c.requires.table c.requires.work
    (edit_call c.args.file c.args.edit) reply.Ok c.stamp-stamp.result.0 (record c.stamp-stamp.new.self { held = c.args.core.now.held })
    (stamps (given_by c.args.shared.now) c.args.shared.now c.args.nodes c.args.core.now c.requires.table c.requires.work c.requires.part c.args.file
    c.args.edit
    c.requires.within c.requires.held c.requires.due
    c.take_file.ensures.held.0 c.take_file.new.core c.take_file.ensures.held.1 c.stamp-stamp.result.0 c.stamp-stamp.new.self drawn)
    (done (Edits c.args.file.0 (edit_of c.args.edit))) c.add_entry.new.core c.let_go.new.self c.requires.due refl (not_fsync c.args.file c.args.edit)
    (final_is (given_by c.args.shared.now) c.args.shared.now c.args.nodes c.args.core.now c.requires.table c.requires.work c.requires.part c.args.file
    c.args.edit
    c.requires.within c.requires.held c.requires.due
    c.take_file.ensures.held.0 c.take_file.new.core c.take_file.ensures.held.1 c.stamp-stamp.result.0 c.stamp-stamp.new.self drawn
    (cell.File c.marked-value.result) c.marked-value.result.value refl c.put.new.core c.put.ensures c.add_entry.new.core takes)
    (same_count (given_by c.args.shared.now) c.args.shared.now c.args.nodes c.args.core.now c.requires.table c.requires.work c.requires.part c.args.file
    c.args.edit
    c.requires.within c.requires.held c.requires.due
    c.take_file.ensures.held.0 c.take_file.new.core c.take_file.ensures.held.1 c.stamp-stamp.result.0 c.stamp-stamp.new.self drawn
    (cell.File c.marked-value.result) c.marked-value.result.value refl c.put.new.core c.put.ensures c.add_entry.new.core takes)
    c.let_go.ensures.lets_go c.let_go.ensures.left c.let_go.ensures.places

pub put-requires-in-Err : goal.put-requires-in-Err
put-requires-in-Err c =
    subst (λ (h : FileHand). IsSome (value_held c.args.nodes h.held (id.File c.args.file))) (sym c.take_file.ensures.held.1)
    (some_of _ _ (value_with c.args.nodes (id.File c.args.file) c.take_file.ensures.held.0 c.args.core.now.held
    (some_first as_file (value_held c.args.nodes c.args.core.now.held (id.File c.args.file)) c.requires.held)))

pub let_go-requires-in-Err-clause-home : goal.let_go-requires-in-Err-clause-home
let_go-requires-in-Err-clause-home c =
    let same = subst (λ r. IfErr r (λ fault. c.edited-value.result.0.value ≡ c.take_file.result.value)) c.in-Err.is c.edited-value.ensures.err in
    let works =
    works_again (given_by c.args.shared.now) c.args.shared.now c.args.nodes c.args.core.now c.requires.table c.requires.work c.requires.part c.args.file
    c.args.edit
    c.requires.within c.requires.held c.requires.due
    c.take_file.ensures.held.0 c.take_file.new.core c.take_file.ensures.held.1 c.take_file.result.value c.take_file.ensures.file
    (cell.File c.edited-value.result.0) (ap (λ v. Some v) same) c.put-in-Err.new.core c.put-in-Err.ensures in
    known_home (given_by c.args.shared.now) c.put-in-Err.new.core.view c.put-in-Err.new.core.held works.knows

pub returns-in-Err : goal.returns-in-Err
returns-in-Err c =
    let same = subst (λ r. IfErr r (λ fault. c.edited-value.result.0.value ≡ c.take_file.result.value)) c.in-Err.is c.edited-value.ensures.err in
    let works =
    works_again (given_by c.args.shared.now) c.args.shared.now c.args.nodes c.args.core.now c.requires.table c.requires.work c.requires.part c.args.file
    c.args.edit
    c.requires.within c.requires.held c.requires.due
    c.take_file.ensures.held.0 c.take_file.new.core c.take_file.ensures.held.1 c.take_file.result.value c.take_file.ensures.file
    (cell.File c.edited-value.result.0) (ap (λ v. Some v) same) c.put-in-Err.new.core c.put-in-Err.ensures in
    back_again (given_by c.args.shared.now) c.args.shared.now c.args.nodes c.args.core.now c.requires.table c.requires.work c.requires.part c.args.file
    c.args.edit
    c.requires.within c.requires.held c.requires.due
    c.take_file.ensures.held.0 c.take_file.new.core c.take_file.ensures.held.1 c.take_file.result.value c.take_file.ensures.file
    (cell.File c.edited-value.result.0) (ap (λ v. Some v) same) c.put-in-Err.new.core c.put-in-Err.ensures c.let_go-in-Err.new.self
    (refused (given_by c.args.shared.now) c.args.shared.now c.put-in-Err.new.core c.let_go-in-Err.new.self works c.let_go-in-Err.ensures.lets_go
    c.let_go-in-Err.ensures.left
    c.let_go-in-Err.ensures.places
    (search rules))
