use Rattle.std.proofs.Common.{◌≡◌, ◌+◌, ◌*◌, ℕ, [], ◌∷◌, None, refl, sym, ap, subst, ◌∙◌, IsSome}
use Rattle.std.specs.FinMap.{get}
use Rattle.sfs_base.specs.declared.numbers.Kind.TheVariants.{File}
use Rattle.tree_laws.specs.declared.changes.Act.TheVariants.{Remove}
use Rattle.tree_laws.specs.declared.call.Call.TheVariants as call
use Rattle.tree_laws.specs.declared.reply.Reply.TheVariants as reply
use Rattle.tree_laws.specs.Effect.{Removes}
use Rattle.tree_laws.specs.Logged.{log_entry}
use Rattle.tree_laws.specs.Verdict.{done}
use Rattle.mem_cells.specs.Part.{IsAddedTo}
use Rattle.stamp_table.specs.Table.{MayCall, with_value}
use Rattle.mem_values.specs.Start.{FileHand, given_by}
use Rattle.mem_values.specs.declared.cell.Cell.TheVariants as cell
use Rattle.mem_values.specs.declared.cell_id.CellId.TheVariants as id
use Rattle.mem_values.specs.Stands.{StandsAt}
use Rattle.mem_values.specs.Facts.{IsLawfulLog}
use Rattle.mem_calls.specs.Held.{value_held, bucket_held}
use Rattle.mem_calls.specs.Parts.{HasRoomFor}
use Rattle.mem_calls.specs.Changes.{RemovesRow}
use Rattle.mem_calls.proofs.Stamped.{may_come}
use Rattle.mem_calls.proofs.Unlinked.{keeps, bucket_there, row_there, file_there, named_there, has_room, core_three, part_there, goes_home, answers}
use Rattle.mem_calls.proofs.removals.finish_unlink.Goals as goal

pub stamp-stamp-requires-clause-may : goal.stamp-stamp-requires-clause-may
stamp-stamp-requires-clause-may c =
    subst (λ (h : FileHand). MayCall (IsLawfulLog (given_by c.args.shared.now)) (StandsAt (given_by c.args.shared.now)) h.view
    (call.Unlink c.args.dir c.args.name) reply.Ok)
    (sym c.in_ok-ready.ensures.out.1)
    (may_come (given_by c.args.shared.now) c.args.shared.now c.args.nodes c.args.core.now c.requires.table c.requires.work
    (call.Unlink c.args.dir c.args.name)
    (done (Removes c.args.dir.0 c.args.name c.args.child.0)) refl c.requires.due
    (keeps (given_by c.args.shared.now) c.args.shared.now c.args.nodes c.args.core.now c.requires.table c.requires.work c.args.dir c.args.name c.args.child
    c.requires.names
    c.requires.part c.requires.held.1 c.requires.due))

pub remove_row-requires-clause-held : goal.remove_row-requires-clause-held
remove_row-requires-clause-held c = subst (λ n. IsSome (bucket_held c.args.nodes c.stamp-stamp.new.self.held c.args.dir n)) (sym c.bucket_of-number.ensures)
    (bucket_there (given_by c.args.shared.now) c.args.shared.now c.args.nodes c.args.core.now c.requires.table c.requires.work c.args.dir c.args.name
    c.args.child
    c.requires.names c.requires.held.0 c.requires.part c.requires.held.1 c.requires.due c.in_ok-ready.ready c.make_ready.new.core c.in_ok-ready.ensures
    c.stamp-stamp.result.0 c.stamp-stamp.new.self c.stamp-stamp.ensures)

pub remove_row-requires-clause-row : goal.remove_row-requires-clause-row
remove_row-requires-clause-row c = λ b is. subst (λ n. IsSome (get b.rows n)) (sym c.in_ok-ready.ensures.name_is)
    (row_there (given_by c.args.shared.now) c.args.shared.now c.args.nodes c.args.core.now c.requires.table c.requires.work c.args.dir c.args.name
    c.args.child
    c.requires.names c.requires.held.0 c.requires.part c.requires.held.1 c.requires.due c.in_ok-ready.ready c.make_ready.new.core c.in_ok-ready.ensures
    c.stamp-stamp.result.0 c.stamp-stamp.new.self c.stamp-stamp.ensures b
    (ap (λ n. bucket_held c.args.nodes c.stamp-stamp.new.self.held c.args.dir n) (sym c.bucket_of-number.ensures) ∙ is))

pub lower_links-requires-clause-held : goal.lower_links-requires-clause-held
lower_links-requires-clause-held c =
    let gone = subst (λ n. RemovesRow c.args.nodes c.args.dir n c.args.name c.stamp-stamp.new.self c.remove_row.new.core) c.bucket_of-number.ensures
    (subst
    (λ n. RemovesRow c.args.nodes c.args.dir c.bucket_of-number.result n c.stamp-stamp.new.self c.remove_row.new.core) c.in_ok-ready.ensures.name_is
    c.remove_row.ensures) in
    file_there (given_by c.args.shared.now) c.args.shared.now c.args.nodes c.args.core.now c.requires.table c.requires.work c.args.dir c.args.name
    c.args.child
    c.requires.names c.requires.held.0 c.requires.part c.requires.held.1 c.requires.due c.in_ok-ready.ready c.make_ready.new.core c.in_ok-ready.ensures
    c.stamp-stamp.result.0 c.stamp-stamp.new.self c.stamp-stamp.ensures c.remove_row.new.core gone

pub lower_links-requires-clause-links : goal.lower_links-requires-clause-links
lower_links-requires-clause-links c =
    let gone = subst (λ n. RemovesRow c.args.nodes c.args.dir n c.args.name c.stamp-stamp.new.self c.remove_row.new.core) c.bucket_of-number.ensures
    (subst
    (λ n. RemovesRow c.args.nodes c.args.dir c.bucket_of-number.result n c.stamp-stamp.new.self c.remove_row.new.core) c.in_ok-ready.ensures.name_is
    c.remove_row.ensures) in
    named_there (given_by c.args.shared.now) c.args.shared.now c.args.nodes c.args.core.now c.requires.table c.requires.work c.args.dir c.args.name
    c.args.child
    c.requires.names c.requires.held.0 c.requires.part c.requires.held.1 c.requires.due c.in_ok-ready.ready c.make_ready.new.core c.in_ok-ready.ensures
    c.stamp-stamp.result.0 c.stamp-stamp.new.self c.stamp-stamp.ensures c.remove_row.new.core gone

pub with_entry-part-requires : goal.with_entry-part-requires
with_entry-part-requires c =
    let gone = subst (λ n. RemovesRow c.args.nodes c.args.dir n c.args.name c.stamp-stamp.new.self c.remove_row.new.core) c.bucket_of-number.ensures
    (subst
    (λ n. RemovesRow c.args.nodes c.args.dir c.bucket_of-number.result n c.stamp-stamp.new.self c.remove_row.new.core) c.in_ok-ready.ensures.name_is
    c.remove_row.ensures) in
    let change = c.removed_row-change.ensures
    ∙ ap (λ n. log_entry c.stamp-stamp.result.0 c.args.dir.0 n c.args.child.0 File Remove None [] ∷ []) c.in_ok-ready.ensures.name_is in
    subst (λ l. HasRoomFor l c.in_ok-ready.ready.part.value) (sym change)
    (has_room (given_by c.args.shared.now) c.args.shared.now c.args.nodes c.args.core.now c.requires.table c.requires.work c.args.dir c.args.name c.args.child
    c.requires.names c.requires.held.0 c.requires.part c.requires.held.1 c.requires.due c.in_ok-ready.ready c.make_ready.new.core c.in_ok-ready.ensures
    c.stamp-stamp.result.0 c.stamp-stamp.new.self c.stamp-stamp.ensures c.remove_row.new.core gone c.lower_links.new.core c.lower_links.ensures
    c.calls_are_few.ensures)

pub put-requires : goal.put-requires
put-requires c =
    let gone = subst (λ n. RemovesRow c.args.nodes c.args.dir n c.args.name c.stamp-stamp.new.self c.remove_row.new.core) c.bucket_of-number.ensures
    (subst
    (λ n. RemovesRow c.args.nodes c.args.dir c.bucket_of-number.result n c.stamp-stamp.new.self c.remove_row.new.core) c.in_ok-ready.ensures.name_is
    c.remove_row.ensures) in
    let number : c.number.result.0 ≡ c.args.core.now.view.core = c.number.ensures
    ∙ core_three (given_by c.args.shared.now) c.args.shared.now c.args.nodes c.args.core.now c.requires.table c.requires.work c.args.dir c.args.name
    c.args.child
    c.requires.names c.requires.held.0 c.requires.part c.requires.held.1 c.requires.due c.in_ok-ready.ready c.make_ready.new.core c.in_ok-ready.ensures
    c.stamp-stamp.result.0 c.stamp-stamp.new.self c.stamp-stamp.ensures c.remove_row.new.core gone c.lower_links.new.core c.lower_links.ensures in
    subst (λ (n : ℕ). IsSome (value_held c.args.nodes c.lower_links.new.core.held (id.Part (record { 0 = n })))) (sym number)
    (part_there (given_by c.args.shared.now) c.args.shared.now c.args.nodes c.args.core.now c.requires.table c.requires.work c.args.dir c.args.name
    c.args.child
    c.requires.names c.requires.held.0 c.requires.part c.requires.held.1 c.requires.due c.in_ok-ready.ready c.make_ready.new.core c.in_ok-ready.ensures
    c.stamp-stamp.result.0 c.stamp-stamp.new.self c.stamp-stamp.ensures c.remove_row.new.core gone c.lower_links.new.core c.lower_links.ensures)

pub let_go-requires-clause-home : goal.let_go-requires-clause-home
let_go-requires-clause-home c =
    let gone = subst (λ n. RemovesRow c.args.nodes c.args.dir n c.args.name c.stamp-stamp.new.self c.remove_row.new.core) c.bucket_of-number.ensures
    (subst
    (λ n. RemovesRow c.args.nodes c.args.dir c.bucket_of-number.result n c.stamp-stamp.new.self c.remove_row.new.core) c.in_ok-ready.ensures.name_is
    c.remove_row.ensures) in
    let change = c.removed_row-change.ensures
    ∙ ap (λ n. log_entry c.stamp-stamp.result.0 c.args.dir.0 n c.args.child.0 File Remove None [] ∷ []) c.in_ok-ready.ensures.name_is in
    let added = subst (λ l. IsAddedTo c.in_ok-ready.ready.part.value.log l c.with_entry-part.result.value.log) change c.with_entry-part.ensures.log in
    let number : c.number.result.0 ≡ c.args.core.now.view.core = c.number.ensures
    ∙ core_three (given_by c.args.shared.now) c.args.shared.now c.args.nodes c.args.core.now c.requires.table c.requires.work c.args.dir c.args.name
    c.args.child
    c.requires.names c.requires.held.0 c.requires.part c.requires.held.1 c.requires.due c.in_ok-ready.ready c.make_ready.new.core c.in_ok-ready.ensures
    c.stamp-stamp.result.0 c.stamp-stamp.new.self c.stamp-stamp.ensures c.remove_row.new.core gone c.lower_links.new.core c.lower_links.ensures in
    let puts = c.put.ensures ∙ ap (λ (n : ℕ). record c.lower_links.new.core
    { held = with_value (32 + 10 * c.args.nodes + 16 * n) (cell.Part c.with_entry-part.result) c.lower_links.new.core.held }) number in
    goes_home (given_by c.args.shared.now) c.args.shared.now c.args.nodes c.args.core.now c.requires.table c.requires.work c.args.dir c.args.name c.args.child
    c.requires.names c.requires.held.0 c.requires.part c.requires.held.1 c.requires.due c.in_ok-ready.ready c.make_ready.new.core c.in_ok-ready.ensures
    c.stamp-stamp.result.0 c.stamp-stamp.new.self c.stamp-stamp.ensures c.remove_row.new.core gone c.lower_links.new.core c.lower_links.ensures
    c.with_entry-part.result.value
    (cell.Part c.with_entry-part.result) refl added c.with_entry-part.ensures.made c.put.new.core puts

pub returns : goal.returns
returns c =
    let gone = subst (λ n. RemovesRow c.args.nodes c.args.dir n c.args.name c.stamp-stamp.new.self c.remove_row.new.core) c.bucket_of-number.ensures
    (subst
    (λ n. RemovesRow c.args.nodes c.args.dir c.bucket_of-number.result n c.stamp-stamp.new.self c.remove_row.new.core) c.in_ok-ready.ensures.name_is
    c.remove_row.ensures) in
    let change = c.removed_row-change.ensures
    ∙ ap (λ n. log_entry c.stamp-stamp.result.0 c.args.dir.0 n c.args.child.0 File Remove None [] ∷ []) c.in_ok-ready.ensures.name_is in
    let added = subst (λ l. IsAddedTo c.in_ok-ready.ready.part.value.log l c.with_entry-part.result.value.log) change c.with_entry-part.ensures.log in
    let number : c.number.result.0 ≡ c.args.core.now.view.core = c.number.ensures
    ∙ core_three (given_by c.args.shared.now) c.args.shared.now c.args.nodes c.args.core.now c.requires.table c.requires.work c.args.dir c.args.name
    c.args.child
    c.requires.names c.requires.held.0 c.requires.part c.requires.held.1 c.requires.due c.in_ok-ready.ready c.make_ready.new.core c.in_ok-ready.ensures
    c.stamp-stamp.result.0 c.stamp-stamp.new.self c.stamp-stamp.ensures c.remove_row.new.core gone c.lower_links.new.core c.lower_links.ensures in
    let puts = c.put.ensures ∙ ap (λ (n : ℕ). record c.lower_links.new.core
    { held = with_value (32 + 10 * c.args.nodes + 16 * n) (cell.Part c.with_entry-part.result) c.lower_links.new.core.held }) number in
    answers (given_by c.args.shared.now) c.args.shared.now c.args.nodes c.args.core.now c.requires.table c.requires.work c.args.dir c.args.name
    c.args.child c.requires.names
    c.requires.held.0 c.requires.part c.requires.held.1 c.requires.due c.in_ok-ready.ready c.make_ready.new.core c.in_ok-ready.ensures
    c.stamp-stamp.result.0 c.stamp-stamp.new.self c.stamp-stamp.ensures c.remove_row.new.core gone c.lower_links.new.core c.lower_links.ensures
    c.with_entry-part.result.value
    (cell.Part c.with_entry-part.result) refl added c.with_entry-part.ensures.made c.put.new.core puts c.let_go.new.self c.let_go.ensures.lets_go
    c.let_go.ensures.left c.let_go.ensures.places
