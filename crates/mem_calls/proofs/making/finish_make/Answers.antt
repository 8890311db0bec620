use Rattle.std.proofs.Common.{◌<◌, [], ◌∷◌, None, refl, sym, ap, subst, ◌∙◌, IsSome}
use Rattle.tree_laws.specs.declared.changes.Act.TheVariants.{Add}
use Rattle.tree_laws.specs.declared.call.Call.TheVariants as call
use Rattle.tree_laws.specs.declared.reply.Reply.TheVariants as reply
use Rattle.tree_laws.specs.Logged.{log_entry}
use Rattle.mem_cells.specs.Part.{IsAddedTo}
use Rattle.stamp_table.specs.Table.{MayCall}
use Rattle.mem_values.specs.Start.{FileHand, given_by}
use Rattle.mem_values.specs.declared.cell.Cell.TheVariants as cell
use Rattle.mem_values.specs.declared.cell_id.CellId.TheVariants as id
use Rattle.mem_values.specs.Stands.{StandsAt}
use Rattle.mem_values.specs.Facts.{IsLawfulLog}
use Rattle.mem_calls.specs.Held.{value_held}
use Rattle.mem_calls.specs.Parts.{HasRoomFor}
use Rattle.mem_calls.specs.Changes.{PutsValue}
use Rattle.mem_calls.specs.Creations.{creates}
use Rattle.mem_calls.proofs.Stamped.{may_come}
use Rattle.mem_calls.proofs.Comings.{out_is}
use Rattle.mem_calls.proofs.Creation.{creation, keeps}
use Rattle.mem_calls.proofs.Created.{bucket_out, has_room, few_made, new_there, links_few, part_there, goes_home, answers}
use Rattle.mem_calls.proofs.making.finish_make.Goals as goal

pub stamp-stamp-requires-clause-may : goal.stamp-stamp-requires-clause-may
stamp-stamp-requires-clause-may c =
    let is = c.in_ok-coming.ensures in
    subst (λ (h : FileHand). MayCall (IsLawfulLog (given_by c.args.shared.now)) (StandsAt (given_by c.args.shared.now)) h.view
    (call.Make c.args.dir c.args.name c.args.child.1)
    (reply.Node c.args.child.0 c.args.child.1))
    (sym (out_is c.args.nodes c.args.core.now c.args.dir c.args.name c.requires.may.place c.requires.part c.in_ok-coming.coming.ready is.mid is.ready
    c.make_coming.new.core is.out.0 is.out.1))
    (may_come (given_by c.args.shared.now) c.args.shared.now c.args.nodes c.args.core.now c.requires.table c.requires.work
    (call.Make c.args.dir c.args.name c.args.child.1)
    (creates c.args.child.0 c.args.dir c.args.name c.args.child.1) refl c.requires.due
    (keeps (given_by c.args.shared.now) c.args.shared.now c.args.nodes c.args.core.now c.requires.table c.requires.work c.args.dir c.args.name
    c.args.child.0 c.args.child.1
    c.requires.may c.requires.part
    c.requires.due))

pub put_bucket-requires : goal.put_bucket-requires
put_bucket-requires c =
    let r = creation c.requires.table c.requires.work c.requires.may c.requires.part c.requires.due c.in_ok-coming.ensures c.stamp-stamp.ensures in
    subst (λ n. IsSome (value_held c.args.nodes c.stamp-stamp.new.self.held (id.Bucket c.args.dir n))) (sym c.bucket_of-number.ensures) (bucket_out r)

pub settle-requires-clause-new : goal.settle-requires-clause-new
settle-requires-clause-new c =
    let r = creation c.requires.table c.requires.work c.requires.may c.requires.part c.requires.due c.in_ok-coming.ensures c.stamp-stamp.ensures in
    let puts = subst (λ n. PutsValue c.args.nodes (id.Bucket c.args.dir n)
    (cell.Bucket c.in_ok-coming.coming.bucket) c.stamp-stamp.new.self c.put_bucket.new.core)
    c.bucket_of-number.ensures c.put_bucket.ensures in
    new_there r (cell.Bucket c.in_ok-coming.coming.bucket) c.put_bucket.new.core puts

pub settle-requires-clause-links : goal.settle-requires-clause-links
settle-requires-clause-links c =
    let r = creation c.requires.table c.requires.work c.requires.may c.requires.part c.requires.due c.in_ok-coming.ensures c.stamp-stamp.ensures in
    let puts = subst (λ n. PutsValue c.args.nodes (id.Bucket c.args.dir n)
    (cell.Bucket c.in_ok-coming.coming.bucket) c.stamp-stamp.new.self c.put_bucket.new.core)
    c.bucket_of-number.ensures c.put_bucket.ensures in
    links_few r (cell.Bucket c.in_ok-coming.coming.bucket) c.put_bucket.new.core puts

pub with_entry-requires : goal.with_entry-requires
with_entry-requires c =
    let r = creation c.requires.table c.requires.work c.requires.may c.requires.part c.requires.due c.in_ok-coming.ensures c.stamp-stamp.ensures in
    let change = c.added_row-change.ensures
    ∙ ap (λ n. log_entry c.stamp-stamp.result.0 c.args.dir.0 n c.args.child.0.0 c.args.child.1 Add None [] ∷ []) c.in_ok-coming.ensures.ready.name_is in
    subst (λ l. HasRoomFor l c.in_ok-coming.coming.ready.part.value) (sym change) (has_room r c.calls_are_few.ensures)

pub with_node-requires : goal.with_node-requires
with_node-requires c =
    let r = creation c.requires.table c.requires.work c.requires.may c.requires.part c.requires.due c.in_ok-coming.ensures c.stamp-stamp.ensures in
    subst (λ n. n < 4294967295) (sym c.with_entry.ensures.made) (few_made r)

pub put_part-requires : goal.put_part-requires
put_part-requires c =
    let r = creation c.requires.table c.requires.work c.requires.may c.requires.part c.requires.due c.in_ok-coming.ensures c.stamp-stamp.ensures in
    let puts = subst (λ n. PutsValue c.args.nodes (id.Bucket c.args.dir n)
    (cell.Bucket c.in_ok-coming.coming.bucket) c.stamp-stamp.new.self c.put_bucket.new.core)
    c.bucket_of-number.ensures c.put_bucket.ensures in
    part_there r (cell.Bucket c.in_ok-coming.coming.bucket) c.put_bucket.new.core puts c.settle.new.core c.settle.ensures

pub let_go-requires-clause-home : goal.let_go-requires-clause-home
let_go-requires-clause-home c =
    let r = creation c.requires.table c.requires.work c.requires.may c.requires.part c.requires.due c.in_ok-coming.ensures c.stamp-stamp.ensures in
    let puts = subst (λ n. PutsValue c.args.nodes (id.Bucket c.args.dir n)
    (cell.Bucket c.in_ok-coming.coming.bucket) c.stamp-stamp.new.self c.put_bucket.new.core)
    c.bucket_of-number.ensures c.put_bucket.ensures in
    let change = c.added_row-change.ensures
    ∙ ap (λ n. log_entry c.stamp-stamp.result.0 c.args.dir.0 n c.args.child.0.0 c.args.child.1 Add None [] ∷ []) c.in_ok-coming.ensures.ready.name_is in
    let added = subst (λ l. IsAddedTo c.in_ok-coming.coming.ready.part.value.log l c.with_entry.result.value.log) change c.with_entry.ensures.log in
    goes_home r (cell.Bucket c.in_ok-coming.coming.bucket) c.put_bucket.new.core puts c.settle.new.core c.settle.ensures refl c.with_entry.result.value
    c.with_node.result.value
    c.put_part.ensures.0 c.put_part.ensures.1 added c.with_entry.ensures.made c.with_node.ensures.log c.with_node.ensures.made c.put_part.new.core
    c.put_part.ensures.2

pub returns : goal.returns
returns c =
    let r = creation c.requires.table c.requires.work c.requires.may c.requires.part c.requires.due c.in_ok-coming.ensures c.stamp-stamp.ensures in
    let puts = subst (λ n. PutsValue c.args.nodes (id.Bucket c.args.dir n)
    (cell.Bucket c.in_ok-coming.coming.bucket) c.stamp-stamp.new.self c.put_bucket.new.core)
    c.bucket_of-number.ensures c.put_bucket.ensures in
    let change = c.added_row-change.ensures
    ∙ ap (λ n. log_entry c.stamp-stamp.result.0 c.args.dir.0 n c.args.child.0.0 c.args.child.1 Add None [] ∷ []) c.in_ok-coming.ensures.ready.name_is in
    let added = subst (λ l. IsAddedTo c.in_ok-coming.coming.ready.part.value.log l c.with_entry.result.value.log) change c.with_entry.ensures.log in
    answers r (cell.Bucket c.in_ok-coming.coming.bucket) c.put_bucket.new.core puts c.settle.new.core c.settle.ensures refl c.with_entry.result.value
    c.with_node.result.value
    c.put_part.ensures.0 c.put_part.ensures.1 added c.with_entry.ensures.made c.with_node.ensures.log c.with_node.ensures.made c.put_part.new.core
    c.put_part.ensures.2
    c.let_go.new.self c.let_go.ensures.lets_go c.let_go.ensures.left c.let_go.ensures.places
