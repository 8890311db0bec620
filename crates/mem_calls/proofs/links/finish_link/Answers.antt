use Rattle.std.proofs.Common.{[], ◌∷◌, None, refl, sym, ap, subst, ◌∙◌, IsSome}
use Rattle.sfs_base.specs.declared.numbers.Kind.TheVariants.{File}
use Rattle.tree_laws.specs.declared.changes.Act.TheVariants.{Add}
use Rattle.tree_laws.specs.declared.call.Call.TheVariants as call
use Rattle.tree_laws.specs.declared.reply.Reply.TheVariants as reply
use Rattle.tree_laws.specs.Effect.{Adds}
use Rattle.tree_laws.specs.Logged.{log_entry}
use Rattle.tree_laws.specs.Verdict.{done}
use Rattle.mem_cells.specs.Part.{IsAddedTo}
use Rattle.stamp_table.specs.Table.{MayCall}
use Rattle.mem_values.specs.Start.{FileHand, given_by}
use Rattle.mem_values.specs.declared.cell.Cell.TheVariants as cell
use Rattle.mem_values.specs.declared.cell_id.CellId.TheVariants as id
use Rattle.mem_values.specs.Stands.{StandsAt}
use Rattle.mem_values.specs.Facts.{IsLawfulLog}
use Rattle.mem_calls.specs.Held.{value_held}
use Rattle.mem_calls.specs.Parts.{HasRoomFor}
use Rattle.mem_calls.specs.Changes.{PutsValue}
use Rattle.mem_calls.proofs.Stamped.{may_come}
use Rattle.mem_calls.proofs.Comings.{out_is}
use Rattle.mem_calls.proofs.Linked.{linking, keeps, bucket_out, has_room, file_there, links_few, part_there, goes_home, answers}
use Rattle.mem_calls.proofs.links.finish_link.Goals as goal

pub stamp-stamp-requires-clause-may : goal.stamp-stamp-requires-clause-may
stamp-stamp-requires-clause-may c =
    let is = c.in_ok-coming.ensures in
    subst (λ (h : FileHand). MayCall (IsLawfulLog (given_by c.args.shared.now)) (StandsAt (given_by c.args.shared.now)) h.view
    (call.Link c.args.file c.args.dir c.args.name) reply.Ok)
    (sym (out_is c.args.nodes c.args.core.now c.args.dir c.args.name c.requires.may.place c.requires.part c.in_ok-coming.coming.ready is.mid is.ready
    c.make_coming.new.core is.out.0 is.out.1))
    (may_come (given_by c.args.shared.now) c.args.shared.now c.args.nodes c.args.core.now c.requires.table c.requires.work
    (call.Link c.args.file c.args.dir c.args.name)
    (done (Adds c.args.dir.0 c.args.name c.args.file.0)) refl c.requires.due
    (keeps (given_by c.args.shared.now) c.args.shared.now c.args.nodes c.args.core.now c.requires.table c.requires.work c.args.file c.args.dir c.args.name
    c.requires.may
    c.requires.part c.requires.due))

pub put_bucket-requires : goal.put_bucket-requires
put_bucket-requires c =
    let r = linking c.requires.table c.requires.work c.requires.may c.requires.part c.requires.due c.in_ok-coming.ensures c.stamp-stamp.ensures in
    subst (λ n. IsSome (value_held c.args.nodes c.stamp-stamp.new.self.held (id.Bucket c.args.dir n))) (sym c.bucket_of-number.ensures) (bucket_out r)

pub raise_links-requires-clause-held : goal.raise_links-requires-clause-held
raise_links-requires-clause-held c =
    let r = linking c.requires.table c.requires.work c.requires.may c.requires.part c.requires.due c.in_ok-coming.ensures c.stamp-stamp.ensures in
    let puts = subst (λ n. PutsValue c.args.nodes (id.Bucket c.args.dir n)
    (cell.Bucket c.in_ok-coming.coming.bucket) c.stamp-stamp.new.self c.put_bucket.new.core)
    c.bucket_of-number.ensures c.put_bucket.ensures in
    file_there r (cell.Bucket c.in_ok-coming.coming.bucket) c.put_bucket.new.core puts

pub raise_links-requires-clause-links : goal.raise_links-requires-clause-links
raise_links-requires-clause-links c =
    let r = linking c.requires.table c.requires.work c.requires.may c.requires.part c.requires.due c.in_ok-coming.ensures c.stamp-stamp.ensures in
    let puts = subst (λ n. PutsValue c.args.nodes (id.Bucket c.args.dir n)
    (cell.Bucket c.in_ok-coming.coming.bucket) c.stamp-stamp.new.self c.put_bucket.new.core)
    c.bucket_of-number.ensures c.put_bucket.ensures in
    links_few r (cell.Bucket c.in_ok-coming.coming.bucket) c.put_bucket.new.core puts

pub with_entry-requires : goal.with_entry-requires
with_entry-requires c =
    let r = linking c.requires.table c.requires.work c.requires.may c.requires.part c.requires.due c.in_ok-coming.ensures c.stamp-stamp.ensures in
    let change = c.added_row-change.ensures
    ∙ ap (λ n. log_entry c.stamp-stamp.result.0 c.args.dir.0 n c.args.file.0 File Add None [] ∷ []) c.in_ok-coming.ensures.ready.name_is in
    subst (λ l. HasRoomFor l c.in_ok-coming.coming.ready.part.value) (sym change) (has_room r c.calls_are_few.ensures)

pub put_part-requires : goal.put_part-requires
put_part-requires c =
    let r = linking c.requires.table c.requires.work c.requires.may c.requires.part c.requires.due c.in_ok-coming.ensures c.stamp-stamp.ensures in
    let puts = subst (λ n. PutsValue c.args.nodes (id.Bucket c.args.dir n)
    (cell.Bucket c.in_ok-coming.coming.bucket) c.stamp-stamp.new.self c.put_bucket.new.core)
    c.bucket_of-number.ensures c.put_bucket.ensures in
    part_there r (cell.Bucket c.in_ok-coming.coming.bucket) c.put_bucket.new.core puts c.raise_links.new.core c.raise_links.ensures

pub let_go-requires-clause-home : goal.let_go-requires-clause-home
let_go-requires-clause-home c =
    let r = linking c.requires.table c.requires.work c.requires.may c.requires.part c.requires.due c.in_ok-coming.ensures c.stamp-stamp.ensures in
    let puts = subst (λ n. PutsValue c.args.nodes (id.Bucket c.args.dir n)
    (cell.Bucket c.in_ok-coming.coming.bucket) c.stamp-stamp.new.self c.put_bucket.new.core)
    c.bucket_of-number.ensures c.put_bucket.ensures in
    let change = c.added_row-change.ensures
    ∙ ap (λ n. log_entry c.stamp-stamp.result.0 c.args.dir.0 n c.args.file.0 File Add None [] ∷ []) c.in_ok-coming.ensures.ready.name_is in
    let added = subst (λ l. IsAddedTo c.in_ok-coming.coming.ready.part.value.log l c.with_entry.result.value.log) change c.with_entry.ensures.log in
    goes_home r (cell.Bucket c.in_ok-coming.coming.bucket) c.put_bucket.new.core puts c.raise_links.new.core c.raise_links.ensures refl
    c.with_entry.result.value
    c.put_part.ensures.0 c.put_part.ensures.1 added c.with_entry.ensures.made c.put_part.new.core c.put_part.ensures.2

pub returns : goal.returns
returns c =
    let r = linking c.requires.table c.requires.work c.requires.may c.requires.part c.requires.due c.in_ok-coming.ensures c.stamp-stamp.ensures in
    let puts = subst (λ n. PutsValue c.args.nodes (id.Bucket c.args.dir n)
    (cell.Bucket c.in_ok-coming.coming.bucket) c.stamp-stamp.new.self c.put_bucket.new.core)
    c.bucket_of-number.ensures c.put_bucket.ensures in
    let change = c.added_row-change.ensures
    ∙ ap (λ n. log_entry c.stamp-stamp.result.0 c.args.dir.0 n c.args.file.0 File Add None [] ∷ []) c.in_ok-coming.ensures.ready.name_is in
    let added = subst (λ l. IsAddedTo c.in_ok-coming.coming.ready.part.value.log l c.with_entry.result.value.log) change c.with_entry.ensures.log in
    answers r (cell.Bucket c.in_ok-coming.coming.bucket) c.put_bucket.new.core puts c.raise_links.new.core c.raise_links.ensures refl c.with_entry.result.value
    c.put_part.ensures.0 c.put_part.ensures.1 added c.with_entry.ensures.made c.put_part.new.core c.put_part.ensures.2
    c.let_go.new.self c.let_go.ensures.lets_go c.let_go.ensures.left c.let_go.ensures.places
