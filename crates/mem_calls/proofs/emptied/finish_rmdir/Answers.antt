use Rattle.std.proofs.Common.{◌+◌, ◌*◌, ℕ, [], ◌∷◌, None, refl, sym, ap, subst, ◌∙◌, IsSome}
use Rattle.std.specs.FinMap.{get}
use Rattle.sfs_base.specs.declared.numbers.Kind.TheVariants.{Directory}
use Rattle.tree_laws.specs.declared.changes.Act.TheVariants.{Remove}
use Rattle.tree_laws.specs.declared.call.Call.TheVariants as call
use Rattle.tree_laws.specs.declared.reply.Reply.TheVariants as reply
use Rattle.tree_laws.specs.Effect.{Removes}
use Rattle.tree_laws.specs.Logged.{log_entry}
use Rattle.tree_laws.specs.Verdict.{done}
use Rattle.mem_cells.specs.Part.{IsAddedTo}
use Rattle.stamp_table.specs.Table.{MayCall, with_value}
use Rattle.mem_values.specs.Start.{FileHand, given_by}
use Rattle.mem_values.specs.declared.cell_id.CellId.TheVariants as id
use Rattle.mem_values.specs.Stands.{StandsAt}
use Rattle.mem_values.specs.Facts.{IsLawfulLog}
use Rattle.mem_calls.specs.Held.{value_held, bucket_held}
use Rattle.mem_calls.specs.Parts.{HasRoomFor}
use Rattle.mem_calls.specs.Changes.{RemovesRow}
use Rattle.mem_calls.proofs.Stamped.{may_come}
use Rattle.mem_calls.proofs.Ended.{Removal, keeps, bucket_there, row_there, buckets_there, has_room, core_three, part_there, goes_home, answers}
use Rattle.mem_calls.proofs.emptied.finish_rmdir.Goals as goal

pub stamp-stamp-requires-clause-may : goal.stamp-stamp-requires-clause-may
stamp-stamp-requires-clause-may c =
    subst (λ (h : FileHand). MayCall (IsLawfulLog (given_by c.args.shared.now)) (StandsAt (given_by c.args.shared.now)) h.view
    (call.Rmdir c.args.dir c.args.name) reply.Ok)
    (sym c.in_ok-ready.ensures.out.1)
    (may_come (given_by c.args.shared.now) c.args.shared.now c.args.nodes c.args.core.now c.requires.table c.requires.work (call.Rmdir c.args.dir c.args.name)
    (done (Removes c.args.dir.0 c.args.name c.args.child.0)) refl c.requires.due
    (keeps (given_by c.args.shared.now) c.args.shared.now c.args.nodes c.args.core.now c.requires.table c.requires.work c.args.dir c.args.name c.args.child
    c.requires.names
    c.requires.held.0 c.requires.held.1 c.requires.part c.requires.due))

pub remove_row-requires-clause-held : goal.remove_row-requires-clause-held
remove_row-requires-clause-held c =
    let r : Removal (given_by c.args.shared.now) c.args.shared.now c.args.nodes c.args.core.now c.args.dir c.args.name c.args.child c.in_ok-ready.ready
    c.make_ready.new.core
    c.stamp-stamp.result.0 c.stamp-stamp.new.self =
    record {
      table = c.requires.table;
      work = c.requires.work;
      names = c.requires.names;
      within = c.requires.held.0;
      buckets = c.requires.held.1;
      part = c.requires.part;
      due = c.requires.due;
      is_ready = c.in_ok-ready.ensures;
      drawn = c.stamp-stamp.ensures;
    } in
    subst (λ n. IsSome (bucket_held c.args.nodes c.stamp-stamp.new.self.held c.args.dir n)) (sym c.bucket_of-number.ensures)
    (bucket_there (given_by c.args.shared.now) c.args.shared.now c.args.nodes c.args.core.now c.args.dir c.args.name c.args.child c.in_ok-ready.ready
    c.make_ready.new.core
    c.stamp-stamp.result.0 c.stamp-stamp.new.self r)

pub remove_row-requires-clause-row : goal.remove_row-requires-clause-row
remove_row-requires-clause-row c = λ b is.
    let r : Removal (given_by c.args.shared.now) c.args.shared.now c.args.nodes c.args.core.now c.args.dir c.args.name c.args.child c.in_ok-ready.ready
    c.make_ready.new.core
    c.stamp-stamp.result.0 c.stamp-stamp.new.self =
    record {
      table = c.requires.table;
      work = c.requires.work;
      names = c.requires.names;
      within = c.requires.held.0;
      buckets = c.requires.held.1;
      part = c.requires.part;
      due = c.requires.due;
      is_ready = c.in_ok-ready.ensures;
      drawn = c.stamp-stamp.ensures;
    } in
    subst (λ n. IsSome (get b.rows n)) (sym c.in_ok-ready.ensures.name_is)
    (row_there (given_by c.args.shared.now) c.args.shared.now c.args.nodes c.args.core.now c.args.dir c.args.name c.args.child c.in_ok-ready.ready
    c.make_ready.new.core
    c.stamp-stamp.result.0 c.stamp-stamp.new.self r b
    (ap (λ n. bucket_held c.args.nodes c.stamp-stamp.new.self.held c.args.dir n) (sym c.bucket_of-number.ensures) ∙ is))

pub place_directory-requires : goal.place_directory-requires
place_directory-requires c =
    let r : Removal (given_by c.args.shared.now) c.args.shared.now c.args.nodes c.args.core.now c.args.dir c.args.name c.args.child c.in_ok-ready.ready
    c.make_ready.new.core
    c.stamp-stamp.result.0 c.stamp-stamp.new.self =
    record {
      table = c.requires.table;
      work = c.requires.work;
      names = c.requires.names;
      within = c.requires.held.0;
      buckets = c.requires.held.1;
      part = c.requires.part;
      due = c.requires.due;
      is_ready = c.in_ok-ready.ensures;
      drawn = c.stamp-stamp.ensures;
    } in
    let gone = subst (λ n. RemovesRow c.args.nodes c.args.dir n c.args.name c.stamp-stamp.new.self c.remove_row.new.core) c.bucket_of-number.ensures
    (subst
    (λ n. RemovesRow c.args.nodes c.args.dir c.bucket_of-number.result n c.stamp-stamp.new.self c.remove_row.new.core) c.in_ok-ready.ensures.name_is
    c.remove_row.ensures) in
    buckets_there (given_by c.args.shared.now) c.args.shared.now c.args.nodes c.args.core.now c.args.dir c.args.name c.args.child c.in_ok-ready.ready
    c.make_ready.new.core
    c.stamp-stamp.result.0 c.stamp-stamp.new.self r c.remove_row.new.core gone

pub with_entry-requires : goal.with_entry-requires
with_entry-requires c =
    let r : Removal (given_by c.args.shared.now) c.args.shared.now c.args.nodes c.args.core.now c.args.dir c.args.name c.args.child c.in_ok-ready.ready
    c.make_ready.new.core
    c.stamp-stamp.result.0 c.stamp-stamp.new.self =
    record {
      table = c.requires.table;
      work = c.requires.work;
      names = c.requires.names;
      within = c.requires.held.0;
      buckets = c.requires.held.1;
      part = c.requires.part;
      due = c.requires.due;
      is_ready = c.in_ok-ready.ensures;
      drawn = c.stamp-stamp.ensures;
    } in
    let change = c.removed_row-change.ensures
    ∙ ap (λ n. log_entry c.stamp-stamp.result.0 c.args.dir.0 n c.args.child.0 Directory Remove None [] ∷ []) c.in_ok-ready.ensures.name_is in
    subst (λ l. HasRoomFor l c.in_ok-ready.ready.part.value) (sym change)
    (has_room (given_by c.args.shared.now) c.args.shared.now c.args.nodes c.args.core.now c.args.dir c.args.name c.args.child c.in_ok-ready.ready
    c.make_ready.new.core
    c.stamp-stamp.result.0 c.stamp-stamp.new.self r c.calls_are_few.ensures)

pub put_part-requires : goal.put_part-requires
put_part-requires c =
    let r : Removal (given_by c.args.shared.now) c.args.shared.now c.args.nodes c.args.core.now c.args.dir c.args.name c.args.child c.in_ok-ready.ready
    c.make_ready.new.core
    c.stamp-stamp.result.0 c.stamp-stamp.new.self =
    record {
      table = c.requires.table;
      work = c.requires.work;
      names = c.requires.names;
      within = c.requires.held.0;
      buckets = c.requires.held.1;
      part = c.requires.part;
      due = c.requires.due;
      is_ready = c.in_ok-ready.ensures;
      drawn = c.stamp-stamp.ensures;
    } in
    let gone = subst (λ n. RemovesRow c.args.nodes c.args.dir n c.args.name c.stamp-stamp.new.self c.remove_row.new.core) c.bucket_of-number.ensures
    (subst
    (λ n. RemovesRow c.args.nodes c.args.dir c.bucket_of-number.result n c.stamp-stamp.new.self c.remove_row.new.core) c.in_ok-ready.ensures.name_is
    c.remove_row.ensures) in
    subst (λ (n : ℕ). IsSome (value_held c.args.nodes c.place_directory.new.core.held (id.Part (record { 0 = n }))))
    (sym
    (core_three (given_by c.args.shared.now) c.args.shared.now c.args.nodes c.args.core.now c.args.dir c.args.name c.args.child c.in_ok-ready.ready
    c.make_ready.new.core
    c.stamp-stamp.result.0 c.stamp-stamp.new.self r c.remove_row.new.core gone c.place_directory.new.core c.place_directory.ensures))
    (part_there (given_by c.args.shared.now) c.args.shared.now c.args.nodes c.args.core.now c.args.dir c.args.name c.args.child c.in_ok-ready.ready
    c.make_ready.new.core
    c.stamp-stamp.result.0 c.stamp-stamp.new.self r c.remove_row.new.core gone c.place_directory.new.core c.place_directory.ensures)

pub let_go-requires-clause-home : goal.let_go-requires-clause-home
let_go-requires-clause-home c =
    let r : Removal (given_by c.args.shared.now) c.args.shared.now c.args.nodes c.args.core.now c.args.dir c.args.name c.args.child c.in_ok-ready.ready
    c.make_ready.new.core
    c.stamp-stamp.result.0 c.stamp-stamp.new.self =
    record {
      table = c.requires.table;
      work = c.requires.work;
      names = c.requires.names;
      within = c.requires.held.0;
      buckets = c.requires.held.1;
      part = c.requires.part;
      due = c.requires.due;
      is_ready = c.in_ok-ready.ensures;
      drawn = c.stamp-stamp.ensures;
    } in
    let gone = subst (λ n. RemovesRow c.args.nodes c.args.dir n c.args.name c.stamp-stamp.new.self c.remove_row.new.core) c.bucket_of-number.ensures
    (subst
    (λ n. RemovesRow c.args.nodes c.args.dir c.bucket_of-number.result n c.stamp-stamp.new.self c.remove_row.new.core) c.in_ok-ready.ensures.name_is
    c.remove_row.ensures) in
    let change = c.removed_row-change.ensures
    ∙ ap (λ n. log_entry c.stamp-stamp.result.0 c.args.dir.0 n c.args.child.0 Directory Remove None [] ∷ []) c.in_ok-ready.ensures.name_is in
    let added = subst (λ l. IsAddedTo c.in_ok-ready.ready.part.value.log l c.with_entry.result.value.log) change c.with_entry.ensures.log in
    let puts = c.put_part.ensures.2
    ∙ ap (λ (n : ℕ). record c.place_directory.new.core
    { held = with_value (32 + 10 * c.args.nodes + 16 * n) c.put_part.ensures.0 c.place_directory.new.core.held })
    (core_three (given_by c.args.shared.now) c.args.shared.now c.args.nodes c.args.core.now c.args.dir c.args.name c.args.child c.in_ok-ready.ready
    c.make_ready.new.core
    c.stamp-stamp.result.0 c.stamp-stamp.new.self r c.remove_row.new.core gone c.place_directory.new.core c.place_directory.ensures) in
    goes_home (given_by c.args.shared.now) c.args.shared.now c.args.nodes c.args.core.now c.args.dir c.args.name c.args.child c.in_ok-ready.ready
    c.make_ready.new.core
    c.stamp-stamp.result.0 c.stamp-stamp.new.self r c.remove_row.new.core gone c.place_directory.new.core c.place_directory.ensures
    c.with_entry.result.value c.put_part.ensures.0 c.put_part.ensures.1 added c.with_entry.ensures.made c.put_part.new.core puts

pub returns : goal.returns
returns c =
    let r : Removal (given_by c.args.shared.now) c.args.shared.now c.args.nodes c.args.core.now c.args.dir c.args.name c.args.child c.in_ok-ready.ready
    c.make_ready.new.core
    c.stamp-stamp.result.0 c.stamp-stamp.new.self =
    record {
      table = c.requires.table;
      work = c.requires.work;
      names = c.requires.names;
      within = c.requires.held.0;
      buckets = c.requires.held.1;
      part = c.requires.part;
      due = c.requires.due;
      is_ready = c.in_ok-ready.ensures;
      drawn = c.stamp-stamp.ensures;
    } in
    let gone = subst (λ n. RemovesRow c.args.nodes c.args.dir n c.args.name c.stamp-stamp.new.self c.remove_row.new.core) c.bucket_of-number.ensures
    (subst
    (λ n. RemovesRow c.args.nodes c.args.dir c.bucket_of-number.result n c.stamp-stamp.new.self c.remove_row.new.core) c.in_ok-ready.ensures.name_is
    c.remove_row.ensures) in
    let change = c.removed_row-change.ensures
    ∙ ap (λ n. log_entry c.stamp-stamp.result.0 c.args.dir.0 n c.args.child.0 Directory Remove None [] ∷ []) c.in_ok-ready.ensures.name_is in
    let added = subst (λ l. IsAddedTo c.in_ok-ready.ready.part.value.log l c.with_entry.result.value.log) change c.with_entry.ensures.log in
    let puts = c.put_part.ensures.2
    ∙ ap (λ (n : ℕ). record c.place_directory.new.core
    { held = with_value (32 + 10 * c.args.nodes + 16 * n) c.put_part.ensures.0 c.place_directory.new.core.held })
    (core_three (given_by c.args.shared.now) c.args.shared.now c.args.nodes c.args.core.now c.args.dir c.args.name c.args.child c.in_ok-ready.ready
    c.make_ready.new.core
    c.stamp-stamp.result.0 c.stamp-stamp.new.self r c.remove_row.new.core gone c.place_directory.new.core c.place_directory.ensures) in
    answers (given_by c.args.shared.now) c.args.shared.now c.args.nodes c.args.core.now c.args.dir c.args.name c.args.child c.in_ok-ready.ready
    c.make_ready.new.core
    c.stamp-stamp.result.0 c.stamp-stamp.new.self r c.remove_row.new.core gone c.place_directory.new.core c.place_directory.ensures
    c.with_entry.result.value c.put_part.ensures.0 c.put_part.ensures.1 added c.with_entry.ensures.made c.put_part.new.core puts c.let_go.new.self
    c.let_go.ensures.lets_go c.let_go.ensures.left c.let_go.ensures.places
