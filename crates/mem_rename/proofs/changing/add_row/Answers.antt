use Rattle.std.proofs.Common.{refl, sym, ap, subst, ◌∙◌, ℕ}
use Rattle.mem_values.specs.declared.cell.Cell.TheVariants as cell
use Rattle.mem_values.specs.declared.cell_id.CellId.TheVariants as id
use Rattle.mem_values.specs.declared.bucket.Bucket.{Bucket}
use Rattle.mem_calls.specs.Held.{value_held, as_bucket, bucket_held}
use Rattle.mem_calls.proofs.Nothing.{some_first}
use Rattle.mem_calls.proofs.Taken.{put_there}
use Rattle.mem_rename.specs.Moving.{with_row, PutsBucket, ShowsThere}
use Rattle.mem_rename.specs.Ready.{bucket_or}
use Rattle.mem_rename.proofs.HeldChanges.{puts_bucket, put_or_same}
use Rattle.mem_rename.proofs.changing.add_row.Goals as goal

pub put_bucket-requires : goal.put_bucket-requires
put_bucket-requires c = put_there c.args.nodes c.args.core.now c.take_bucket-taken.new.core
    (id.Bucket c.args.move_.now.to_directory c.bucket_of-number.result) c.take_bucket-taken.ensures.held.0
    (some_first as_bucket (value_held c.args.nodes c.args.core.now.held (id.Bucket c.args.move_.now.to_directory c.bucket_of-number.result))
    (rw c.bucket_of-number.ensures c.requires.held)) c.take_bucket-taken.ensures.held.1

pub with_row-bucket-requires-clause-there : goal.with_row-bucket-requires-clause-there
with_row-bucket-requires-clause-there c =
    subst (λ (b : Bucket). ShowsThere c.args.move_.now.to_name c.args.shift b)
    (ap (λ (n : ℕ). bucket_or (bucket_held c.args.nodes c.args.core.now.held c.args.move_.now.to_directory n)) (sym c.bucket_of-number.ensures)
    ∙ ap bucket_or c.take_bucket-taken.ensures.bucket) c.requires.there

pub returns-clause-puts : goal.returns-clause-puts
returns-clause-puts c = put_or_same c.args.nodes c.args.move_.now.to_directory _
    (with_row c.args.shift.child_is_directory c.args.move_.now.to_name c.args.shift.child.0) c.args.core.now c.put_bucket.new.core c.with_row-bucket.result.1
    c.take_bucket-taken.result.value c.with_row-bucket.result.0.value
    c.with_row-bucket.ensures.ok c.with_row-bucket.ensures.err
    (λ change is. subst (λ (n : ℕ). PutsBucket c.args.nodes c.args.move_.now.to_directory n change c.args.core.now c.put_bucket.new.core)
    c.bucket_of-number.ensures
    (puts_bucket c.args.nodes c.args.core.now c.take_bucket-taken.new.core c.put_bucket.new.core c.args.move_.now.to_directory c.bucket_of-number.result change
    c.take_bucket-taken.ensures.held.0
    (cell.Bucket c.with_row-bucket.result.0) c.take_bucket-taken.result.value
    c.with_row-bucket.result.0.value c.take_bucket-taken.ensures.bucket refl is c.take_bucket-taken.ensures.held.1 c.put_bucket.ensures))
