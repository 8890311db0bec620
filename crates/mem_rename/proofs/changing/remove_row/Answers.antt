use Rattle.std.proofs.Common.{refl, subst, ℕ}
use Rattle.mem_values.specs.declared.cell.Cell.TheVariants as cell
use Rattle.mem_values.specs.declared.cell_id.CellId.TheVariants as id
use Rattle.mem_calls.specs.Held.{value_held, as_bucket}
use Rattle.mem_calls.proofs.Nothing.{some_first}
use Rattle.mem_calls.proofs.Taken.{put_there}
use Rattle.mem_rename.specs.Moving.{without_row, PutsBucket}
use Rattle.mem_rename.proofs.HeldChanges.{puts_bucket}
use Rattle.mem_rename.proofs.changing.remove_row.Goals as goal

pub put_bucket-requires : goal.put_bucket-requires
put_bucket-requires c = put_there c.args.nodes c.args.core.now c.take_bucket.new.core
    (id.Bucket c.args.move_.now.directory c.bucket_of-number.result) c.take_bucket.ensures.held.0
    (some_first as_bucket (value_held c.args.nodes c.args.core.now.held (id.Bucket c.args.move_.now.directory c.bucket_of-number.result))
    (rw c.bucket_of-number.ensures c.requires)) c.take_bucket.ensures.held.1

pub returns : goal.returns
returns c = subst (λ (n : ℕ). PutsBucket c.args.nodes c.args.move_.now.directory n
    (without_row c.args.move_.now.name) c.args.core.now c.put_bucket.new.core) c.bucket_of-number.ensures
    (puts_bucket c.args.nodes c.args.core.now c.take_bucket.new.core c.put_bucket.new.core c.args.move_.now.directory c.bucket_of-number.result
    (without_row c.args.move_.now.name) c.take_bucket.ensures.held.0 (cell.Bucket c.without_row-bucket.result) c.take_bucket.result.value
    c.without_row-bucket.result.value c.take_bucket.ensures.bucket refl c.without_row-bucket.ensures c.take_bucket.ensures.held.1 c.put_bucket.ensures)
