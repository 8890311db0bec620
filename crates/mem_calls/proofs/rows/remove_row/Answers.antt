use Rattle.std.proofs.Common.{refl}
use Rattle.mem_values.specs.declared.cell.Cell.TheVariants as cell
use Rattle.mem_values.specs.declared.cell_id.CellId.TheVariants as id
use Rattle.mem_calls.specs.Held.{value_held, as_bucket}
use Rattle.mem_calls.proofs.Nothing.{some_first}
use Rattle.mem_calls.proofs.Taken.{put_there, put_twice}
use Rattle.mem_calls.proofs.rows.remove_row.Goals as goal

pub put-requires : goal.put-requires
put-requires c = put_there c.args.nodes c.args.core.now c.take_bucket.new.core (id.Bucket c.args.dir c.args.number) c.take_bucket.ensures.held.0
    (some_first as_bucket (value_held c.args.nodes c.args.core.now.held (id.Bucket c.args.dir c.args.number)) c.requires.held) c.take_bucket.ensures.held.1

pub returns : goal.returns
returns c = record {
  change = record {
    old = c.take_bucket.result.value;
    was = c.take_bucket.ensures.bucket;
    value = cell.Bucket c.without_row-bucket.result;
    new = c.without_row-bucket.result.value;
    is = refl;
    puts = put_twice c.args.nodes c.args.core.now c.take_bucket.new.core c.put.new.core (id.Bucket c.args.dir c.args.number) c.take_bucket.ensures.held.0
        (cell.Bucket c.without_row-bucket.result) c.take_bucket.ensures.held.1 c.put.ensures;
  };
  row = c.without_row-bucket.ensures;
}
