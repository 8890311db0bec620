use Rattle.std.proofs.Common.{refl}
use Rattle.mem_values.specs.declared.cell.Cell.TheVariants as cell
use Rattle.mem_values.specs.declared.cell_id.CellId.TheVariants as id
use Rattle.mem_calls.specs.Held.{value_held, as_bucket}
use Rattle.mem_calls.proofs.Nothing.{some_first}
use Rattle.mem_calls.proofs.Taken.{put_there, put_twice}
use Rattle.mem_calls.proofs.standing.place_bucket.Goals as goal

pub put_bucket-requires : goal.put_bucket-requires
put_bucket-requires c = put_there c.args.nodes c.args.core.now c.take_bucket.new.core (id.Bucket c.args.node c.args.number) c.take_bucket.ensures.held.0
    (some_first as_bucket (value_held c.args.nodes c.args.core.now.held (id.Bucket c.args.node c.args.number)) c.requires) c.take_bucket.ensures.held.1

pub returns : goal.returns
returns c = record {
  change = record {
    old = c.take_bucket.result.value;
    was = c.take_bucket.ensures.bucket;
    value = cell.Bucket c.placed-bucket.result;
    new = c.placed-bucket.result.value;
    is = refl;
    puts = put_twice c.args.nodes c.args.core.now c.take_bucket.new.core c.put_bucket.new.core
        (id.Bucket c.args.node c.args.number) c.take_bucket.ensures.held.0
        (cell.Bucket c.placed-bucket.result) c.take_bucket.ensures.held.1 c.put_bucket.ensures;
  };
  placed = c.placed-bucket.ensures;
}
