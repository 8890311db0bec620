use Rattle.std.proofs.Common.{refl}
use Rattle.mem_values.specs.declared.cell.Cell.TheVariants as cell
use Rattle.mem_values.specs.declared.cell_id.CellId.TheVariants as id
use Rattle.mem_calls.specs.Held.{value_held, as_file}
use Rattle.mem_calls.proofs.Nothing.{some_first}
use Rattle.mem_calls.proofs.Taken.{put_there, put_twice}
use Rattle.mem_calls.proofs.rows.raise_links.Goals as goal

pub put-requires : goal.put-requires
put-requires c = put_there c.args.nodes c.args.core.now c.take_file.new.core (id.File c.args.node) c.take_file.ensures.held.0
    (some_first as_file (value_held c.args.nodes c.args.core.now.held (id.File c.args.node)) c.requires.held) c.take_file.ensures.held.1

pub returns : goal.returns
returns c = record {
  change = record {
    old = c.take_file.result.value;
    was = c.take_file.ensures.file;
    value = cell.File c.linked-file.result;
    new = c.linked-file.result.value;
    is = refl;
    puts = put_twice c.args.nodes c.args.core.now c.take_file.new.core c.put.new.core (id.File c.args.node) c.take_file.ensures.held.0
        (cell.File c.linked-file.result) c.take_file.ensures.held.1 c.put.ensures;
  };
  links = c.linked-file.ensures.links;
  file = c.linked-file.ensures.file;
}
