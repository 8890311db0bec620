use Rattle.std.proofs.Common.{refl}
use Rattle.mem_values.specs.declared.cell.Cell.TheVariants as cell
use Rattle.mem_values.specs.declared.cell_id.CellId.TheVariants as id
use Rattle.mem_calls.specs.Held.{value_held, as_file}
use Rattle.mem_calls.proofs.Nothing.{some_first}
use Rattle.mem_calls.proofs.Taken.{put_there}
use Rattle.mem_rename.specs.Moving.{less_one}
use Rattle.mem_rename.proofs.HeldChanges.{puts_file}
use Rattle.mem_rename.proofs.changing.lower_links.Goals as goal

pub put-requires : goal.put-requires
put-requires c = put_there c.args.nodes c.args.core.now c.take_file.new.core (id.File c.args.node) c.take_file.ensures.held.0
    (some_first as_file (value_held c.args.nodes c.args.core.now.held (id.File c.args.node)) c.requires) c.take_file.ensures.held.1

pub returns : goal.returns
returns c = puts_file c.args.nodes c.args.core.now c.take_file.new.core c.put.new.core c.args.node less_one c.take_file.ensures.held.0
    (cell.File c.less_one-file.result) c.take_file.result.value c.less_one-file.result.value
    c.take_file.ensures.file refl c.less_one-file.ensures c.take_file.ensures.held.1 c.put.ensures
