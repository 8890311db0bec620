use Rattle.std.proofs.Common.{refl}
use Rattle.mem_values.specs.declared.cell.Cell.TheVariants as cell
use Rattle.mem_values.specs.declared.cell_id.CellId.TheVariants as id
use Rattle.mem_calls.specs.Held.{value_held, as_pending}
use Rattle.mem_calls.proofs.Nothing.{some_first}
use Rattle.mem_calls.proofs.Taken.{put_there, put_twice}
use Rattle.mem_calls.proofs.SettledCells.{settles_pending}
use Rattle.mem_calls.proofs.settling.settle_flushed.Goals as goal

pub put-requires : goal.put-requires
put-requires c = put_there c.args.nodes c.args.core.now c.take_pending.new.core (id.Pending c.args.child) c.take_pending.ensures.held.0
    (some_first as_pending (value_held c.args.nodes c.args.core.now.held (id.Pending c.args.child)) c.requires.held) c.take_pending.ensures.held.1

pub returns : goal.returns
returns c = settles_pending c.args.nodes c.args.dir c.args.core.now c.put.new.core c.args.child c.take_pending.result.value c.made_in-pending.result.value
    (cell.Pending c.made_in-pending.result)
    c.requires.within c.take_pending.ensures.pending refl c.made_in-pending.ensures
    (put_twice c.args.nodes c.args.core.now c.take_pending.new.core c.put.new.core (id.Pending c.args.child) c.take_pending.ensures.held.0
    (cell.Pending c.made_in-pending.result)
    c.take_pending.ensures.held.1 c.put.ensures)
