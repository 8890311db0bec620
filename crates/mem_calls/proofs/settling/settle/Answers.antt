use Rattle.mem_calls.specs.Creations.{is_own_cell, is_flushed_cell}
use Rattle.mem_calls.proofs.SettledCells.{own_or_flushed, flushed_still, settles_both}
use Rattle.mem_calls.proofs.settling.settle.Goals as goal

pub settle_flushed-requires-clause-held : goal.settle_flushed-requires-clause-held
settle_flushed-requires-clause-held c =
    flushed_still c.args.nodes c.args.dir c.args.core.now c.settle_own.new.core c.settle_own.new.core c.args.child c.args.kind c.requires.new.within
    c.settle_own.ensures c.requires.new.pending

pub returns : goal.returns
returns c =
    settles_both c.args.nodes c.args.dir c.args.core.now c.settle_own.new.core c.settle_flushed.new.core (is_own_cell c.args.child c.args.kind)
    (is_flushed_cell c.args.child) (own_or_flushed c.args.child c.args.kind) c.settle_own.ensures c.settle_flushed.ensures
