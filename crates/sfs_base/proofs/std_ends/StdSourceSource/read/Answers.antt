use Rattle.std.proofs.Common.{arith}
use Rattle.sfs_base.proofs.Steps.{ends_there}
use Rattle.sfs_base.proofs.std_ends.StdSourceSource.read.Goals as goal

pub returns-in-Moved-clause-end : goal.returns-in-Moved-clause-end
returns-in-Moved-clause-end g c =
    let is = c.outcome_of.ensures.nothing_else_moved c.in-Moved.count c.in-Moved.is in
    let bytes = rw is at c.read.ensures.bytes in
    let within = rw is at c.read.ensures.bound in
    ends_there (g.R.Read.remaining c.args.self.now.inner) _ _ c.in-Moved.count c.read.new.buf c.loop.invariant.keeps bytes.0 bytes.1 within.0 (omega arith)
