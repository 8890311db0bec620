use Rattle.std.proofs.Common.{arith}
use Rattle.mem_files.proofs.Fresh.{piece_is}
use Rattle.mem_files.proofs.pages.piece_in.Goals as goal

pub returns-clause-piece : goal.returns-clause-piece
returns-clause-piece c =
    piece_is c.args.at c.args.block c.min-low.result c.min-skip.result c.max-3.result c.args.from.now
    (omega (arith, c.max.ensures, c.min-low.ensures)) (omega (arith, c.saturating_sub.ensures, c.min-skip.ensures))
    (omega (arith, c.max-2.ensures, c.min-high.ensures, c.saturating_sub-2.ensures, c.min-stop.ensures, c.max-3.ensures))
