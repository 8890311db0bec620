use Rattle.std.proofs.Common.{length, arith}
use Rattle.mem_values.specs.LineLaws.{lines_laid}
use Rattle.mem_begin.proofs.Cores.{between_made}
use Rattle.mem_begin.proofs.table.make.Goals as goal

pub make-requires-clause-laid : goal.make-requires-clause-laid
make-requires-clause-laid c =
    let all = c.in_ok-cells.ensures.count in lines_laid c.args.nodes (length c.in_ok-cells.cells.items) (omega (arith, all))

pub returns-clause-between : goal.returns-clause-between
returns-clause-between c =
    let made = c.make.ensures in between_made
    (λ cores. cores.items) c.args.cores c.args.tree.now c.make.result c.requires.cores.1 made.first made.count made.cores made.new
