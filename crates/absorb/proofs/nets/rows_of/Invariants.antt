use Rattle.std.proofs.Common.{◌≡◌, ◌++◌, filter_map}
use Rattle.absorb.specs.Last.{lent_row}
use Rattle.absorb.proofs.nets.rows_of.Given as goal

abbrev pub invariant-loop-change : goal.invariant-loop-change
invariant-loop-change l =
    l.net.items ++ filter_map (lent_row l.rows) l.change-iterator ≡ filter_map (lent_row l.rows) l.last.entries
