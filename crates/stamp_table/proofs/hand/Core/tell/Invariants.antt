use Rattle.std.proofs.Common.{Some}
use Rattle.stamp_table.proofs.hand.Core.tell.Given as goal

abbrev pub ghosts-tell_by : goal.ghosts-tell_by
ghosts-tell_by g a = record { fact = Some a.fact.now }
