use Rattle.stamp_table.specs.Table.{entry_numbered}
use Rattle.stamp_table.proofs.hand.Core.stamp.Given as goal

abbrev pub ghosts-draw : goal.ghosts-draw
ghosts-draw g a = record { entry = entry_numbered a.core.0 a.call.now a.reply.now }
