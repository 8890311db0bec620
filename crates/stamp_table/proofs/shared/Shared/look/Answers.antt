use Rattle.std.proofs.Common.{rules}
use Rattle.stamp_table.specs.Placing.{by_given, at_slots}
use Rattle.stamp_table.proofs.Asking.{asks_look}
use Rattle.stamp_table.proofs.shared.Shared.look.Goals as goal

pub load-requires : goal.load-requires
load-requires g c = (
  search rules,
  search rules,
  asks_look (by_given g.M.Meaning.lawful) (at_slots g.M.Meaning.place_at g.M.Meaning.stands) _ _ _ _ c.requires.seat.lives c.requires.seat.calls,
)
