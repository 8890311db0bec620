use Rattle.std.proofs.Common.{rules}
use Rattle.stamp_table.specs.Placing.{by_given, at_slots}
use Rattle.stamp_table.proofs.Asking.{asks_tell_picked}
use Rattle.stamp_table.proofs.shared.Shared.tell.Goals as goal

pub load-requires : goal.load-requires
load-requires g c = (
  search rules,
  search rules,
  asks_tell_picked (by_given g.M.Meaning.lawful)
      (at_slots g.M.Meaning.place_at g.M.Meaning.stands) _ _ _ _ g.J.Telling.fact c.requires.may.0 c.requires.seat.lives c.requires.seat.calls
      c.requires.may.1 c.requires.may.2,
)

pub returns-clause-adds : goal.returns-clause-adds
returns-clause-adds g c fact picked = (c.load.result, c.load.ensures.2 fact picked)
