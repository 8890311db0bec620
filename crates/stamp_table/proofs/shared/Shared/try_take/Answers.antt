use Rattle.std.proofs.Common.{rules}
use Rattle.stamp_table.specs.Placing.{by_given, at_slots}
use Rattle.stamp_table.proofs.Asking.{asks_take, took_or_not}
use Rattle.stamp_table.proofs.shared.Shared.try_take.Goals as goal

pub compare_exchange-requires : goal.compare_exchange-requires
compare_exchange-requires g c = let inv = c.self.invariant in (
  search rules,
  search rules,
  asks_take (by_given g.M.Meaning.lawful) (at_slots g.M.Meaning.place_at g.M.Meaning.stands) _ _ _ c.args.slot _ _ c.requires.seat.lives c.requires.seat.calls
      (search rules) c.lock_of-lock.ensures,
)

pub returns-clause-takes : goal.returns-clause-takes
returns-clause-takes g c = took_or_not (by_given g.M.Meaning.lawful)
    (at_slots g.M.Meaning.place_at g.M.Meaning.stands) _ c.args.slot _ _ _ c.lock_of-lock.ensures c.compare_exchange.ensures.2
