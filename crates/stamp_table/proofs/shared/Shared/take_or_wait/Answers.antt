use Rattle.std.proofs.Common.{rules}
use Rattle.stamp_table.specs.Placing.{by_given, at_slots}
use Rattle.stamp_table.proofs.Asking.{asks_wait, took_or_not}
use Rattle.stamp_table.proofs.shared.Shared.take_or_wait.Goals as goal

pub swap-requires : goal.swap-requires
swap-requires g c = let inv = c.self.invariant in (
  search rules,
  search rules,
  asks_wait (by_given g.M.Meaning.lawful) (at_slots g.M.Meaning.place_at g.M.Meaning.stands) _ _ _ c.args.slot _ _ c.requires.seat.lives c.requires.seat.calls
      (search rules) c.lock_of-lock.ensures,
)

pub returns-clause-takes : goal.returns-clause-takes
returns-clause-takes g c = took_or_not (by_given g.M.Meaning.lawful)
    (at_slots g.M.Meaning.place_at g.M.Meaning.stands) _ c.args.slot _ _ _ c.lock_of-lock.ensures c.swap.ensures.2
