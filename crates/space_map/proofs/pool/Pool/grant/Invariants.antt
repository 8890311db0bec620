use Rattle.std.proofs.Common.{◌≡◌, ◌+◌, ◌≤◌, ◌++◌, length}
use Rattle.space_map.specs.declared.status.Status.TheVariants.{Granted}
use Rattle.space_map.specs.Pool.{free_numbers, BecomeAll}
use Rattle.space_map.specs.Groups.{NoneFreeBelow}
use Rattle.space_map.proofs.pool.Pool.grant.Given as goal

abbrev pub invariant-loop : goal.invariant-loop
invariant-loop l = record {
  counted : length l.numbers.items ≡ l.counter;
  room : l.count ≤ l.numbers.spare + l.counter;
  split : free_numbers l.fn.self ≡ l.numbers.items ++ free_numbers l.self;
  passed : NoneFreeBelow l.self.statuses l.from;
  granted : BecomeAll Granted l.numbers.items l.fn.self l.self;
}
