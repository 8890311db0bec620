use Rattle.std.proofs.Common.{◌*◌, ◌≤◌, length, sym, arith}
use Rattle.space_map.proofs.First.{first_in_group, position_none}
use Rattle.space_map.proofs.pool.next_free.Goals as goal

pub returns-in-Some-clause-first : goal.returns-in-Some-clause-first
returns-in-Some-clause-first c =
    let found = c.in-Some.ensures in
    sym (first_in_group c.args.statuses.now c.loop-group.group c.in-Some.place found.some.0 found.some.1 found.first c.loop-group.invariant.passed)

pub returns-clause-first : goal.returns-clause-first
returns-clause-first c =
    let all : length c.args.statuses.now ≤ 64 * c.loop-group.group = omega (arith, c.requires.groups, c.loop-group.invariant.groups) in
    sym (position_none c.args.statuses.now (64 * c.loop-group.group) all c.loop-group.invariant.passed)
