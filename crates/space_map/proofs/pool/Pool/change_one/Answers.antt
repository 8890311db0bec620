use Rattle.std.proofs.Common.{◌≡◌, ap, get_or}
use Rattle.space_map.specs.Change.{changed}
use Rattle.space_map.specs.Pool.{Pool}
use Rattle.space_map.proofs.Changes.{Changes-set}
use Rattle.space_map.proofs.pool.Pool.change_one.Goals as goal

pub returns-in-Some : goal.returns-in-Some
returns-in-Some c =
    let same = ap (λ (p : Pool). p.statuses) c.self.view_is in
    let there : c.index.result.now ≡ get_or c.args.self.now.statuses c.in-Some.place c.index.result.now = rw (← same) c.index.ensures in
    Changes-set
    (changed c.args.change) _ _ _ c.in-Some.place c.index.result.now c.of-status.result c.in-Some.ensures.0 c.in-Some.ensures.1 there c.of-status.ensures
    c.set.ensures
