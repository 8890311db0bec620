use Rattle.std.proofs.Common.{◌∙◌, sym, ap, ◌∷◌, [], length, length-append, arith}
use Rattle.space_map.specs.declared.status.Status.TheVariants.{Taken}
use Rattle.std.proofs.lemmas.List.Quantifiers.{position-Some}
use Rattle.space_map.proofs.Changes.{grants_more}
use Rattle.space_map.proofs.Free.{free_numbers-more, none_free-more, some_left}
use Rattle.space_map.proofs.Order.{Grants-least}
use Rattle.space_map.proofs.pool.Pool.grant.Goals as goal

pub loop-preserved : goal.loop-preserved
loop-preserved c =
    let kept = c.loop.invariant in
    let found = sym c.in-Some.ensures.first in
    let granted = c.in-Some.ensures.granted in
    let number = c.number_at.ensures in
    record {
      counted = ap length c.push.ensures.items ∙ omega (arith, length-append c.loop.numbers.items (c.number_at.result ∷ []), kept.counted);
      room = omega (arith, c.push.ensures.spare);
      split =
          rw c.push.ensures.items
          (free_numbers-more c.loop.numbers.items c.args.self.now c.loop.self c.grant_next.new.self _ c.in-Some.place found granted number kept.split);
      passed = rw granted (none_free-more _ _ found);
      granted =
          rw c.push.ensures.items
          (grants_more c.loop.numbers.items c.args.self.now c.loop.self c.grant_next.new.self _ c.in-Some.place
          (position-Some _ _ _ Taken found).0 granted number kept.granted);
    }

pub unreachable-requires : goal.unreachable-requires
unreachable-requires c =
    some_left c.loop.numbers.items c.args.self.now c.loop.self c.loop.invariant.split (omega (arith, c.loop.invariant.counted, c.requires.enough))
    (sym c.in-None.ensures.first)

pub returns-clause-grants : goal.returns-clause-grants
returns-clause-grants c =
    let kept = c.loop.invariant in
    Grants-least c.args.self.now c.loop.self c.args.count c.loop.numbers.items (omega (arith, kept.counted)) kept.split kept.granted
