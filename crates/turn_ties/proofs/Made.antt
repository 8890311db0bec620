-- What an fsync makes that has a plan, and what there is behind its commit, is what the turns say.
use Rattle.std.proofs.Common.{refl}
use Rattle.turn_ties.specs.Laws.{PlansAreMade, RestsGoOn}

pub plans_are_made : PlansAreMade
plans_are_made volume used planning is = record {
  concerned = is.plans.concerns;
  raises = is.raises;
  inodes_after = is.inodes_after;
  each_net = is.plans.nets.each;
}

pub rests_go_on : RestsGoOn
rests_go_on volume used one later commit = refl
