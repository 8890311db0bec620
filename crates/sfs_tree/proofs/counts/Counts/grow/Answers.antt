use Rattle.std.proofs.Common.{[], ◌∷◌, ◌++◌, refl, ap, ◌∙◌}
use Rattle.sfs_tree.proofs.Counted.{IsCounted-longer}
use Rattle.sfs_tree.proofs.counts.Counts.grow.Goals as goal

pub returns-clause-counted : goal.returns-clause-counted
returns-clause-counted c =
    IsCounted-longer c.args.self.now _ (record {
      named = c.push_reserved.ensures.items ∙ ap (λ ns. ns ++ 0 ∷ []) c.in_ok-reserve.ensures.items;
      inside = c.push_reserved-2.ensures.items ∙ ap (λ ns. ns ++ 0 ∷ []) c.in_ok-reserve-2.ensures.items;
      directories = c.push_reserved-3.ensures.items ∙ ap (λ ns. ns ++ 0 ∷ []) c.in_ok-reserve-3.ensures.items;
      holders = c.push_reserved-4.ensures.items ∙ ap (λ ns. ns ++ 0 ∷ []) c.in_ok-reserve-4.ensures.items;
      total = refl;
    })
