-- Rows after an effect.
use Rattle.std.proofs.Common.{cond, Some, refl, ap, ◌∙◌}
use Rattle.std.specs.FinMap.{remove, get-insert, get-remove}
use Rattle.std.specs.Ordering.{eq_by_cmp}
use Rattle.tree_laws.specs.Order.{key_cmp}
use Rattle.tree_laws.specs.Effect.{Stays, Adds, Removes, Moves, Edits}
use Rattle.tree_laws.specs.Laws.{EffectsAct}
use Rattle.tree_laws.proofs.Joined.{key_cmp_total}

pub effects_act : EffectsAct
effects_act tree core Stays makes d n = refl
effects_act tree core (Adds e m c) makes d n = get-insert key_cmp_total tree.rows (e, m) c (d, n)
effects_act tree core (Removes e m c) makes d n = get-remove key_cmp_total tree.rows (e, m) (d, n)
effects_act tree core (Edits file edit) makes d n = refl
effects_act tree core (Moves p k q m c) makes d n =
    get-insert key_cmp_total (remove tree.rows (p, k)) (q, m) c (d, n)
    ∙ ap (cond (eq_by_cmp key_cmp (d, n) (q, m)) (Some c)) (get-remove key_cmp_total tree.rows (p, k) (d, n))
