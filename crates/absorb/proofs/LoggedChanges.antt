-- Logged changes do to rows what the changes do that they erase to.
use Rattle.std.proofs.Common.{◌≡◌, ℕ, cond, List, [], ◌∷◌, refl, ap, ◌∙◌}
use Rattle.std.specs.FinMap.{FinMap, insert, remove}
use Rattle.tree_laws.specs.Order.{name_cmp}
use Rattle.tree_laws.specs.declared.changes.Act.{Act}
use Rattle.tree_laws.specs.declared.changes.Act.TheVariants.{Add, Remove}
use Rattle.tree_laws.specs.Logged.{is_addition}
use Rattle.absorb.specs.Net.{with_act, rows_with_changes}
use Rattle.absorb.specs.Laws.{LogsAreChanges}

one_change : (act : Act) (rows : FinMap name_cmp ℕ) (name : List ℕ) (child : ℕ)
    → with_act act rows name child ≡ cond (is_addition act) (insert rows name child) (remove rows name)
one_change Add rows name child = refl
one_change Remove rows name child = refl

pub logs_are_changes : LogsAreChanges
logs_are_changes rows entry [] = refl
logs_are_changes rows entry (change ∷ changes) =
    ap (λ (r : FinMap name_cmp ℕ). rows_with_changes r changes) (one_change change.act rows change.name change.child.0)
    ∙ logs_are_changes (cond (is_addition change.act) (insert rows change.name change.child.0) (remove rows change.name)) entry changes
