-- What rows in buckets are seen as.
use Rattle.std.specs.Prelude.{ℕ, refl}
use Rattle.std.specs.Coded.{Coded, code_by, coded×, coded_ℕ, coded_list}
use Rattle.std.specs.FinMap.{FinMap, code}
use Rattle.tree_laws.specs.Order.{key_cmp}

-- the rows, and for how many directories there are buckets
pub record RowsState : Type 0 where
  pub rows : FinMap key_cmp ℕ
  pub places : ℕ

-- how they are stored
abbrev pub rows_code : Coded RowsState
rows_code =
    code_by (FinMap key_cmp ℕ × ℕ) (coded× (code (coded× coded_ℕ (coded_list coded_ℕ)) coded_ℕ) coded_ℕ) (λ s. (s.rows, s.places))
    (λ p. record { rows = p.0; places = p.1 }) (λ _. refl)
