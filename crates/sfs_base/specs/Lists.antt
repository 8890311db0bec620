-- What a contract sees of a list with room.
use Rattle.std.specs.Prelude.{ℕ, List, refl}
use Rattle.std.specs.Coded.{Coded, code_by, coded×, coded_ℕ, coded_list}

-- the items in order, and how many more can be pushed without memory
pub record Roomy (T : Type 0) : Type 0 where
  pub items : List T
  pub spare : ℕ

-- a list with room is stored as the pair of its fields
abbrev pub roomy_code : {T : Type 0} → Coded T → Coded (Roomy T)
roomy_code {T} code =
    code_by (List T × ℕ) (coded× (coded_list code) coded_ℕ) (λ list. (list.items, list.spare))
    (λ p. record { items = p.0; spare = p.1 }) (λ _. refl)
