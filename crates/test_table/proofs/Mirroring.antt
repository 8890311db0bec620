-- The map that lays five cells out from the last to the first.
use Rattle.std.proofs.Common.{◌≡◌, ℕ, zero, suc, ◌-◌, ◌<◌, ◌≤◌, [], ◌∷◌, get_or, refl, arith}
use Rattle.stamp_table.specs.Placing.{IsLaidOut}
use Rattle.stamp_table.specs.Hand.{Hand}
use Rattle.stamp_table.specs.Table.{TableState, AreAllCores, IsSameCore}
use Rattle.stamp_table.proofs.Beginning.{all_again}
use Rattle.test_table.specs.Mirrored.{mirrored}

pub lies_low : (place : ℕ) → place < 5 → 4 - place ≡ mirrored place
lies_low zero lt = refl
lies_low (suc zero) lt = refl
lies_low (suc (suc zero)) lt = refl
lies_low (suc (suc (suc zero))) lt = refl
lies_low (suc (suc (suc (suc zero)))) lt = refl
lies_low (suc (suc (suc (suc (suc place))))) lt = absurd (omega (arith, lt))

pub lies_high : (place : ℕ) → 5 ≤ place → place ≡ mirrored place
lies_high zero le = absurd (omega (arith, le))
lies_high (suc zero) le = absurd (omega (arith, le))
lies_high (suc (suc zero)) le = absurd (omega (arith, le))
lies_high (suc (suc (suc zero))) le = absurd (omega (arith, le))
lies_high (suc (suc (suc (suc zero)))) le = absurd (omega (arith, le))
lies_high (suc (suc (suc (suc (suc place))))) le = refl

within : (place : ℕ) → place < 5 → mirrored place < 5
within zero lt = omega arith
within (suc zero) lt = omega arith
within (suc (suc zero)) lt = omega arith
within (suc (suc (suc zero))) lt = omega arith
within (suc (suc (suc (suc zero)))) lt = omega arith
within (suc (suc (suc (suc (suc place))))) lt = absurd (omega (arith, lt))

-- five cells fill the slots from the last to the first
pub laid_mirrored : IsLaidOut 5 mirrored mirrored 0
laid_mirrored = record { few = omega arith; fills = record { slots = within; places = within } }

-- the only core of a table is still all its cores once it is what it was and holds nothing
pub one_again : {C X G : Type 0} (t : TableState G) (before after : Hand C X G) → IsSameCore before after → after.held ≡ []
    → AreAllCores t (before ∷ []) → AreAllCores t (after ∷ [])
one_again {C} {X} {G} t before after same none all = all_again t (before ∷ []) (after ∷ []) refl at all
  where
    at : (place : ℕ) (d : Hand C X G) → place < 1
        → IsSameCore (get_or (before ∷ []) place d) (get_or (after ∷ []) place d) × ((get_or (after ∷ []) place d).held ≡ [])
    at zero d lt = (same, none)
    at (suc place) d lt = absurd (omega (arith, lt))
