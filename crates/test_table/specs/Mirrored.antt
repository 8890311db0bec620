-- A map that lays five cells out from the last to the first.
use Rattle.std.specs.Prelude.{◌≡◌, ℕ, zero, suc, refl}
use Rattle.stamp_table.specs.Placing.{IsOneToOne}

-- where a place lies: five of them from the last to the first, and each further one at its place
abbrev pub mirrored : ℕ → ℕ
mirrored zero = 4
mirrored (suc zero) = 3
mirrored (suc (suc zero)) = 2
mirrored (suc (suc (suc zero))) = 1
mirrored (suc (suc (suc (suc zero)))) = 0
mirrored (suc (suc (suc (suc (suc place))))) = suc (suc (suc (suc (suc place))))

mirrored_back : (place : ℕ) → mirrored (mirrored place) ≡ place
mirrored_back zero = refl
mirrored_back (suc zero) = refl
mirrored_back (suc (suc zero)) = refl
mirrored_back (suc (suc (suc zero))) = refl
mirrored_back (suc (suc (suc (suc zero)))) = refl
mirrored_back (suc (suc (suc (suc (suc place))))) = refl

-- done twice it leaves a place where it is
pub mirrored_twice : IsOneToOne mirrored mirrored
mirrored_twice = record { back = mirrored_back; forth = mirrored_back }
