-- Places that a core holds, the last one first.
use Rattle.std.specs.Prelude.{ℕ, ◌<◌, List, [], ◌∷◌}

-- the first of these places, where there is one, is below this one
abbrev pub LiesAbove : ℕ → List ℕ → Type 0
LiesAbove place [] = Unit {0}
LiesAbove place (next ∷ places) = next < place

-- each place lies above those behind it
abbrev pub Falls : List ℕ → Type 0
Falls [] = Unit {0}
Falls (place ∷ places) = LiesAbove place places × Falls places

-- each of these places lies below a number
abbrev pub AreBelow : ℕ → List ℕ → Type 0
AreBelow end [] = Unit {0}
AreBelow end (place ∷ places) = (place < end) × AreBelow end places

-- each of these places lies above those that come before it, the first above those that are held
abbrev pub RiseAbove : List ℕ → List ℕ → Type 0
RiseAbove held [] = Unit {0}
RiseAbove held (place ∷ places) = LiesAbove place held × RiseAbove (place ∷ held) places
