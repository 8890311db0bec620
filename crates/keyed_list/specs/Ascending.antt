-- Lists that ascend by a number of their items.
use Rattle.std.specs.Prelude.{◌≡◌, ℕ, ◌<◌, ◌==◌, nat_lt, List, [], ◌∷◌, Option, AllPairs, if◌then◌else◌}
use Rattle.std.specs.List.{find}

-- items ascend by a number of theirs, and so each number stands once
abbrev pub AscendBy : {X : Type 0} → (X → ℕ) → List X → Type 0
AscendBy key items = AllPairs (λ first later. key first < key later) items

-- the item with a number, where there is one
abbrev pub item_with : {X : Type 0} → (X → ℕ) → ℕ → List X → Option X
item_with key number items = find (λ item. key item == number) items

-- an item among others, before the first that is above it
abbrev pub put_in : {X : Type 0} → (X → ℕ) → X → List X → List X
put_in key item [] = item ∷ []
put_in key item (other ∷ others) = if nat_lt (key item) (key other) then item ∷ other ∷ others else other ∷ put_in key item others

-- the others than that with a number
abbrev pub without : {X : Type 0} → (X → ℕ) → ℕ → List X → List X
without key number [] = []
without key number (item ∷ items) = if key item == number then items else item ∷ without key number items
