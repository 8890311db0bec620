-- Lists that ascend by a number of their items.
use Rattle.std.specs.Prelude.{◌≡◌, ℕ, List, [], ◌∷◌, fold, Option, None, Some, AllPairs}
use Rattle.std.specs.Ordering.{nat_cmp, match_ordering}
use Rattle.std.specs.declared.cmp.Ordering.TheVariants.{Less}
use Rattle.tree_laws.specs.Order.{name_cmp}
use Rattle.absorb.specs.declared.nets.NetRow.{NetRow}

-- the rows of a net ascend by their names
abbrev pub NamesAscend : List NetRow → Type 0
NamesAscend net = AllPairs (λ first later. name_cmp first.name later.name ≡ Less) net

-- an item among others, before the first that is above it; it takes the place of one with its number
abbrev pub put_over : {X : Type 0} → (X → ℕ) → X → List X → List X
put_over key item [] = item ∷ []
put_over key item (other ∷ others) =
    match_ordering (nat_cmp (key item) (key other)) (item ∷ other ∷ others) (item ∷ others) (other ∷ put_over key item others)

-- items ascending by a number of theirs; of those with one number the last one stays
abbrev pub ascending_by : {X : Type 0} → (X → ℕ) → List X → List X
ascending_by key items = fold (λ others item. put_over key item others) [] items

-- an item that may be there
abbrev pub put_if : {X : Type 0} → (X → ℕ) → Option X → List X → List X
put_if key None items = items
put_if key (Some item) items = put_over key item items
