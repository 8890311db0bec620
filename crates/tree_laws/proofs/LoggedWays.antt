-- What the changes that an entry logs tell of the directories above their own.
use Rattle.std.proofs.Common.{◌≡◌, ℕ, Bool, true, false, not, ◌&&◌, List, [], ◌∷◌, ◌++◌, map, Option, None, Some, is_some, option_map, if◌then◌else◌, refl, sym, ap, ◌∙◌, nat_eq}
use Rattle.std.specs.FinMap.{len}
use Rattle.std.proofs.Common.{arith}
use Rattle.std.proofs.lemmas.Bool.Decides.{nat_tests}
use Rattle.tree_laws.specs.declared.changes.Change.{Change}
use Rattle.tree_laws.specs.Tree.{TreeState, is_directory, is_directory_kind, kind_of, row_of, walk_up}
use Rattle.tree_laws.specs.Effect.{Stays, Adds, Removes, Moves, Edits}
use Rattle.tree_laws.specs.Changes.{other_side}
use Rattle.tree_laws.specs.Logged.{numbered_node, logged_replaced, above_due}
use Rattle.tree_laws.specs.Laws.{LogsTellWays}
use Rattle.tree_laws.proofs.Readings.{directory_by_kind}

-- a rename has another side where its directories are two
has_side : (b : Bool) (p : ℕ) → is_some (option_map numbered_node (if b then None else Some p)) ≡ not b
has_side true p = refl
has_side false p = refl

turned : (p q : ℕ) → nat_eq q p ≡ nat_eq p q
turned p q = grind (arith, nat_tests)

ways_told : (tree : TreeState) (p q x : ℕ)
    → (not (nat_eq p q) && is_directory tree x) ≡ (is_some (option_map numbered_node (other_side q p)) && is_directory_kind (kind_of tree x))
ways_told tree p q x =
    ap (λ d. not (nat_eq p q) && d) (directory_by_kind tree x)
    ∙ ap (λ s. s && is_directory_kind (kind_of tree x)) (ap not (sym (turned p q)) ∙ sym (has_side (nat_eq q p) p))

moved_tells : (tree : TreeState) (stamp p q x : ℕ) (n m : List ℕ) (there : Option ℕ) (others : List Change)
    → map (λ change. change.above) others ≡ map (above_due tree) others
    → map (λ change. change.above) (logged_replaced tree stamp p q m there ++ others) ≡ map (above_due tree) (logged_replaced tree stamp p q m there ++ others)
moved_tells tree stamp p q x n m None others same = same
moved_tells tree stamp p q x n m (Some there) others same = ap (λ rest. [] ∷ rest) same

pub logs_tell_ways : LogsTellWays
logs_tell_ways tree core stamp Stays makes = refl
logs_tell_ways tree core stamp (Adds p n x) makes = refl
logs_tell_ways tree core stamp (Removes p n x) makes = refl
logs_tell_ways tree core stamp (Moves p n q m x) makes =
    moved_tells tree stamp p q x n m (row_of tree q m) _ (ap (λ b. [] ∷ (if b then walk_up (len tree.rows) tree q else []) ∷ []) (ways_told tree p q x))
logs_tell_ways tree core stamp (Edits file edit) makes = refl
