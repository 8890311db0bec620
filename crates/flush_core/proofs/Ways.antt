-- The way up from a directory: each row that names a node of it stands in the next.
use Rattle.std.proofs.Common.{◌≡◌, ℕ, zero, suc, ◌<◌, ◌≤◌, true, List, ◌∷◌, length, slice_index, Some, inl, inr, sym, ap, ◌∙◌, arith}
use Rattle.tree_laws.specs.Tree.{TreeState, row_of, is_directory}
use Rattle.tree_laws.specs.Sound.{Above, at_root, below, IsSound}
use Rattle.flush_core.specs.Broken.{IsNext}
use Rattle.cut_laws.specs.Rules.{IsOneOf}

-- the next directory has a row that names the node
pub row_on_way : (tree : TreeState) (start : ℕ) (above : List ℕ) → Above tree start above → (place node holder : ℕ) → place < length above
    → node ≡ slice_index (start ∷ above) place → holder ≡ slice_index above place
    → IsOneOf (start ∷ above) node × ((name : List ℕ) × (row_of tree holder name ≡ Some node))
row_on_way tree _ _ at_root place node holder lt node_is holder_is = absurd (omega arith)
row_on_way tree _ _ (below start h name above row rest) zero node holder lt node_is holder_is =
    (inl (sym node_is), (name, ap (λ (d : ℕ). row_of tree d name) holder_is ∙ row ∙ ap (λ (n : ℕ). Some n) (sym node_is)))
row_on_way tree _ _ (below start h name above row rest) (suc place) node holder lt node_is holder_is =
    let up = row_on_way tree h above rest place node holder (omega arith) node_is holder_is in (inr up.0, up.1)

-- a row that names a node of the way stands in the next directory
pub next_on_way : (tree : TreeState) → IsSound tree → (start : ℕ) (above : List ℕ) → Above tree start above → is_directory tree start ≡ true
    → (node holder : ℕ) (name : List ℕ) → IsOneOf (start ∷ above) node → row_of tree holder name ≡ Some node → IsNext start above node holder
next_on_way tree s _ _ at_root kind node holder name one row = elim one [
  | inl e ↦ absurd (s.unnamed holder name (row ∙ ap (λ (n : ℕ). Some n) (sym e)))
  | inr none ↦ absurd none
]
next_on_way tree s _ _ (below start h up_name above up rest) kind node holder name one row = elim one [
  | inl e ↦
      let places = s.once h holder up_name name start up (row ∙ ap (λ (n : ℕ). Some n) (sym e)) kind in
      record { place = 0; within = omega arith; node_is = sym e; holder_is = sym places.0 }
  | inr later ↦
      let next = next_on_way tree s h above rest (s.holds h up_name start up).0 node holder name later row in
      record { place = suc next.place; within = let lt = next.within in omega arith; node_is = next.node_is; holder_is = next.holder_is }
]

-- where no place of the way has what is looked for, no directory and the next have it
pub none_on_way : (Is : ℕ → ℕ → Type 0) (start : ℕ) (above : List ℕ) (i : ℕ) → length above ≤ i
    → ((place : ℕ) → place < i → Is (slice_index (start ∷ above) place) (slice_index above place) → ⊥) → (node holder : ℕ) → IsNext start above node holder
    → Is node holder → ⊥
none_on_way Is start above i le none node holder next is =
    none next.place (let lt = next.within in omega arith) (rw next.node_is at (rw next.holder_is at is))
