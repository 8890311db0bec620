-- The least of some cells above a place, found one cell after the other.
use Rattle.std.proofs.Common.{◌≡◌, ℕ, ◌<◌, ◌≤◌, Bool, true, false, cond, ◌&&◌, List, [], ◌∷◌, ◌++◌, length, take, Option, Some, None, ◌⊎◌, inl, inr, refl, sym, subst, arith, nat_lt}
use borrow.Author.Tests.{ltb-true, ltb-false}
use Rattle.std.proofs.lemmas.List.{take_all}
use Rattle.sfs_base.proofs.BasicTruth.{true_or_false, and_first, and_second}
use Rattle.cut_laws.specs.Rules.{IsOneOf}
use Rattle.cut_laws.proofs.Basics.{in_left, in_right, in_either}
use Rattle.mem_values.specs.declared.cell_id.CellId.{CellId}
use Rattle.mem_values.specs.Places.{cell_place}
use Rattle.mem_rename.specs.Holding.{is_before, nearer, IsNextAbove}

module _ (nodes last : ℕ) where
  -- one of some cells and a further one is one of them or that one
  last_or_front : (cells : List CellId) (c cell : CellId) → IsOneOf (cells ++ c ∷ []) cell → IsOneOf cells cell ⊎ (c ≡ cell)
  last_or_front cells c cell among = elim (in_either cells (c ∷ []) cell among) [
    | inl front ↦ inl front
    | inr end ↦ elim end [ inl same ↦ inr same | inr none ↦ absurd none ]
  ]

  le_of : (c cell : CellId) (n : ℕ) → c ≡ cell → cell_place nodes c ≤ n → cell_place nodes cell ≤ n
  le_of c cell n same le = subst (λ (x : CellId). cell_place nodes x ≤ n) same le

  -- where a further cell is nearer, it is the least above
  taken : (cells : List CellId) (next : Option CellId) (c : CellId) → IsNextAbove nodes last cells next → last < cell_place nodes c
      → is_before nodes (cell_place nodes c) next ≡ true → IsNextAbove nodes last (cells ++ c ∷ []) (Some c)
  taken cells None c is above before = record {
    among = in_right cells (c ∷ []) c (inl refl);
    above = above;
    least = λ cell among. elim (last_or_front cells c cell among) [
      | inl front ↦ inl (is cell front)
      | inr same ↦ inr (subst (λ (x : CellId). cell_place nodes c ≤ cell_place nodes x) same (omega arith))
    ];
  }
  taken cells (Some n) c is above before = record {
    among = in_right cells (c ∷ []) c (inl refl);
    above = above;
    least = λ cell among. elim (last_or_front cells c cell among) [
      | inl front ↦ elim (is.least cell front) [
        | inl below ↦ inl below
        | inr further ↦ let lt = ltb-true _ _ before in inr (omega (arith, lt, further))
      ]
      | inr same ↦ inr (subst (λ (x : CellId). cell_place nodes c ≤ cell_place nodes x) same (omega arith))
    ];
  }

  -- where it is not, all stays
  left : (cells : List CellId) (next : Option CellId) (c : CellId) → IsNextAbove nodes last cells next
      → (nat_lt last (cell_place nodes c) && is_before nodes (cell_place nodes c) next) ≡ false → IsNextAbove nodes last (cells ++ c ∷ []) next
  left cells None c is not = λ cell among. elim (last_or_front cells c cell among) [
    | inl front ↦ is cell front
    | inr same ↦ le_of c cell last same (not_above (nat_lt last (cell_place nodes c)) refl not)
  ]
    where
      not_above : (b : Bool) → nat_lt last (cell_place nodes c) ≡ b → (b && true) ≡ false → cell_place nodes c ≤ last
      not_above true is_b e = absurd (Rattle.sfs_base.proofs.BasicTruth.true_not_false e)
      not_above false is_b e = let ge = ltb-false _ _ is_b in omega (arith, ge)
  left cells (Some n) c is not = record {
    among = in_left cells (c ∷ []) n is.among;
    above = is.above;
    least = λ cell among. elim (last_or_front cells c cell among) [
      | inl front ↦ is.least cell front
      | inr same ↦ subst (λ (x : CellId). (cell_place nodes x ≤ last) ⊎ (cell_place nodes n ≤ cell_place nodes x)) same
          (either (nat_lt last (cell_place nodes c)) refl not)
    ];
  }
    where
      either : (b : Bool) → nat_lt last (cell_place nodes c) ≡ b → (b && nat_lt (cell_place nodes c) (cell_place nodes n)) ≡ false → (cell_place nodes c ≤ last)
          ⊎ (cell_place nodes n ≤ cell_place nodes c)
      either true is_b e = let ge = ltb-false _ _ e in inr (omega (arith, ge))
      either false is_b e = let ge = ltb-false _ _ is_b in inl (omega (arith, ge))

  pub next_more : (cells : List CellId) (next : Option CellId) (c : CellId) → IsNextAbove nodes last cells next
      → IsNextAbove nodes last (cells ++ c ∷ []) (nearer nodes last next c)
  next_more cells next c is = elim (true_or_false (nat_lt last (cell_place nodes c) && is_before nodes (cell_place nodes c) next)) [
    | inl better ↦ subst (λ b. IsNextAbove nodes last (cells ++ c ∷ []) (cond b (Some c) next)) (sym better)
        (taken cells next c is (ltb-true _ _ (and_first _ _ better)) (and_second (nat_lt last (cell_place nodes c)) _ better))
    | inr not ↦ subst (λ b. IsNextAbove nodes last (cells ++ c ∷ []) (cond b (Some c) next)) (sym not) (left cells next c is not)
  ]

  pub next_all : (cells : List CellId) (i : ℕ) (next : Option CellId) → IsNextAbove nodes last (take i cells) next → length cells ≤ i
      → IsNextAbove nodes last cells next
  next_all cells i next is end = subst (λ l. IsNextAbove nodes last l next) (take_all i cells end) is
