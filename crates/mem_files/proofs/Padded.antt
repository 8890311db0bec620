-- The bytes of a block that was filled from a file, and the touched blocks among one block more.
use Rattle.std.proofs.Common.{◌≡◌, ℕ, ◌+◌, ◌-◌, ◌≤◌, inl, inr, List, [], ◌∷◌, ◌++◌, Option, length, filter_map, take, drop, min, sym, ap, ◌∙◌, arith}
use Rattle.std.specs.Prelude.{replicate}
use Rattle.std.specs.List.{range_with_len}
use Rattle.std.proofs.Math.Seq.{take-append-add}
use Rattle.std.proofs.lemmas.List.{take-append-le, take_all, take-replicate, drop-replicate, append-nil, map-id}
use Rattle.std.proofs.lemmas.List.Elements.{filter_map-append}
use Rattle.std.proofs.lemmas.List.FromFn.{map-range_with_len_more}
use Rattle.std.proofs.lemmas.Bool.{cases_lt}
use Rattle.sfs_base.proofs.BasicNumbers.{zero_plus}

-- zeros of which the first were overwritten are what was written with zeros behind it
pub filled : (count size : ℕ) (xs : List ℕ) → count ≡ min size (length xs) → take count xs ++ drop count (replicate size 0) ≡ take size (xs ++ replicate size 0)
filled count size xs is = elim (cases_lt size (length xs)) [
  | inl less ↦
      let all : count ≡ size = omega arith in
      let le : size ≤ length xs = omega arith in
      ap (λ n. take n xs ++ drop n (replicate size 0)) all
      ∙ ap (λ l. take size xs ++ l) (drop-replicate size size 0 ∙ ap (λ n. replicate n 0) (gone size))
      ∙ append-nil (take size xs)
      ∙ sym (take-append-le size xs (replicate size 0) le)
  | inr le ↦
      let all : count ≡ length xs = omega arith in
      let split : size ≡ length xs + (size - length xs) = omega arith in
      ap (λ n. take n xs ++ drop n (replicate size 0)) all
      ∙ ap (λ l. l ++ drop (length xs) (replicate size 0)) (take_all (length xs) xs (omega arith))
      ∙ ap (λ l. xs ++ l) (drop-replicate (length xs) size 0 ∙ sym (take-replicate (size - length xs) size 0 (omega arith)))
      ∙ sym (take-append-add xs (replicate size 0) (size - length xs))
      ∙ ap (λ n. take n (xs ++ replicate size 0)) (sym split)
]
  where
    gone : (n : ℕ) → n - n ≡ 0
    gone n = omega arith

-- what is given of one number more
pub given_more : {X : Type 0} (give : ℕ → Option X) (count : ℕ)
    → filter_map give (range_with_len 0 (count + 1)) ≡ filter_map give (range_with_len 0 count) ++ filter_map give (count ∷ [])
given_more give count =
    ap (filter_map give) (sym (map-id (range_with_len 0 (count + 1))) ∙ map-range_with_len_more (λ n. n) 0 count count (zero_plus count)
    ∙ ap (λ (l : List ℕ). l ++ count ∷ []) (map-id (range_with_len 0 count)))
    ∙ filter_map-append give (range_with_len 0 count) (count ∷ [])
