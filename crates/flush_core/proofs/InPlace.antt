-- A list that is changed in place, one after another.
use Rattle.std.proofs.Common.{◌≡◌, ℕ, suc, ◌+◌, ◌<◌, ◌≤◌, List, [], ◌∷◌, ◌++◌, length, map, take, drop, get_or, set, refl, sym, ap, ◌∙◌, arith}
use Rattle.std.proofs.Math.Seq.{drop-cons}
use Rattle.std.proofs.lemmas.List.{take_more_set, map_more, drop-set-lt, take_all, length-set}

-- the first so many are changed, and the rest are as they were
pub record IsChanged {X : Type 0} (f : X → X) (old : List X) (i : ℕ) (xs : List X) : Type 0 where
  pub done : take i xs ≡ map f (take i old)
  pub rest : drop i xs ≡ drop i old
  pub as_long : length xs ≡ length old

pub changed_none : {X : Type 0} (f : X → X) (old : List X) → IsChanged f old 0 old
changed_none f old = record { done = refl; rest = refl; as_long = refl }

module _ {X : Type 0} (f : X → X) (old xs : List X) (i : ℕ) (x : X) (changed : IsChanged f old i xs) (less : i < length xs) (is : x ≡ get_or xs i x) where
  head_is : get_or xs i x ∷ drop (suc i) xs ≡ get_or old i x ∷ drop (suc i) old
  head_is = sym (drop-cons xs i x less) ∙ changed.rest ∙ drop-cons old i x (rw changed.as_long at less)

  same_head : {a b : X} {l m : List X} → a ∷ l ≡ b ∷ m → a ≡ b
  same_head e = cc

  same_rest : {a b : X} {l m : List X} → a ∷ l ≡ b ∷ m → l ≡ m
  same_rest e = cc

  pub changed_more : IsChanged f old (i + 1) (set xs i (f x))
  changed_more = record {
    done =
        take_more_set xs i (f x) less ∙ ap (λ l. l ++ f x ∷ []) changed.done ∙ ap (λ y. map f (take i old) ++ f y ∷ []) (is ∙ same_head head_is)
        ∙ sym (map_more f old i x (rw changed.as_long at less));
    rest = drop-set-lt (i + 1) xs i (f x) (omega arith) ∙ ap (λ n. drop n xs) one_more ∙ same_rest head_is ∙ ap (λ n. drop n old) (sym one_more);
    as_long = length-set xs i (f x) ∙ changed.as_long;
  }
    where
      one_more : i + 1 ≡ suc i
      one_more = omega arith

pub changed_all : {X : Type 0} (f : X → X) (old xs : List X) (i : ℕ) → IsChanged f old i xs → length xs ≤ i → xs ≡ map f old
changed_all f old xs i changed all = sym (take_all i xs all) ∙ changed.done ∙ ap (map f) (take_all i old (rw changed.as_long at all))
