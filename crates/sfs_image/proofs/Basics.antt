-- Laws of tables of a function, of tests of the first numbers, of options, and of what is found in lists.
use Rattle.std.proofs.Common.{◌||◌, Option, None, Some, option_map, All, subst, ◌≡◌, ℕ, zero, suc, ◌+◌, ◌<◌, ◌≤◌, Bool, true, false, List, [], ◌∷◌, ◌++◌, map, length, get_or, refl, sym, ap, ◌∙◌, arith, inl, inr, ◌⊎◌}
use Rattle.std.proofs.lemmas.Bool.{cases_Bool, cond-true, cond-false, both_ways, or_parts, or_from, or_cases, or_left, or_right, cases_lt, false≢true}
use Rattle.std.proofs.lemmas.List.{same_lists}
use Rattle.std.proofs.lemmas.List.Elements.{All-head, All-tail}
use Rattle.std.proofs.lemmas.List.FromFn.{length-map-range_with_len, get_or-map-range_with_len}
use Rattle.std.specs.Prelude.{unwrap_or}
use Rattle.std.specs.List.{find, range_with_len, flat_map}
use Rattle.sfs_image.specs.Part.{tabulate}
use Rattle.sfs_image.specs.Rules.{any_below}

pub length-tabulate : {A : Type 0} (n : ℕ) (f : ℕ → A) → length (tabulate n f) ≡ n
unfolding tabulate
length-tabulate n f = length-map-range_with_len f 0 n

pub get_or-tabulate : {A : Type 0} (n : ℕ) (f : ℕ → A) (k : ℕ) (d : A) → k < n → get_or (tabulate n f) k d ≡ f k
unfolding tabulate
get_or-tabulate n f k d within = get_or-map-range_with_len f 0 n k k d within (omega arith)

-- functions that agree below n have one table
pub tabulate_same : {A : Type 0} (n : ℕ) (f g : ℕ → A) → ((k : ℕ) → k < n → f k ≡ g k) → tabulate n f ≡ tabulate n g
tabulate_same n f g same =
    same_lists (tabulate n f) (tabulate n g) (length-tabulate n f ∙ sym (length-tabulate n g))
    (λ k d h.
    let within : k < n = omega (arith, length-tabulate n f) in
    get_or-tabulate n f k d within ∙ same k within ∙ sym (get_or-tabulate n g k d within))

-- functions that agree on a list's elements map it alike
pub map_same : {A B : Type 0} (f g : A → B) (d : A) (xs : List A) → ((k : ℕ) → k < length xs → f (get_or xs k d) ≡ g (get_or xs k d)) → map f xs ≡ map g xs
map_same f g d [] same = refl
map_same f g d (x ∷ xs) same =
    let here : f x ≡ g x = same 0 (omega arith) in
    let rest = map_same f g d xs (λ k h. same (suc k) (omega arith)) in
    λ i. here i ∷ rest i

-- functions that agree on the n numbers from a on make one list of pieces of them
pub pieces_same : {A : Type 0} (f g : ℕ → List A) (a n : ℕ) → ((k : ℕ) → a ≤ k → k < a + n → f k ≡ g k) →
    flat_map f (range_with_len a n) ≡ flat_map g (range_with_len a n)
pieces_same f g a zero same = refl
pieces_same f g a (suc n) same =
    let here = same a (omega arith) (omega arith) in
    let rest = pieces_same f g (a + 1) n (λ k low high. same k (omega arith) (omega arith)) in
    λ i. here i ++ rest i

-- none of the first numbers passes a test, and each of them fails
pub any_below-none : (n : ℕ) (test : ℕ → Bool) → any_below n test ≡ false → (k : ℕ) → k < n → test k ≡ false
unfolding any_below
any_below-none zero test none k h = absurd (omega arith)
any_below-none (suc n) test none k h =
    let both = or_parts (any_below n test) (test n) none in
    elim (cases_lt k n) [ inl below ↦ any_below-none n test both.0 k below | inr last ↦ (let e : k ≡ n = omega arith in ap test e ∙ both.1) ]

pub any_below-from : (n : ℕ) (test : ℕ → Bool) → ((k : ℕ) → k < n → test k ≡ false) → any_below n test ≡ false
unfolding any_below
any_below-from zero test fails = refl
any_below-from (suc n) test fails = or_from (any_below n test) (test n) (any_below-from n test (λ k h. fails k (omega arith))) (fails n (omega arith))

-- one of the first numbers passes a test
pub any_below-at : (n : ℕ) (test : ℕ → Bool) (k : ℕ) → k < n → test k ≡ true → any_below n test ≡ true
unfolding any_below
any_below-at zero test k h passes = absurd (omega arith)
any_below-at (suc n) test k h passes =
    elim (cases_lt k n) [
      | inl below ↦ or_left (any_below n test) (test n) (any_below-at n test k below passes)
      | inr last ↦ (let e : n ≡ k = omega arith in or_right (any_below n test) (test n) (ap test e ∙ passes))
    ]

pub any_below-some : (n : ℕ) (test : ℕ → Bool) → any_below n test ≡ true → (k : ℕ) × (k < n) × (test k ≡ true)
unfolding any_below
any_below-some zero test some = absurd (false≢true some)
any_below-some (suc n) test some = go (or_cases (any_below n test) (test n) some) (any_below-some n test)
  where
    go : (any_below n test ≡ true) ⊎ (test n ≡ true) → (any_below n test ≡ true → (k : ℕ) × (k < n) × (test k ≡ true)) → (k : ℕ) × (k < suc n) × (test k ≡ true)
    go (inl below) found = let one = found below in (one.0, (let h = one.1 in omega arith), one.2)
    go (inr here) found = (n, omega arith, here)

-- where one of two tests passes and the first fails the second passes
pub else_true : (x y : Bool) → (x || y) ≡ true → x ≡ false → y ≡ true
else_true x y passes fails = elim (or_cases x y passes) [ inl first ↦ absurd (both_ways x fails first) | inr second ↦ second ]

-- two functions one behind the other
pub option_map-option_map : {A B C : Type 0} (f : B → C) (g : A → B) (o : Option A) → option_map f (option_map g o) ≡ option_map (λ x. f (g x)) o
option_map-option_map f g None = refl
option_map-option_map f g (Some x) = refl

-- a default in the place of nothing, behind a function
pub unwrap_made : {A B : Type 0} (f : A → B) (o : Option A) (default : B) (one : A) → (o ≡ None → default ≡ f one) →
    unwrap_or (option_map f o) default ≡ f (unwrap_or o one)
unwrap_made f None default one is = is refl
unwrap_made f (Some x) default one is = refl

-- what is found among what a function makes is made of what is found
pub find_made : {A B : Type 0} (f : A → B) (test : B → Bool) (xs : List A) → find test (map f xs) ≡ option_map f (find (λ x. test (f x)) xs)
find_made f test [] = refl
find_made f test (x ∷ xs) =
    elim (cases_Bool (test (f x))) [
      | inl passes ↦ cond-true (test (f x)) _ _ passes ∙ sym (ap (option_map f) (cond-true (test (f x)) (Some x) (find (λ x. test (f x)) xs) passes))
      | inr fails ↦
          cond-false (test (f x)) _ _ fails ∙ find_made f test xs ∙ sym (ap (option_map f) (cond-false (test (f x)) (Some x) (find (λ x. test (f x)) xs) fails))
    ]

-- what each element has is had by the one that is found
pub found_has : {X : Type 0} (P : X → Type 0) (test : X → Bool) (xs : List X) (x : X) → All P xs → find test xs ≡ Some x → P x
found_has P test [] x all is = absurd cc
found_has P test (y ∷ xs) x all is =
    elim (cases_Bool (test y)) [
      | inl passes ↦
          (let e : Some y ≡ Some x = sym (cond-true (test y) (Some y) (find test xs) passes) ∙ is in let same : y ≡ x = cc in
          subst P same (All-head P y xs all))
      | inr fails ↦ found_has P test xs x (All-tail P y xs all) (sym (cond-false (test y) (Some y) (find test xs) fails) ∙ is)
    ]

-- what passes a test is found
pub found_passes : {X : Type 0} (test : X → Bool) (xs : List X) (x : X) → find test xs ≡ Some x → test x ≡ true
found_passes test [] x is = absurd cc
found_passes test (y ∷ xs) x is =
    elim (cases_Bool (test y)) [
      | inl passes ↦ (let e : Some y ≡ Some x = sym (cond-true (test y) (Some y) (find test xs) passes) ∙ is in
          let same : y ≡ x = cc in sym (ap test same) ∙ passes)
      | inr fails ↦ found_passes test xs x (sym (cond-false (test y) (Some y) (find test xs) fails) ∙ is)
    ]
