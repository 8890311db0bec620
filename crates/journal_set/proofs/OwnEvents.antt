-- Lists of which a front has none that pass a test, and what follows has no others.
use Rattle.std.specs.Prelude.{filter}
use Rattle.std.proofs.Common.{◌≡◌, ◌<◌, ◌≤◌, ◌∷◌, ◌++◌, ◌∙◌, Bool, true, false, cond, List, [], length, refl, sym, ap, arith, append-nil}
use Rattle.sfs_base.proofs.BasicTruth.{true_not_false}
use Rattle.merge_laws.proofs.Lists.{heads_are}

-- A list begins with a front, and goes on with this.
pub record BeginsWith {X : Type 0} (front whole : List X) : Type 0 where
  pub more : List X
  pub is : whole ≡ front ++ more

module _ {X : Type 0} (p : X → Bool) where
  few_by : (b : Bool) (x : X) (xs : List X) → length (filter p xs) ≤ length xs → length (cond b (x ∷ filter p xs) (filter p xs)) ≤ length (x ∷ xs)
  few_by true x xs few = omega (arith, few)
  few_by false x xs few = omega (arith, few)

  -- no more pass than there are
  pub few_pass : (xs : List X) → length (filter p xs) ≤ length xs
  few_pass [] = omega arith
  few_pass (x ∷ xs) = few_by (p x) x xs (few_pass xs)

  -- where all pass the first does, and so do the rest
  all_by : (b : Bool) (x : X) (xs : List X) → p x ≡ b → cond b (x ∷ filter p xs) (filter p xs) ≡ x ∷ xs → (p x ≡ true) × (filter p xs ≡ xs)
  all_by true x xs is all = (is, (heads_are x x (filter p xs) xs all).1)
  all_by false x xs is all =
      let same = ap length all in
      let few = few_pass xs in
      absurd (omega (arith, same, few))

  pub all_pass : (x : X) (xs : List X) → filter p (x ∷ xs) ≡ x ∷ xs → (p x ≡ true) × (filter p xs ≡ xs)
  all_pass x xs all = all_by (p x) x xs refl all

  -- where none passes the first doesn't, nor do the rest
  none_by : (b : Bool) (x : X) (xs : List X) → p x ≡ b → cond b (x ∷ filter p xs) (filter p xs) ≡ [] → (p x ≡ false) × (filter p xs ≡ [])
  none_by true x xs is none = absurd (cc none)
  none_by false x xs is none = (is, none)

  pub none_passes : (x : X) (xs : List X) → filter p (x ∷ xs) ≡ [] → (p x ≡ false) × (filter p xs ≡ [])
  none_passes x xs none = none_by (p x) x xs refl none

  -- where all of two lists pass all of each do
  pub parts_pass : (xs ys : List X) → filter p (xs ++ ys) ≡ xs ++ ys → (filter p xs ≡ xs) × (filter p ys ≡ ys)
  parts_pass [] ys all = (refl, all)
  parts_pass (x ∷ xs) ys all =
      let first = all_pass x (xs ++ ys) all in
      let rest = parts_pass xs ys first.1 in
      (ap (λ b. cond b (x ∷ filter p xs) (filter p xs)) first.0 ∙ ap (λ l. x ∷ l) rest.0, rest.1)

  -- a list is cut in one place alone into a front of which none passes and a rest of which all do
  pub same_front : (front back other rest : List X) → front ++ back ≡ other ++ rest → filter p front ≡ [] → filter p back ≡ back
      → filter p other ≡ [] → filter p rest ≡ rest → front ≡ other
  same_front [] back [] rest same none all clear every = refl
  same_front [] [] (y ∷ other) rest same none all clear every = absurd (cc same)
  same_front [] (x ∷ back) (y ∷ other) rest same none all clear every =
      let heads = heads_are x y back (other ++ rest) same in
      absurd (true_not_false (sym (all_pass x back all).0 ∙ (ap p heads.0 ∙ (none_passes y other clear).0)))
  same_front (x ∷ front) back [] [] same none all clear every = absurd (cc same)
  same_front (x ∷ front) back [] (y ∷ rest) same none all clear every =
      let heads = heads_are x y (front ++ back) rest same in
      absurd (true_not_false (sym (all_pass y rest every).0 ∙ (ap p (sym heads.0) ∙ (none_passes x front none).0)))
  same_front (x ∷ front) back (y ∷ other) rest same none all clear every =
      let heads = heads_are x y (front ++ back) (other ++ rest) same in
      let tail = same_front front back other rest heads.1 (none_passes x front none).1 all (none_passes y other clear).1 every in
      ap (λ z. z ∷ front) heads.0 ∙ ap (λ l. y ∷ l) tail

  -- so does the first of two lists in which something passes, with a front of which none does
  pub begins_with : (front back first second : List X) → front ++ back ≡ first ++ second → filter p front ≡ [] → (filter p first ≡ [] → ⊥)
      → (begins : BeginsWith front first) × (back ≡ begins.more ++ second)
  begins_with [] back first second same none some = (record { more = first; is = refl }, same)
  begins_with (x ∷ front) back [] second same none some = absurd (some refl)
  begins_with (x ∷ front) back (y ∷ first) second same none some =
      let heads = heads_are x y (front ++ back) (first ++ second) same in
      let not = none_passes x front none in
      let rest = begins_with front back first second heads.1 not.1
      (λ clear. some (ap (λ b. cond b (y ∷ filter p first) (filter p first)) (ap p (sym heads.0) ∙ not.0) ∙ clear))
      in
      (record { more = rest.0.more; is = ap (λ z. z ∷ first) (sym heads.0) ∙ ap (λ l. x ∷ l) rest.0.is }, rest.1)

  -- what begins so has more than the front
  pub more_passes : (front first : List X) (begins : BeginsWith front first) → filter p front ≡ [] → (filter p first ≡ [] → ⊥) → 0 < length begins.more
  more_passes front first begins none some = by begins.more begins.is where
    by : (more : List X) → first ≡ front ++ more → 0 < length more
    by [] is = absurd (some (ap (filter p) (is ∙ append-nil front) ∙ none))
    by (x ∷ more) is = omega arith
