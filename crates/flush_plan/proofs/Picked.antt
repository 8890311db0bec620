-- Items that are picked one after the other.
use Rattle.std.proofs.Common.{◌≡◌, ℕ, suc, ◌+◌, ◌<◌, Bool, true, false, cond, List, [], ◌∷◌, ◌++◌, length, map, filter, take, get_or, refl, sym, ap, ◌∙◌, arith, length-take, nat_eq}
use Rattle.std.specs.Prelude.{IfOk, All, ◌||◌}
use Rattle.std.specs.declared.result.Result.{Result}
use Rattle.std.specs.declared.result.Result.TheVariants.{Ok, Err}
use Rattle.std.specs.List.Sorted.{IsStrictlyIncreasing}
use Rattle.std.proofs.lemmas.List.{map-append, append-nil, get_or-take, get_or_default}
use Rattle.std.proofs.lemmas.List.Elements.{filter_more, All-filter, All-map, All-nil, All-cons, All-head, All-tail}
use Rattle.sfs_base.specs.declared.numbers.NodeId.{NodeId}
use Rattle.tree_laws.specs.NameRow.{node_number}
use borrow.Author.Tests.{eqb-true}
use Rattle.sfs_base.specs.Listed.{is_listed}
use Rattle.sfs_base.proofs.BasicNumbers.{not_same}
use Rattle.dep_closure.proofs.Searches.{numbers_rise}

-- two facts of what is answered give a third
pub if_both : {X E : Type 0} (r : Result X E) (P Q R : X → Type 0) → ((x : X) → P x → Q x → R x) → IfOk r P → IfOk r Q → IfOk r R
if_both (Ok x) P Q R joins p q = joins x p q
if_both (Err e) P Q R joins p q = tt

module _ {X : Type 0} (test : X → Bool) (xs : List X) (i : ℕ) (d : X) (within : i < length xs) (b : Bool) (is : b ≡ test (get_or xs i d)) where
  -- one item more is picked where it passes the test
  pub picked : (before new : List X) → before ≡ filter test (take i xs) → new ≡ before ++ cond b (get_or xs i d ∷ []) [] → new ≡ filter test (take (i + 1) xs)
  picked before new was after = after ∙ (λ j. was j ++ cond (is j) (get_or xs i d ∷ []) []) ∙ sym (filter_more test xs i d within)

  -- and what a function makes of it
  pub picked_as : {Y : Type 0} (f : X → Y) (before new : List Y) → before ≡ map f (filter test (take i xs)) → new ≡ before ++ cond b (f (get_or xs i d) ∷ []) []
      → new ≡ map f (filter test (take (i + 1) xs))
  picked_as f before new was after =
      after ∙ (λ j. was j ++ cond (is j) (f (get_or xs i d) ∷ []) [])
      ∙ ap (λ l. map f (filter test (take i xs)) ++ l) (one (test (get_or xs i d)))
      ∙ sym (map-append f (filter test (take i xs)) (cond (test (get_or xs i d)) (get_or xs i d ∷ []) []))
      ∙ ap (map f) (sym (filter_more test xs i d within))
    where
      one : (t : Bool) → cond t (f (get_or xs i d) ∷ []) [] ≡ map f (cond t (get_or xs i d ∷ []) [])
      one true = refl
      one false = refl

-- what is pushed where a test passes
pub pushed_if : {X : Type 0} (b : Bool) (before reserved new : List X) (one : X) → b ≡ true → reserved ≡ before → new ≡ reserved ++ one ∷ []
    → new ≡ before ++ cond b (one ∷ []) []
pushed_if b before reserved new one is same after = after ∙ ap (λ l. l ++ one ∷ []) same ∙ ap (λ t. before ++ cond t (one ∷ []) []) (sym is)

pub kept_if : {X : Type 0} (b : Bool) (before new : List X) (one : X) → b ≡ false → new ≡ before → new ≡ before ++ cond b (one ∷ []) []
kept_if b before new one is same = same ∙ sym (append-nil before) ∙ ap (λ t. before ++ cond t (one ∷ []) []) (sym is)

-- nodes that ascend lie below the next one
pub below_next : (nodes : List NodeId) → IsStrictlyIncreasing (map node_number nodes) → (i : ℕ) (d : NodeId) → i < length nodes
    → All (λ node. node.0 < (get_or nodes i d).0) (take i nodes)
below_next nodes up i d within k e inside =
    let short = length-take i nodes in
    let less : k < i = omega arith in
    let rise = numbers_rise node_number nodes up k i e less within in
    let same = ap node_number (get_or-take i nodes k e less) in
    let here = ap node_number (get_or_default nodes i e d within) in
    omega arith

-- and so does what is made of those that are picked
pub picked_below : {Y : Type 0} (number : Y → ℕ) (f : NodeId → Y) → ((node : NodeId) → number (f node) ≡ node.0)
    → (test : NodeId → Bool) (nodes : List NodeId) (b : ℕ) → All (λ node. node.0 < b) nodes → All (λ one. number one < b) (map f (filter test nodes))
picked_below number f own test nodes b below =
    All-map (λ one. number one < b) f (filter test nodes)
    (λ k d within. let low = All-filter test (λ node. node.0 < b) nodes below k d within in let same = own (get_or (filter test nodes) k d) in omega arith)

-- the next of nodes that ascend is none of those before it
pub unlisted_next : (nodes : List NodeId) → IsStrictlyIncreasing (map node_number nodes) → (i : ℕ) (d : NodeId) → i < length nodes
    → is_listed (map node_number (take i nodes)) (get_or nodes i d).0 ≡ false
unlisted_next nodes up i d within = by (take i nodes) (below_next nodes up i d within)
  where
    by : (earlier : List NodeId) → All (λ node. node.0 < (get_or nodes i d).0) earlier → is_listed (map node_number earlier) (get_or nodes i d).0 ≡ false
    by [] below = refl
    by (node ∷ earlier) below =
        let low = below 0 node (omega arith) in
        ap (λ b. b || is_listed (map node_number earlier) (get_or nodes i d).0) (not_same node.0 (get_or nodes i d).0 (omega arith))
        ∙ by earlier (λ k e inside. below (suc k) e (omega arith))

-- what holds of items and of one more holds of each
pub apart_from_last : {X : Type 0} (P : X → Type 0) (xs : List X) (x : X) → All P (xs ++ x ∷ []) → All P xs × P x
apart_from_last P [] x all = (All-nil P, All-head P x [] all)
apart_from_last P (first ∷ xs) x all =
    let rest = apart_from_last P xs x (All-tail P first (xs ++ x ∷ []) all) in
    (All-cons P first xs (All-head P first (xs ++ x ∷ []) all) rest.0, rest.1)

-- whether there is nothing
pub nothing : {X : Type 0} (xs : List X) → nat_eq (length xs) 0 ≡ true → xs ≡ []
nothing [] e = refl
nothing (x ∷ xs) e = let none : suc (length xs) ≡ 0 = eqb-true (suc (length xs)) 0 e in absurd (omega arith)

pub something : {X : Type 0} (xs : List X) → nat_eq (length xs) 0 ≡ false → xs ≡ [] → ⊥
something [] e none = absurd (cc)
something (x ∷ xs) e none = absurd (cc)
