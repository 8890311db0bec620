-- What a sound tree is like where it is stored.
use Rattle.std.proofs.Common.{◌≡◌, ◌≢◌, ℕ, zero, suc, ◌+◌, ◌<◌, ◌≤◌, Bool, true, false, not, ◌||◌, cond, List, Some, None, IsSome, option_map, refl, sym, ap, ◌∙◌, arith, nat_eq}
use borrow.Author.Tests.{eqb-true, eqb-false}
use Rattle.std.specs.List as list
use Rattle.std.specs.FinMap.{get, remove, entries}
use Rattle.tree_laws.specs.Order.{Key}
use Rattle.tree_laws.specs.Tree.{TreeState, row_of, is_alive, is_directory, count_of, names_it, holder_of, walk_up, and_above}
use Rattle.tree_laws.specs.Sound.{IsSound}
use Rattle.tree_laws.proofs.Counting.{count-remove, count_none, stayed, found, Found, found_none}
use Rattle.sfs_base.proofs.BasicOptions.{none_some, some_same}
use Rattle.sfs_base.proofs.BasicNumbers.{same_number}
use Rattle.sfs_base.proofs.BasicTruth.{false_not_true}

-- one row alone names a directory
pub sound_once : (tree : TreeState) → IsSound tree → (directory : ℕ) (name : List ℕ) (child : ℕ) → row_of tree directory name ≡ Some child
    → is_directory tree child ≡ true → count_of tree.rows child ≡ 1
sound_once tree s directory name child is dir =
    count-remove tree.rows (directory, name) child (names_it child) is
    ∙ ap (λ b. count_of (remove tree.rows (directory, name)) child + cond b 1 0) (same_number child)
    ∙ ap (λ n. n + 1) (count_none (names_it child) (remove tree.rows (directory, name)) (λ k x there. other k x (stayed tree.rows (directory, name) k x there)))
    ∙ one
  where
    one : 0 + 1 ≡ 1
    one = omega arith

    other : (k : Key) (x : ℕ) → (k ≢ (directory, name)) × (get tree.rows k ≡ Some x) → nat_eq x child ≡ false
    other k x h =
        elim (nat_eq x child) as (λ b. nat_eq x child ≡ b → nat_eq x child ≡ false) [
          | true ↦ λ t.
              let same = s.once k.0 directory k.1 name child (h.1 ∙ ap Some (eqb-true _ _ t)) is dir in
              absurd (h.0 (λ i. (same.0 i, same.1 i)))
          | false ↦ λ t. t
        ] refl

-- at most one row names a directory
pub sound_few : (tree : TreeState) → IsSound tree → (child : ℕ) → is_directory tree child ≡ true → count_of tree.rows child ≤ 1
sound_few tree s child dir = by_count (count_of tree.rows child) refl
  where
    by_count : (n : ℕ) → count_of tree.rows child ≡ n → count_of tree.rows child ≤ 1
    by_count zero e = omega arith
    by_count (suc n) e =
        let f : Found (names_it child) tree.rows = found (names_it child) tree.rows (omega arith) in
        let one : count_of tree.rows child ≡ 1 = sound_once tree s f.row.0.0 f.row.0.1 child (f.there ∙ ap Some (eqb-true _ _ f.passes)) dir in
        omega arith

-- a holder is a directory
pub sound_holder : (tree : TreeState) → IsSound tree → (child holder : ℕ) → holder_of tree child ≡ Some holder → is_directory tree holder ≡ true
sound_holder tree s child holder is = by_count (count_of tree.rows child) refl
  where
    by_count : (n : ℕ) → count_of tree.rows child ≡ n → is_directory tree holder ≡ true
    by_count zero e = absurd (none_some (sym (ap (option_map (λ (row : Key × ℕ). row.0.0)) (found_none (names_it child) (entries tree.rows) e)) ∙ is))
    by_count (suc n) e =
        let f : Found (names_it child) tree.rows = found (names_it child) tree.rows (omega arith) in
        let same : f.row.0.0 ≡ holder = some_same (sym (ap (option_map (λ (row : Key × ℕ). row.0.0)) f.is) ∙ is) in
        ap (is_directory tree) (sym same) ∙ (s.holds f.row.0.0 f.row.0.1 child (f.there ∙ ap Some (eqb-true _ _ f.passes))).0

-- what is alive and no directory is a node of the tree
pub sound_file : (tree : TreeState) → IsSound tree → (file : ℕ) → is_alive tree file ≡ true → is_directory tree file ≡ false → IsSome (get tree.nodes file)
sound_file tree s file alive no_directory =
    elim (nat_eq file 0) as (λ b. nat_eq file 0 ≡ b → (b || not (nat_eq (count_of tree.rows file) 0)) ≡ true → IsSome (get tree.nodes file)) [
      | true ↦ λ t a. absurd (differ (sym (ap (is_directory tree) (eqb-true _ _ t)) ∙ no_directory) s.root)
      | false ↦ λ t a. named (nat_eq (count_of tree.rows file) 0) refl a
    ] refl alive
  where
    differ : {b : Bool} → b ≡ false → b ≡ true → ⊥
    differ p q = cc

    named : (b : Bool) → nat_eq (count_of tree.rows file) 0 ≡ b → not b ≡ true → IsSome (get tree.nodes file)
    named true t a = absurd (false_not_true a)
    named false t a =
        let f : Found (names_it file) tree.rows = found (names_it file) tree.rows (some (count_of tree.rows file) (eqb-false _ _ t)) in
        s.node f.row.0.0 f.row.0.1 file (f.there ∙ ap Some (eqb-true _ _ f.passes))
      where
        some : (n : ℕ) → n ≢ 0 → 0 < n
        some n differ = omega arith

-- one step of the walk up
pub walk_none : (tree : TreeState) (steps node directory : ℕ) → holder_of tree node ≡ None
    → list.list_any (λ above. nat_eq above directory) (walk_up (suc steps) tree node) ≡ false
walk_none tree steps node directory none = ap (λ o. list.list_any (λ above. nat_eq above directory) (and_above (walk_up steps tree) o)) none

pub walk_some : (tree : TreeState) (steps node directory holder : ℕ) → holder_of tree node ≡ Some holder
    → list.list_any (λ above. nat_eq above directory) (walk_up (suc steps) tree node)
    ≡ (nat_eq holder directory || list.list_any (λ above. nat_eq above directory) (walk_up steps tree holder))
walk_some tree steps node directory holder some = ap (λ o. list.list_any (λ above. nat_eq above directory) (and_above (walk_up steps tree) o)) some
