-- Changes made in the rows of all directories, place by place.
use Rattle.std.proofs.Common.{◌≡◌, ◌≢◌, ℕ, Bool, true, false, cond, List, [], ◌∷◌, ◌++◌, Some, None, ◌⊎◌, inl, inr, refl, sym, ap, ◌∙◌}
use Rattle.std.specs.Prelude.{filter, fold}
use Rattle.std.specs.Ordering.{eq_by_cmp}
use Rattle.std.specs.FinMap.{FinMap, get, insert, remove, get-insert, get-remove}
use Rattle.tree_laws.specs.Order.{key_cmp}
use Rattle.tree_laws.specs.Tree.{TreeState, row_of, is_directory}
use Rattle.tree_laws.specs.Effect.{Effect, Stays, Adds, Removes, Moves, Edits, rows_after}
use Rattle.tree_laws.specs.Changes.{RowChange, added, removed, other_side, replaced, changes_by}
use Rattle.tree_laws.proofs.Joined.{key_cmp_total}
use Rattle.tree_laws.proofs.Swapped as swaps
use Rattle.tree_laws.proofs.RowFacts.{added_other, removed_other}
use Rattle.cut_laws.specs.Cut.{with_own}
use Rattle.cut_laws.specs.Rules.{IsOneOf}
use Rattle.sfs_base.proofs.BasicTruth.{not_both}

-- a change leaves the rows of other directories
pub with_own-other : (d : ℕ) (n : List ℕ) (rows : FinMap key_cmp ℕ) (x : RowChange) → x.directory ≢ d → get (with_own rows x) (d, n) ≡ get rows (d, n)
with_own-other d n rows x other =
    elim x.places as (λ b. get (cond b (insert rows (x.directory, x.name) x.child) (remove rows (x.directory, x.name))) (d, n) ≡ get rows (d, n)) [
      | true ↦ added_other rows d x.directory n x.name x.child (λ same _. other (sym same))
      | false ↦ removed_other rows d x.directory n x.name (λ same _. other (sym same))
    ]

-- what a change makes of a place hangs on what stands there alone
pub with_own-same : (d : ℕ) (n : List ℕ) (rows other : FinMap key_cmp ℕ) (x : RowChange) → get rows (d, n) ≡ get other (d, n)
    → get (with_own rows x) (d, n) ≡ get (with_own other x) (d, n)
with_own-same d n rows other x e =
    elim x.places as (λ b. get (cond b (insert rows (x.directory, x.name) x.child) (remove rows (x.directory, x.name))) (d, n)
    ≡ get (cond b (insert other (x.directory, x.name) x.child) (remove other (x.directory, x.name))) (d, n)) [
      | true ↦
          get-insert key_cmp_total rows (x.directory, x.name) x.child (d, n)
          ∙ ap (cond (eq_by_cmp key_cmp (d, n) (x.directory, x.name)) (Some x.child)) e
          ∙ sym (get-insert key_cmp_total other (x.directory, x.name) x.child (d, n))
      | false ↦
          get-remove key_cmp_total rows (x.directory, x.name) (d, n)
          ∙ ap (cond (eq_by_cmp key_cmp (d, n) (x.directory, x.name)) None) e
          ∙ sym (get-remove key_cmp_total other (x.directory, x.name) (d, n))
    ]

-- changes of which none of a directory passes a test leave its rows
pub skip : (w : RowChange → Bool) (d : ℕ) (n : List ℕ) (rows : FinMap key_cmp ℕ) (cs : List RowChange)
    → ((x : RowChange) → IsOneOf cs x → x.directory ≡ d → w x ≡ false) → get (fold with_own rows (filter w cs)) (d, n) ≡ get rows (d, n)
skip w d n rows [] h = refl
skip w d n rows (x ∷ cs) h =
    elim (w x) as (λ b. w x ≡ b → get (fold with_own rows (cond b (x ∷ filter w cs) (filter w cs))) (d, n) ≡ get rows (d, n)) [
      | true ↦ λ t. skip w d n (with_own rows x) cs (λ y one. h y (inr one)) ∙ with_own-other d n rows x (λ same. not_both t (h x (inl refl) same))
      | false ↦ λ t. skip w d n rows cs (λ y one. h y (inr one))
    ] refl

-- changes of which all of a directory pass a test are made in its rows
pub keep : (w : RowChange → Bool) (d : ℕ) (n : List ℕ) (rows other : FinMap key_cmp ℕ) (cs : List RowChange)
    → ((x : RowChange) → IsOneOf cs x → x.directory ≡ d → w x ≡ true) → get rows (d, n) ≡ get other (d, n)
    → get (fold with_own rows (filter w cs)) (d, n) ≡ get (fold with_own other cs) (d, n)
keep w d n rows other [] h e = e
keep w d n rows other (x ∷ cs) h e =
    elim (w x) as (λ b. w x ≡ b → get (fold with_own rows (cond b (x ∷ filter w cs) (filter w cs))) (d, n) ≡ get (fold with_own (with_own other x) cs) (d, n)) [
      | true ↦ λ t. keep w d n (with_own rows x) (with_own other x) cs (λ y one. h y (inr one)) (with_own-same d n rows other x e)
      | false ↦
          λ t. keep w d n rows (with_own other x) cs (λ y one. h y (inr one)) (e ∙ sym (with_own-other d n other x (λ same. not_both (h x (inl refl) same) t)))
    ] refl

-- the changes of an effect make what it makes
pub folds : (rows : FinMap key_cmp ℕ) (tree : TreeState) (t : ℕ) (effect : Effect) → fold with_own rows (changes_by tree t effect) ≡ rows_after rows effect
folds rows tree t Stays = refl
folds rows tree t (Adds d n c) = refl
folds rows tree t (Removes d n c) = refl
folds rows tree t (Edits file edit) = refl
folds rows tree t (Moves p n q m c) =
    elim (row_of tree q m) as (λ o. fold with_own rows (replaced tree t p q m o ++ removed t p n c (other_side p q) false ∷ added t q m c (other_side q p) ∷ [])
    ≡ insert (remove rows (p, n)) (q, m) c) [
      | None ↦ refl
      | Some there ↦ swaps.replaced rows (p, n) (q, m) c
    ]

-- each change of an effect has its stamp
pub stamp_of : (tree : TreeState) (t : ℕ) (effect : Effect) (x : RowChange) → IsOneOf (changes_by tree t effect) x → x.stamp ≡ t
stamp_of tree t Stays x one = absurd one
stamp_of tree t (Edits file edit) x one = absurd one
stamp_of tree t (Adds d n c) x one = elim one [ inl e ↦ ap (λ (y : RowChange). y.stamp) (sym e) | inr none ↦ absurd none ]
stamp_of tree t (Removes d n c) x one = elim one [ inl e ↦ ap (λ (y : RowChange). y.stamp) (sym e) | inr none ↦ absurd none ]
stamp_of tree t (Moves p n q m c) x one =
    elim (row_of tree q m) as (λ o. IsOneOf (replaced tree t p q m o ++ removed t p n c (other_side p q) false ∷ added t q m c (other_side q p) ∷ []) x
    → x.stamp ≡ t) [
      | None ↦ λ h. two h
      | Some there ↦ λ h. elim h [ inl e ↦ ap (λ (y : RowChange). y.stamp) (sym e) | inr rest ↦ two rest ]
    ] one
  where
    two : IsOneOf (removed t p n c (other_side p q) false ∷ added t q m c (other_side q p) ∷ []) x → x.stamp ≡ t
    two h = elim h [
      | inl e ↦ ap (λ (y : RowChange). y.stamp) (sym e)
      | inr rest ↦ elim rest [ inl e ↦ ap (λ (y : RowChange). y.stamp) (sym e) | inr none ↦ absurd none ]
    ]

-- the changes of a move are those of its two directories
pub sides : (tree : TreeState) (t p : ℕ) (n : List ℕ) (q : ℕ) (m : List ℕ) (c : ℕ) (x : RowChange) → IsOneOf (changes_by tree t (Moves p n q m c)) x
    → (x.directory ≡ p) ⊎ (x.directory ≡ q)
sides tree t p n q m c x one =
    elim (row_of tree q m) as (λ o. IsOneOf (replaced tree t p q m o ++ removed t p n c (other_side p q) false ∷ added t q m c (other_side q p) ∷ []) x
    → (x.directory ≡ p) ⊎ (x.directory ≡ q)) [
      | None ↦ λ h. two h
      | Some there ↦ λ h. elim h [ inl e ↦ inr (ap (λ (y : RowChange). y.directory) (sym e)) | inr rest ↦ two rest ]
    ] one
  where
    two : IsOneOf (removed t p n c (other_side p q) false ∷ added t q m c (other_side q p) ∷ []) x → (x.directory ≡ p) ⊎ (x.directory ≡ q)
    two h = elim h [
      | inl e ↦ inl (ap (λ (y : RowChange). y.directory) (sym e))
      | inr rest ↦ elim rest [ inl e ↦ inr (ap (λ (y : RowChange). y.directory) (sym e)) | inr none ↦ absurd none ]
    ]

-- the two changes of a move, and that by which what is replaced goes
pub goes_in : (tree : TreeState) (t p : ℕ) (n : List ℕ) (q : ℕ) (m : List ℕ) (c : ℕ)
    → IsOneOf (changes_by tree t (Moves p n q m c)) (removed t p n c (other_side p q) false)
goes_in tree t p n q m c =
    elim (row_of tree q m) as (λ o. IsOneOf (replaced tree t p q m o ++ removed t p n c (other_side p q) false ∷ added t q m c (other_side q p) ∷ [])
    (removed t p n c (other_side p q) false)) [
      | None ↦ inl refl
      | Some there ↦ inr (inl refl)
    ]

pub comes_in : (tree : TreeState) (t p : ℕ) (n : List ℕ) (q : ℕ) (m : List ℕ) (c : ℕ)
    → IsOneOf (changes_by tree t (Moves p n q m c)) (added t q m c (other_side q p))
comes_in tree t p n q m c =
    elim (row_of tree q m) as (λ o. IsOneOf (replaced tree t p q m o ++ removed t p n c (other_side p q) false ∷ added t q m c (other_side q p) ∷ [])
    (added t q m c (other_side q p))) [
      | None ↦ inr (inl refl)
      | Some there ↦ inr (inr (inl refl))
    ]

pub replaced_in : (tree : TreeState) (t p : ℕ) (n : List ℕ) (q : ℕ) (m : List ℕ) (c there : ℕ) → row_of tree q m ≡ Some there
    → IsOneOf (changes_by tree t (Moves p n q m c)) (removed t q m there (other_side q p) (is_directory tree there))
replaced_in tree t p n q m c there row =
    elim (row_of tree q m) as (λ o. o ≡ Some there
    → IsOneOf (replaced tree t p q m o ++ removed t p n c (other_side p q) false ∷ added t q m c (other_side q p) ∷ [])
    (removed t q m there (other_side q p) (is_directory tree there))) [
      | None ↦ λ e. cc
      | Some other ↦ λ e. inl (ap (λ (y : ℕ). removed t q m y (other_side q p) (is_directory tree y)) (same other e))
    ] row
  where
    same : (other : ℕ) → Some other ≡ Some there → other ≡ there
    same other e = cc
