-- The changes of a file along a legal history, stamp by stamp.
use Rattle.std.proofs.Common.{◌≡◌, ℕ, zero, suc, ◌+◌, ◌≤◌, true, false, cond, List, [], ◌∷◌, inl, inr, refl, sym, ap, subst, ◌∙◌, arith, nat_eq}
use Rattle.std.specs.Prelude.{◌⊎◌}
use Rattle.std.proofs.lemmas.Bool.{eqb-true}
use Rattle.sfs_base.proofs.BasicNumbers.{zero_plus, plus_zero, suc_plus}
use Rattle.tree_laws.specs.declared.history.Entry.{Entry}
use Rattle.tree_laws.specs.Changes.{FileChange, edits_by, edits_of, bytes_at}
use Rattle.tree_laws.specs.Effect.{Effect, Stays, Adds, Removes, Moves, Edits, edited}
use Rattle.tree_laws.specs.History.{tree_after_entry, IsLegalFrom, IsLegal}
use Rattle.tree_laws.specs.Laws.{IsSoundTree}
use Rattle.tree_laws.specs.Parts.{bytes_after}
use Rattle.tree_laws.specs.Tree.{TreeState, bytes_of}
use Rattle.tree_laws.specs.Verdict.{verdict}
use Rattle.tree_laws.proofs.FileHistories.{bytes_with, bytes_at-tree_after}
use Rattle.cut_laws.specs.Rules.{IsOneOf}
use Rattle.cut_laws.proofs.Along.{tree_at, core_at, effect_at, makes_at, tree_at-after, fits_at, next_at}
use Rattle.cut_laws.proofs.Basics.{in_left, in_right, in_either}

-- each change of an effect has its stamp, and is what the effect does
pub edit_is : (stamp : ℕ) (effect : Effect) (x : FileChange) → IsOneOf (edits_by stamp effect) x → (x.stamp ≡ stamp) × (effect ≡ Edits x.file x.edit)
edit_is stamp Stays x one = absurd one
edit_is stamp (Adds d n c) x one = absurd one
edit_is stamp (Removes d n c) x one = absurd one
edit_is stamp (Moves p n q m c) x one = absurd one
edit_is stamp (Edits file edit) x (inl e) = (ap (λ (y : FileChange). y.stamp) (sym e), ap (λ (y : FileChange). Edits y.file y.edit) e)
edit_is stamp (Edits file edit) x (inr none) = absurd none

stamped : (effect : Effect) (a b : ℕ) (x : FileChange) → a ≡ b → IsOneOf (edits_by a effect) x → IsOneOf (edits_by b effect) x
stamped effect a b x e one = subst (λ (k : ℕ). IsOneOf (edits_by k effect) x) e one

edit_from : (first : TreeState) (history : List Entry) (stamp t : ℕ) (x : FileChange) → IsLegalFrom first stamp history
    → IsOneOf (edits_by (stamp + t) (effect_at first history t)) x → IsOneOf (edits_of first history) x
edit_from first [] stamp t x legal one = absurd one
edit_from first (entry ∷ history) stamp zero x legal one =
    in_left _ _ x (stamped (verdict first entry.core.0 entry.call).effect (stamp + 0) entry.stamp.0 x (plus_zero stamp ∙ sym legal.0.stamped) one)
edit_from first (entry ∷ history) stamp (suc t) x legal one =
    in_right _ _ x
    (edit_from (tree_after_entry first entry) history (suc stamp) t x legal.1
    (stamped (effect_at (tree_after_entry first entry) history t) (stamp + suc t) (suc stamp + t) x (sym (suc_plus stamp t)) one))

-- a change of a history stands at one of its stamps
edit_there : (first : TreeState) (history : List Entry) (stamp : ℕ) (x : FileChange) → IsLegalFrom first stamp history → IsOneOf (edits_of first history) x
    → (t : ℕ) × IsOneOf (edits_by (stamp + t) (effect_at first history t)) x
edit_there first [] stamp x legal one = absurd one
edit_there first (entry ∷ history) stamp x legal one = elim (in_either _ _ x one) [
  | inl here ↦ (0, stamped (verdict first entry.core.0 entry.call).effect entry.stamp.0 (stamp + 0) x (legal.0.stamped ∙ sym (plus_zero stamp)) here)
  | inr rest ↦
      let found = edit_there (tree_after_entry first entry) history (suc stamp) x legal.1 rest in (
        suc found.0,
        stamped (effect_at (tree_after_entry first entry) history found.0) (suc stamp + found.0) (stamp + suc found.0) x (suc_plus stamp found.0) found.1,
      )
]

-- each change at a stamp is one of the history
pub edit_in : (first : TreeState) (history : List Entry) (t : ℕ) (x : FileChange) → IsLegal first history → IsOneOf (edits_by t (effect_at first history t)) x
    → IsOneOf (edits_of first history) x
edit_in first history t x legal one = edit_from first history 0 t x legal (stamped (effect_at first history t) t (0 + t) x (sym (zero_plus t)) one)

-- each change of a history is what happens at its stamp
pub edit_at : (first : TreeState) (history : List Entry) (x : FileChange) → IsLegal first history → IsOneOf (edits_of first history) x
    → effect_at first history x.stamp ≡ Edits x.file x.edit
edit_at first history x legal one =
    let found = edit_there first history 0 x legal one in
    let is = edit_is (0 + found.0) (effect_at first history found.0) x found.1 in
    ap (effect_at first history) (is.0 ∙ zero_plus found.0) ∙ is.1

-- a change from a stamp on has that stamp at least
pub edits_from : (first : TreeState) (history : List Entry) (stamp : ℕ) (x : FileChange) → IsLegalFrom first stamp history → IsOneOf (edits_of first history) x
    → stamp ≤ x.stamp
edits_from first history stamp x legal one =
    let found = edit_there first history stamp x legal one in
    let is = (edit_is (stamp + found.0) (effect_at first history found.0) x found.1).0 in
    omega arith

-- A change of a file at a stamp, which makes the bytes behind it of those before it.
pub record IsEditAt (first : TreeState) (history : List Entry) (node k : ℕ) : Type 0 where
  pub change : FileChange
  pub among : IsOneOf (edits_of first history) change
  pub own : change.file ≡ node
  pub stamp : change.stamp ≡ k
  pub makes : bytes_at first history node (suc k) ≡ edited change.edit (bytes_at first history node k)

module _ (first : TreeState) (history : List Entry) (is : IsSoundTree first) (legal : IsLegal first history) (node : ℕ) where
  -- a file's bytes at a stamp are those of the tree there
  pub bytes_in_tree : (k : ℕ) → bytes_at first history node k ≡ bytes_of (tree_at first history k) node
  bytes_in_tree k = bytes_at-tree_after first history node k is legal ∙ ap (λ (t : TreeState). bytes_of t node) (sym (tree_at-after first history k))

  -- at the next stamp they are what happens makes of them
  pub next_bytes : (k : ℕ) → bytes_at first history node (suc k) ≡ bytes_after (effect_at first history k) node (bytes_at first history node k)
  next_bytes k =
      bytes_in_tree (suc k)
      ∙ ap (λ (t : TreeState). bytes_of t node) (next_at first history k)
      ∙ bytes_with (tree_at first history k) (core_at first history k) (effect_at first history k) (makes_at first history k) node
      (fits_at first history 0 k is legal)
      ∙ ap (bytes_after (effect_at first history k) node) (sym (bytes_in_tree k))

  -- so a change is made, or they stay
  pub step : (k : ℕ) → (bytes_at first history node (suc k) ≡ bytes_at first history node k) ⊎ IsEditAt first history node k
  step k = by (effect_at first history k) refl
    where
      next : (effect : Effect) → effect_at first history k ≡ effect
          → bytes_at first history node (suc k) ≡ bytes_after effect node (bytes_at first history node k)
      next effect e = next_bytes k ∙ ap (λ o. bytes_after o node (bytes_at first history node k)) e

      by : (effect : Effect) → effect_at first history k ≡ effect
          → (bytes_at first history node (suc k) ≡ bytes_at first history node k) ⊎ IsEditAt first history node k
      by Stays e = inl (next Stays e)
      by (Adds d n c) e = inl (next (Adds d n c) e)
      by (Removes d n c) e = inl (next (Removes d n c) e)
      by (Moves p n q m c) e = inl (next (Moves p n q m c) e)
      by (Edits file edit) e =
          elim (nat_eq file node) as (λ b. nat_eq file node ≡ b
          → (bytes_at first history node (suc k) ≡ bytes_at first history node k) ⊎ IsEditAt first history node k) [
            | true ↦ λ same. inr (record {
              change = record { stamp = k; file = file; edit = edit };
              among =
                  edit_in first history k (record { stamp = k; file = file; edit = edit }) legal
                  (subst (λ o. IsOneOf (edits_by k o) (record { stamp = k; file = file; edit = edit })) (sym e) (inl refl));
              own = eqb-true file node same;
              stamp = refl;
              makes = next (Edits file edit) e ∙ ap (λ b. cond b (edited edit (bytes_at first history node k)) (bytes_at first history node k)) same;
            })
            | false ↦ λ other. inl (next (Edits file edit) e ∙ ap (λ b. cond b (edited edit (bytes_at first history node k)) (bytes_at first history node k)) other)
          ] refl
