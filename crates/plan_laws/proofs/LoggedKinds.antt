-- The kind that a logged change tells of its child is the one that the child has in the tree after the history.
use Rattle.std.proofs.Common.{◌≡◌, ℕ, suc, List, [], ◌∷◌, Option, Some, None, IsSome, inl, inr, refl, sym, ap, subst, ◌∙◌}
use Rattle.std.specs.FinMap.{get}
use Rattle.sfs_base.specs.declared.numbers.Kind.{Kind}
use Rattle.tree_laws.specs.declared.changes.Change.{Change}
use Rattle.tree_laws.specs.declared.history.Entry.{Entry}
use Rattle.tree_laws.specs.Effect.{Effect, Stays, Adds, Removes, Moves, Edits, tree_with}
use Rattle.tree_laws.specs.Fits.{Fits}
use Rattle.tree_laws.specs.History.{tree_after, tree_after_entry, IsLegalFrom}
use Rattle.tree_laws.specs.Laws.{IsSoundTree}
use Rattle.tree_laws.specs.Logged.{logged_by, logged_replaced}
use Rattle.tree_laws.specs.Sound.{IsSound}
use Rattle.tree_laws.specs.Tree.{TreeState, row_of, kind_of, is_directory, kind_if, kind_again}
use Rattle.tree_laws.specs.Verdict.{verdict}
use Rattle.tree_laws.proofs.Holders.{directory_stays}
use Rattle.tree_laws.proofs.Parts.{nodes_after}
use Rattle.tree_laws.proofs.Readings.{directory_by_kind}
use Rattle.tree_laws.proofs.SoundTrees.{calls_keep_sound, calls_fit}
use Rattle.cut_laws.specs.Rules.{IsOneOf}
use Rattle.cut_laws.proofs.Along.{first_nodes}
use Rattle.cut_laws.proofs.Basics.{in_either}
use Rattle.cut_laws.proofs.Lives.{made_node}
use Rattle.cut_laws.proofs.Nodes.{node_stays}
use Rattle.dep_closure.specs.History.{logged_of}
use Rattle.plan_laws.proofs.SpanRows.{own_log}

-- a node's kind is told by whether it is a directory
kind_by_directory : (tree : TreeState) (node : ℕ) → kind_of tree node ≡ kind_if (is_directory tree node)
kind_by_directory tree node = sym (kind_again (kind_of tree node)) ∙ ap kind_if (sym (directory_by_kind tree node))

pub same_kinds : (tree other : TreeState) (node : ℕ) → is_directory tree node ≡ is_directory other node → kind_of tree node ≡ kind_of other node
same_kinds tree other node same = kind_by_directory tree node ∙ ap kind_if same ∙ sym (kind_by_directory other node)

-- A change tells its child's kind in a tree: the child is a node of it, and of this kind.
record TellsKind (tree : TreeState) (change : Change) : Type 0 where
  child : IsSome (get tree.nodes change.child.0)
  kind : change.kind ≡ kind_of tree change.child.0

module _ (tree : TreeState) (core stamp : ℕ) (is : IsSound tree) where
  -- of a child that was there before the entry
  still_told : (effect : Effect) (makes : Option Kind) → Fits tree core effect makes → (change : Change) → TellsKind tree change
      → TellsKind (tree_with tree core effect makes) change
  still_told effect makes fits change told = record {
    child = node_stays tree core effect makes change.child.0 fits told.child;
    kind =
        told.kind
        ∙ sym (same_kinds (tree_with tree core effect makes) tree change.child.0 (directory_stays tree core effect makes change.child.0 fits told.child));
  }

  -- what an entry logs tells kinds of the next tree
  logged_tell : (effect : Effect) (makes : Option Kind) → Fits tree core effect makes → (change : Change)
      → IsOneOf (logged_by tree core stamp effect makes) change → TellsKind (tree_with tree core effect makes) change
  logged_tell Stays makes fits change one = absurd one
  logged_tell (Edits file edit) makes fits change one = absurd one
  logged_tell (Adds directory name child) None fits change one = elim one [
    | inl same ↦
        subst (TellsKind (tree_with tree core (Adds directory name child) None)) same
        (still_told (Adds directory name child) None fits _ (record { child = fits.node; kind = refl }))
    | inr none ↦ absurd none
  ]
  logged_tell (Adds directory name child) (Some kind) fits change one = elim one [
    | inl same ↦ subst (TellsKind (tree_with tree core (Adds directory name child) (Some kind))) same (record {
      child = made_node tree core directory name child kind fits;
      kind = sym (nodes_after tree core (Adds directory name child) (Some kind) child fits).kind;
    })
    | inr none ↦ absurd none
  ]
  logged_tell (Removes directory name child) (Some kind) fits change one = absurd fits
  logged_tell (Moves p n q m x) (Some kind) fits change one = absurd fits
  logged_tell (Removes directory name child) None fits change one = elim one [
    | inl same ↦
        subst (TellsKind (tree_with tree core (Removes directory name child) None)) same
        (still_told (Removes directory name child) None fits _ (record { child = is.node directory name child fits.row; kind = refl }))
    | inr none ↦ absurd none
  ]
  logged_tell (Moves p n q m x) None fits change one =
      still_told (Moves p n q m x) None fits change (elim (in_either (logged_replaced tree stamp p q m (row_of tree q m)) _ change one) [
        | inl over ↦ of_replaced (row_of tree q m) refl over
        | inr moved ↦ elim moved [
          | inl same ↦ subst (TellsKind tree) same (record { child = is.node p n x fits.row; kind = refl })
          | inr put ↦ elim put [
            | inl same ↦ subst (TellsKind tree) same (record { child = is.node p n x fits.row; kind = refl })
            | inr none ↦ absurd none
          ]
        ]
      ])
    where
      of_replaced : (there : Option ℕ) → row_of tree q m ≡ there → IsOneOf (logged_replaced tree stamp p q m there) change → TellsKind tree change
      of_replaced None row one = absurd one
      of_replaced (Some there) row one = elim one [
        | inl same ↦ subst (TellsKind tree) same (record { child = is.node q m there row; kind = refl })
        | inr none ↦ absurd none
      ]

-- what a history logs tells the kinds of the tree after it
pub kinds_logged : (first : TreeState) (k : ℕ) (history : List Entry) → IsSoundTree first → IsLegalFrom first k history → (change : Change)
    → IsOneOf (logged_of first history) change → change.kind ≡ kind_of (tree_after first history) change.child.0
kinds_logged first k [] is legal change one = absurd one
kinds_logged first k (entry ∷ history) is legal change one =
    let next = tree_after_entry first entry in
    let sound = calls_keep_sound first entry.core.0 entry.call is legal.0.core in
    elim (in_either (own_log first entry) (logged_of next history) change one) [
      | inr later ↦ kinds_logged next (suc k) history sound legal.1 change later
      | inl own ↦
          let told =
          logged_tell first entry.core.0 entry.stamp.0 is.sound (verdict first entry.core.0 entry.call).effect (verdict first entry.core.0 entry.call).makes
          (calls_fit first entry.core.0 entry.call is legal.0.core) change own in
          told.kind
          ∙ sym (same_kinds (tree_after next history) next change.child.0 (first_nodes next history (suc k) sound legal.1 change.child.0 told.child).1)
    ]
