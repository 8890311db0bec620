-- A past to which a legal call was added is that of the longer history.
use Rattle.std.proofs.Common.{◌≡◌, ℕ, ◌<◌, ◌≤◌, List, [], ◌∷◌, ◌++◌, length, take, map, inl, inr, refl, sym, ap, subst, ◌∙◌, arith}
use Rattle.std.proofs.lemmas.List.{map-append}
use Rattle.tree_laws.specs.declared.history.Entry.{Entry}
use Rattle.tree_laws.specs.Tree.{TreeState}
use Rattle.tree_laws.specs.Effect.{Effect}
use Rattle.tree_laws.specs.Verdict.{verdict}
use Rattle.tree_laws.specs.Changes.{RowChange, changes_by, changes_of}
use Rattle.tree_laws.specs.History.{tree_after, tree_after_entry, IsLegal}
use Rattle.tree_laws.specs.Laws.{IsSoundTree}
use Rattle.tree_laws.proofs.Histories.{tree_after-push}
use Rattle.tree_laws.proofs.SoundTrees.{calls_fit}
use Rattle.tree_laws.proofs.FileHistories.{histories_keep_sound}
use Rattle.flush_core.specs.declared.past.OwnChange.{OwnChange}
use Rattle.flush_core.specs.declared.past.Past.{Past}
use Rattle.cut_laws.specs.Rules.{IsOneOf, IsChange, births_by, births_of}
use Rattle.flush_core.specs.Past.{row_change_of, KeepsAbove, IsPast}
use Rattle.flush_core.specs.Grows.{Grows}
use Rattle.cut_laws.proofs.Basics.{in_either}
use Rattle.cut_laws.proofs.Pushed.{changes_of-push, births_of-push}
use Rattle.cut_laws.proofs.Own.{stamp_of}
use Rattle.cut_laws.proofs.Lives.{live_own}
use Rattle.cut_laws.proofs.Prefix.{take_take, change_below}

take_length : {X : Type 0} (xs ys : List X) → take (length xs) (xs ++ ys) ≡ xs
take_length [] ys = refl
take_length (x ∷ xs) ys = ap (λ l. x ∷ l) (take_length xs ys)

module _ (first : TreeState) (history : List Entry) (entry : Entry) (is : IsSoundTree first) (legal : IsLegal first (history ++ entry ∷ []))
    (stamped : entry.stamp.0 ≡ length history) (core : entry.core.0 < length (tree_after first history).made) where
  abbrev whole : List Entry
  whole = history ++ entry ∷ []

  abbrev n : ℕ
  n = length history

  prefix : take n whole ≡ history
  prefix = take_length history (entry ∷ [])

  abbrev tree : TreeState
  tree = tree_after first history

  abbrev effect : Effect
  effect = (verdict tree entry.core.0 entry.call).effect

  sound : IsSoundTree tree
  sound = rw prefix at (histories_keep_sound first whole n is legal)

  before : take n whole ≡ history → (x : RowChange) → IsChange first history x → x.stamp < n
  before e x one = change_below first whole n legal x (rw e one)

  same_take : (s : ℕ) → s ≤ n → take s history ≡ take s whole
  same_take s le = ap (take s) (sym prefix) ∙ take_take whole s n le

  -- what is kept of a change by the tree at its stamp is kept in the longer history
  still_kept : (change : OwnChange) → IsChange first history (row_change_of change) → KeepsAbove (tree_after first (take change.stamp history)) change
      → KeepsAbove (tree_after first (take change.stamp whole)) change
  still_kept change one keeps = let lt = before prefix (row_change_of change) one in rw (same_take change.stamp (omega arith)) at keeps

  newly_kept : (change : OwnChange) → IsOneOf (changes_by tree entry.stamp.0 effect) (row_change_of change) → KeepsAbove tree change
      → KeepsAbove (tree_after first (take change.stamp whole)) change
  newly_kept change one keeps = rw there keeps
    where
      there : take change.stamp whole ≡ history
      there = ap (λ s. take s whole) (stamp_of tree entry.stamp.0 effect (row_change_of change) one ∙ stamped) ∙ prefix

  pub grown_past : (old new : Past) → IsPast first history old → Grows old entry new → IsPast first whole new
  grown_past old new past grows = record {
    tree = grows.tree ∙ ap (λ (t : TreeState). tree_after_entry t entry) past.tree ∙ sym (tree_after-push first history entry);
    changes =
        ap (map row_change_of) grows.changes ∙ map-append row_change_of old.changes.items grows.more ∙ ap (λ l. l ++ map row_change_of grows.more) past.changes
        ∙ ap (λ l. changes_of first history ++ l) own ∙ sym (changes_of-push first history entry);
    births =
        grows.births
        ∙ ap (λ l. l ++ births_by entry.stamp.0 (verdict old.tree entry.core.0 entry.call).effect (verdict old.tree entry.core.0 entry.call).makes)
        past.births
        ∙ ap (λ (t : TreeState). births_of first history
        ++ births_by entry.stamp.0 (verdict t entry.core.0 entry.call).effect (verdict t entry.core.0 entry.call).makes)
        past.tree
        ∙ sym (births_of-push first history entry);
    above = λ change one. elim (in_either old.changes.items grows.more change (rw grows.changes at one)) [
      | inl was ↦ still_kept change (rw past.changes at (in_mapped old.changes.items change was)) (past.above change was)
      | inr more ↦
          let row = rw own at (in_mapped grows.more change more) in
          let live =
          live_own tree entry.core.0 entry.stamp.0 sound.sound effect _ (calls_fit tree entry.core.0 entry.call sound core) (row_change_of change) row in
          newly_kept change row (subst (λ (t : TreeState). KeepsAbove t change) past.tree
          (grows.noted change more (rw past.tree live.kind) (rw past.tree live.alive)))
    ];
  }
    where
      own : map row_change_of grows.more ≡ changes_by tree entry.stamp.0 effect
      own = grows.own ∙ ap (λ (t : TreeState). changes_by t entry.stamp.0 (verdict t entry.core.0 entry.call).effect) past.tree

      in_mapped : (changes : List OwnChange) (change : OwnChange) → IsOneOf changes change → IsOneOf (map row_change_of changes) (row_change_of change)
      in_mapped [] change one = absurd one
      in_mapped (other ∷ changes) change (inl e) = inl (ap row_change_of e)
      in_mapped (other ∷ changes) change (inr rest) = inr (in_mapped changes change rest)
