-- A bucket of a directory whose row went.
use Rattle.std.proofs.Common.{◌≡◌, ◌≢◌, ◌<◌, ℕ, true, false, ◌&&◌, ◌==◌, List, length, Some, None, inl, inr, sym, ap, subst, ◌∙◌, ⊎_elim}
use borrow.Author.Tests.{eqb-true}
use Rattle.std.specs.Prelude.{if◌then◌else◌}
use Rattle.std.specs.FinMap.{get}
use Rattle.std.proofs.lemmas.Bool.{cases_Bool}
use Rattle.sfs_base.specs.Name.{bucket}
use Rattle.sfs_base.specs.declared.numbers.NodeId.{NodeId}
use Rattle.tree_laws.specs.declared.call.Call.{Call}
use Rattle.tree_laws.specs.declared.call.Call.TheVariants as call
use Rattle.tree_laws.specs.Tree.{TreeState, row_of, is_directory, holder_of}
use Rattle.tree_laws.specs.Effect.{Removes, rows_after}
use Rattle.tree_laws.specs.Parts.{is_in_part, is_this}
use Rattle.tree_laws.specs.Lock.{stands_of}
use Rattle.tree_laws.specs.Laws.{IsSoundTree}
use Rattle.tree_laws.specs.Verdict.{verdict, tree_after_call}
use Rattle.tree_laws.proofs.RowFacts.{holder_found, removed_cases}
use Rattle.mem_values.specs.declared.bucket.Bucket.{Bucket}
use Rattle.mem_values.specs.Stands.{ShowsBucket}
use Rattle.mem_values.specs.Touches.{touches_standing}
use Rattle.mem_values.proofs.Kept.{directory_kept}
use Rattle.mem_calls.specs.Ends.{IsPlacedBucket}
use Rattle.mem_calls.proofs.Placed.{placed_after}

pub not_equal : (a b : ℕ) → a ≢ b → (a == b) ≡ false
not_equal a b apart = ⊎_elim (λ same. absurd (apart (eqb-true a b same))) (λ other. other) (cases_Bool (a == b))

module _ (tree : TreeState) (core : ℕ) (dir : NodeId) (name : List ℕ) (child : NodeId) (is : IsSoundTree tree) (lt : core < length tree.made)
    (removes : (verdict tree core (call.Rmdir dir name)).effect ≡ Removes dir.0 name child.0)
    (row : row_of tree dir.0 name ≡ Some child.0) (kind : is_directory tree child.0 ≡ true) where
  abbrev c : Call
  c = call.Rmdir dir name

  abbrev next : TreeState
  next = tree_after_call tree core c

  pub kind_next : is_directory next child.0 ≡ true
  kind_next = directory_kept tree core c is lt child.0 (is.sound.node dir.0 name child.0 row) ∙ kind

  -- no row names it
  holder_none : holder_of next child.0 ≡ None
  holder_none = elim (holder_found next child.0) [
    | inl f ↦
        let gone = removed_cases tree.rows f.0 dir.0 f.2.0 name child.0
        (subst (λ r. get r (f.0, f.2.0) ≡ Some child.0) (ap (rows_after tree.rows) removes) f.2.1) in
        let same = is.sound.once f.0 dir.0 f.2.0 name child.0 gone.1 row kind in
        absurd (gone.0 same.0 same.1)
    | inr none ↦ none.0
  ]

  stands_none : stands_of next child.0 ≡ None
  stands_none = ap (λ b. if b then holder_of next child.0 else None) kind_next ∙ holder_none

  module _ (apart : child.0 ≢ dir.0) where
    pub stays : touches_standing tree core c dir.0 ≡ false
    stays = ap (is_this dir.0) row ∙ not_equal child.0 dir.0 apart

    module _ (number : ℕ) (old new : Bucket) (shows : ShowsBucket tree child.0 number old) (nowhere : IsPlacedBucket None old new) where
      outside : is_in_part child.0 (λ n. bucket n == number) dir.0 name ≡ false
      outside = ap (λ b. b && (bucket name == number)) (not_equal dir.0 child.0 (λ same. apart (sym same)))

      -- It shows the directory after the call.
      pub nowhere_after : ShowsBucket next child.0 number new
      nowhere_after = placed_after tree core c is lt child.0 number outside None old new shows nowhere (sym stands_none)
