-- What a file's changes touch, over a longer history.
use Rattle.std.proofs.Common.{◌≡◌, ℕ, zero, suc, ◌+◌, ◌<◌, ◌≤◌, Bool, false, cond, ◌&&◌, List, [], ◌∷◌, ◌++◌, length, take, refl, sym, ap, subst, ◌∙◌, arith, nat_eq}
use Rattle.std.specs.Prelude.{filter, nat_le}
use Rattle.std.proofs.lemmas.List.{append_assoc, append-nil}
use Rattle.std.proofs.lemmas.List.Elements.{filter-append}
use Rattle.std.proofs.Math.Seq.{take-append_seam}
use Rattle.sfs_base.proofs.BasicNumbers.{not_below}
use Rattle.sfs_base.proofs.BasicTruth.{and_false}
use Rattle.tree_laws.specs.declared.history.Entry.{Entry}
use Rattle.tree_laws.specs.Changes.{FileChange, edits_by, edits_of, bytes_at}
use Rattle.tree_laws.specs.Effect.{Effect, Stays, Adds, Removes, Moves, Edits}
use Rattle.tree_laws.specs.History.{tree_after, tree_after_entry, IsLegalFrom, IsLegal}
use Rattle.tree_laws.specs.Laws.{IsSoundTree}
use Rattle.tree_laws.specs.Tree.{TreeState, bytes_of}
use Rattle.tree_laws.specs.Verdict.{verdict}
use Rattle.tree_laws.proofs.FileHistories.{bytes_at-tree_after}
use Rattle.cut_laws.proofs.Prefix.{legal_take, take_take}
use Rattle.raise_laws.specs.Spans.{is_edit_between}
use Rattle.turn_laws.specs.Touched.{is_touched_by, is_touched_between}

-- the changes of a history and of what follows
pub edits_joined : (first : TreeState) (history rest : List Entry)
    → edits_of first (history ++ rest) ≡ edits_of first history ++ edits_of (tree_after first history) rest
edits_joined first [] rest = refl
edits_joined first (e ∷ history) rest =
    ap (λ l. edits_by e.stamp.0 (verdict first e.core.0 e.call).effect ++ l) (edits_joined (tree_after_entry first e) history rest)
    ∙ sym (append_assoc (edits_by e.stamp.0 (verdict first e.core.0 e.call).effect) (edits_of (tree_after_entry first e) history) _)

-- what follows is legal behind it
pub legal_rest : (first : TreeState) (stamp : ℕ) (history rest : List Entry) → IsLegalFrom first stamp (history ++ rest)
    → IsLegalFrom (tree_after first history) (stamp + length history) rest
legal_rest first stamp [] rest legal = let e : stamp ≡ stamp + 0 = omega arith in subst (λ (k : ℕ). IsLegalFrom first k rest) e legal
legal_rest first stamp (entry ∷ history) rest legal =
    let e : suc stamp + length history ≡ stamp + suc (length history) = omega arith in
    subst (λ (k : ℕ). IsLegalFrom (tree_after (tree_after_entry first entry) history) k rest) e
    (legal_rest (tree_after_entry first entry) (suc stamp) history rest legal.1)

-- no change is in a span that ends before it
none_late : (file from to stamp : ℕ) (effect : Effect) → to ≤ stamp → filter (is_edit_between file from to) (edits_by stamp effect) ≡ []
none_late file from to stamp Stays le = refl
none_late file from to stamp (Adds d n child) le = refl
none_late file from to stamp (Removes d n child) le = refl
none_late file from to stamp (Moves p n q m child) le = refl
none_late file from to stamp (Edits own edit) le =
    ap (λ b. cond (b && nat_eq own file) (record { stamp = stamp; file = own; edit = edit } ∷ []) [])
    (ap (λ b. nat_le from stamp && b) (not_below stamp to le) ∙ and_false (nat_le from stamp))

all_late : (file from to stamp : ℕ) (first : TreeState) (rest : List Entry) → to ≤ stamp → IsLegalFrom first stamp rest
    → filter (is_edit_between file from to) (edits_of first rest) ≡ []
all_late file from to stamp first [] le legal = refl
all_late file from to stamp first (e ∷ rest) le legal =
    filter-append (is_edit_between file from to) (edits_by e.stamp.0 (verdict first e.core.0 e.call).effect) (edits_of (tree_after_entry first e) rest)
    ∙ ap (λ l. l ++ filter (is_edit_between file from to) (edits_of (tree_after_entry first e) rest))
    (none_late file from to e.stamp.0 (verdict first e.core.0 e.call).effect (subst (λ n. to ≤ n) (sym legal.0.stamped) le))
    ∙ all_late file from to (suc stamp) (tree_after_entry first e) rest (omega arith) legal.1

module _ (first : TreeState) (history rest : List Entry) (is : IsSoundTree first) (legal : IsLegal first (history ++ rest)) (file from to : ℕ)
    (low : from ≤ length history) (end : to ≤ length history) where
  span_longer : filter (is_edit_between file from to) (edits_of first (history ++ rest)) ≡ filter (is_edit_between file from to) (edits_of first history)
  span_longer =
      ap (filter (is_edit_between file from to)) (edits_joined first history rest)
      ∙ filter-append (is_edit_between file from to) (edits_of first history) (edits_of (tree_after first history) rest)
      ∙ ap (λ l. filter (is_edit_between file from to) (edits_of first history) ++ l)
      (all_late file from to (0 + length history) (tree_after first history) rest (omega arith) (legal_rest first 0 history rest legal))
      ∙ append-nil (filter (is_edit_between file from to) (edits_of first history))

  before : take (length history) (history ++ rest) ≡ history
  before = take-append_seam history rest

  pub bytes_longer : bytes_at first (history ++ rest) file from ≡ bytes_at first history file from
  bytes_longer =
      bytes_at-tree_after first (history ++ rest) file from is legal
      ∙ ap (λ h. bytes_of (tree_after first h) file) (sym (take_take (history ++ rest) from (length history) low) ∙ ap (take from) before)
      ∙ sym (bytes_at-tree_after first history file from is (subst (IsLegal first) before (legal_take first (history ++ rest) (length history) legal)))

  -- a span that ends within the first entries touches the same over the whole history
  pub touched_longer : is_touched_between first (history ++ rest) file from to ≡ is_touched_between first history file from to
  touched_longer = λ i. is_touched_by (span_longer i) (bytes_longer i)
