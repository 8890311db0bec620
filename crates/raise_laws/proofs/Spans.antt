-- What the changes of a span make of rows and bytes.
use Rattle.std.proofs.Common.{◌≡◌, ℕ, suc, ◌<◌, ◌≤◌, Bool, true, false, cond, ◌&&◌, List, [], ◌∷◌, ◌++◌, inl, inr, refl, sym, ap, subst, ◌∙◌, arith, nat_eq, nat_lt}
use Rattle.std.specs.Prelude.{◌⊎◌, nat_le, filter, fold}
use Rattle.std.proofs.lemmas.Bool.{cases_lt, lt-ltb, le-ltb, le-leb}
use Rattle.std.proofs.lemmas.Bool.Decides.{nat_tests}
use Rattle.std.proofs.lemmas.List.Elements.{filter-append}
use Rattle.std.proofs.lemmas.List.Sums.{fold-append}
use Rattle.tree_laws.specs.declared.history.Entry.{Entry}
use Rattle.tree_laws.specs.Changes.{RowChange, FileChange, changes_by, changes_of, edits_by, edits_of, with_change, is_own_below, is_edit_below}
use Rattle.tree_laws.specs.Effect.{Effect, Stays, Adds, Removes, Moves, Edits, edited}
use Rattle.tree_laws.specs.History.{tree_after_entry, IsLegalFrom, IsLegal}
use Rattle.tree_laws.specs.Tree.{TreeState, names_of, bytes_of}
use Rattle.tree_laws.specs.Verdict.{verdict}
use Rattle.cut_laws.specs.Cut.{cut_of}
use Rattle.cut_laws.specs.Rules.{IsOneOf}
use Rattle.cut_laws.proofs.Basics.{in_either, filter_none, filter_same}
use Rattle.cut_laws.proofs.CutRows.{directories_are_cut}
use Rattle.cut_laws.proofs.Own.{stamp_of}
use Rattle.raise_laws.specs.Spans.{is_own_between, SpansMakeRows, SpansMakeCutRows, is_edit_between, SpansMakeBytes}

-- A list of changes of one entry after the other: those of its entry have its stamp, and those behind have later ones.
pub data AreByStamps {X : Type 0} (stamp : X → ℕ) : ℕ → List X → Type 0 where
  nothing : (k : ℕ) → AreByStamps stamp k []
  entry : (k : ℕ) (own rest : List X) → ((x : X) → IsOneOf own x → stamp x ≡ k) → AreByStamps stamp (suc k) rest → AreByStamps stamp k (own ++ rest)

later : {X : Type 0} (stamp : X → ℕ) (k : ℕ) (xs : List X) → AreByStamps stamp k xs → (x : X) → IsOneOf xs x → k ≤ stamp x
later stamp _ _ (nothing k) x there = absurd there
later stamp _ _ (entry k own rest same behind) x there = elim (in_either own rest x there) [
  | inl mine ↦ let is = same x mine in omega arith
  | inr theirs ↦ let low = later stamp (suc k) rest behind x theirs in omega arith
]

-- what is made below a stamp is what is made below an earlier one and then between the two
module _ {X Y : Type 0} (stamp : X → ℕ) (test : X → Bool) (make : Y → X → Y) (from to : ℕ) (le : from ≤ to) where
  abbrev below : ℕ → X → Bool
  below c x = nat_lt (stamp x) c && test x

  abbrev between : X → Bool
  between x = (nat_le from (stamp x) && nat_lt (stamp x) to) && test x

  -- behind the earlier stamp
  pub behind : (k : ℕ) (xs : List X) → from ≤ k → AreByStamps stamp k xs → (y : Y)
      → fold make y (filter (below to) xs) ≡ fold make (fold make y (filter (below from) xs)) (filter between xs)
  behind k xs high by y =
      ap (fold make y)
      (filter_same (below to) between xs
      (λ x there. let low = later stamp k xs by x there in ap (λ b. (b && nat_lt (stamp x) to) && test x) (sym (le-leb from (stamp x) (omega arith)))))
      ∙ ap (λ z. fold make z (filter between xs))
      (ap (fold make y)
      (sym
      (filter_none (below from) xs
      (λ x there. let low = later stamp k xs by x there in ap (λ b. b && test x) (le-ltb (stamp x) from (omega arith))))))

  pub split : (k : ℕ) (xs : List X) → AreByStamps stamp k xs → (y : Y)
      → fold make y (filter (below to) xs) ≡ fold make (fold make y (filter (below from) xs)) (filter between xs)
  split _ _ (nothing k) y = refl
  split _ _ (entry k own rest same others) y = elim (cases_lt k from) [
    | inr high ↦ behind k (own ++ rest) high (entry k own rest same others) y
    | inl low ↦
        ap (fold make y) (filter-append (below to) own rest ∙ ap (λ l. l ++ filter (below to) rest) (alike low))
        ∙ fold-append make y (filter (below from) own) (filter (below to) rest)
        ∙ split (suc k) rest others (fold make y (filter (below from) own))
        ∙ sym (ap (λ z. fold make z (filter between rest)) (fold-append make y (filter (below from) own) (filter (below from) rest)))
        ∙ sym
        (λ i. fold make (fold make y (filter-append (below from) own rest i))
        ((filter-append between own rest ∙ ap (λ l. l ++ filter between rest) (none low)) i))
  ]
    where
      alike : k < from → filter (below to) own ≡ filter (below from) own
      alike low =
          filter_same (below to) (below from) own
          (λ x there. let is = same x there in ap (λ b. b && test x) (lt-ltb (stamp x) to (omega arith) ∙ sym (lt-ltb (stamp x) from (omega arith))))

      none : k < from → filter between own ≡ []
      none low =
          filter_none between own (λ x there. let is = same x there in ap (λ b. (b && nat_lt (stamp x) to) && test x) (not_le from (stamp x) (omega arith)))
        where
          not_le : (a b : ℕ) → b < a → nat_le a b ≡ false
          not_le a b lt = grind (arith, nat_tests)

-- the changes of a history stand by their stamps
changes_by_stamps : (first : TreeState) (k : ℕ) (history : List Entry) → IsLegalFrom first k history
    → AreByStamps (λ (x : RowChange). x.stamp) k (changes_of first history)
changes_by_stamps first k [] legal = nothing k
changes_by_stamps first k (e ∷ history) legal =
    entry k (changes_by first e.stamp.0 (verdict first e.core.0 e.call).effect) (changes_of (tree_after_entry first e) history)
    (λ x there. stamp_of first e.stamp.0 (verdict first e.core.0 e.call).effect x there ∙ legal.0.stamped)
    (changes_by_stamps (tree_after_entry first e) (suc k) history legal.1)

edits_by_stamps : (first : TreeState) (k : ℕ) (history : List Entry) → IsLegalFrom first k history
    → AreByStamps (λ (x : FileChange). x.stamp) k (edits_of first history)
edits_by_stamps first k [] legal = nothing k
edits_by_stamps first k (e ∷ history) legal =
    entry k (edits_by e.stamp.0 (verdict first e.core.0 e.call).effect) (edits_of (tree_after_entry first e) history)
    (λ x there. own (verdict first e.core.0 e.call).effect x there ∙ legal.0.stamped)
    (edits_by_stamps (tree_after_entry first e) (suc k) history legal.1)
  where
    own : (effect : Effect) (x : FileChange) → IsOneOf (edits_by e.stamp.0 effect) x → x.stamp ≡ e.stamp.0
    own Stays x there = absurd there
    own (Adds directory name child) x there = absurd there
    own (Removes directory name child) x there = absurd there
    own (Moves directory name to_directory to_name child) x there = absurd there
    own (Edits file edit) x (inl is) = ap (λ (c : FileChange). c.stamp) (sym is)
    own (Edits file edit) x (inr there) = absurd there

pub spans_make_rows : SpansMakeRows
spans_make_rows first history directory from to legal le =
    split (λ (x : RowChange). x.stamp) (λ x. nat_eq x.directory directory) with_change from to le 0 (changes_of first history)
    (changes_by_stamps first 0 history legal) (names_of directory first.rows)

pub spans_make_cut_rows : SpansMakeCutRows
spans_make_cut_rows first history cut raised directory legal le =
    directories_are_cut first history raised directory ∙ spans_make_rows first history directory (cut_of cut directory) (cut_of raised directory) legal le
    ∙ ap (λ rows. fold with_change rows (filter (is_own_between directory (cut_of cut directory) (cut_of raised directory)) (changes_of first history)))
    (sym (directories_are_cut first history cut directory))

pub spans_make_bytes : SpansMakeBytes
spans_make_bytes first history file from to legal le =
    split (λ (x : FileChange). x.stamp) (λ x. nat_eq x.file file) (λ bytes change. edited change.edit bytes) from to le 0 (edits_of first history)
    (edits_by_stamps first 0 history legal) (bytes_of first file)
