-- What a legal history's first entries have of the whole history's trees, effects, changes and births.
use Rattle.std.proofs.Common.{◌≡◌, ℕ, zero, suc, ◌+◌, ◌<◌, ◌≤◌, false, ◌&&◌, List, [], ◌∷◌, ◌++◌, length, take, IsSome, inl, inr, refl, sym, ap, ◌∙◌, arith}
use borrow.Author.Tests.{lt-ltb}
use Rattle.std.specs.Prelude.{filter, fold}
use Rattle.std.proofs.lemmas.List.Elements.{filter-append}
use Rattle.std.proofs.Math.Seq.{take-length}
use Rattle.std.specs.FinMap.{get}
use Rattle.tree_laws.specs.declared.history.Entry.{Entry}
use Rattle.tree_laws.specs.Tree.{TreeState, is_directory}
use Rattle.tree_laws.specs.Effect.{Effect, Stays, Adds}
use Rattle.tree_laws.specs.Verdict.{verdict}
use Rattle.tree_laws.specs.Changes.{RowChange, changes_by, changes_of}
use Rattle.tree_laws.specs.History.{tree_after, tree_after_entry, IsLegalFrom, IsLegal}
use Rattle.tree_laws.specs.Laws.{IsSoundTree}
use Rattle.cut_laws.specs.Cut.{Cut, is_within, is_counted_within, with_own, counted_rows_at_cut}
use Rattle.cut_laws.specs.Rules.{IsOneOf, IsChange, Birth, births_of}
use Rattle.cut_laws.specs.Closure.{every_entry}
use Rattle.cut_laws.proofs.Basics.{below_or, filter_none, filter_same, in_either}
use Rattle.sfs_base.proofs.BasicNumbers.{not_below}
use Rattle.cut_laws.proofs.Own.{stamp_of}
use Rattle.cut_laws.proofs.Along.{tree_at, effect_at, makes_at, tree_at-after, change_in, change_of, birth_in, nodes_at}
use Rattle.cut_laws.proofs.Commit.{IsBornAt, birth_at}
use Rattle.cut_laws.proofs.Views.{below}

-- the first entries of a legal history are one
legal_from : (first : TreeState) (history : List Entry) (stamp n : ℕ) → IsLegalFrom first stamp history → IsLegalFrom first stamp (take n history)
legal_from first history stamp zero legal = tt
legal_from first [] stamp (suc n) legal = tt
legal_from first (entry ∷ history) stamp (suc n) legal = (legal.0, legal_from (tree_after_entry first entry) history (suc stamp) n legal.1)

pub legal_take : (first : TreeState) (history : List Entry) (n : ℕ) → IsLegal first history → IsLegal first (take n history)
legal_take first history n legal = legal_from first history 0 n legal

-- the first of the first entries are the first
pub take_take : (history : List Entry) (s n : ℕ) → s ≤ n → take s (take n history) ≡ take s history
take_take history zero n le = refl
take_take history (suc s) zero le = absurd (omega arith)
take_take [] (suc s) (suc n) le = refl
take_take (entry ∷ history) (suc s) (suc n) le = ap (λ l. entry ∷ l) (take_take history s n (omega arith))

-- up to their count the trees and what comes next are the same
pub tree_at-take : (first : TreeState) (history : List Entry) (t n : ℕ) → t ≤ n → tree_at first (take n history) t ≡ tree_at first history t
tree_at-take first history t n le =
    tree_at-after first (take n history) t ∙ ap (tree_after first) (take_take history t n le) ∙ sym (tree_at-after first history t)

pub effect_at-take : (first : TreeState) (history : List Entry) (t n : ℕ) → t < n → effect_at first (take n history) t ≡ effect_at first history t
effect_at-take first history t zero lt = absurd (omega arith)
effect_at-take first [] t (suc n) lt = refl
effect_at-take first (entry ∷ history) zero (suc n) lt = refl
effect_at-take first (entry ∷ history) (suc t) (suc n) lt = effect_at-take (tree_after_entry first entry) history t n (omega arith)

pub makes_at-take : (first : TreeState) (history : List Entry) (t n : ℕ) → t < n → makes_at first (take n history) t ≡ makes_at first history t
makes_at-take first history t zero lt = absurd (omega arith)
makes_at-take first [] t (suc n) lt = refl
makes_at-take first (entry ∷ history) zero (suc n) lt = refl
makes_at-take first (entry ∷ history) (suc t) (suc n) lt = makes_at-take (tree_after_entry first entry) history t n (omega arith)

-- past their count nothing comes
past_effect : (first : TreeState) (history : List Entry) (t n : ℕ) → n ≤ t → effect_at first (take n history) t ≡ Stays
past_effect first history t zero le = refl
past_effect first [] t (suc n) le = refl
past_effect first (entry ∷ history) zero (suc n) le = absurd (omega arith)
past_effect first (entry ∷ history) (suc t) (suc n) le = past_effect (tree_after_entry first entry) history t n (omega arith)

module _ (first : TreeState) (history : List Entry) (n : ℕ) (legal : IsLegal first history) where
  -- what a prefix changes at a stamp
  abbrev changes_there : List Entry → ℕ → List RowChange
  changes_there h t = changes_by (tree_at first h t) t (effect_at first h t)

  same_changes : (t : ℕ) → t < n → changes_there (take n history) t ≡ changes_there history t
  same_changes t lt =
      ap (λ (tree : TreeState). changes_by tree t (effect_at first (take n history) t)) (tree_at-take first history t n (omega arith))
      ∙ ap (changes_by (tree_at first history t) t) (effect_at-take first history t n lt)

  -- a change of the first entries is one of the history, below their count
  pub change_below : (x : RowChange) → IsChange first (take n history) x → x.stamp < n
  change_below x one = elim (below_or x.stamp n) [
    | inl lt ↦ lt
    | inr le ↦ absurd (rw (past_effect first history x.stamp n le) at (change_of first (take n history) x (legal_take first history n legal) one))
  ]

  pub change_whole : (x : RowChange) → IsChange first (take n history) x → IsChange first history x
  change_whole x one =
      change_in first history x.stamp x legal
      (rw (same_changes x.stamp (change_below x one)) at (change_of first (take n history) x (legal_take first history n legal) one))

  pub change_prefix : (x : RowChange) → IsChange first history x → x.stamp < n → IsChange first (take n history) x
  change_prefix x one lt =
      change_in first (take n history) x.stamp x (legal_take first history n legal) (rw (same_changes x.stamp lt) (change_of first history x legal one))

  born_in : (h : List Entry) (birth : Birth) → IsLegal first h → IsBornAt first h birth birth.stamp → IsOneOf (births_of first h) birth
  born_in h birth is born =
      birth_in first h birth.stamp birth is (rw born.made (rw born.adds (inl refl)))

  -- so is a birth
  pub birth_below : (birth : Birth) → IsOneOf (births_of first (take n history)) birth → birth.stamp < n
  birth_below birth one = elim (below_or birth.stamp n) [
    | inl lt ↦ lt
    | inr le ↦ absurd (no_birth (sym (past_effect first history birth.stamp n le) ∙ born.adds))
  ]
    where
      born : IsBornAt first (take n history) birth birth.stamp
      born = birth_at first (take n history) birth (legal_take first history n legal) one

      no_birth : {d : ℕ} {m : List ℕ} {c : ℕ} → Stays ≡ Adds d m c → ⊥
      no_birth e = cc

  pub birth_whole : (birth : Birth) → IsOneOf (births_of first (take n history)) birth → IsOneOf (births_of first history) birth
  birth_whole birth one =
      let born = birth_at first (take n history) birth (legal_take first history n legal) one in
      let lt = birth_below birth one in
      born_in history birth legal (record {
        name = born.name;
        kind = born.kind;
        adds = sym (effect_at-take first history birth.stamp n lt) ∙ born.adds;
        made = sym (makes_at-take first history birth.stamp n lt) ∙ born.made;
      })

  pub birth_prefix : (birth : Birth) → IsOneOf (births_of first history) birth → birth.stamp < n → IsOneOf (births_of first (take n history)) birth
  birth_prefix birth one lt =
      let born = birth_at first history birth legal one in
      born_in (take n history) birth (legal_take first history n legal) (record {
        name = born.name;
        kind = born.kind;
        adds = effect_at-take first history birth.stamp n lt ∙ born.adds;
        made = makes_at-take first history birth.stamp n lt ∙ born.made;
      })

  -- a node of their tree has its kind in the whole history's
  pub kind_whole : (x : ℕ) → IsSoundTree first → IsSome (get (tree_at first history n).nodes x)
      → is_directory (tree_after first history) x ≡ is_directory (tree_after first (take n history)) x
  kind_whole x is some = (nodes_at first history n is legal x some).1 ∙ ap (λ (tree : TreeState). is_directory tree x) (tree_at-after first history n)

-- a change of a legal history lies below its length
pub stamp_below : (first : TreeState) (history : List Entry) (x : RowChange) → IsLegal first history → IsChange first history x → x.stamp < length history
stamp_below first history x legal one = change_below first history (length history) legal x (rw (take-length history) one)

-- each change of a legal history from a stamp on has that stamp at least
stamps_from : (first : TreeState) (history : List Entry) (stamp : ℕ) (x : RowChange) → IsLegalFrom first stamp history → IsOneOf (changes_of first history) x
    → stamp ≤ x.stamp
stamps_from first [] stamp x legal one = absurd one
stamps_from first (entry ∷ history) stamp x legal one = elim (in_either _ _ x one) [
  | inl here ↦ let e = stamp_of first entry.stamp.0 (verdict first entry.core.0 entry.call).effect x here ∙ legal.0.stamped in omega arith
  | inr rest ↦ let le = stamps_from (tree_after_entry first entry) history (suc stamp) x legal.1 rest in omega arith
]

counted_none : (n : ℕ) (cut : Cut) (x : RowChange) → n ≤ x.stamp → is_counted_within (below n) cut x ≡ false
counted_none n cut x le = ap (λ b. b && is_within cut x) (not_below x.stamp n le)

counted_all : (n : ℕ) (cut : Cut) (x : RowChange) → x.stamp < n → is_counted_within (below n) cut x ≡ is_counted_within every_entry cut x
counted_all n cut x lt = ap (λ b. b && is_within cut x) (lt-ltb x.stamp n lt)

counted_from : (first : TreeState) (history : List Entry) (stamp m n : ℕ) (cut : Cut) → stamp + m ≡ n → IsLegalFrom first stamp history
    → filter (is_counted_within (below n) cut) (changes_of first history) ≡ filter (is_counted_within every_entry cut) (changes_of first (take m history))
counted_from first history stamp zero n cut e legal =
    filter_none (is_counted_within (below n) cut) (changes_of first history)
    (λ x one. counted_none n cut x (let le = stamps_from first history stamp x legal one in omega arith))
counted_from first [] stamp (suc m) n cut e legal = refl
counted_from first (entry ∷ history) stamp (suc m) n cut e legal =
    filter-append (is_counted_within (below n) cut) own (changes_of next history)
    ∙ ap (λ l. l ++ filter (is_counted_within (below n) cut) (changes_of next history))
    (filter_same (is_counted_within (below n) cut) (is_counted_within every_entry cut) own
    (λ x one. counted_all n cut x (lower x (stamp_of first entry.stamp.0 effect x one))))
    ∙ ap (λ l. filter (is_counted_within every_entry cut) own ++ l) (counted_from next history (suc stamp) m n cut (omega arith) legal.1)
    ∙ sym (filter-append (is_counted_within every_entry cut) own (changes_of next (take m history)))
  where
    effect : Effect
    effect = (verdict first entry.core.0 entry.call).effect

    own : List RowChange
    own = changes_by first entry.stamp.0 effect

    next : TreeState
    next = tree_after_entry first entry

    lower : (x : RowChange) → x.stamp ≡ entry.stamp.0 → x.stamp < n
    lower x same = let there = legal.0.stamped in omega arith

-- the rows at a cut of the first entries are those of the history where these count
pub counted_rows-take : (first : TreeState) (history : List Entry) (n : ℕ) (cut : Cut) → IsLegal first history
    → counted_rows_at_cut first (take n history) every_entry cut ≡ counted_rows_at_cut first history (below n) cut
counted_rows-take first history n cut legal = ap (fold with_own first.rows) (sym (counted_from first history 0 n n cut (omega arith) legal))
