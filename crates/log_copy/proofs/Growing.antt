-- A copy gets directory after directory.
use Rattle.std.specs.Prelude.{if◌then◌else◌, nat_eq, nat_lt}
use Rattle.std.specs.List.Sorted.{IsStrictlyIncreasing}
use Rattle.std.proofs.Common.{◌≡◌, ◌<◌, ◌≤◌, ◌+◌, ◌-◌, ◌^◌, ◌∷◌, ◌++◌, ◌∙◌, ◌⊎◌, ◌||◌, ℕ, Bool, true, false, List, [], map, length, Option, Some, None, refl, ap, sym, subst, arith, inl, inr, eqb-true, length-append}
use Rattle.std.proofs.lemmas.Bool.{ltb-true, ltb-false}
use Rattle.std.proofs.lemmas.Bool.Decides.{nat_tests}
use Rattle.sfs_base.specs.declared.numbers.NodeId.{NodeId}
use Rattle.sfs_base.proofs.BasicTruth.{true_not_false, not_both}
use Rattle.sfs_base.proofs.BasicNumbers.{not_same, turned}
use Rattle.tree_laws.specs.NameRow.{node_number}
use Rattle.tree_laws.specs.declared.changes.Change.{Change}
use Rattle.cut_laws.specs.Rules.{IsOneOf}
use Rattle.mem_cells.specs.Part.{CoreLog, changes_kept, is_after, IsLeastAfter, IsNextDirectory}
use Rattle.log_copy.specs.Copies.{is_one_of, KeepsFor}
use Rattle.log_copy.specs.Steps.{GetsDirectory, HasDirectories, NamesNone}
use Rattle.log_copy.proofs.Among.{listed_more}
use Rattle.log_copy.proofs.Counted.{all_own, none_other, all_or_none, of_all}

-- one node's directory more
pub has_more : (log : CoreLog) (front : List NodeId) (node : NodeId) (before after : CoreLog) → HasDirectories log front before
    → GetsDirectory log node.0 before after → HasDirectories log (front ++ node ∷ []) after
has_more log front node before after has gets = record {
  changes = λ directory.
      gets.changes directory ∙ by directory (nat_eq directory node.0) (is_one_of front directory) (has.changes directory)
      ∙ ap (λ b. if b then changes_kept log directory else []) (ap (λ b. is_one_of front directory || b) (turned directory node.0)
      ∙ sym (listed_more front node directory));
  entries = let one = gets.entries in let few = has.entries in let long = length-append front (node ∷ []) in omega (arith, one, few, long);
}
  where
    by : (directory : ℕ) (b c : Bool) → changes_kept before directory ≡ (if c then changes_kept log directory else [])
        → (if b then changes_kept log directory else changes_kept before directory) ≡ (if c || b then changes_kept log directory else [])
    by directory true true was = refl
    by directory true false was = refl
    by directory false true was = was
    by directory false false was = was

-- how many directories may have been passed by a search that comes to those after one
abbrev pub passed : Option NodeId → ℕ
passed None = 0
passed (Some node) = node.0 + 1

-- how many nodes may come after one
abbrev pub left_after : Option NodeId → ℕ
left_after None = 2 ^ 32
left_after (Some node) = 2 ^ 32 - 1 - node.0

-- they get fewer with each one that comes after it
pub left_falls : (after : Option NodeId) (next : NodeId) → is_after after next.0 ≡ true → next.0 < 2 ^ 32 → left_after (Some next) < left_after after
left_falls None next is within = omega (arith, within)
left_falls (Some node) next is within = let lt = ltb-true node.0 next.0 is in omega (arith, lt, within)

-- no more were than the next one's number
pub rises : (after : Option NodeId) (next : NodeId) → is_after after next.0 ≡ true → passed after ≤ next.0
rises None next is = omega arith
rises (Some node) next is = let less = ltb-true node.0 next.0 is in omega (arith, less)

-- The copy has all of each node's directory, of each other up to one all where a change names a node, and nothing of those after it.
pub record NamesSoFar (log : CoreLog) (nodes : List NodeId) (after : Option NodeId) (copy : CoreLog) : Type 0 where
  pub each : (directory : ℕ) → (changes_kept copy directory ≡ changes_kept log directory) ⊎ (changes_kept copy directory ≡ [])
  pub own : (directory : ℕ) → is_one_of nodes directory ≡ true → changes_kept copy directory ≡ changes_kept log directory
  pub naming : (directory : ℕ) (change : Change) → is_after after directory ≡ false → IsOneOf (changes_kept log directory) change
      → is_one_of nodes change.child.0 ≡ true → changes_kept copy directory ≡ changes_kept log directory
  pub later : (directory : ℕ) → is_after after directory ≡ true → is_one_of nodes directory ≡ false → changes_kept copy directory ≡ []
  pub entries : copy.entries ≤ length nodes + passed after

module _ (log : CoreLog) (nodes : List NodeId) where
  -- at first
  pub names_begin : (copy : CoreLog) → IsStrictlyIncreasing (map node_number nodes) → HasDirectories log nodes copy → NamesSoFar log nodes None copy
  names_begin copy up has = record {
    each = all_or_none log copy nodes up has;
    own = all_own log copy nodes up has;
    naming = λ directory change upto one child. absurd (true_not_false upto);
    later = λ directory behind. none_other log copy nodes up has directory;
    entries = let few = has.entries in omega (arith, few);
  }

  -- at the end
  pub names_end : (after : Option NodeId) (copy : CoreLog) → NamesSoFar log nodes after copy → IsNextDirectory log after None
      → KeepsFor (is_one_of nodes) log copy
  names_end after copy so_far none = record {
    each = so_far.each;
    own = so_far.own;
    naming = λ directory change one child. by directory change one child (is_after after directory) refl;
  }
    where
      by : (directory : ℕ) (change : Change) → IsOneOf (changes_kept log directory) change → is_one_of nodes change.child.0 ≡ true
          → (b : Bool) → is_after after directory ≡ b → changes_kept copy directory ≡ changes_kept log directory
      by directory change one child true behind = absurd (subst (λ l. IsOneOf l change) (none directory behind) one)
      by directory change one child false upto = so_far.naming directory change upto one child

  -- the next directory is passed, with what the copy has then
  module _ (after : Option NodeId) (dir : NodeId) (copy next : CoreLog) (so_far : NamesSoFar log nodes after copy) (least : IsLeastAfter log after dir.0)
      (others : (directory : ℕ) → nat_eq directory dir.0 ≡ false → changes_kept next directory ≡ changes_kept copy directory)
      (here : (changes_kept next dir.0 ≡ changes_kept log dir.0) ⊎ ((changes_kept next dir.0 ≡ changes_kept copy dir.0) × NamesNone nodes log dir.0))
      (one_more : next.entries ≤ copy.entries + 1) where
    behind_too : (directory : ℕ) → nat_lt dir.0 directory ≡ true → is_after after directory ≡ true
    behind_too directory behind = by after least.comes_after
      where
        between : (a b c : ℕ) → nat_lt a b ≡ true → nat_lt b c ≡ true → nat_lt a c ≡ true
        between a b c one two = grind (arith, nat_tests, one, two)

        by : (o : Option NodeId) → is_after o dir.0 ≡ true → is_after o directory ≡ true
        by None is = refl
        by (Some node) is = between node.0 dir.0 directory is behind

    all_here : (directory : ℕ) → nat_eq directory dir.0 ≡ true → changes_kept copy directory ≡ changes_kept log directory
        → changes_kept next directory ≡ changes_kept log directory
    all_here directory same was = elim here [
      | inl all ↦ subst (λ d. changes_kept next d ≡ changes_kept log d) (sym (eqb-true directory dir.0 same)) all
      | inr left ↦ subst (λ d. changes_kept next d ≡ changes_kept copy d) (sym (eqb-true directory dir.0 same)) left.0 ∙ was
    ]

    pub names_more : NamesSoFar log nodes (Some dir) next
    names_more = record {
      each = λ directory. each directory (nat_eq directory dir.0) refl;
      own = λ directory is. own directory is (nat_eq directory dir.0) refl;
      naming = λ directory change upto one child. naming directory change upto one child (nat_eq directory dir.0) refl;
      later = λ directory behind other.
          let less = ltb-true dir.0 directory behind in
          others directory (not_same directory dir.0 (λ same. omega (arith, less, same))) ∙ so_far.later directory (behind_too directory behind) other;
      entries = let few = so_far.entries in let rise = rises after dir least.comes_after in let more = one_more in omega (arith, few, rise, more);
    }
      where
        each : (directory : ℕ) (b : Bool) → nat_eq directory dir.0 ≡ b
            → (changes_kept next directory ≡ changes_kept log directory) ⊎ (changes_kept next directory ≡ [])
        each directory false other = elim (so_far.each directory) [
          | inl all ↦ inl (others directory other ∙ all)
          | inr none ↦ inr (others directory other ∙ none)
        ]
        each directory true same = elim here [
          | inl all ↦ inl (subst (λ d. changes_kept next d ≡ changes_kept log d) (sym (eqb-true directory dir.0 same)) all)
          | inr left ↦ elim (so_far.each directory) [
            | inl all ↦ inl (all_here directory same all)
            | inr none ↦ inr (subst (λ d. changes_kept next d ≡ changes_kept copy d) (sym (eqb-true directory dir.0 same)) left.0 ∙ none)
          ]
        ]

        own : (directory : ℕ) → is_one_of nodes directory ≡ true → (b : Bool) → nat_eq directory dir.0 ≡ b
            → changes_kept next directory ≡ changes_kept log directory
        own directory is false other = others directory other ∙ so_far.own directory is
        own directory is true same = all_here directory same (so_far.own directory is)

        earlier : (directory : ℕ) (change : Change) → directory < dir.0 → IsOneOf (changes_kept log directory) change
            → is_one_of nodes change.child.0 ≡ true → (b : Bool) → is_after after directory ≡ b → changes_kept copy directory ≡ changes_kept log directory
        earlier directory change less one child true behind = absurd (subst (λ l. IsOneOf l change) (least.is_least directory behind less) one)
        earlier directory change less one child false upto = so_far.naming directory change upto one child

        naming : (directory : ℕ) (change : Change) → nat_lt dir.0 directory ≡ false → IsOneOf (changes_kept log directory) change
            → is_one_of nodes change.child.0 ≡ true → (b : Bool) → nat_eq directory dir.0 ≡ b → changes_kept next directory ≡ changes_kept log directory
        naming directory change upto one child false other =
            others directory other
            ∙ earlier directory change
            (let le = ltb-false dir.0 directory upto in below directory le other) one child (is_after after directory) refl
          where
            below : (n : ℕ) → n ≤ dir.0 → nat_eq n dir.0 ≡ false → n < dir.0
            below n le other = grind (arith, nat_tests, le, other)
        naming directory change upto one child true same = elim here [
          | inl all ↦ subst (λ d. changes_kept next d ≡ changes_kept log d) (sym (eqb-true directory dir.0 same)) all
          | inr left ↦
              absurd (not_both child (of_all (λ (c : Change). is_one_of nodes c.child.0 ≡ false) (changes_kept log dir.0) change left.1
              (subst (λ d. IsOneOf (changes_kept log d) change) (eqb-true directory dir.0 same) one)))
        ]
