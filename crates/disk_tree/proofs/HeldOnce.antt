-- Inodes that hold each block once.
use Rattle.std.proofs.Common.{◌≡◌, ◌≢◌, ℕ, ◌+◌, ◌<◌, Bool, true, false, List, [], length, get_or, sym, ap, subst, ◌∙◌, arith, inl, inr}
use Rattle.std.proofs.lemmas.Bool.{cases_lt}
use Rattle.std.proofs.lemmas.List.{get_or_read}
use Rattle.sfs_base.proofs.BasicTruth.{not_both_of}
use Rattle.sfs_base.specs.Lists.{Roomy}
use Rattle.sfs_image.specs.Inode.{Inode, Table, inode_of}
use Rattle.sfs_image.specs.Seen.{PLACES}
use Rattle.block_map.specs.Kept.{pointer_kept}
use Rattle.disk_tree.specs.Apart.{is_marked, MarksEach, pointer_in, HoldOnce}
use Rattle.disk_tree.specs.Inodes.{inode_at}

-- elements of the lists are those of a number
pub same_pointers : (inodes : List Inode) (tables : List (Roomy Table)) (place : ℕ) (inode : Inode) (own : Roomy Table) → place < length inodes
    → place < length tables →
    inode ≡ get_or inodes place inode → own ≡ get_or tables place own → (p : ℕ) → pointer_kept inode own.items p ≡ pointer_in inodes tables place p
same_pointers inodes tables place inode own within there is own_is p =
    ap (λ (i : Inode). pointer_kept i own.items p) (get_or_read inodes place inode within is (inode_of []))
    ∙ ap (λ (t : Roomy Table). pointer_kept (inode_at inodes place) t.items p) (get_or_read tables place own there own_is (record { items = []; spare = 0 }))

module _ (inodes : List Inode) (tables : List (Roomy Table)) where
  pub none_held : (held : List Bool) → ((block : ℕ) → is_marked held block ≡ false) → HoldOnce inodes tables 0 held
  none_held held unmarked = record {
    below = λ i j p q less. absurd (omega arith);
    before = λ i p q less. absurd (omega arith);
    marks = λ i p less. absurd (omega arith);
    only = λ block marked. absurd (not_both_of (is_marked held block) marked (unmarked block));
  }

  module _ (n : ℕ) (held new : List Bool) (first : HoldOnce inodes tables n held) (second : MarksEach held new (pointer_in inodes tables n) PLACES) where
    at_last : (P : ℕ → Type 0) (i : ℕ) → i < n + 1 → (i < n → P i) → P n → P i
    at_last P i less below here = elim (cases_lt i n) [
      | inl before ↦ below before
      | inr last ↦ (let e : n ≡ i = omega arith in subst P e here)
    ]

    pub held_more : HoldOnce inodes tables (n + 1) new
    held_more = record {
      below = λ i j p q less lower within there.
          at_last (λ (i : ℕ). j < i → pointer_in inodes tables i p ≢ 0 → pointer_in inodes tables j q ≢ pointer_in inodes tables i p) i less
          (λ before lower some. first.below i j p q before lower within there some)
          (λ lower some e. not_both_of (is_marked held (pointer_in inodes tables n p))
          (subst (λ (b : ℕ). is_marked held b ≡ true) e (first.marks j q lower there (λ none. some (sym e ∙ none)))) (second.fresh p within some))
          lower;
      before = λ i p q less earlier within.
          at_last (λ (i : ℕ). pointer_in inodes tables i p ≢ 0 → pointer_in inodes tables i q ≢ pointer_in inodes tables i p) i less
          (λ before. first.before i p q before earlier within) (second.once p q within earlier);
      marks = λ i p less within.
          at_last (λ (i : ℕ). pointer_in inodes tables i p ≢ 0 → is_marked new (pointer_in inodes tables i p) ≡ true) i less
          (λ before some. second.keeps (pointer_in inodes tables i p) (first.marks i p before within some)) (second.marks p within);
      only = λ block marked. elim (second.only block marked) [
        | inl old ↦ (let one = first.only block old in (one.0, one.1, (let h = one.2 in omega arith), one.3, one.4))
        | inr one ↦ (n, one.0, omega arith, one.1, one.3)
      ];
    }

-- marks of pointers that are the same
module _ (old new : List Bool) (pointers others : ℕ → ℕ) (same : (k : ℕ) → pointers k ≡ others k) (n : ℕ) where
  pub marks_same : MarksEach old new pointers n → MarksEach old new others n
  marks_same marks = (let P : (ℕ → ℕ) → Type 0 = λ f. MarksEach old new f n in subst P (λ i k. same k i) marks)
