-- What the rules on bytes and pointers say.
use Rattle.std.proofs.Common.{◌≡◌, ◌≢◌, ℕ, ◌<◌, ◌≤◌, Bool, true, false, not, eqb, leb, ◌&&◌, List, length, slice_index, sym, ap, ◌∙◌, arith, inl, inr}
use Rattle.std.specs.Prelude.{◌↔◌}
use Rattle.std.proofs.lemmas.Bool.{not-false, cases_Bool, cases_lt, cases_order, cond_both, cond-false, ne_eqb, eqb-true, eqb-false, and_left, and_right, and_parts, or_from, or_parts, not_from_true, not_from_false, leb-true, ltb-true, le-leb, lt-ltb, or_left, or_right, and_from}
use Rattle.sfs_image.specs.Inode.{inode_fault}
use Rattle.sfs_image.specs.ImageOf.{PointsToData}
use Rattle.sfs_image.specs.LawsOfParts.{StandsNowhereBefore, PointsWell}
use Rattle.sfs_image.specs.Part.{Part, part_of, inode_in, pointer_at, is_free_part, is_file_part, is_directory_part}
use Rattle.sfs_image.specs.Rules.{any_below, breaks_record, is_data_block, is_good_pointer, first_covered, breaks_pointers, stands_below, is_held_before, HasBlockAt, breaks_apart, breaks_bytes_rule}
use Rattle.sfs_image.specs.Seen.{PLACES}
use Rattle.sfs_image.specs.Super.{Layout, data_start}
use Rattle.sfs_image.proofs.Basics.{else_true, any_below-none, any_below-from}
use Rattle.sfs_base.proofs.BasicOptions.{none_of}
use Rattle.sfs_base.proofs.BasicTruth.{then_false}
use Rattle.sfs_image.proofs.PartLaws.{free_has_none, none_past_places}

-- a free inode is no file and no directory
free_is_none : (part : Part) → is_free_part part ≡ true → (is_file_part part ≡ false) × (is_directory_part part ≡ false)
free_is_none part free =
    let kind : (inode_in part).kind ≡ 0 = eqb-true _ _ free in
    (ne_eqb _ _ (λ one. let e : 0 ≡ 1 = sym kind ∙ one in omega arith), ne_eqb _ _ (λ two. let e : 0 ≡ 2 = sym kind ∙ two in omega arith))

-- A free inode breaks no rule but the first, and inode 0 the second.
pub free_breaks_none : (rule : ℕ) (layout : Layout) (parts : ℕ → Part) (i : ℕ) → rule ≢ 1 → i ≢ 0 → is_free_part (parts i) ≡ true →
    breaks_bytes_rule rule layout parts i ≡ false
free_breaks_none rule layout parts i later inner free =
    let kinds = free_is_none (parts i) free in
    let used : not (is_free_part (parts i)) ≡ false = not_from_true (is_free_part (parts i)) free in
    let Holds : Bool → Type 0 = λ b. b ≡ false in
    cond-false (eqb rule 1) _ _ (ne_eqb rule 1 later)
    ∙ cond_both (eqb rule 2) _ _ Holds (λ _. and_left (eqb i 0) _ (ne_eqb i 0 inner))
    (λ _. cond_both (eqb rule 3) _ _ Holds (λ _. or_from _ _ (and_left (is_file_part (parts i)) _ kinds.0) (and_left (is_directory_part (parts i)) _ kinds.1))
    (λ _. cond_both (eqb rule 4) _ _ Holds (λ _. and_left _ (any_below PLACES _) used)
    (λ _. cond_both (eqb rule 5) _ _ Holds (λ _. and_left _ (any_below PLACES _) used)
    (λ _. cond_both (eqb rule 6) _ _ Holds (λ _. and_left (is_file_part (parts i) && _) _ (and_left (is_file_part (parts i)) _ kinds.0))
    (λ _. and_right (eqb rule 7) _ (and_left (is_directory_part (parts i)) _ kinds.1))))))

-- the blocks of an inode that holds none twice, nor any that an inode below it holds too, stand nowhere before
module _ (parts : ℕ → Part) (i p : ℕ) (has : HasBlockAt parts i p) where
  neither : (any_below i (λ j. stands_below PLACES (parts j) (pointer_at (parts i) p)) ≡ false) × (stands_below p (parts i) (pointer_at (parts i) p) ≡ false)
  neither =
      let each =
      then_false (not (is_free_part (parts i))) (any_below PLACES (is_held_before parts i)) has.keeps (not_from_false (is_free_part (parts i)) has.used) in
      let here = any_below-none PLACES (is_held_before parts i) each p has.within in
      or_parts (any_below i (λ j. stands_below PLACES (parts j) (pointer_at (parts i) p))) (stands_below p (parts i) (pointer_at (parts i) p))
      (then_false (not (eqb (pointer_at (parts i) p) 0)) _ here (not_from_false (eqb (pointer_at (parts i) p) 0) (ne_eqb (pointer_at (parts i) p) 0 has.there)))

  none_below : (j q : ℕ) → j < i → q < PLACES → pointer_at (parts j) q ≢ pointer_at (parts i) p
  none_below j q below place =
      eqb-false _ _
      (any_below-none PLACES (λ k. eqb (pointer_at (parts j) k) (pointer_at (parts i) p))
      (any_below-none i (λ m. stands_below PLACES (parts m) (pointer_at (parts i) p)) neither.0 j below) q place)

  none_before : (q : ℕ) → q < p → pointer_at (parts i) q ≢ pointer_at (parts i) p
  none_before q before = eqb-false _ _ (any_below-none p (λ k. eqb (pointer_at (parts i) k) (pointer_at (parts i) p)) neither.1 q before)

-- Where inodes keep the fifth rule each block has one place of one inode in use.
pub apart_from_rule : (parts : ℕ → Part) (i j p q : ℕ) → HasBlockAt parts i p → HasBlockAt parts j q → pointer_at (parts i) p ≡ pointer_at (parts j) q →
    (i ≡ j) × (p ≡ q)
apart_from_rule parts i j p q one other same =
    elim (cases_order i j) [
      | inl e ↦ (
        e,
        (elim (cases_order p q) [
          | inl place ↦ place
          | inr (inl before) ↦ absurd (none_before parts j q other p before (ap (λ (m : ℕ). pointer_at (parts m) p) (sym e) ∙ same))
          | inr (inr after) ↦ absurd (none_before parts i p one q after (ap (λ (m : ℕ). pointer_at (parts m) q) e ∙ sym same))
        ]),
      )
      | inr (inl below) ↦ absurd (none_below parts j q other i p below one.within same)
      | inr (inr above) ↦ absurd (none_below parts i p one j q above other.within (sym same))
    ]

-- An inode keeps the fifth rule where each of its blocks stands at no place before.
rule_from_before : (parts : ℕ → Part) (i : ℕ) → ((place : ℕ) → place < PLACES → pointer_at (parts i) place ≢ 0 → StandsNowhereBefore parts i place) →
    breaks_apart parts i ≡ false
rule_from_before parts i nowhere =
    and_right (not (is_free_part (parts i))) _
    (any_below-from PLACES (is_held_before parts i)
    (λ p within. elim (cases_Bool (eqb (pointer_at (parts i) p) 0)) [
      | inl hole ↦ and_left _ _ (not_from_true (eqb (pointer_at (parts i) p) 0) hole)
      | inr some ↦ (let stands = nowhere p within (eqb-false _ _ some) in
          and_right _ _ (or_from _ _
          (any_below-from i _ (λ j below. any_below-from PLACES _ (λ q inside. ne_eqb _ _ (stands.below j q below inside))))
          (any_below-from p _ (λ q before. ne_eqb _ _ (stands.before q before)))))
    ]))

pub blocks_say : (parts : ℕ → Part) (i : ℕ) → is_free_part (parts i) ≡ false →
    (breaks_apart parts i ≡ false) ↔ ((place : ℕ) → place < PLACES → pointer_at (parts i) place ≢ 0 → StandsNowhereBefore parts i place)
blocks_say parts i used = (
  (λ keeps place within there. record {
    below = none_below parts i place (record { used = used; keeps = keeps; within = within; there = there });
    before = none_before parts i place (record { used = used; keeps = keeps; within = within; there = there });
  }),
  rule_from_before parts i,
)

-- An inode keeps the fifth rule where each of its blocks stands at no other place of it or of an inode below it.
pub rule_from_apart : (parts : ℕ → Part) (i : ℕ) →
    ((j p q : ℕ) → j ≤ i → p < PLACES → q < PLACES → pointer_at (parts i) p ≢ 0 → pointer_at (parts i) p ≡ pointer_at (parts j) q → (i ≡ j) × (p ≡ q)) →
    breaks_apart parts i ≡ false
rule_from_apart parts i apart =
    rule_from_before parts i
    (λ p within there. record {
      below = λ j q below inside same. let both = apart j p q (omega arith) within inside there (sym same) in let e = both.0 in omega arith;
      before = λ q before same. let both = apart i p q (omega arith) within (omega arith) there (sym same) in let e = both.1 in omega arith;
    })

-- Where an inode in use keeps the fourth rule each pointer names a block of the data area and covers a byte below the size.
pub good_from_rule : (layout : Layout) (part : Part) (p : ℕ) → breaks_pointers layout part ≡ false → is_free_part part ≡ false → p < PLACES →
    pointer_at part p ≢ 0 → PointsWell layout part p
good_from_rule layout part p keeps used within there =
    let test = λ (place : ℕ). not (is_good_pointer layout part place) in
    let each = then_false (not (is_free_part part)) (any_below PLACES test) keeps (not_from_false (is_free_part part) used) in
    let good = not-false (is_good_pointer layout part p) (any_below-none PLACES test each p within) in
    let both =
    and_parts (is_data_block layout (pointer_at part p)) _ (else_true (eqb (pointer_at part p) 0) _ good (ne_eqb (pointer_at part p) 0 there)) in
    let ends = and_parts (leb (data_start layout) (pointer_at part p)) _ both.0 in
    record {
      low = leb-true (data_start layout) (pointer_at part p) ends.0;
      high = ltb-true (pointer_at part p) layout.blocks ends.1;
      covers = ltb-true (first_covered p) (inode_in part).size both.1;
    }

-- An inode keeps the fourth rule where each of its pointers does so.
pub rule_from_good : (layout : Layout) (part : Part) → ((p : ℕ) → p < PLACES → pointer_at part p ≢ 0 → PointsWell layout part p) →
    breaks_pointers layout part ≡ false
rule_from_good layout part good =
    and_right (not (is_free_part part)) _
    (any_below-from PLACES _
    (λ p within. not_from_true (is_good_pointer layout part p)
    (elim (cases_Bool (eqb (pointer_at part p) 0)) [
      | inl hole ↦ or_left (eqb (pointer_at part p) 0) _ hole
      | inr some ↦ (let points = good p within (eqb-false _ _ some) in
          let inside = and_from _ _ (le-leb (data_start layout) (pointer_at part p) points.low) (lt-ltb (pointer_at part p) layout.blocks points.high) in
          or_right (eqb (pointer_at part p) 0) _ (and_from _ _ inside (lt-ltb (first_covered p) (inode_in part).size points.covers)))
    ])))

pub pointers_say : (layout : Layout) (part : Part) → is_free_part part ≡ false →
    (breaks_pointers layout part ≡ false) ↔ ((place : ℕ) → place < PLACES → pointer_at part place ≢ 0 → PointsWell layout part place)
pointers_say layout part used = ((λ keeps p within there. good_from_rule layout part p keeps used within there), rule_from_good layout part)

-- A part that keeps the first and the fourth rule points to data.
pub points_to_data : (layout : Layout) (store : ℕ → List ℕ) (raw : List ℕ) → length raw ≡ 512 → breaks_record (part_of store raw) ≡ false →
    breaks_pointers layout (part_of store raw) ≡ false → PointsToData layout (part_of store raw)
unfolding part_of
points_to_data layout store raw len first fourth place there =
    elim (cases_Bool (is_free_part (part_of store raw))) [
      | inl free ↦ absurd (there (free_has_none store raw len (none_of (inode_fault raw) first) (eqb-true (slice_index raw 0) 0 free) place))
      | inr used ↦ elim (cases_lt place PLACES) [
        | inl within ↦ (let facts = good_from_rule layout (part_of store raw) place fourth used within there in (facts.low, facts.high))
        | inr past ↦ absurd (there (none_past_places store raw place past))
      ]
    ]
