-- The laws of rewriting: the new pointers stand, and what is given up is held no more.
use Rattle.std.proofs.Common.{◌≡◌, ◌≢◌, ℕ, zero, suc, ◌+◌, ◌-◌, ◌<◌, ◌≤◌, Bool, true, false, cond, not, ◌&&◌, ◌||◌, List, length, inl, inr, ◌⊎◌, refl, sym, ap, subst, ◌∙◌, arith, nat_lt, nat_eq}
use Rattle.std.specs.Prelude.{slice_index}
use Rattle.std.specs.List.{range_with_len, list_any}
use Rattle.std.specs.Option.{option_map_or}
use Rattle.std.proofs.lemmas.Bool.{cond-true, cond-false, cases_lt, lt-ltb, le-ltb, eqb-true, eqb-false, ne_eqb}
use Rattle.sfs_base.proofs.BasicTruth.{or_first, or_second, and_first, and_second, not_both_of, not_false, not_true}
use Rattle.sfs_image.specs.Inode.{Table, table_of, entry_of}
use Rattle.sfs_image.specs.Seen.{FILE_BLOCKS, PLACES}
use Rattle.sfs_image.proofs.Basics.{get_or-tabulate}
use Rattle.image_laws.specs.Need.{Rewrite, changes_pointer, has_pointer, table_blocks, first_block, rewrites_table, table_has_pointer, takes_place, rank}
use Rattle.image_laws.proofs.Ranks.{ranks_serve}
use Rattle.block_map.specs.declared.rewrite.TableFate.TheVariants.{Stays, Goes, IsWritten}
use Rattle.block_map.specs.Remap.{rewrite_of, fresh_for, pointer_remapped, table_remapped, table_by_fate, IsGivenUp}
use Rattle.block_map.specs.RemapLaws.{RemappedPointersStand, IsHeld, FreshServe, FreedBlocksAreLeft}
use Rattle.block_map.proofs.KeptPointers.{found_at}
use Rattle.block_map.proofs.Places.{remapped_at_place}

-- a test that no number of a range passes is failed by each
all_fail : (p : ℕ → Bool) (a n m : ℕ) → list_any p (range_with_len a n) ≡ false → a ≤ m → m < a + n → p m ≡ false
all_fail p a zero m none ge lt = absurd (omega arith)
all_fail p a (suc n) m none ge lt = elim (cases_lt a m) [
  | inl less ↦ all_fail p (a + 1) n m (or_second (p a) (list_any p (range_with_len (a + 1) n)) none) (omega arith) (omega arith)
  | inr le ↦ let same : m ≡ a = omega arith in ap p same ∙ or_first (p a) (list_any p (range_with_len (a + 1) n)) none
]

all_fail_in_table : (p : ℕ → Bool) (k m : ℕ) → list_any p (table_blocks k) ≡ false → first_block k ≤ m → m < first_block k + 1024 → p m ≡ false
unfolding table_blocks
all_fail_in_table p k m none ge lt = all_fail p (first_block k) 1024 m none ge lt

module _ (rewrite : Rewrite) (fresh : List ℕ) where
  -- a block's pointer afterwards, by what is rewritten
  at_block : (n : ℕ) → n < FILE_BLOCKS
      → pointer_remapped rewrite fresh n ≡ cond (rewrite.is_rewritten n) (cond (rewrite.is_zero n) 0 (fresh_for rewrite fresh n)) (rewrite.pointers n)
  at_block n below = cond-true (nat_lt n FILE_BLOCKS) _ _ (lt-ltb n FILE_BLOCKS below)

  -- where no pointer changes it is as before
  unchanged : (n : ℕ) → n < FILE_BLOCKS → changes_pointer rewrite n ≡ false → pointer_remapped rewrite fresh n ≡ rewrite.pointers n
  unchanged n below stays = at_block n below ∙ by_tests (rewrite.is_rewritten n) (rewrite.is_zero n) (rewrite.pointers n) (fresh_for rewrite fresh n) stays
    where
      by_tests : (rewritten empty : Bool) (block free : ℕ) → (rewritten && (not empty || not (nat_eq block 0))) ≡ false
          → cond rewritten (cond empty 0 free) block ≡ block
      by_tests true true block free e = sym (eqb-true block 0 (not_false (nat_eq block 0) e))
      by_tests true false block free e = absurd (not_both_of true refl e)
      by_tests false empty block free e = refl

  -- and where none is there it is a hole
  empty : (n : ℕ) → n < FILE_BLOCKS → has_pointer rewrite n ≡ false → pointer_remapped rewrite fresh n ≡ 0
  empty n below none = at_block n below ∙ by_tests (rewrite.is_rewritten n) (rewrite.is_zero n) (rewrite.pointers n) (fresh_for rewrite fresh n) none
    where
      by_tests : (rewritten empty : Bool) (block free : ℕ) → cond rewritten (not empty) (not (nat_eq block 0)) ≡ false
          → cond rewritten (cond empty 0 free) block ≡ 0
      by_tests true empty block free e = cond-true empty 0 free (not_false empty e)
      by_tests false empty block free e = eqb-true block 0 (not_false (nat_eq block 0) e)

pub remapped_pointers_stand : RemappedPointersStand
remapped_pointers_stand inode tables changed fresh place within = elim (cases_lt place FILE_BLOCKS) [
  | inr behind ↦
      let back : FILE_BLOCKS + (place - FILE_BLOCKS) ≡ place = omega arith in
      cond-false (nat_lt place FILE_BLOCKS) _ _ (le-ltb place FILE_BLOCKS behind) ∙ get_or-tabulate 16 _ (place - FILE_BLOCKS) 0 (omega arith)
      ∙ ap (pointer_remapped rewrite fresh) back
  | inl below ↦ cond-true (nat_lt place FILE_BLOCKS) _ _ (lt-ltb place FILE_BLOCKS below) ∙ elim (cases_lt place 108) [
    | inl direct ↦ cond-true (nat_lt place 108) _ _ (lt-ltb place 108 direct) ∙ get_or-tabulate 108 (pointer_remapped rewrite fresh) place 0 direct
    | inr indirect ↦
        cond-false (nat_lt place 108) _ _ (le-ltb place 108 indirect)
        ∙ ap (λ o. option_map_or (λ table. slice_index table.pointers (entry_of place)) o 0)
        (found_at (table_remapped rewrite fresh tables) (remapped_at_place rewrite fresh tables) (table_of place) 0 16 (omega arith) (omega arith))
        ∙ in_table place below indirect
  ]
]
  where
    rewrite : Rewrite
    rewrite = rewrite_of inode tables changed

    in_table : (place : ℕ) → place < FILE_BLOCKS → 108 ≤ place
        → option_map_or (λ table. slice_index table.pointers (entry_of place)) (table_remapped rewrite fresh tables (table_of place)) 0
        ≡ pointer_remapped rewrite fresh place
    in_table place below indirect = by_tests (rewrites_table rewrite k) (table_has_pointer rewrite k) refl refl
      where
        k : ℕ
        k = table_of place

        whole : first_block (table_of place) + entry_of place ≡ place
        whole = omega arith

        low : first_block (table_of place) ≤ place
        low = omega arith

        high : place < first_block (table_of place) + 1024
        high = omega arith

        pointer_in : Table → ℕ
        pointer_in table = slice_index table.pointers (entry_of place)

        by_tests : (rewritten some : Bool) → rewrites_table rewrite (table_of place) ≡ rewritten → table_has_pointer rewrite (table_of place) ≡ some
            → option_map_or (λ table. slice_index table.pointers (entry_of place))
            (table_by_fate (cond rewritten (cond some IsWritten Goes) Stays) rewrite fresh tables (table_of place)) 0
            ≡ pointer_remapped rewrite fresh place
        by_tests true true r p =
            get_or-tabulate 1024 (λ entry. pointer_remapped rewrite fresh (first_block (table_of place) + entry)) (entry_of place) 0 (omega arith)
            ∙ ap (pointer_remapped rewrite fresh) whole
        by_tests true false r p = sym (empty rewrite fresh place below (all_fail_in_table (has_pointer rewrite) (table_of place) place p low high))
        by_tests false some r p =
            sym (cond-true (nat_lt place FILE_BLOCKS) _ _ (lt-ltb place FILE_BLOCKS below) ∙ cond-false (nat_lt place 108) _ _ (le-ltb place 108 indirect))
            ∙ sym (unchanged rewrite fresh place below (all_fail_in_table (changes_pointer rewrite) (table_of place) place (or_first _ _ r) low high))

-- whether a place is rewritten
abbrev rewrites : Rewrite → ℕ → Bool
rewrites rewrite place = cond (nat_lt place FILE_BLOCKS) (rewrite.is_rewritten place) (rewrites_table rewrite (place - FILE_BLOCKS))

module _ (rewrite : Rewrite) (fresh : List ℕ) where
  -- what a rewritten place has: nothing, or a fresh block that it takes
  abbrev HasFresh : ℕ → Type 0
  HasFresh place =
      (pointer_remapped rewrite fresh place ≡ 0) ⊎ ((takes_place rewrite place ≡ true) × (pointer_remapped rewrite fresh place ≡ fresh_for rewrite fresh place))

  after_block : (place after block free : ℕ) (rewritten empty takes : Bool) → after ≡ cond rewritten (cond empty 0 free) block
      → takes ≡ (rewritten && not empty)
      → ((rewritten ≡ false) × (after ≡ block)) ⊎ ((rewritten ≡ true) × ((after ≡ 0) ⊎ ((takes ≡ true) × (after ≡ free))))
  after_block place after block free true true takes is t = inr (refl, inl is)
  after_block place after block free true false takes is t = inr (refl, inr (t, is))
  after_block place after block free false empty takes is t = inl (refl, is)

  after_table : (place after block free : ℕ) (rewritten some takes : Bool) → after ≡ cond rewritten (cond some free 0) block → takes ≡ (rewritten && some)
      → ((rewritten ≡ false) × (after ≡ block)) ⊎ ((rewritten ≡ true) × ((after ≡ 0) ⊎ ((takes ≡ true) × (after ≡ free))))
  after_table place after block free true true takes is t = inr (refl, inr (t, is))
  after_table place after block free true false takes is t = inr (refl, inl is)
  after_table place after block free false some takes is t = inl (refl, is)

  afterwards : (place : ℕ)
      → ((rewrites rewrite place ≡ false) × (pointer_remapped rewrite fresh place ≡ rewrite.pointers place))
      ⊎ ((rewrites rewrite place ≡ true) × HasFresh place)
  afterwards place = elim (cases_lt place FILE_BLOCKS) [
    | inl below ↦
        let t = lt-ltb place FILE_BLOCKS below in
        subst (λ (b : Bool).
        ((cond b (rewrite.is_rewritten place) (rewrites_table rewrite (place - FILE_BLOCKS)) ≡ false)
        × (pointer_remapped rewrite fresh place ≡ rewrite.pointers place))
        ⊎ ((cond b (rewrite.is_rewritten place) (rewrites_table rewrite (place - FILE_BLOCKS)) ≡ true) × HasFresh place)) (sym t)
        (after_block place _ (rewrite.pointers place) (fresh_for rewrite fresh place) (rewrite.is_rewritten place) (rewrite.is_zero place)
        (takes_place rewrite place)
        (cond-true (nat_lt place FILE_BLOCKS) _ _ t) (cond-true (nat_lt place FILE_BLOCKS) _ _ t))
    | inr above ↦
        let t = le-ltb place FILE_BLOCKS above in
        subst (λ (b : Bool).
        ((cond b (rewrite.is_rewritten place) (rewrites_table rewrite (place - FILE_BLOCKS)) ≡ false)
        × (pointer_remapped rewrite fresh place ≡ rewrite.pointers place))
        ⊎ ((cond b (rewrite.is_rewritten place) (rewrites_table rewrite (place - FILE_BLOCKS)) ≡ true) × HasFresh place)) (sym t)
        (after_table place _ (rewrite.pointers place) (fresh_for rewrite fresh place) (rewrites_table rewrite (place - FILE_BLOCKS))
        (table_has_pointer rewrite (place - FILE_BLOCKS)) (takes_place rewrite place)
        (cond-false (nat_lt place FILE_BLOCKS) _ _ t) (cond-false (nat_lt place FILE_BLOCKS) _ _ t))
  ]

  module _ (serve : FreshServe rewrite fresh) where
    -- a fresh block that a place takes is one of the fresh ones
    in_fresh : (place : ℕ) → place < PLACES → takes_place rewrite place ≡ true → rank (takes_place rewrite) place < length fresh
    in_fresh place within t = let below = (ranks_serve (takes_place rewrite)).below place PLACES t within in omega (arith, serve.enough)

    -- a block that stood at a rewritten place is held no more
    no_more : (block place other : ℕ) → block ≢ 0 → place < PLACES → other < PLACES → rewrite.pointers place ≡ block → rewrites rewrite place ≡ true
        → pointer_remapped rewrite fresh other ≡ block → ⊥
    no_more block place other some within inside stands r held = elim (afterwards other) [
      | inl same ↦
          let one = serve.apart place other within inside (λ e. some (sym stands ∙ e)) (stands ∙ sym held ∙ same.1) in
          not_both_of (rewrites rewrite other) (sym (ap (rewrites rewrite) one) ∙ r) same.0
      | inr written ↦ elim (written.1) [
        | inl hole ↦ some (sym held ∙ hole)
        | inr taken ↦ serve.unheld (rank (takes_place rewrite) other) place (in_fresh other inside taken.0) within (sym taken.1 ∙ held ∙ sym stands)
      ]
    ]

    -- and one that is held no more stood at a rewritten place
    was_rewritten : (block place : ℕ) → block ≢ 0 → place < PLACES → rewrite.pointers place ≡ block → (IsHeld (pointer_remapped rewrite fresh) block → ⊥)
        → rewrites rewrite place ≡ true
    was_rewritten block place some within stands lost = elim (afterwards place) [
      | inl same ↦ absurd (lost (record { some = some; place = place; within = within; stands = same.1 ∙ stands }))
      | inr written ↦ written.0
    ]

pub freed_blocks_are_left : FreedBlocksAreLeft
freed_blocks_are_left rewrite fresh freed serve are block = (
  (λ has. held_no_more ((are.each block).0 has)),
  λ (held, lost).
      let rewritten = was_rewritten rewrite fresh serve block held.place held.some held.within held.stands lost in
      (are.each block).1 (
        held.place,
        record {
          within = held.within;
          given_up = (λ i. rewritten i && not (ne_eqb (rewrite.pointers held.place) 0 (λ e. held.some (sym held.stands ∙ e)) i));
          stands = held.stands;
        },
      ),
)
  where
    held_no_more : ((place : ℕ) × IsGivenUp rewrite block place) → IsHeld rewrite.pointers block × (IsHeld (pointer_remapped rewrite fresh) block → ⊥)
    held_no_more (place, is) =
        let rewritten = and_first (rewrites rewrite place) (not (nat_eq (rewrite.pointers place) 0)) is.given_up in
        let some : block ≢ 0 =
        λ e. eqb-false (rewrite.pointers place) 0 (not_true _ (and_second (rewrites rewrite place) (not (nat_eq (rewrite.pointers place) 0)) is.given_up))
        (is.stands ∙ e) in (
          record { some = some; place = place; within = is.within; stands = is.stands },
          λ held. no_more rewrite fresh serve block place held.place some is.within held.within is.stands rewritten held.stands,
        )
