-- An indirect block is rewritten exactly where it changes.
use Rattle.std.proofs.Common.{◌≡◌, ◌≢◌, ℕ, ◌+◌, ◌-◌, ◌*◌, ◌<◌, ◌≤◌, Bool, true, false, ◌&&◌, ◌||◌, not, cond, eqb, ltb, leb, List, length, get_or, All, inl, inr, refl, sym, ap, subst, ◌∙◌, arith}
use Rattle.std.specs.Prelude.{◌↔◌}
use Rattle.std.specs.List.{list_any, range_with_len}
use Rattle.std.proofs.lemmas.Bool.{cases_Bool, and_left, and_right, or_from, or_parts, and_parts, not_from_true, not_from_false, not-false, ne_eqb, eqb-true, eq-eqb, eqb-false, le-leb, leb-true, leb-false, lt-leb, lt-ltb, ltb-false, cond-true, cond-false}
use Rattle.std.proofs.lemmas.List.Folds.{list_any_at, list_any_none}
use Rattle.std.proofs.lemmas.List.FromFn.{get_or-range_with_len, length-range_with_len}
use Rattle.sfs_base.proofs.BasicTruth.{false_not_true, true_not_false}
use Rattle.sfs_image.specs.Seen.{FILE_BLOCKS}
use Rattle.image_laws.specs.LawsOfNeed.{StaysTable, AreElsewhere}
use Rattle.image_laws.specs.Need.{Rewrite, changes_pointer, table_blocks, first_block, rewrites_table, pointer_after}

-- a pointer of a file's block afterwards, by what is done with the block
abbrev after : Bool → Bool → ℕ → ℕ → ℕ
after rewritten zeros new old = cond rewritten (cond zeros 0 new) old

abbrev changes : Bool → Bool → ℕ → Bool
changes rewritten zeros old = rewritten && (not zeros || not (eqb old 0))

-- it stays where it does not change, and changes where a fresh block is taken
stays : (rewritten zeros : Bool) (new old : ℕ) → changes rewritten zeros old ≡ false → after rewritten zeros new old ≡ old
stays false zeros new old none = refl
stays true false new old none = absurd (true_not_false none)
stays true true new old none = sym (eqb-true old 0 (not-false (eqb old 0) none))

none_stays : (rewritten zeros : Bool) (new old : ℕ) → new ≢ old → after rewritten zeros new old ≡ old → changes rewritten zeros old ≡ false
none_stays false zeros new old apart same = refl
none_stays true false new old apart same = absurd (apart same)
none_stays true true new old apart same = not_from_true (eqb old 0) (eq-eqb old 0 (sym same))

module _ (rewrite : Rewrite) (fresh : ℕ → ℕ) (table : ℕ) (within : table < 16) (new : AreElsewhere rewrite fresh) where
  -- the pointer of a file's block
  after_is : (n : ℕ) → n < FILE_BLOCKS → pointer_after rewrite fresh n ≡ after (rewrite.is_rewritten n) (rewrite.is_zero n) (fresh n) (rewrite.pointers n)
  after_is n low = cond-true (ltb n FILE_BLOCKS) _ _ (lt-ltb n FILE_BLOCKS low)

  -- what a test says of one of the blocks of the table
  at_block : (n : ℕ) → 108 + 1024 * table ≤ n → n < 108 + 1024 * table + 1024 → get_or (table_blocks table) (n - (108 + 1024 * table)) 0 ≡ n
  unfolding table_blocks
  at_block n low high =
      get_or-range_with_len (first_block table) 1024 (n - (108 + 1024 * table)) 0 (omega arith)
      ∙ (let e : 108 + 1024 * table + (n - (108 + 1024 * table)) ≡ n = omega arith in e)

  long : length (table_blocks table) ≡ 1024
  unfolding table_blocks
  long = length-range_with_len (first_block table) 1024

  none_changes : list_any (changes_pointer rewrite) (table_blocks table) ≡ false → (n : ℕ) → 108 + 1024 * table ≤ n → n < 108 + 1024 * table + 1024
      → changes_pointer rewrite n ≡ false
  none_changes none n low high = elim (cases_Bool (changes_pointer rewrite n)) [
    | inr fine ↦ fine
    | inl some ↦ absurd (false_not_true (sym none
        ∙ list_any_at (changes_pointer rewrite) (table_blocks table) (n - (108 + 1024 * table)) 0 (omega (arith, long, low, high))
        (ap (changes_pointer rewrite) (at_block n low high) ∙ some)))
  ]

  each_is : (k d : ℕ) → k < 1024 → get_or (table_blocks table) k d ≡ 108 + 1024 * table + k
  unfolding table_blocks
  each_is k d l = get_or-range_with_len (first_block table) 1024 k d l

  kept : rewrites_table rewrite table ≡ false → StaysTable rewrite fresh table
  kept none =
      let both = or_parts (list_any (changes_pointer rewrite) (table_blocks table)) _ none in
      record {
        pointers = λ n low high.
            after_is n (omega (arith, within)) ∙ stays (rewrite.is_rewritten n) (rewrite.is_zero n) (fresh n) (rewrite.pointers n) (none_changes both.0 n low high);
        covers = λ there. elim (cases_Bool (leb rewrite.blocks (first_block table))) [
          | inr few ↦ leb-false rewrite.blocks (first_block table) few
          | inl all ↦ absurd (false_not_true (sym both.1
              ∙ (let t : not (eqb (rewrite.pointers (FILE_BLOCKS + table)) 0) ≡ true = not_from_false _ (ne_eqb _ 0 there) in rw (t, all) refl)))
        ];
      }

  stays_whole : StaysTable rewrite fresh table → rewrites_table rewrite table ≡ false
  stays_whole is = or_from (list_any (changes_pointer rewrite) (table_blocks table)) _ none behind
    where
      none : list_any (changes_pointer rewrite) (table_blocks table) ≡ false
      none = list_any_none (changes_pointer rewrite) (table_blocks table)
          (λ k d l.
          let few : k < 1024 = omega (arith, l, long) in
          let n = 108 + 1024 * table + k in
          ap (changes_pointer rewrite) (each_is k d few)
          ∙ none_stays (rewrite.is_rewritten n) (rewrite.is_zero n) (fresh n) (rewrite.pointers n) (new n)
          (sym (after_is n (omega (arith, within, few))) ∙ is.pointers n (omega arith) (omega (arith, few))))

      behind : (not (eqb (rewrite.pointers (FILE_BLOCKS + table)) 0) && leb rewrite.blocks (first_block table)) ≡ false
      behind = elim (cases_Bool (eqb (rewrite.pointers (FILE_BLOCKS + table)) 0)) [
        | inl hole ↦ and_left _ _ (not_from_true _ hole)
        | inr there ↦ and_right _ _ (lt-leb rewrite.blocks (first_block table) (is.covers (eqb-false _ 0 there)))
      ]

pub tables_are_rewritten : (rewrite : Rewrite) (fresh : ℕ → ℕ) (table : ℕ) → table < 16 → AreElsewhere rewrite fresh
    → (rewrites_table rewrite table ≡ false) ↔ StaysTable rewrite fresh table
tables_are_rewritten rewrite fresh table within new = (kept rewrite fresh table within new, stays_whole rewrite fresh table within new)
