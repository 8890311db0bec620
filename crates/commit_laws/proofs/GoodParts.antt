-- The rules on the bytes of one inode, as facts of its part.
use Rattle.std.proofs.Common.{◌≡◌, ◌≢◌, ℕ, zero, suc, ◌+◌, ◌-◌, ◌*◌, ◌/◌, ◌%◌, ◌<◌, ◌≤◌, Bool, true, false, cond, not, ◌&&◌, ◌||◌, List, length, take, drop, Option, None, is_none, option_map, inl, inr, refl, sym, ap, subst, ◌∙◌, arith, nat_eq, nat_lt}
use Rattle.std.specs.Prelude.{◌⊎◌, nat_le}
use Rattle.std.specs.List.{list_any}
use borrow.Author.Tests.{eqb-true, eq-eqb}
use Rattle.std.proofs.lemmas.Bool.{cond-true, cond-false, cases_Bool, cases_lt, eqb-false, lt-ltb, le-ltb, le-leb}
use Rattle.sfs_base.proofs.BasicTruth.{true_not_false, or_true}
use Rattle.std.specs.Option.{option_or}
use Rattle.sfs_image.specs.Bytes.{part, zeros, nonzero_in, first_of}
use Rattle.sfs_image.specs.Part.{Part, is_free_part, pointer_at}
use Rattle.sfs_image.specs.Rules.{breaks_record, breaks_size, breaks_pointers, breaks_tail, breaks_slots, breaks_bytes_rule}
use Rattle.sfs_image.specs.Seen.{FILE_BLOCKS, PLACES}
use Rattle.sfs_image.specs.Slot.{slot_fault, row_fault}
use Rattle.sfs_image.specs.SlotBlock.{slots_fault, fault_in}
use Rattle.sfs_image.specs.Super.{Layout}
use Rattle.std.proofs.lemmas.List.{take_all, length-drop}
use Rattle.disk_change.proofs.NumbersGiven.{drop_zero}
use Rattle.sfs_image.proofs.BytesLaws.{nonzero_in-zeros, part_in_zeros, length-zeros}
use Rattle.sfs_image.proofs.PiecesLaws.{first_of-from}
use Rattle.image_laws.specs.Image.{HaveGoodBytes}
use Rattle.image_laws.specs.Need.{Rewrite, changes_pointer, has_pointer, table_blocks, rewrites_table, table_has_pointer, pointer_after, first_block}
use Rattle.block_map.proofs.Tables.{none_in_range}

-- A part breaks none of the rules on the bytes of one inode.
pub record IsGoodPart (layout : Layout) (part : Part) : Type 0 where
  pub record_good : breaks_record part ≡ false
  pub size : breaks_size part ≡ false
  pub pointers : breaks_pointers layout part ≡ false
  pub tail : breaks_tail part ≡ false
  pub slots : breaks_slots part ≡ false

pub good_part : (layout : Layout) (parts : ℕ → Part) → HaveGoodBytes layout parts → (i : ℕ) → i < layout.inodes → IsGoodPart layout (parts i)
good_part layout parts good i low = record {
  record_good = good 1 i (omega arith) (omega arith) (λ e. omega arith) (λ e. omega arith) low;
  size = good 3 i (omega arith) (omega arith) (λ e. omega arith) (λ e. omega arith) low;
  pointers = good 4 i (omega arith) (omega arith) (λ e. omega arith) (λ e. omega arith) low;
  tail = good 6 i (omega arith) (omega arith) (λ e. omega arith) (λ e. omega arith) low;
  slots = good 7 i (omega arith) (omega arith) (λ e. omega arith) (λ e. omega arith) low;
}

pub all_good : (layout : Layout) (parts : ℕ → Part) → ((i : ℕ) → i < layout.inodes → IsGoodPart layout (parts i)) → HaveGoodBytes layout parts
all_good layout parts each zero i low high no_root no_apart within = absurd (omega arith)
all_good layout parts each (suc zero) i low high no_root no_apart within = (each i within).record_good
all_good layout parts each (suc (suc zero)) i low high no_root no_apart within = absurd (no_root refl)
all_good layout parts each (suc (suc (suc zero))) i low high no_root no_apart within = (each i within).size
all_good layout parts each (suc (suc (suc (suc zero)))) i low high no_root no_apart within = (each i within).pointers
all_good layout parts each (suc (suc (suc (suc (suc zero))))) i low high no_root no_apart within = absurd (no_apart refl)
all_good layout parts each (suc (suc (suc (suc (suc (suc zero)))))) i low high no_root no_apart within = (each i within).tail
all_good layout parts each (suc (suc (suc (suc (suc (suc (suc zero))))))) i low high no_root no_apart within = (each i within).slots
all_good layout parts each (suc (suc (suc (suc (suc (suc (suc (suc rule)))))))) i low high no_root no_apart within = absurd (omega arith)

-- nothing is wrong in a block of zeros
pub zeros_have_no_fault : slots_fault (zeros 4096) ≡ None
unfolding slots_fault
zeros_have_no_fault =
    ap (λ (o : Option ℕ). option_or o (nonzero_in 3960 136 (zeros 4096)))
    (first_of-from 15 (fault_in (zeros 4096)) (λ k low. ap (option_map (λ at. 264 * k + at)) (ap slot_fault (inside (264 * k) 264 (omega arith)) ∙ none)))
    ∙ nonzero_in-zeros 3960 136 (zeros 4096) rest
  where
    whole : part 0 4096 (zeros 4096) ≡ zeros 4096
    whole = ap (take 4096) (drop_zero (zeros 4096)) ∙ take_all 4096 (zeros 4096) (omega (arith, length-zeros 4096))

    inside : (a m : ℕ) → a + m ≤ 4096 → part a m (zeros 4096) ≡ zeros m
    inside a m low = part_in_zeros 0 4096 a m (zeros 4096) (omega (arith, length-zeros 4096)) whole (omega arith) (omega arith)

    none : slot_fault (zeros 264) ≡ None
    none = ap (λ (o : Option ℕ). cond (is_none o) None (row_fault (zeros 264))) (nonzero_in-zeros 0 264 (zeros 264) (drop_zero (zeros 264)))

    rest : drop 3960 (zeros 4096) ≡ zeros 136
    rest = sym (take_all 136 (drop 3960 (zeros 4096)) (omega (arith, length-drop 3960 (zeros 4096), length-zeros 4096))) ∙ inside 3960 136 (omega arith)

-- Behind a place nothing is left of an inode: what is rewritten there is all zeros, and what is not has no pointer.
pub record LeavesNone (rewrite : Rewrite) (end : ℕ) : Type 0 where
  pub zero : (n : ℕ) → end ≤ n → n < FILE_BLOCKS → rewrite.is_rewritten n ≡ true → rewrite.is_zero n ≡ true
  pub none : (n : ℕ) → end ≤ n → n < FILE_BLOCKS → rewrite.is_rewritten n ≡ false → rewrite.pointers n ≡ 0

module _ (rewrite : Rewrite) (leaves : LeavesNone rewrite rewrite.blocks) (fresh : ℕ → ℕ) where
  -- so no block has a pointer there
  none_has : (n : ℕ) → rewrite.blocks ≤ n → n < FILE_BLOCKS → has_pointer rewrite n ≡ false
  none_has n behind low = by (rewrite.is_rewritten n) refl
    where
      by : (b : Bool) → rewrite.is_rewritten n ≡ b → cond b (not (rewrite.is_zero n)) (not (nat_eq (rewrite.pointers n) 0)) ≡ false
      by true e = ap not (leaves.zero n behind low e)
      by false e = ap not (eq-eqb (rewrite.pointers n) 0 (leaves.none n behind low e))

  pub none_after : (n : ℕ) → rewrite.blocks ≤ n → n < FILE_BLOCKS → pointer_after rewrite fresh n ≡ 0
  none_after n behind low = cond-true (nat_lt n FILE_BLOCKS) _ _ (lt-ltb n FILE_BLOCKS low) ∙ by (rewrite.is_rewritten n) refl
    where
      by : (b : Bool) → rewrite.is_rewritten n ≡ b → cond b (cond (rewrite.is_zero n) 0 (fresh n)) (rewrite.pointers n) ≡ 0
      by true e = ap (λ z. cond z 0 (fresh n)) (leaves.zero n behind low e)
      by false e = leaves.none n behind low e

  -- and no indirect block is left whose blocks all lie there
  pub no_table_after : (t : ℕ) → t < 16 → rewrite.blocks ≤ first_block t → pointer_after rewrite fresh (FILE_BLOCKS + t) ≡ 0
  unfolding table_blocks
  no_table_after t low behind =
      cond-false (nat_lt (FILE_BLOCKS + t) FILE_BLOCKS) _ _ (le-ltb (FILE_BLOCKS + t) FILE_BLOCKS (omega arith))
      ∙ ap (λ k. cond (rewrites_table rewrite k) (cond (table_has_pointer rewrite k) (fresh (FILE_BLOCKS + t)) 0) (rewrite.pointers (FILE_BLOCKS + t))) back
      ∙ by (rewrites_table rewrite t) refl
    where
      back : FILE_BLOCKS + t - FILE_BLOCKS ≡ t
      back = omega arith

      empty : table_has_pointer rewrite t ≡ false
      empty = none_in_range (has_pointer rewrite) (first_block t) 1024 (λ n at within. none_has n (omega arith) (omega arith))

      by : (b : Bool) → rewrites_table rewrite t ≡ b
          → cond b (cond (table_has_pointer rewrite t) (fresh (FILE_BLOCKS + t)) 0) (rewrite.pointers (FILE_BLOCKS + t)) ≡ 0
      by true e = ap (λ c. cond c (fresh (FILE_BLOCKS + t)) 0) empty
      by false e = elim (cases_Bool (nat_eq (rewrite.pointers (FILE_BLOCKS + t)) 0)) [
        | inl none ↦ eqb-true (rewrite.pointers (FILE_BLOCKS + t)) 0 none
        | inr some ↦ absurd (true_not_false (sym (there some) ∙ e))
      ]
        where
          there : nat_eq (rewrite.pointers (FILE_BLOCKS + t)) 0 ≡ false → rewrites_table rewrite t ≡ true
          there some =
              (λ i. list_any (changes_pointer rewrite) (table_blocks t) || (not (some i) && le-leb rewrite.blocks (first_block t) behind i))
              ∙ or_true (list_any (changes_pointer rewrite) (table_blocks t))
