-- Writes that keep what an image stands for.
use Rattle.std.proofs.Common.{◌≡◌, ◌≢◌, ℕ, ◌+◌, ◌*◌, ◌/◌, ◌<◌, ◌≤◌, List, Option, None, ap, ◌∙◌, arith, inl, inr}
use Rattle.std.proofs.lemmas.Bool.{cases_lt, cases_order}
use Rattle.sfs_image.specs.Bytes.{part}
use Rattle.sfs_image.specs.ImageOf.{Transaction, given, with_opened, IsSlotOf, IsImageOf}
use Rattle.sfs_image.specs.ImageWrites.{AgreesOutside, LiesApart}
use Rattle.sfs_image.specs.Part.{Part, IsGathered, pointer_at}
use Rattle.sfs_image.specs.Settled.{table_byte, image_block, layout_of, super_fault_of, slot_byte, slot_count, journal_slot}
use Rattle.sfs_image.specs.Super.{Layout, slot_blocks, data_start, super_of, super_fault}
use Rattle.sfs_image.proofs.FrameLaws.{part_apart}
use Rattle.sfs_image.proofs.LayoutLaws.{divided, records_fit}
use Rattle.sfs_image.proofs.PartLaws.{gathered_same}

-- a write that keeps each slot what it is, and is apart from the superblock, from the records of inodes that no open slot has,
-- and from the blocks of all parts
pub record IsAside (layout : Layout) (opened : ℕ → Option Transaction) (parts : ℕ → Part) (at n : ℕ) (old new : List ℕ) : Type 0 where
  pub same : AgreesOutside at n old new
  pub behind : 4096 ≤ at
  pub slots : (k : ℕ) → k < slot_count layout → IsSlotOf layout.inodes (opened k) (journal_slot layout old k) →
      IsSlotOf layout.inodes (opened k) (journal_slot layout new k)
  pub table : (i : ℕ) → i < layout.inodes → given layout opened i ≡ None → LiesApart (table_byte layout i) 512 at n
  pub blocks : (i place : ℕ) → i < layout.inodes → pointer_at (with_opened layout opened parts i) place ≢ 0 →
      LiesApart (4096 * pointer_at (with_opened layout opened parts i) place) 4096 at n

module _ (at n : ℕ) (old new : List ℕ) (same : AgreesOutside at n old new) (behind : 4096 ≤ at) where
  -- the superblock stays
  pub super_kept : image_block new 0 ≡ image_block old 0
  super_kept = part_apart at n old new same 0 4096 (inl (omega arith))

  pub sound_kept : super_fault_of new ≡ super_fault_of old
  sound_kept = λ i. super_fault (same.size i / 4096) (super_kept i)

  pub divided_kept : layout_of new ≡ layout_of old
  divided_kept = ap super_of super_kept

  -- a part stays that points to blocks apart
  pub gathered_kept : (part : Part) → IsGathered (image_block old) part →
      ((place : ℕ) → pointer_at part place ≢ 0 → LiesApart (4096 * pointer_at part place) 4096 at n) → IsGathered (image_block new) part
  gathered_kept part is apart =
      gathered_same (image_block old) (image_block new) part is
      (λ place there. part_apart at n old new same (4096 * pointer_at part place) 4096 (apart place there))

pub aside_kept : (layout : Layout) (opened : ℕ → Option Transaction) (parts : ℕ → Part) (at n : ℕ) (old new : List ℕ) →
    IsAside layout opened parts at n old new →
    IsImageOf layout opened parts old → IsImageOf layout opened parts new
aside_kept layout opened parts at n old new aside is = record {
  sound = sound_kept at n old new aside.same aside.behind ∙ is.sound;
  divided = divided_kept at n old new aside.same aside.behind ∙ is.divided;
  slots = λ k h. aside.slots k h (is.slots k h);
  stamps = is.stamps;
  table = λ i h none. part_apart at n old new aside.same (table_byte layout i) 512 (aside.table i h none) ∙ is.table i h none;
  gathered =
      λ i h. gathered_kept at n old new aside.same aside.behind (with_opened layout opened parts i) (is.gathered i h)
      (λ place there. aside.blocks i place h there);
  pointers = is.pointers;
}

-- in which part of the disk a write lies, and what it is apart from
module _ (layout : Layout) where
  -- a slot and another one
  pub slots_apart : (j k a n : ℕ) → j ≢ k → a + n ≤ 4096 * slot_blocks layout.inodes →
      LiesApart (slot_byte layout j) (4096 * slot_blocks layout.inodes) (slot_byte layout k + a) n
  slots_apart j k a n apart fits =
      elim (cases_order j k) [
        | inl e ↦ absurd (apart e)
        | inr (inl below) ↦ inl (let h = (divided layout).slots j k below in omega arith)
        | inr (inr above) ↦ inr (let h = (divided layout).slots k j above in omega arith)
      ]

  -- a slot and the table
  pub slot_before_table : (k i a n : ℕ) → k < slot_count layout → a + n ≤ 4096 * slot_blocks layout.inodes →
      LiesApart (table_byte layout i) 512 (slot_byte layout k + a) n
  slot_before_table k i a n h fits = inr (let last = (divided layout).last_slot k h in omega arith)

  -- a slot and the data
  pub slot_before_data : (k block a n : ℕ) → k < slot_count layout → a + n ≤ 4096 * slot_blocks layout.inodes → data_start layout ≤ block →
      LiesApart (4096 * block) 4096 (slot_byte layout k + a) n
  slot_before_data k block a n h fits high = inr (let last = (divided layout).last_slot k h in omega arith)

  -- a record of the table and a slot
  pub table_behind_slots : (i k a n : ℕ) → k < slot_count layout → LiesApart (slot_byte layout k) (4096 * slot_blocks layout.inodes) (table_byte layout i + a) n
  table_behind_slots i k a n h = inl (let last = (divided layout).last_slot k h in omega arith)

  -- a record of the table and the records of other inodes, one behind another
  pub records_apart : (i first count a n : ℕ) → (first ≤ i → i < first + count → ⊥) → a + n ≤ 512 * count →
      LiesApart (table_byte layout i) 512 (table_byte layout first + a) n
  records_apart i first count a n apart fits =
      elim (cases_lt i first) [
        | inl below ↦ inl (omega arith)
        | inr from ↦ elim (cases_lt i (first + count)) [
          | inl within ↦ absurd (apart from within)
          | inr behind ↦ inr (omega arith)
        ]
      ]

  -- records of the table and the data
  pub table_before_data : (first count block a n : ℕ) → first + count ≤ layout.inodes → a + n ≤ 512 * count → data_start layout ≤ block →
      LiesApart (4096 * block) 4096 (table_byte layout first + a) n
  table_before_data first count block a n within fits high = inr (let last = records_fit layout.inodes in omega arith)

  -- the data and the slots, and the table
  pub data_behind_slots : (k at n : ℕ) → k < slot_count layout → 4096 * data_start layout ≤ at →
      LiesApart (slot_byte layout k) (4096 * slot_blocks layout.inodes) at n
  data_behind_slots k at n h high = inl (let last = (divided layout).last_slot k h in omega arith)

  pub data_behind_table : (i at n : ℕ) → i < layout.inodes → 4096 * data_start layout ≤ at → LiesApart (table_byte layout i) 512 at n
  data_behind_table i at n h high = inl (let last = (divided layout).table i h in omega arith)
