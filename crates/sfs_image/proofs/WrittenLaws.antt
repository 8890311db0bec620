-- Writes to the data, the table and the slots of an image that stands for parts.
use Rattle.std.proofs.Common.{◌≡◌, None, Some, ℕ, ◌+◌, ◌*◌, ◌<◌, ◌≤◌, List, Option, sym, ap, ◌∙◌, subst, arith, inl, inr}
use Rattle.std.proofs.lemmas.Bool.{cases_eq}
use Rattle.sfs_image.specs.ImageOf.{Transaction, given, with_opened, IsShut, IsSlotOf, IsImageOf}
use Rattle.sfs_image.specs.ImageWrites.{LeavesGate, WritesData, WritesRecords, WritesBody, AgreesOutside, LiesApart}
use Rattle.sfs_image.specs.Part.{Part, pointer_at}
use Rattle.sfs_image.specs.Settled.{table_byte, slot_byte, slot_count, journal_slot}
use Rattle.sfs_image.specs.Super.{Layout, slot_blocks}
use Rattle.sfs_image.proofs.FrameLaws.{part_apart, part_changes, gate_kept, whole_kept}
use Rattle.sfs_image.proofs.KeptLaws.{aside_kept, slots_apart, slot_before_table, slot_before_data, table_behind_slots, records_apart, table_before_data, data_behind_slots, data_behind_table}
use Rattle.sfs_image.proofs.LayoutLaws.{divided}

module _ (layout : Layout) (opened : ℕ → Option Transaction) (parts : ℕ → Part) (old new : List ℕ) (is : IsImageOf layout opened parts old) where
  -- a slot stays where its bytes do
  slot_same : (j at n : ℕ) → AgreesOutside at n old new → LiesApart (slot_byte layout j) (4096 * slot_blocks layout.inodes) at n →
      IsSlotOf layout.inodes (opened j) (journal_slot layout old j) → IsSlotOf layout.inodes (opened j) (journal_slot layout new j)
  slot_same j at n same apart =
      subst (IsSlotOf layout.inodes (opened j)) (sym (part_apart at n old new same (slot_byte layout j) (4096 * slot_blocks layout.inodes) apart))

  -- a write to the data, apart from the blocks of all parts, keeps them
  data_kept : WritesData layout opened parts old new → IsImageOf layout opened parts new
  data_kept to =
      aside_kept layout opened parts to.at to.n old new (record {
        same = to.written;
        behind = let high = to.behind in omega arith;
        slots = λ k h. slot_same k to.at to.n to.written (data_behind_slots layout k to.at to.n h to.behind);
        table = λ i h none. data_behind_table layout i to.at to.n h to.behind;
        blocks = to.apart;
      }) is

  -- a write within the records of inodes that open slots have keeps all parts
  records_kept : (first count : ℕ) → WritesRecords layout opened first count old new → IsImageOf layout opened parts new
  records_kept first count to =
      aside_kept layout opened parts (table_byte layout first + to.from) to.n old new (record {
        same = to.written;
        behind = let slot = (divided layout).first_slot 0 in omega arith;
        slots = λ k h. slot_same k (table_byte layout first + to.from) to.n to.written (table_behind_slots layout first k to.from to.n h);
        table = λ i h none. records_apart layout i first count to.from to.n (λ from low. to.taken i from low none) to.fits;
        blocks = λ i place h there.
            table_before_data layout first count (pointer_at (with_opened layout opened parts i) place) to.from to.n to.within to.fits
            (is.pointers i h place there).0;
      }) is

  -- a write within a slot that leaves the slot what it is keeps all parts
  slot_kept : (k a n : ℕ) → AgreesOutside (slot_byte layout k + a) n old new → k < slot_count layout → a + n ≤ 4096 * slot_blocks layout.inodes →
      IsSlotOf layout.inodes (opened k) (journal_slot layout new k) → IsImageOf layout opened parts new
  slot_kept k a n same below fits stays =
      aside_kept layout opened parts (slot_byte layout k + a) n old new (record {
        same = same;
        behind = let first = (divided layout).first_slot k in omega arith;
        slots = λ j h was. elim (cases_eq j k) [
          | inl here ↦ subst (λ (m : ℕ). IsSlotOf layout.inodes (opened m) (journal_slot layout new m)) (sym here) stays
          | inr other ↦ slot_same j (slot_byte layout k + a) n same (slots_apart layout j k a n other fits) was
        ];
        table = λ i h none. slot_before_table layout k i a n below fits;
        blocks = λ i place h there.
            slot_before_data layout k (pointer_at (with_opened layout opened parts i) place) a n below fits (is.pointers i h place there).0;
      }) is

  -- a write behind the gate of a closed slot keeps all parts
  behind_kept : (k : ℕ) → WritesBody layout opened k old new → IsImageOf layout opened parts new
  behind_kept k to =
      let slot = part_changes (slot_byte layout k) to.from to.n (4096 * slot_blocks layout.inodes) old new to.written to.fits in
      let was : IsShut (journal_slot layout old k) =
      subst (λ (o : Option Transaction). IsSlotOf layout.inodes o (journal_slot layout old k)) to.shut (is.slots k to.within) in
      slot_kept k to.from to.n to.written to.within to.fits
      (subst (λ (o : Option Transaction). IsSlotOf layout.inodes o (journal_slot layout new k)) (sym to.shut)
      (gate_kept to.from to.n (journal_slot layout old k) (journal_slot layout new k) slot to.behind ∙ was))

  -- a write at a gate that leaves the gate what it was keeps all parts
  gate_left : (k : ℕ) → LeavesGate layout k old new → IsImageOf layout opened parts new
  gate_left k to = slot_kept k 0 1 here_on to.within (omega arith) (go (opened k) (is.slots k to.within))
    where
      here_on : AgreesOutside (slot_byte layout k + 0) 1 old new
      here_on = subst (λ (at : ℕ). AgreesOutside at 1 old new) (let none : slot_byte layout k ≡ slot_byte layout k + 0 = omega arith in none) to.written

      go : (o : Option Transaction) → IsSlotOf layout.inodes o (journal_slot layout old k) → IsSlotOf layout.inodes o (journal_slot layout new k)
      go None shut = to.gate ∙ shut
      go (Some one) was =
          let slot = part_changes (slot_byte layout k) 0 1 (4096 * slot_blocks layout.inodes) old new here_on (omega arith) in
          record {
            gate = to.gate ∙ was.gate;
            whole = whole_kept 1 layout.inodes (journal_slot layout old k) (journal_slot layout new k) slot (omega arith) one was.whole;
          }

-- A write to the data keeps what an image stands for.
pub data_written : (layout : Layout) (opened : ℕ → Option Transaction) (parts : ℕ → Part) (old new : List ℕ) → IsImageOf layout opened parts old
    → WritesData layout opened parts old new → IsImageOf layout opened parts new
data_written layout opened parts old new is to = data_kept layout opened parts old new is to

-- So does one to the records of inodes that open slots have.
pub table_written : (layout : Layout) (opened : ℕ → Option Transaction) (parts : ℕ → Part) (first count : ℕ) (old new : List ℕ)
    → IsImageOf layout opened parts old → WritesRecords layout opened first count old new → IsImageOf layout opened parts new
table_written layout opened parts first count old new is to = records_kept layout opened parts old new is first count to

-- So does one behind the gate of a closed slot.
pub body_written : (layout : Layout) (opened : ℕ → Option Transaction) (parts : ℕ → Part) (k : ℕ) (old new : List ℕ) → IsImageOf layout opened parts old
    → WritesBody layout opened k old new → IsImageOf layout opened parts new
body_written layout opened parts k old new is to = behind_kept layout opened parts old new is k to

-- So does one at a gate that leaves the gate what it was.
pub gate_written : (layout : Layout) (opened : ℕ → Option Transaction) (parts : ℕ → Part) (k : ℕ) (old new : List ℕ) → IsImageOf layout opened parts old
    → LeavesGate layout k old new → IsImageOf layout opened parts new
gate_written layout opened parts k old new is to = gate_left layout opened parts old new is k to
