-- Where the pieces of commits in slots lie, and which share no byte.
use Rattle.std.proofs.Common.{◌<◌, ◌≤◌, ◌+◌, ◌*◌, ◌≡◌, ◌≢◌, ◌⊎◌, ◌-◌, ℕ, length, inl, inr, arith, List, ap, subst, sym, get_or}
use Rattle.std.proofs.lemmas.Bool.{cases_order, cases_lt}
use Rattle.sfs_image.specs.Super.{Layout, slot_blocks, data_start, IsLayout}
use Rattle.sfs_image.specs.Settled.{slot_count, slot_byte, table_byte}
use Rattle.sfs_image.specs.ImageOf.{InodePart}
use Rattle.sfs_image.specs.Part.{Part}
use Rattle.sfs_image.proofs.LayoutLaws.{divided, records_fit}
use Rattle.journal_one.specs.Job.{Piece, fill_piece, Place, gate_piece, body_piece, LiesInData, no_block, table_piece, no_entry}
use Rattle.journal_one.proofs.Places.{LiesInSlot, body_lies, in_data, fresh_is, body_is, entry_below, entry_long, fresh_whole}
use Rattle.slot_laws.specs.Slots.{SlotWork, place_at}
use Rattle.slot_laws.specs.Rules.{inode_of_nth}
use Rattle.slot_image_laws.specs.Commits.{nth_block, WorkFits}
use Rattle.journal_one.proofs.Apart.{AreApart}

-- A piece lies in a slot; is a record of the table; or is a block of the data area.
pub record SlotPiece (layout : Layout) (k : ℕ) (piece : Piece) : Type 0 where
  pub within : k < slot_count layout
  pub low : slot_byte layout k ≤ piece.at
  pub high : piece.at + length piece.bytes ≤ slot_byte layout k + 4096 * slot_blocks layout.inodes

pub record TablePiece (layout : Layout) (i : ℕ) (piece : Piece) : Type 0 where
  pub below : i < layout.inodes
  pub at : piece.at ≡ table_byte layout i
  pub long : length piece.bytes ≡ 512

pub record DataPiece (layout : Layout) (block : ℕ) (piece : Piece) : Type 0 where
  pub low : data_start layout ≤ block
  pub high : block < layout.blocks
  pub at : piece.at ≡ 4096 * block
  pub long : length piece.bytes ≡ 4096

module _ (layout : Layout) (one other : Piece) where
  pub slots_apart : (j k : ℕ) → j ≢ k → SlotPiece layout j one → SlotPiece layout k other → AreApart one other
  slots_apart j k away here there = elim (cases_order j k) [
    | inl same ↦ absurd (away same)
    | inr (inl below) ↦ inl (omega (arith, (divided layout).slots j k below, here.high, there.low))
    | inr (inr above) ↦ inr (omega (arith, (divided layout).slots k j above, there.high, here.low))
  ]

  pub slot_table : (k i : ℕ) → SlotPiece layout k one → TablePiece layout i other → AreApart one other
  slot_table k i here there = inl (omega (arith, (divided layout).last_slot k here.within, here.high, there.at))

  pub slot_data : (k block : ℕ) → SlotPiece layout k one → DataPiece layout block other → AreApart one other
  slot_data k block here there =
      inl (omega (arith, (divided layout).last_slot k here.within, records_fit layout.inodes, here.high, there.at, there.low))

  pub table_data : (i block : ℕ) → TablePiece layout i one → DataPiece layout block other → AreApart one other
  table_data i block here there = inl (omega (arith, (divided layout).table i here.below, here.at, here.long, there.at, there.low))

  pub tables_apart : (i j : ℕ) → i ≢ j → TablePiece layout i one → TablePiece layout j other → AreApart one other
  tables_apart i j away here there = elim (cases_order i j) [
    | inl same ↦ absurd (away same)
    | inr (inl below) ↦ inl (omega (arith, here.at, here.long, there.at))
    | inr (inr above) ↦ inr (omega (arith, here.at, there.long, there.at))
  ]

  pub blocks_apart : (i j : ℕ) → i ≢ j → DataPiece layout i one → DataPiece layout j other → AreApart one other
  blocks_apart i j away here there = elim (cases_order i j) [
    | inl same ↦ absurd (away same)
    | inr (inl below) ↦ inl (omega (arith, here.at, here.long, there.at))
    | inr (inr above) ↦ inr (omega (arith, here.at, there.long, there.at))
  ]

-- a piece that fills a slot lies in it, or is a fresh block
abbrev pub FillLies : Layout → ℕ → SlotWork → ℕ → Type 0
FillLies layout k work n =
    SlotPiece layout k (fill_piece work.job n) ⊎ ((n < length work.job.fresh) × DataPiece layout (nth_block work n) (fill_piece work.job n))

module _ (gives : ℕ → List InodePart) (layout : Layout) (base : ℕ → Part) (k : ℕ) (work : SlotWork) (fits : WorkFits gives layout base k work) where
  layout_is : work.job.place.layout ≡ layout
  layout_is = ap (λ (place : Place). place.layout) fits.place

  slot_is : work.job.place.slot ≡ k
  slot_is = ap (λ (place : Place). place.slot) fits.place

  pub low_slot : k < slot_count layout
  low_slot = subst (λ (place : Place). place.slot < slot_count place.layout) fits.place fits.is.place.within

  lies_own : (piece : Piece) → LiesInSlot work.job.place piece → LiesInSlot (place_at layout k) piece
  lies_own piece = subst (λ (place : Place). LiesInSlot place piece) fits.place

  pub gate_lies : (byte : ℕ) → SlotPiece layout k (gate_piece work.job.place byte)
  gate_lies byte =
      let head = lies_own (body_piece work.job 2) (body_lies work.job fits.is 2) in
      subst (λ (place : Place). SlotPiece layout k (gate_piece place byte)) (sym fits.place)
      (record { within = low_slot; low = omega arith; high = omega (arith, head.fits, head.behind) })

  pub fill_lies : (n : ℕ) → FillLies layout k work n
  fill_lies n = elim (cases_lt n (length work.job.fresh)) [
    | inl lt ↦
        let lies = subst (λ (l : Layout). LiesInData l (get_or work.job.fresh n no_block)) layout_is (in_data work.job fits.is n lt) in
        inr (
          lt,
          record {
            low = lies.low;
            high = lies.high;
            at = ap (λ (p : Piece). p.at) (fresh_is work.job fits.is n lt);
            long = fresh_whole work.job fits.is n lt;
          },
        )
    | inr le ↦
        let lies = lies_own (body_piece work.job (n - length work.job.fresh)) (body_lies work.job fits.is (n - length work.job.fresh)) in
        inl (subst (SlotPiece layout k) (sym (body_is work.job fits.is n le))
        (record { within = low_slot; low = omega (arith, lies.begins); high = omega (arith, lies.begins, lies.fits) }))
  ]

  pub table_lies : (n : ℕ) → n < length work.job.entries → TablePiece layout (inode_of_nth work.job n) (table_piece work.job n)
  table_lies n low = record {
    below = subst (λ (l : Layout). (get_or work.job.entries n no_entry).inode < l.inodes) layout_is (entry_below work.job fits.is n low);
    at = ap (λ (l : Layout). table_byte l (get_or work.job.entries n no_entry).inode) layout_is;
    long = entry_long work.job fits.is n low;
  }

-- each lies on the disk
module _ (layout : Layout) (fits : IsLayout layout.blocks layout) (piece : Piece) where
  pub slot_within : (k : ℕ) → SlotPiece layout k piece → piece.at + length piece.bytes ≤ 4096 * layout.blocks
  slot_within k lies = omega (arith, (divided layout).last_slot k lies.within, records_fit layout.inodes, lies.high, fits.room)

  pub table_within : (i : ℕ) → TablePiece layout i piece → piece.at + length piece.bytes ≤ 4096 * layout.blocks
  table_within i lies = omega (arith, (divided layout).table i lies.below, lies.at, lies.long, fits.room)

  pub data_within : (block : ℕ) → DataPiece layout block piece → piece.at + length piece.bytes ≤ 4096 * layout.blocks
  data_within block lies = omega (arith, lies.at, lies.long, lies.high)
