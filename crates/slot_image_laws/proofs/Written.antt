-- A piece is written, and the gate of its slot may be open as before.
use Rattle.std.proofs.Common.{◌<◌, ◌≢◌, ◌≡◌, ◌+◌, ◌≤◌, ◌*◌, ◌∙◌, ℕ, Some, List, subst, arith, sym, inr, inl, length, true, false, Option, ap}
use Rattle.sfs_base.proofs.BasicTruth.{true_or_false, not_both}
use Rattle.sfs_image.specs.Super.{Layout, slot_blocks}
use Rattle.sfs_image.specs.Settled.{slot_count, slot_byte}
use Rattle.sfs_image.specs.ImageOf.{InodePart, Transaction, IsImageOf}
use Rattle.sfs_image.specs.Part.{Part}
use Rattle.sfs_dev.specs.Disk.{View, Elapses, images}
use Rattle.sfs_dev.specs.Ranges.{SameOutside}
use Rattle.journal_one.specs.Job.{Piece, gate_piece, Place, fill_piece, table_piece}
use Rattle.journal_one.proofs.Apart.{AreApart-swap, AreApart}
use Rattle.journal_one.proofs.Kept.{Touches, gate_stays}
use Rattle.tree_laws.specs.declared.turns.Turn.{Turn}
use Rattle.merge_laws.proofs.Blocks.{same_or_not}
use Rattle.slot_laws.specs.Slots.{Slots, place_at, SlotWork, SlotKnown, changed_slot, knowing, may_be_open}
use Rattle.slot_laws.specs.Rules.{inode_of_nth}
use Rattle.slot_laws.specs.Rings.{RingsFit}
use Rattle.slot_laws.proofs.Rings.{in_slots}
use Rattle.slot_image_laws.specs.Commits.{WorksFit, WorkFits, nth_block, StandsOpen, opened_in}
use Rattle.slot_image_laws.specs.Images.{KnowsWork, RunStart, disk_books, DiskBooks, IsBox}
use Rattle.slot_image_laws.specs.Run.{IsDiskRun, Matches}
use Rattle.slot_image_laws.proofs.Aside.{IsAside}
use Rattle.slot_image_laws.proofs.Regions.{SlotPiece, gate_lies, slots_apart, fill_lies, slot_data, slot_table, table_lies, TablePiece, table_data, tables_apart, DataPiece, blocks_apart}
use Rattle.slot_image_laws.proofs.Anew.{StillFits, opened_same, gate_in, within}
use Rattle.slot_image_laws.proofs.Trails.{trail_goes}
use Rattle.slot_image_laws.proofs.Shown.{shown}
use Rattle.slot_image_laws.proofs.Changed.{changed_matches, changed_works, changed_knows, changed_may, opened_still}

-- A piece lies apart from what is known of the other slots.
pub record IsElsewhere (layout : Layout) (slots : Slots) (k : ℕ) (piece : Piece) : Type 0 where
  pub gates : (j : ℕ) → j < slot_count layout → j ≢ k → AreApart piece (gate_piece (place_at layout j) 1)
  pub others : (j : ℕ) (other : SlotWork) → j ≢ k → slots j ≡ Some other → IsAside piece other

module _ (gives : ℕ → List InodePart) (layout : Layout) (base : ℕ → Part) (slots : Slots) (works : WorksFit gives layout base slots)
    (k : ℕ) (work : SlotWork) (there : slots k ≡ Some work) (piece : Piece) where
  own_fits : WorkFits gives layout base k work
  own_fits = works.each k work there

  gate_at_lies : (j : ℕ) → j < slot_count layout → SlotPiece layout j (gate_piece (place_at layout j) 1)
  gate_at_lies j low =
      let own = gate_lies gives layout base k work own_fits 1 in
      let ends : slot_byte layout k + 1 ≤ slot_byte layout k + 4096 * slot_blocks layout.inodes =
      subst (λ (place : Place). slot_byte place.layout place.slot + 1 ≤ slot_byte layout k + 4096 * slot_blocks layout.inodes) own_fits.place own.high in
      record { within = low; low = omega arith; high = omega (arith, ends) }

  its_gate : (j : ℕ) (other : SlotWork) → slots j ≡ Some other → SlotPiece layout j (gate_piece other.job.place 1)
  its_gate j other at = gate_lies gives layout base j other (works.each j other at) 1

  pub slot_elsewhere : SlotPiece layout k piece → IsElsewhere layout slots k piece
  slot_elsewhere lies = record {
    gates = λ j low away. slots_apart layout piece (gate_piece (place_at layout j) 1) k j (λ same. away (sym same)) lies (gate_at_lies j low);
    others = λ j other away at. record {
      gate = inr (slots_apart layout piece (gate_piece other.job.place 1) k j (λ same. away (sym same)) lies (its_gate j other at));
      fill = λ n low marked. elim (fill_lies gives layout base j other (works.each j other at) n) [
        | inl slot ↦ slots_apart layout piece (fill_piece other.job n) k j (λ same. away (sym same)) lies slot
        | inr data_too ↦ slot_data layout piece (fill_piece other.job n) k (nth_block other n) lies data_too.1
      ];
      table = λ n low marked.
          slot_table layout piece (table_piece other.job n) k (inode_of_nth other.job n) lies
          (table_lies gives layout base j other (works.each j other at) n low);
    };
  }

  pub table_elsewhere : (i : ℕ) → TablePiece layout i piece
      → ((j n : ℕ) (other : SlotWork) → j ≢ k → slots j ≡ Some other → n < length other.job.entries → other.known.table_read n ≡ true
      → i ≢ inode_of_nth other.job n)
      → IsElsewhere layout slots k piece
  table_elsewhere i lies away_from = record {
    gates = λ j low away.
        AreApart-swap (gate_piece (place_at layout j) 1) piece (slot_table layout (gate_piece (place_at layout j) 1) piece j i (gate_at_lies j low) lies);
    others = λ j other away at. record {
      gate = inr (AreApart-swap (gate_piece other.job.place 1) piece (slot_table layout (gate_piece other.job.place 1) piece j i (its_gate j other at) lies));
      fill = λ n low marked. elim (fill_lies gives layout base j other (works.each j other at) n) [
        | inl slot ↦ AreApart-swap (fill_piece other.job n) piece (slot_table layout (fill_piece other.job n) piece j i slot lies)
        | inr data_too ↦ table_data layout piece (fill_piece other.job n) i (nth_block other n) lies data_too.1
      ];
      table = λ n low marked.
          tables_apart layout piece (table_piece other.job n) i (inode_of_nth other.job n) (away_from j n other away at low marked) lies
          (table_lies gives layout base j other (works.each j other at) n low);
    };
  }

  pub data_elsewhere : (n : ℕ) → work.settled ≡ false → n < length work.job.fresh → DataPiece layout (nth_block work n) piece
      → IsElsewhere layout slots k piece
  data_elsewhere n aloft few lies = record {
    gates = λ j low away.
        AreApart-swap (gate_piece (place_at layout j) 1) piece
        (slot_data layout (gate_piece (place_at layout j) 1) piece j (nth_block work n) (gate_at_lies j low) lies);
    others = λ j other away at. record {
      gate = inr
          (AreApart-swap (gate_piece other.job.place 1) piece
          (slot_data layout (gate_piece other.job.place 1) piece j (nth_block work n) (its_gate j other at) lies));
      fill = λ m low marked. elim (fill_lies gives layout base j other (works.each j other at) m) [
        | inl slot ↦ AreApart-swap (fill_piece other.job m) piece (slot_data layout (fill_piece other.job m) piece j (nth_block work n) slot lies)
        | inr data_too ↦
            blocks_apart layout piece (fill_piece other.job m) (nth_block work n) (nth_block other m)
            ((works.apart k j work other (in_slots (λ same. away (sym same)) there at aloft (flies j other at m marked))).blocks n m few data_too.0)
            lies data_too.1
      ];
      table = λ m low marked.
          AreApart-swap (table_piece other.job m) piece
          (table_data layout (table_piece other.job m) piece (inode_of_nth other.job m) (nth_block work n)
          (table_lies gives layout base j other (works.each j other at) m low) lies);
    };
  }
    where
      flies : (j : ℕ) (other : SlotWork) → slots j ≡ Some other → (m : ℕ) → other.known.fill_read m ≡ true → other.settled ≡ false
      flies j other at m marked = elim (true_or_false other.settled) [
        | inl settled ↦ absurd (not_both marked (((works.each j other at).landed settled).forgot m).1)
        | inr aloft ↦ aloft
      ]

  -- the same slots are open, where the piece lies apart from the slot's own gate too
  pub opened_elsewhere : IsElsewhere layout slots k piece → AreApart piece (gate_piece work.job.place 1) → (was image : List ℕ)
      → SameOutside piece.at (length piece.bytes) was image → opened_in gives layout slots image ≡ opened_in gives layout slots was
  opened_elsewhere elsewhere own was image same = opened_still gives layout slots was image (λ j other at. elim (same_or_not j k) [
    | inl here ↦
        subst (λ (place : Place). gate_in place.layout image place.slot ≡ gate_in place.layout was place.slot)
        (own_fits.place ∙ ap (place_at layout) (sym here)) (gate_stays work.job.place piece 1 was image own same)
    | inr away ↦
        gate_stays (place_at layout j) piece 1 was image (elsewhere.gates j (within gives layout base slots works j other at) away) same
  ])

-- A piece is written that opens and shuts no gate, and of one slot's commit something else is known.
pub record IsPlainWrite (run : RunStart) (turns : List Turn) (slots : Slots) (k : ℕ) (change : SlotKnown → SlotKnown) (old new : View) : Type 0 where
  pub piece : Piece
  pub has : (work : SlotWork) × (slots k ≡ Some work)
  pub time : Elapses old new
  pub size : new.size ≡ old.size
  pub touches : Touches piece old new
  pub same_gate : may_be_open (change has.0.known).gate_left ≡ may_be_open has.0.known.gate_left
  pub rings : RingsFit (changed_slot slots k (knowing change))
  pub still : StillFits (knowing change has.0)
  pub own : KnowsWork (knowing change has.0) new
  pub elsewhere : IsElsewhere run.layout slots k piece
  pub stays : (content : List ℕ) → old.content ≡ Some content → (was image : List ℕ) → images old was
      → SameOutside piece.at (length piece.bytes) was image → StandsOpen run.gives run.layout (disk_books run turns).base slots image

pub plain_run : (run : RunStart) (turns : List Turn) (slots : Slots) (k : ℕ) (change : SlotKnown → SlotKnown) (old new : View)
    → IsPlainWrite run turns slots k change old new → IsDiskRun run turns slots old → IsDiskRun run turns (changed_slot slots k (knowing change)) new
plain_run run turns slots k change old new plain runs =
    record {
      box = box;
      matches = matches;
      trail = trail_goes run turns old new plain.time (λ content told. (let was = plain.touches.read content told in (was.0, was.1))) runs.trail
          (λ content told counts image left. shown run.gives run.layout books later new box content told matches image left);
    }
  where
    books : DiskBooks
    books = disk_books run turns

    later : Slots
    later = changed_slot slots k (knowing change)

    matches : Matches books.flying later
    matches = changed_matches run.gives run.layout books.base slots k plain.has.0 plain.has.1 change plain.same_gate books.flying runs.matches

    box : IsBox run.gives run.layout books.base later new
    box = record {
      large = omega (arith, runs.box.large, plain.size);
      fits = runs.box.fits;
      works = changed_works run.gives run.layout books.base slots k plain.has.0 plain.has.1 change runs.box.works plain.rings plain.still;
      knows = changed_knows run.gives run.layout books.base slots k plain.has.0 plain.has.1 change plain.piece old new plain.touches
          runs.box.works plain.own plain.elsewhere.gates plain.elsewhere.others runs.box.knows;
      stands = λ content told image left.
          let was = plain.touches.read content told in
          let before = plain.touches.left image left in
          subst (λ (opened : ℕ → Option Transaction). IsImageOf run.layout opened books.base image)
          (sym (opened_same run.gives run.layout slots later image
          (λ j gated. changed_may run.gives run.layout books.base slots k plain.has.0 plain.has.1 change plain.same_gate j)))
          (plain.stays was.0 was.1 before.0 image before.1 before.2);
    }
