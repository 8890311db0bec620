-- What is known of a slot goes on where a piece is written apart from what it is of.
use Rattle.std.proofs.Common.{◌+◌, ◌≤◌, ◌*◌, ◌≡◌, ◌⊎◌, ◌<◌, ◌∙◌, Bool, length, true, refl, subst, List, ℕ, sym, arith, false, inl, inr}
use Rattle.sfs_dev.specs.Disk.{View}
use Rattle.sfs_dev.specs.Ranges.{SameOutside}
use Rattle.sfs_dev.specs.RangeLaws.{SameOutside-put}
use Rattle.sfs_dev.proofs.Held.{told_before}
use Rattle.journal_one.specs.Job.{Piece, gate_piece, fill_count, fill_piece, table_piece, Place}
use Rattle.journal_one.specs.Known.{EachLeft, IsShutIn, IsWrittenIn}
use Rattle.journal_one.proofs.Kept.{Touches, put_told, gate_stays, leaves_kept, reads_kept, stands_kept}
use Rattle.slot_laws.specs.Slots.{open_gate, shut_gate, SlotWork, any_gate, KnownGate}
use Rattle.slot_image_laws.specs.Run.{KeepsLaws, Writes}
use Rattle.slot_image_laws.specs.Images.{HasGate, KnowsWork}
use Rattle.slot_image_laws.specs.Commits.{KnownFits}
use Rattle.journal_one.proofs.Apart.{AreApart}

pub touches_by : (done : Bool) (piece : Piece) (old new : View) → piece.at + length piece.bytes ≤ 4096 * old.size → KeepsLaws old → Writes done piece old new
    → Touches piece old new
touches_by true piece old new large lawful is = record {
  left = is.torn;
  read = λ content told.
      let p = put_told piece old.content new.content content (is.ok refl) told in (
        p.0,
        p.1,
        subst (λ (l : List ℕ). SameOutside piece.at (length piece.bytes) p.0 l) (sym p.2)
            (SameOutside-put piece.at piece.bytes p.0 (omega (arith, lawful.whole p.0 p.1))),
      );
}
touches_by false piece old new large lawful is = record {
  left = is.torn;
  read = λ content told. told_before piece.at (length piece.bytes) old.content new.content content (is.err refl) told;
}

-- What is known of a commit is of other bytes than these.
pub record IsAside (piece : Piece) (work : SlotWork) : Type 0 where
  pub gate : (work.known.gate_left ≡ any_gate) × (work.known.gate_read ≡ any_gate) ⊎ AreApart piece (gate_piece work.job.place 1)
  pub fill : (n : ℕ) → n < fill_count work.job → work.known.fill_read n ≡ true → AreApart piece (fill_piece work.job n)
  pub table : (n : ℕ) → n < length work.job.entries → work.known.table_read n ≡ true → AreApart piece (table_piece work.job n)

module _ (piece : Piece) (old new : View) (touches : Touches piece old new) where
  gate_frame : (gate : KnownGate) (place : Place) → (gate ≡ any_gate) ⊎ AreApart piece (gate_piece place 1)
      → (was image : List ℕ) → SameOutside piece.at (length piece.bytes) was image → HasGate gate place was → HasGate gate place image
  gate_frame shut_gate place (inl any) was image same has = let never : shut_gate ≡ any_gate = any in absurd (cc)
  gate_frame open_gate place (inl any) was image same has = let never : open_gate ≡ any_gate = any in absurd (cc)
  gate_frame any_gate place aside was image same has = tt
  gate_frame shut_gate place (inr apart) was image same has = gate_stays place piece 1 was image apart same ∙ has
  gate_frame open_gate place (inr apart) was image same has = gate_stays place piece 1 was image apart same ∙ has

  pub shut_aside : (place : Place) → AreApart piece (gate_piece place 1) → EachLeft old (IsShutIn place) → EachLeft new (IsShutIn place)
  shut_aside place apart =
      leaves_kept piece old new (IsShutIn place) touches (λ was image same has. gate_stays place piece 1 was image apart same ∙ has)

  pub knows_aside : (work : SlotWork) → KnownFits work.known → IsAside piece work → KnowsWork work old → KnowsWork work new
  knows_aside work fits aside knows = record {
    gate_left = leaves_kept piece old new (HasGate work.known.gate_left work.job.place) touches
        (gate_frame work.known.gate_left work.job.place left_aside) knows.gate_left;
    gate_read = reads_kept piece old new (HasGate work.known.gate_read work.job.place) touches
        (gate_frame work.known.gate_read work.job.place read_aside) knows.gate_read;
    fill_left = λ n low marked.
        leaves_kept piece old new (IsWrittenIn (fill_piece work.job n)) touches
        (λ was image same. stands_kept piece (fill_piece work.job n) was image (aside.fill n low (fits.fill n marked)) same) (knows.fill_left n low marked);
    fill_read = λ n low marked.
        reads_kept piece old new (IsWrittenIn (fill_piece work.job n)) touches
        (λ was image same. stands_kept piece (fill_piece work.job n) was image (aside.fill n low marked) same) (knows.fill_read n low marked);
    table_left = λ n low marked.
        leaves_kept piece old new (IsWrittenIn (table_piece work.job n)) touches
        (λ was image same. stands_kept piece (table_piece work.job n) was image (aside.table n low (fits.table n marked)) same) (knows.table_left n low marked);
    table_read = λ n low marked.
        reads_kept piece old new (IsWrittenIn (table_piece work.job n)) touches
        (λ was image same. stands_kept piece (table_piece work.job n) was image (aside.table n low marked) same) (knows.table_read n low marked);
  }
    where
      left_aside : (work.known.gate_left ≡ any_gate) ⊎ AreApart piece (gate_piece work.job.place 1)
      left_aside = elim aside.gate [
        | inl any ↦ inl any.0
        | inr apart ↦ inr apart
      ]

      read_aside : (work.known.gate_read ≡ any_gate) ⊎ AreApart piece (gate_piece work.job.place 1)
      read_aside = elim aside.gate [
        | inl any ↦ inl any.1
        | inr apart ↦ inr apart
      ]
