-- The gate of a slot is written.
use Rattle.std.proofs.Common.{◌≡◌, ◌≤◌, ◌+◌, ◌*◌, ◌<◌, ◌≢◌, ◌∙◌, ℕ, List, false, inl, refl, Bool, true, cond, length, subst, arith, Option, Some, ap, sym, inr, None, option_map}
use Rattle.std.proofs.Math.Path.{fun_ext}
use Rattle.sfs_image.specs.ImageOf.{InodePart, Transaction, part_given}
use Rattle.sfs_image.specs.Super.{Layout, IsLayout}
use Rattle.sfs_image.specs.Part.{Part}
use Rattle.sfs_image.specs.ImageWrites.{AgreesOutside}
use Rattle.sfs_image.specs.Settled.{slot_byte, slot_count, Stamped}
use Rattle.sfs_image.proofs.GivenLaws.{stamp_given}
use Rattle.sfs_dev.specs.Disk.{View}
use Rattle.sfs_dev.specs.Ranges.{SameOutside}
use Rattle.journal_one.specs.Job.{gate_piece, fill_piece, table_piece, Place, Piece}
use Rattle.journal_one.specs.Known.{Reads}
use Rattle.journal_one.proofs.Apart.{AreApart-swap, apart_from_gate, table_from_gate}
use Rattle.journal_one.proofs.Kept.{Touches, gate_stays}
use Rattle.commit_one.proofs.Images.{agrees}
use Rattle.merge_laws.proofs.Blocks.{same_or_not}
use Rattle.slot_laws.specs.Slots.{SlotWork, KnownGate, knowing, known_gated, any_gate, Slots, changed_slot, place_at}
use Rattle.slot_laws.proofs.Basics.{at_other}
use Rattle.slot_image_laws.specs.Commits.{WorkFits, opened_in, may_have, work_transaction, GivesPart}
use Rattle.slot_image_laws.specs.Images.{HasGate, KnowsWork}
use Rattle.slot_image_laws.proofs.Aside.{IsAside, knows_aside}
use Rattle.slot_image_laws.proofs.Regions.{slot_within, gate_lies}
use Rattle.slot_image_laws.proofs.Written.{IsElsewhere}
use Rattle.slot_image_laws.proofs.Anew.{gate_in}
use Rattle.slot_image_laws.proofs.Changed.{opened_still_at}
use Rattle.slot_image_laws.proofs.Given.{stamped_is}

module _ (gives : ℕ → List InodePart) (layout : Layout) (base : ℕ → Part) (k byte : ℕ) (work : SlotWork) (fits : WorkFits gives layout base k work) where
  gate_aside : (gate : KnownGate) → IsAside (gate_piece work.job.place byte) (knowing (known_gated false gate) work)
  gate_aside gate = record {
    gate = inl (refl, refl);
    fill = λ n low marked. AreApart-swap (fill_piece work.job n) (gate_piece work.job.place byte) (apart_from_gate work.job fits.is n byte);
    table = λ n low marked. AreApart-swap (table_piece work.job n) (gate_piece work.job.place byte) (table_from_gate work.job fits.is n byte);
  }

  pub gated_knows : (done : Bool) (gate : KnownGate) (old new : View) → Touches (gate_piece work.job.place byte) old new
      → (done ≡ true → Reads new (HasGate gate work.job.place)) → KnowsWork work old → KnowsWork (knowing (known_gated done gate) work) new
  gated_knows done gate old new touches stands knows =
      let kept = knows_aside (gate_piece work.job.place byte) old new touches (knowing (known_gated false gate) work)
      (record { gates = tt; fill = fits.known.fill; table = fits.known.table }) (gate_aside gate) (record {
        gate_left = λ content told image left. tt;
        gate_read = λ content told. tt;
        fill_left = knows.fill_left;
        fill_read = knows.fill_read;
        table_left = knows.table_left;
        table_read = knows.table_read;
      }) in
      record {
        gate_left = kept.gate_left;
        gate_read = by done stands;
        fill_left = kept.fill_left;
        fill_read = kept.fill_read;
        table_left = kept.table_left;
        table_read = kept.table_read;
      }
    where
      by : (b : Bool) → (b ≡ true → Reads new (HasGate gate work.job.place)) → Reads new (HasGate (cond b gate any_gate) work.job.place)
      by true holds = holds refl
      by false holds = λ content told. tt

  -- the gate's byte, by the number of the slot
  pub same_gate_byte : (was image : List ℕ)
      → SameOutside (gate_piece work.job.place byte).at (length (gate_piece work.job.place byte).bytes) was image
      → AgreesOutside (slot_byte layout k) 1 was image
  same_gate_byte was image same =
      agrees (slot_byte layout k) 1 was image
      (subst (λ (place : Place). SameOutside (slot_byte place.layout place.slot) 1 was image) fits.place same)

  pub gate_large : (disk : View) → layout.blocks ≤ disk.size → IsLayout layout.blocks layout
      → (gate_piece work.job.place byte).at + length (gate_piece work.job.place byte).bytes ≤ 4096 * disk.size
  gate_large disk large is =
      omega (
        arith,
        slot_within layout is (gate_piece work.job.place byte) k (gate_lies gives layout base k work fits byte),
        large,
      )

-- One gate was written, and these are open then: what its slot has, and the others as before.
pub record IsOpenedBut (gives : ℕ → List InodePart) (layout : Layout) (slots : Slots) (k : ℕ) (change : SlotWork → SlotWork) (was image : List ℕ)
    (opened : ℕ → Option Transaction) : Type 0 where
  pub piece : Piece
  pub low : (j : ℕ) (work : SlotWork) → slots j ≡ Some work → j < slot_count layout
  pub apart : IsElsewhere layout slots k piece
  pub same : SameOutside piece.at (length piece.bytes) was image
  pub here : opened_in gives layout (changed_slot slots k change) image k ≡ opened k
  pub others : (j : ℕ) → j ≢ k → opened j ≡ opened_in gives layout slots was j

pub opened_but : (gives : ℕ → List InodePart) (layout : Layout) (slots : Slots) (k : ℕ) (change : SlotWork → SlotWork) (was image : List ℕ)
    (opened : ℕ → Option Transaction) → IsOpenedBut gives layout slots k change was image opened
    → opened_in gives layout (changed_slot slots k change) image ≡ opened
opened_but gives layout slots k change was image opened but = fun_ext (λ j. elim (same_or_not j k) [
  | inl at ↦ ap (opened_in gives layout (changed_slot slots k change) image) at ∙ but.here ∙ ap opened (sym at)
  | inr away ↦
      ap (λ (o : Option SlotWork). cond (gate_in layout image j) (may_have gives o) None) (at_other slots k (option_map change (slots k)) j away)
      ∙ opened_still_at gives layout slots was image j
      (λ work there. gate_stays (place_at layout j) but.piece 1 was image (but.apart.gates j (but.low j work there) away) but.same)
      ∙ sym (but.others j away)
])

-- whatever is given by a commit in a slot is a part that it gives
pub given_part : (gives : ℕ → List InodePart) (work : SlotWork) (i : ℕ) (one : Stamped Part) → part_given i (Some (work_transaction gives work)) ≡ Some one
    → GivesPart gives work i one.value
given_part gives work i one is = is ∙ ap Some (stamped_is one work.job.stamp one.value (stamp_given i (work_transaction gives work) one is) refl)
