-- A sync keeps a run, whatever it answers.
use Rattle.std.proofs.Common.{◌∙◌, ◌<◌, ◌≡◌, Bool, true, subst, Option, List, ℕ, refl, sym, false, None, Some, option_map, length, ap, inl, inr, arith, cond}
use Rattle.sfs_base.proofs.BasicTruth.{not_both}
use Rattle.sfs_image.specs.Super.{Layout}
use Rattle.sfs_image.specs.ImageOf.{InodePart, Transaction, IsImageOf}
use Rattle.sfs_image.specs.Part.{Part}
use Rattle.sfs_image.specs.Settled.{slot_count}
use Rattle.sfs_dev.specs.Disk.{View, OnlyTold, images}
use Rattle.journal_one.specs.Known.{IsShutIn, IsWrittenIn, Reads}
use Rattle.journal_one.specs.Job.{fill_piece, table_piece, fill_count, Place}
use Rattle.journal_one.specs.Calls.{IsCalm}
use Rattle.journal_one.proofs.Kept.{Rests, leaves_rest, reads_rest, leaves_from_reads}
use Rattle.slot_laws.specs.Slots.{any_gate, open_gate, shut_gate, SlotWork, place_at, knowing, known_synced, KnownGate, may_be_open, synced_slots}
use Rattle.slot_laws.proofs.Rings.{rings_move, KeepsMarks, synced_as}
use Rattle.slot_laws.proofs.Came.{synced_came}
use Rattle.slot_image_laws.specs.Run.{KeepsLaws, Syncs}
use Rattle.slot_image_laws.specs.Images.{KnowsSlot, HasGate, disk_books, KnowsWork}
use Rattle.slot_image_laws.specs.Commits.{GateFits, WorkFits, StandsOpen, may_have, work_transaction}
use Rattle.slot_image_laws.specs.Laws.{FailedSyncsKeep, SyncsKeep}
use Rattle.slot_image_laws.proofs.Anew.{gate_in, StillFits, works_anew, opened_same, matches_anew, within}
use Rattle.slot_image_laws.proofs.Trails.{trail_goes}
use Rattle.slot_image_laws.proofs.Shown.{shown}

rests_failed : (old new : View) → Syncs false old new → Rests old new
rests_failed old new is = record { content = is.content; left = λ content told image left. (is.err refl image).0 left }

rests_synced : (old new : View) → KeepsLaws old → Syncs true old new → Rests old new
rests_synced old new lawful is = record {
  content = is.content;
  left = λ content told image left.
      let sole = subst (λ (t : Option (List ℕ)). OnlyTold t (images new)) told (is.ok refl) in
      subst (images old) (sym (sole image left)) (lawful.read_is_left content (sym is.content ∙ told));
}

-- what is known of a slot goes on where nothing was written
module _ (layout : Layout) (old new : View) (rests : Rests old new) where
  knows_rest : (k : ℕ) (one : Option SlotWork) → KnowsSlot layout k one old → KnowsSlot layout k one new
  knows_rest k None knows = leaves_rest old new (IsShutIn (place_at layout k)) rests knows
  knows_rest k (Some work) knows = record {
    gate_left = leaves_rest old new (HasGate work.known.gate_left work.job.place) rests knows.gate_left;
    gate_read = reads_rest old new (HasGate work.known.gate_read work.job.place) rests knows.gate_read;
    fill_left = λ n low marked. leaves_rest old new (IsWrittenIn (fill_piece work.job n)) rests (knows.fill_left n low marked);
    fill_read = λ n low marked. reads_rest old new (IsWrittenIn (fill_piece work.job n)) rests (knows.fill_read n low marked);
    table_left = λ n low marked. leaves_rest old new (IsWrittenIn (table_piece work.job n)) rests (knows.table_left n low marked);
    table_read = λ n low marked. reads_rest old new (IsWrittenIn (table_piece work.job n)) rests (knows.table_read n low marked);
  }

  -- and each image has what a read gives, where nothing is pending
  knows_synced : IsCalm new → (k : ℕ) (one : Option SlotWork) → KnowsSlot layout k one old → KnowsSlot layout k (option_map (knowing known_synced) one) new
  knows_synced calm k None knows = knows_rest k None knows
  knows_synced calm k (Some work) knows = record {
    gate_left = leaves_from_reads new (HasGate work.known.gate_read work.job.place) calm gate;
    gate_read = gate;
    fill_left = λ n low marked. leaves_from_reads new (IsWrittenIn (fill_piece work.job n)) calm (fill n low marked);
    fill_read = fill;
    table_left = λ n low marked. leaves_from_reads new (IsWrittenIn (table_piece work.job n)) calm (table n low marked);
    table_read = table;
  }
    where
      gate : Reads new (HasGate work.known.gate_read work.job.place)
      gate = reads_rest old new (HasGate work.known.gate_read work.job.place) rests knows.gate_read

      fill : (n : ℕ) → n < fill_count work.job → work.known.fill_read n ≡ true → Reads new (IsWrittenIn (fill_piece work.job n))
      fill n low marked = reads_rest old new (IsWrittenIn (fill_piece work.job n)) rests (knows.fill_read n low marked)

      table : (n : ℕ) → n < length work.job.entries → work.known.table_read n ≡ true → Reads new (IsWrittenIn (table_piece work.job n))
      table n low marked = reads_rest old new (IsWrittenIn (table_piece work.job n)) rests (knows.table_read n low marked)

-- a gate that is open in what a read gives may be open in each image once nothing is pending, exactly where it might be before
may_stay : (left read : KnownGate) (place : Place) (image : List ℕ) → GateFits left read → HasGate read place image
    → gate_in place.layout image place.slot ≡ true → may_be_open read ≡ may_be_open left
may_stay shut_gate read place image fits has gated = ap may_be_open fits
may_stay open_gate read place image fits has gated = ap may_be_open fits
may_stay any_gate shut_gate place image fits has gated = absurd (not_both gated has)
may_stay any_gate open_gate place image fits has gated = refl
may_stay any_gate any_gate place image fits has gated = refl

still_synced : (gives : ℕ → List InodePart) (layout : Layout) (base : ℕ → Part) (k : ℕ) (work : SlotWork) → WorkFits gives layout base k work
    → StillFits (knowing known_synced work)
still_synced gives layout base k work fits = record {
  known = record { gates = itself work.known.gate_read; fill = λ n marked. marked; table = λ n marked. marked };
  gate = λ aloft. refl;
  landed = λ durable.
      let landed = fits.landed durable in
      record {
        forgot = λ n. ((landed.forgot n).1, (landed.forgot n).1);
        opens = elim landed.opens [
          | inl gated ↦ inl (subst (λ (gate : KnownGate). GateFits gate work.known.gate_read) gated fits.known.gates)
          | inr placed ↦ inr (λ n low. fits.known.table n (placed n low))
        ];
      };
}
  where
    itself : (gate : KnownGate) → GateFits gate gate
    itself shut_gate = refl
    itself open_gate = refl
    itself any_gate = tt

pub failed_syncs_keep : (old new : View) → FailedSyncsKeep old new
failed_syncs_keep old new run turns slots is runs =
    let rests = rests_failed old new is in
    let told_before = λ (content : List ℕ) (told : new.content ≡ Some content). sym is.content ∙ told in
    record {
      box = record {
        large = omega (arith, runs.box.large, is.size);
        fits = runs.box.fits;
        works = runs.box.works;
        knows = λ k low. knows_rest run.layout old new rests k (slots k) (runs.box.knows k low);
        stands = leaves_rest old new (StandsOpen run.gives run.layout (disk_books run turns).base slots) rests runs.box.stands;
      };
      matches = runs.matches;
      trail = trail_goes run turns old new is.time (λ content told. (content, told_before content told)) runs.trail
          (λ content told counts image left.
          shown run.gives run.layout (disk_books run turns) slots old runs.box content (told_before content told) runs.matches image
          (rests.left content told image left));
    }

pub syncs_keep : (old new : View) → SyncsKeep old new
syncs_keep old new run turns slots lawful is runs =
    record {
      box = record {
        large = omega (arith, runs.box.large, is.size);
        fits = runs.box.fits;
        works = works_anew run.gives run.layout (disk_books run turns).base slots (λ _. known_synced) runs.box.works
            (rings_move slots (synced_slots slots) runs.box.works.rings (synced_came (KeepsMarks slots) slots (synced_as slots)))
            (λ k work there. still_synced run.gives run.layout (disk_books run turns).base k work (runs.box.works.each k work there));
        knows = λ k low. knows_synced run.layout old new rests (is.ok refl) k (slots k) (runs.box.knows k low);
        stands = λ content told image left.
            subst (λ (opened : ℕ → Option Transaction). IsImageOf run.layout opened (disk_books run turns).base image)
            (sym (opened_same run.gives run.layout slots (synced_slots slots) image
            (λ k gated. stays k (slots k) refl content told image left gated)))
            (runs.box.stands content (told_before content told) image (rests.left content told image left));
      };
      matches = matches_anew run.gives run.layout (disk_books run turns).base slots (λ _. known_synced) (disk_books run turns).flying runs.matches
          (λ k work there aloft. (runs.box.works.each k work there).gate aloft);
      trail = trail_goes run turns old new is.time (λ content told. (content, told_before content told)) runs.trail
          (λ content told counts image left.
          shown run.gives run.layout (disk_books run turns) slots old runs.box content (told_before content told) runs.matches image
          (rests.left content told image left));
    }
  where
    rests : Rests old new
    rests = rests_synced old new lawful is

    told_before : (content : List ℕ) → new.content ≡ Some content → old.content ≡ Some content
    told_before content told = sym is.content ∙ told

    -- a slot may be gated as before, where its gate is gated in an image
    stays : (k : ℕ) (one : Option SlotWork) → slots k ≡ one → (content : List ℕ) → new.content ≡ Some content → (image : List ℕ) → images new image
        → gate_in run.layout image k ≡ true → may_have run.gives (option_map (knowing known_synced) one) ≡ may_have run.gives one
    stays k None there content told image left gated = refl
    stays k (Some work) there content told image left gated =
        let fits = runs.box.works.each k work there in
        let low : k < slot_count run.layout = within run.gives run.layout (disk_books run turns).base slots runs.box.works k work there in
        let knows : KnowsWork work old = subst (λ (o : Option SlotWork). KnowsSlot run.layout k o old) there (runs.box.knows k low) in
        let has = leaves_from_reads new (HasGate work.known.gate_read work.job.place) (is.ok refl)
        (reads_rest old new (HasGate work.known.gate_read work.job.place) rests knows.gate_read) content told image left in
        ap (λ (may : Bool). cond may (Some (work_transaction run.gives work)) None)
        (may_stay work.known.gate_left work.known.gate_read work.job.place image fits.known.gates has
        (subst (λ (place : Place). gate_in place.layout image place.slot ≡ true) (sym fits.place) gated))
