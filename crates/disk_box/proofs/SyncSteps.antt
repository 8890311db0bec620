-- The step that syncs the disk: behind its call, and behind its label.
use Rattle.std.specs.Prelude.{Vec, option_map, slice_get}
use Rattle.std.specs.declared.alloc.Global.{Global}
use Rattle.std.specs.Result.{is_ok}
use Rattle.std.proofs.lemmas.Option.{slice_get_cases, slice_get_within}
use Rattle.std.proofs.Common.{◌≡◌, ◌≢◌, ◌∙◌, ℕ, List, length, true, false, Option, Some, None, Result, Ok, Err, inl, inr, refl, sym, ap, subst, arith, is_some}
use Rattle.sfs_base.specs.Ends.{HasRisen}
use Rattle.sfs_image.specs.Super.{Layout}
use Rattle.sfs_dev.specs.Disk.{View}
use Rattle.journal_one.specs.Calls.{IsSync}
use Rattle.journal_one.specs.Job.{Job, Place, fill_count}
use Rattle.stamp_table.specs.Table.{TableState}
use Rattle.slot_laws.specs.declared.label.Label.TheVariants as label
use Rattle.slot_laws.specs.Slots.{SlotWork, Slots, knowing, known_synced, place_at, synced_slots}
use Rattle.slot_laws.specs.Labels.{BoxPast}
use Rattle.slot_laws.proofs.Basics.{mapped_some}
use Rattle.slot_image_laws.specs.Run.{Syncs}
use Rattle.slot_image_laws.proofs.Running.{failed_syncs_fit}
use Rattle.disk_box.specs.declared.key.BoxKey.{BoxKey}
use Rattle.disk_box.specs.declared.desk.Desk.{Desk}
use Rattle.disk_box.specs.declared.desk.Phase.{Phase}
use Rattle.disk_box.specs.declared.desk.Phase.TheVariants as phase
use Rattle.disk_box.specs.declared.desk.Slot.{Slot}
use Rattle.disk_box.specs.declared.kind.Kind.TheVariants as kind
use Rattle.disk_box.specs.Calls.{AnswersCall, FollowsSync, IsSealedBySync}
use Rattle.disk_box.specs.Desk.{FaultsFit}
use Rattle.disk_box.specs.Serving.{GoesBeside, IsServing}
use Rattle.disk_box.specs.Kind.{kind_of}
use Rattle.disk_box.specs.Slots.{IsBeingFilled, Notes, PhaseFits, SlotFits, SlotsFit}
use Rattle.disk_box.specs.Pens.{PenHand, past_at, HoldsBox, TellsLabel, WorksAtDesk}
use Rattle.disk_box.specs.Steps.{Steps}
use Rattle.disk_box.proofs.Quiet.{frame_same}
use Rattle.disk_box.proofs.Served.{goes_still, kept_itself}
use Rattle.disk_box.proofs.StepsTold.{call_told, pens_both, step_told, steps_both}
use Rattle.disk_box.proofs.Wrote.{where_err, where_ok}
use Rattle.disk_box.proofs.SlotSteps.{CalledAt, called_beside, framed_of_slots, steps_so}

-- one after another
pub goes_both : {D : Type 0} (before mid after : PenHand D) → GoesBeside before mid → GoesBeside mid after → GoesBeside before after
goes_both before mid after first second = record {
  goes = pens_both before mid after first.goes second.goes;
  room = second.room ∙ first.room;
  tells = steps_both before mid after first.goes first.tells second.tells;
  calls = second.calls ∙ first.calls;
  own = second.own ∙ first.own;
}

-- what fills a slot, once nothing is pending
synced_filling : (job : Job) (done : ℕ) (work : SlotWork) → IsBeingFilled job done work → IsBeingFilled job done (knowing known_synced work)
synced_filling job done work fits = record {
  job_is = fits.job_is;
  shut = record { aloft = fits.shut.aloft; left = fits.shut.read; read = fits.shut.read };
  written = fits.written;
  rest = λ n high. let none = (fits.rest n high).0 in (none, none);
}

-- one that was filled is sealed once nothing is pending
sealed_phase : (filled : Job) (next : Phase) (place : Place) (told : Option SlotWork) → PhaseFits (phase.Filled filled) place told
    → FollowsSync (phase.Filled filled) next → PhaseFits next place (option_map (knowing known_synced) told)
sealed_phase filled next place None fits follows = absurd fits
sealed_phase filled (phase.Sealed sealed) place (Some work) fits follows =
    subst (λ (j : Job). PhaseFits (phase.Sealed j) place (Some (knowing known_synced work))) (sym follows) (record {
      filled = synced_filling filled (fill_count filled) work fits.being;
      on_disk = fits.being.written;
    })
sealed_phase filled (phase.Idle x) place (Some work) fits follows = absurd follows
sealed_phase filled (phase.Filling x) place (Some work) fits follows = absurd follows
sealed_phase filled (phase.Filled x) place (Some work) fits follows = absurd follows
sealed_phase filled (phase.Opened x) place (Some work) fits follows = absurd follows
sealed_phase filled (phase.Durable x) place (Some work) fits follows = absurd follows
sealed_phase filled (phase.Placed x) place (Some work) fits follows = absurd follows
sealed_phase filled (phase.Copied x) place (Some work) fits follows = absurd follows
sealed_phase filled (phase.Closing x) place (Some work) fits follows = absurd follows
sealed_phase filled phase.Lost place (Some work) fits follows = absurd follows

-- a slot of another phase fits as it is
synced_phase : (p : Phase) (place : Place) (told : Option SlotWork) → kind_of p ≢ kind.Filled → PhaseFits p place told
    → PhaseFits p place (option_map (knowing known_synced) told)
synced_phase (phase.Idle x) place None not fits = fits
synced_phase (phase.Filling x) place None not fits = absurd fits
synced_phase (phase.Filled x) place None not fits = absurd fits
synced_phase (phase.Sealed x) place None not fits = absurd fits
synced_phase (phase.Opened x) place None not fits = absurd fits
synced_phase (phase.Durable x) place None not fits = absurd fits
synced_phase (phase.Placed x) place None not fits = absurd fits
synced_phase (phase.Copied x) place None not fits = absurd fits
synced_phase (phase.Closing x) place None not fits = absurd fits
synced_phase phase.Lost place None not fits = absurd fits
synced_phase (phase.Idle x) place (Some work) not fits = absurd fits
synced_phase (phase.Filling x) place (Some work) not fits = record { being = synced_filling x.job x.done work fits.being; more = fits.more }
synced_phase (phase.Filled x) place (Some work) not fits = absurd (not refl)
synced_phase (phase.Sealed x) place (Some work) not fits =
    record { filled = synced_filling x (fill_count x) work fits.filled; on_disk = fits.filled.written }
synced_phase (phase.Opened x) place (Some work) not fits = record { job_is = fits.job_is; aloft = fits.aloft; read = fits.read }
synced_phase (phase.Durable x) place (Some work) not fits =
    record { job_is = fits.job_is; durable = fits.durable; left = fits.read; read = fits.read; placed = fits.placed }
synced_phase (phase.Placed x) place (Some work) not fits =
    record { job_is = fits.job_is; durable = fits.durable; left = fits.read; read = fits.read; placed = fits.placed }
synced_phase (phase.Copied x) place (Some work) not fits = record {
  placed = record {
    job_is = fits.placed.job_is;
    durable = fits.placed.durable;
    left = fits.placed.read;
    read = fits.placed.read;
    placed = fits.placed.placed;
  };
  on_disk = fits.placed.placed;
}
synced_phase (phase.Closing x) place (Some work) not fits = record { job_is = fits.job_is; durable = fits.durable; read = fits.read }
synced_phase phase.Lost place (Some work) not fits = absurd fits

synced_notes : (slot : Slot) (told : Option SlotWork) → Notes slot told → Notes slot (option_map (knowing known_synced) told)
synced_notes slot None notes = tt
synced_notes slot (Some work) notes = record {
  commit_is = notes.commit_is;
  flush_is = notes.flush_is;
  drawn_is = notes.drawn_is;
  inodes_are = notes.inodes_are;
  ascend = notes.ascend;
}

-- a slot fits that took note of the sync where it was filled
sealed_slot : (place : Place) (told : Option SlotWork) (was now : Slot) → SlotFits place told was → IsSealedBySync was now
    → SlotFits place (option_map (knowing known_synced) told) now
sealed_slot place told was now fits sealed = by was.phase refl where
  other : kind_of was.phase ≢ kind.Filled → SlotFits place (option_map (knowing known_synced) told) now
  other not = subst (SlotFits place (option_map (knowing known_synced) told)) (sym (sealed.other not)) (record {
    fits = synced_phase was.phase place told not fits.fits;
    notes = synced_notes was told fits.notes;
  })

  by : (p : Phase) → was.phase ≡ p → SlotFits place (option_map (knowing known_synced) told) now
  by (phase.Filled filled) is =
      let takes = sealed.filled (ap kind_of is) in
      record {
        fits = sealed_phase filled now.phase place told (subst (λ p. PhaseFits p place told) is fits.fits)
            (subst (λ p. FollowsSync p now.phase) is takes.follows);
        notes = subst (λ (s : Slot). Notes s (option_map (knowing known_synced) told)) (sym takes.beside)
            (noted told (synced_notes was told fits.notes));
      }
    where
      noted : (one : Option SlotWork) → Notes was (option_map (knowing known_synced) one)
          → Notes (record was { phase = now.phase }) (option_map (knowing known_synced) one)
      noted None notes = tt
      noted (Some work) notes = record {
        commit_is = notes.commit_is;
        flush_is = notes.flush_is;
        drawn_is = notes.drawn_is;
        inodes_are = notes.inodes_are;
        ascend = notes.ascend;
      }
  by (phase.Idle x) is = other (λ e. absurd (cc (e, is)))
  by (phase.Filling x) is = other (λ e. absurd (cc (e, is)))
  by (phase.Sealed x) is = other (λ e. absurd (cc (e, is)))
  by (phase.Opened x) is = other (λ e. absurd (cc (e, is)))
  by (phase.Durable x) is = other (λ e. absurd (cc (e, is)))
  by (phase.Placed x) is = other (λ e. absurd (cc (e, is)))
  by (phase.Copied x) is = other (λ e. absurd (cc (e, is)))
  by (phase.Closing x) is = other (λ e. absurd (cc (e, is)))
  by phase.Lost is = other (λ e. absurd (cc (e, is)))

-- Slots of which each that was filled took note of the sync.
pub record AreSealed (was now : List Slot) : Type 0 where
  pub count : length now ≡ length was
  pub each : (k : ℕ) (old new : Slot) → slice_get was k ≡ Some old → slice_get now k ≡ Some new → IsSealedBySync old new

synced_fit : (layout : Layout) (told : Slots) (was now : List Slot) → SlotsFit layout told was → AreSealed was now → SlotsFit layout (synced_slots told) now
synced_fit layout told was now fits sealed = record {
  each = λ k slot there.
      let low = slice_get_within now k slot there in
      let count = sealed.count in
      elim (slice_get_cases was k).1 [
        | inl found ↦
            sealed_slot (place_at layout k) (told k) found.0 slot (fits.each k found.0 found.2) (sealed.each k found.0 slot found.2 there)
        | inr past ↦ (let beyond = past.0 in absurd (omega (arith, low, count, beyond)))
      ];
}

-- A sync, by what journal_one says of it.
module _ {V E : Type 0} (old new : View) (r : Result V E) (synced : IsSync old new r) where
  pub syncs_as : Syncs (is_ok r) old new
  syncs_as = record {
    ok = λ is. where_ok r is synced.ok;
    err = λ not. where_err r not synced.err;
    content = synced.content;
    time = synced.call.time;
    size = synced.call.size;
  }

module _ {D : Type 0} (view : D → View) (t : TableState (BoxKey D)) (before : PenHand D) (was : Desk D) (at : WorksAtDesk view t before was) (disk : D) where
  abbrev key : BoxKey D
  key = before.table.given

  abbrev past : BoxPast
  past = past_at before

  abbrev failed : Desk D
  failed = record was { disk = disk }

  -- what the call leaves of the desk, whatever becomes of its slots
  called_sync : {V : Type 0} (slots : Vec Slot Global) (result : Result V ℕ) (done : Rattle.std.proofs.Common.Bool)
      → length slots.items ≡ length was.slots.items → Syncs done (view was.disk) (view disk)
      → AnswersCall (view was.disk) (view disk) result → CalledAt view was (record was { disk = disk; slots = slots }) result
  called_sync slots result done count syncs answers = record {
    beside = refl;
    count = count;
    size = syncs.size;
    time = syncs.time;
    tells = ap is_some syncs.content;
    answers = answers;
  }

  -- a sync that failed, of which no label tells
  pub sync_failed : (faults : ℕ) → Syncs false (view was.disk) (view disk) → AnswersCall {V = Unit {0}} (view was.disk) (view disk) (Err faults)
      → Steps view t {V = Unit {0}} before before failed (Err faults)
  sync_failed faults syncs answers =
      let same = called_beside {V = Unit {0}} view was failed (Err faults) (at.fits.frame.laws was.disk) (called_sync was.slots (Err faults) false refl
      syncs answers) in
      let still = goes_still before in
      let before_is : (view was.disk).faults ≡ key.faults = subst (λ (f : Option ℕ). FaultsFit key.faults f (view was.disk).faults) at.calm at.fits.faults in
      record {
        goes = still.goes;
        room = refl;
        tells = still.tells;
        once = omega arith;
        ok = tt;
        waits = refl;
        err = record {
          holds = at.holds;
          calm = at.calm;
          frame = frame_same view key past past was failed at.fits.frame (kept_itself past) same
              (failed_syncs_fit (view was.disk) (view disk) key.layout key.start past syncs (at.fits.frame.laws was.disk) at.fits.frame.run);
          room = at.fits.room;
          space = at.space;
          counted = answers.counted;
          risen = subst (λ (z : ℕ × ℕ). HasRisen z.0 z.1) (λ i. (before_is i, sym answers.counted i)) answers.cause.risen;
        };
      }

  -- one that answered Ok, and was told
  module _ (slots : Vec Slot Global) (sealed : AreSealed was.slots.items slots.items) (after : PenHand D) (now : ℕ) (holds : HoldsBox t after) (tells :
      TellsLabel (label.Synced now) before after)
      (is : now ≡ (view disk).now) (syncs : Syncs true (view was.disk) (view disk))
      (answers : AnswersCall {V = Unit {0}} (view was.disk) (view disk) (Ok tt)) where
    abbrev mid : Desk D
    mid = record was { disk = disk; slots = slots }

    synced_steps : Steps view t {V = Unit {0}} before after mid (Ok tt)
    synced_steps = steps_so view t before after (label.Synced now) was mid (Ok tt) tt refl at holds tells
        (framed_of_slots view t before after (label.Synced now) was mid (Ok tt) at holds tells tt at.calm (is, syncs) (called_sync slots (Ok tt) true
        sealed.count syncs answers))
        (synced_fit key.layout past.slots was.slots.items slots.items (at.fits.slots at.calm) sealed)

    pub synced_now : IsServing view t after mid 0
    synced_now = record {
      at = synced_steps.ok;
      calm = syncs.ok refl;
      moment = ap (λ (p : BoxPast). p.synced) tells.past ∙ is;
      known = λ j work low there.
          let found = mapped_some (knowing known_synced) (past.slots j) work (ap (λ (p : BoxPast). p.slots j) (sym tells.past) ∙ there) in
          subst (λ (w : SlotWork). known_synced w.known ≡ w.known) found.2 refl;
      served = λ j what low has. absurd (omega (arith, low));
    }

    -- and served
    pub served_steps : (last : PenHand D) (desk : Desk D) (k : ℕ) → IsServing view t last desk k → GoesBeside after last
        → Steps view t {V = Unit {0}} before last desk (Ok tt)
    served_steps last desk k serving goes = record {
      goes = pens_both before after last tells.goes goes.goes;
      room = goes.room ∙ tells.room;
      tells = steps_both before after last tells.goes (step_told before after (label.Synced now) tells tt) goes.tells;
      once =
          let call = call_told before after (label.Synced now) tells refl in
          let none = goes.calls in
          omega (arith, call, none);
      ok = serving.at;
      waits = tt;
      err = tt;
    }

-- as many slots as before
pub count_kept : {D : Type 0} (view : D → View) (t : TableState (BoxKey D)) (before after : PenHand D) (was now : Desk D) (j k : ℕ)
    → IsServing view t before was j → IsServing view t after now k → GoesBeside before after → length now.slots.items ≡ length was.slots.items
count_kept view t before after was now j k first second goes =
    second.at.fits.frame.count
    ∙ (ap (λ (h : PenHand _). Rattle.sfs_image.specs.Settled.slot_count h.table.given.layout) goes.goes.frame ∙ sym first.at.fits.frame.count)
