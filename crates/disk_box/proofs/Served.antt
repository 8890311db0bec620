-- A slot is served behind a sync: where no label is told of it, and where it is idle again.
use Rattle.std.specs.Prelude.{slice_get, Vec}
use Rattle.std.specs.declared.alloc.Global.{Global}
use Rattle.std.proofs.Common.{◌≡◌, ◌+◌, ◌∙◌, ℕ, List, [], length, Some, None, inl, inr, refl, sym, ap, subst, arith, slice_set, append-nil, false}
use Rattle.std.proofs.lemmas.List.{length-set}
use Rattle.sfs_base.proofs.BasicOptions.{some_same}
use Rattle.sfs_base.proofs.BasicTruth.{true_not_false}
use Rattle.sfs_image.specs.Super.{Layout}
use Rattle.sfs_dev.specs.Disk.{View}
use Rattle.sfs_dev.proofs.Runs.{GoesOn-refl}
use Rattle.journal_one.specs.Job.{Job}
use Rattle.merge_laws.proofs.Blocks.{same_or_not}
use Rattle.stamp_table.specs.Table.{TableState}
use Rattle.slot_laws.specs.declared.label.Label.TheVariants as label
use Rattle.slot_laws.specs.Slots.{SlotKnown, SlotWork, Slots, known_synced, place_at}
use Rattle.slot_laws.specs.Labels.{BoxPast, after_label}
use Rattle.slot_laws.specs.Rules.{IdledRule}
use Rattle.slot_laws.specs.Telling.{IsOfStep, is_device_call}
use Rattle.slot_laws.proofs.Basics.{at_other}
use Rattle.slot_image_laws.proofs.Running.{told_labels_fit}
use Rattle.disk_box.specs.declared.key.BoxKey.{BoxKey}
use Rattle.disk_box.specs.declared.desk.Desk.{Desk}
use Rattle.disk_box.specs.declared.desk.Phase.{Phase}
use Rattle.disk_box.specs.declared.desk.Phase.TheVariants as phase
use Rattle.disk_box.specs.declared.desk.Slot.{Slot}
use Rattle.disk_box.specs.declared.kind.Kind.{Kind}
use Rattle.disk_box.specs.declared.kind.Kind.TheVariants as kind
use Rattle.disk_box.specs.Calls.{FollowsSync, NoneAwaits, TakesSync, awaits_sync}
use Rattle.disk_box.specs.Kind.{HasKind, kind_of}
use Rattle.disk_box.specs.Serving.{GoesBeside, IsServing}
use Rattle.disk_box.specs.Slots.{IsBeingPlaced, IsClosingOf, IsFilledOf, Notes, NotesWork, PhaseFits, SlotFits, SlotsFit}
use Rattle.disk_box.specs.Pens.{PenHand, past_at, own_at, HoldsBox, TellsLabel}
use Rattle.disk_box.proofs.StepsTold.{no_call_told, step_told, steps_none}
use Rattle.disk_box.proofs.After.{at_told, failed_told, past_fits_at}
use Rattle.disk_box.proofs.AtSlots.{IsTold, told_at}
use Rattle.disk_box.proofs.Phases.{closing_is, filled_is, placed_is}
use Rattle.disk_box.proofs.Quiet.{LeavesKept, SameBeside, frame_same, room_same}
use Rattle.disk_box.proofs.SlotLists.{get_other, get_same, slots_put}
use Rattle.disk_box.proofs.SlotSteps.{slots_leave}

-- notes of a slot of which only the phase is another
pub notes_kept : (was now : Slot) (work : SlotWork) → now ≡ record was { phase = now.phase } → NotesWork was work → NotesWork now work
notes_kept was now work beside notes = subst (λ (s : Slot). NotesWork s work) (sym beside) (record {
  commit_is = notes.commit_is;
  flush_is = notes.flush_is;
  drawn_is = notes.drawn_is;
  inodes_are = notes.inodes_are;
  ascend = notes.ascend;
})

-- a slot that is put fits what was told of it before
pub slots_kept : (layout : Layout) (told : Slots) (slots : List Slot) (k : ℕ) (slot : Slot) → SlotsFit layout told slots
    → SlotFits (place_at layout k) (told k) slot → SlotsFit layout told (slice_set slots k slot)
slots_kept layout told slots k slot fits put = record {
  each = λ j one there. elim (same_or_not j k) [
    | inl same ↦
        subst (λ (z : ℕ × Slot). SlotFits (place_at layout z.0) (told z.0) z.1) (λ i. (sym same i, sym (get_same slots k slot j one same there) i)) put
    | inr not ↦ fits.each j one (sym (get_other slots k slot j not) ∙ there)
  ];
}

-- a slot that was served awaits no sync, nor do those before it
pub awaits_next : (slots : List Slot) (k : ℕ) (new : Slot) → NoneAwaits slots k → awaits_sync (kind_of new.phase) ≡ false
    → NoneAwaits (slice_set slots k new) (k + 1)
awaits_next slots k new none served j what low has = elim (same_or_not j k) [
  | inl same ↦
      ap awaits_sync (sym has.kind_is) ∙ (ap (λ (s : Slot). awaits_sync (kind_of s.phase)) (get_same slots k new j has.slot same has.there) ∙ served)
  | inr not ↦
      none j what (omega (arith, low, not)) (record { slot = has.slot; there = sym (get_other slots k new j not) ∙ has.there; kind_is = has.kind_is })
]

-- one of another phase awaits none
pub awaits_not : (what : Kind) → (what ≡ kind.Filled → ⊥) → (what ≡ kind.Opened → ⊥) → (what ≡ kind.Placed → ⊥) → (what ≡ kind.Closing → ⊥)
    → awaits_sync what ≡ false
awaits_not kind.Idle filled opened placed closing = refl
awaits_not kind.Filling filled opened placed closing = refl
awaits_not kind.Filled filled opened placed closing = absurd (filled refl)
awaits_not kind.Sealed filled opened placed closing = refl
awaits_not kind.Opened filled opened placed closing = absurd (opened refl)
awaits_not kind.Durable filled opened placed closing = refl
awaits_not kind.Placed filled opened placed closing = absurd (placed refl)
awaits_not kind.Copied filled opened placed closing = refl
awaits_not kind.Closing filled opened placed closing = absurd (closing refl)
awaits_not kind.Lost filled opened placed closing = refl

-- nothing is kept otherwise where nothing was told
pub kept_itself : (past : BoxPast) → LeavesKept past past
kept_itself past = record {
  waits = λ c. refl;
  owed = λ c. omega arith;
  opens = λ c. refl;
  nodes = record { commits = refl; lasts = refl; opens = refl; done = refl };
  stamps = refl;
  failed = refl;
  turns = refl;
  moment = refl;
}

-- nothing changes for who has told nothing
pub goes_still : {D : Type 0} (pen : PenHand D) → GoesBeside pen pen
goes_still pen = record {
  goes = record { frame = refl; view = refl; seen = ([], append-nil pen.view.seen) };
  room = refl;
  tells = steps_none pen;
  calls = refl;
  own = refl;
}

-- where nothing is pending of a slot, what is known of each image is what is known of a read
module _ (known : SlotKnown) (synced : known_synced known ≡ known) where
  fill_same : (n : ℕ) → known.fill_left n ≡ known.fill_read n
  fill_same n = sym (ap (λ (s : SlotKnown). s.fill_left n) synced)

  table_same : (n : ℕ) → known.table_left n ≡ known.table_read n
  table_same n = sym (ap (λ (s : SlotKnown). s.table_left n) synced)

  pub gate_same : known.gate_left ≡ known.gate_read
  gate_same = sym (ap (λ (s : SlotKnown). s.gate_left) synced)

module _ {D : Type 0} (view : D → View) (t : TableState (BoxKey D)) (pen : PenHand D) (was : Desk D) (k : ℕ) (serving : IsServing view t pen was k) where
  abbrev key : BoxKey D
  key = pen.table.given

  abbrev past : BoxPast
  past = past_at pen

  -- none that is left to serve is filled and not sealed
  pub none_filled : HasKind was.slots.items k kind.Filled → ⊥
  none_filled has =
      let told = told_at view t pen was k kind.Filled serving.at has refl in
      let state = filled_is has.slot.phase has.kind_is in
      let fits : IsFilledOf state.0 told.work =
      subst (λ (p : Phase). PhaseFits p (place_at key.layout k) (Some told.work)) state.1 told.fits
      in
      let lags = fits.lags in
      let same = fill_same told.work.known (serving.known k told.work (omega arith) told.there) lags.0 in
      true_not_false (sym (fits.being.written lags.0 lags.1) ∙ (sym same ∙ lags.2))

  -- a slot that is passed over
  pub serves_next : (what : Kind) → HasKind was.slots.items k what → awaits_sync what ≡ false → IsServing view t pen was (k + 1)
  serves_next what has served = record {
    at = serving.at;
    calm = serving.calm;
    moment = serving.moment;
    known = λ j work low there. serving.known j work (omega (arith, low)) there;
    served = λ j other low there. elim (same_or_not j k) [
      | inl same ↦
          ap awaits_sync (sym there.kind_is ∙ (ap (λ (s : Slot). kind_of s.phase)
          (some_same (sym there.there ∙ (ap (slice_get was.slots.items) same ∙ has.there))) ∙ has.kind_is)) ∙ served
      | inr not ↦ serving.served j other (omega (arith, low, not)) there
    ];
  }

  -- and one that was put
  module _ (slots : Vec Slot Global) (new : Slot) (put : slots.items ≡ slice_set was.slots.items k new) where
    abbrev now : Desk D
    now = record was { slots = slots }

    count_now : length slots.items ≡ length was.slots.items
    count_now = ap length put ∙ length-set was.slots.items k new

    beside_now : SameBeside view was now
    beside_now = record {
      count = count_now;
      waits = refl;
      ledger = refl;
      stamps = refl;
      faults = refl;
      failed = refl;
      turns = refl;
      size = refl;
      later = omega arith;
      goes = GoesOn-refl (view was.disk);
      tells = refl;
    }

    served_quiet : SlotFits (place_at key.layout k) (past.slots k) new → awaits_sync (kind_of new.phase) ≡ false → IsServing view t pen now (k + 1)
    served_quiet fits served = record {
      at = record {
        holds = serving.at.holds;
        calm = serving.at.calm;
        fits = record {
          frame = frame_same view key past past was now serving.at.fits.frame (kept_itself past) beside_now serving.at.fits.frame.run;
          room = serving.at.fits.room;
          faults = serving.at.fits.faults;
          slots = λ calm. subst (SlotsFit key.layout past.slots) (sym put)
              (slots_kept key.layout past.slots was.slots.items k new (serving.at.fits.slots calm) fits);
        };
        space = serving.at.space;
      };
      calm = serving.calm;
      moment = serving.moment;
      known = λ j work low there. serving.known j work (omega (arith, low)) there;
      served = subst (λ l. NoneAwaits l (k + 1)) (sym put) (awaits_next was.slots.items k new serving.served served);
    }

    -- its records are in the table on the disk
    pub copied_now : (has : HasKind was.slots.items k kind.Placed) → TakesSync has.slot new → IsServing view t pen now (k + 1)
    copied_now has takes =
        let told = told_at view t pen was k kind.Placed serving.at has refl in
        let state = placed_is has.slot.phase has.kind_is in
        let fits : IsBeingPlaced state.0 (length state.0.entries) told.work =
        subst (λ (p : Phase). PhaseFits p (place_at key.layout k) (Some told.work)) state.1 told.fits
        in
        served_quiet (record {
          fits = subst (PhaseFits new.phase (place_at key.layout k)) (sym told.there)
              (copies new.phase state.0 told.work fits (serving.known k told.work (omega arith) told.there)
              (subst (λ (p : Phase). FollowsSync p new.phase) state.1 takes.follows));
          notes = subst (Notes new) (sym told.there) (notes_kept has.slot new told.work takes.beside told.notes);
        }) takes.served
      where
        copies : (next : Phase) (placed : Job) (work : SlotWork) → IsBeingPlaced placed (length placed.entries) work → known_synced work.known ≡ work.known
            → FollowsSync (phase.Placed placed) next → PhaseFits next (place_at key.layout k) (Some work)
        copies (phase.Copied copied) placed work fits synced follows =
            subst (λ (j : Job). PhaseFits (phase.Copied j) (place_at key.layout k) (Some work)) (sym follows)
            (record { placed = fits; on_disk = λ n low. table_same work.known synced n ∙ fits.placed n low })
        copies (phase.Idle x) placed work fits synced follows = absurd follows
        copies (phase.Filling x) placed work fits synced follows = absurd follows
        copies (phase.Filled x) placed work fits synced follows = absurd follows
        copies (phase.Sealed x) placed work fits synced follows = absurd follows
        copies (phase.Opened x) placed work fits synced follows = absurd follows
        copies (phase.Durable x) placed work fits synced follows = absurd follows
        copies (phase.Placed x) placed work fits synced follows = absurd follows
        copies (phase.Closing x) placed work fits synced follows = absurd follows
        copies phase.Lost placed work fits synced follows = absurd follows

  -- A slot whose gate is shut on the disk.
  module _ (has : HasKind was.slots.items k kind.Closing) where
    abbrev told_closing : IsTold past key.layout k has.slot
    told_closing = told_at view t pen was k kind.Closing serving.at has refl

    abbrev state_closing : (closing : Job) × (has.slot.phase ≡ phase.Closing closing)
    state_closing = closing_is has.slot.phase has.kind_is

    fits_closing : IsClosingOf state_closing.0 told_closing.work
    fits_closing = subst (λ (p : Phase). PhaseFits p (place_at key.layout k) (Some told_closing.work)) state_closing.1 told_closing.fits

    pub idle_may : IdledRule k past
    idle_may = record {
      calm = serving.at.calm;
      has = record {
        work = told_closing.work;
        there = told_closing.there;
        aloft = fits_closing.durable;
        gate_is = gate_same told_closing.work.known (serving.known k told_closing.work (omega arith) told_closing.there) ∙ fits_closing.read;
      };
    }

    idles : (next : Phase) → FollowsSync (phase.Closing state_closing.0) next → PhaseFits next (place_at key.layout k) None
    idles (phase.Idle idle) follows =
        follows ∙ (ap (λ (j : Job). j.place) fits_closing.job_is
        ∙ (past_fits_at t pen serving.at.holds).numbers.place k told_closing.work told_closing.there)
    idles (phase.Filling x) follows = absurd follows
    idles (phase.Filled x) follows = absurd follows
    idles (phase.Sealed x) follows = absurd follows
    idles (phase.Opened x) follows = absurd follows
    idles (phase.Durable x) follows = absurd follows
    idles (phase.Placed x) follows = absurd follows
    idles (phase.Copied x) follows = absurd follows
    idles (phase.Closing x) follows = absurd follows
    idles phase.Lost follows = absurd follows

    pub idle_now : (after : PenHand D) (slots : Vec Slot Global) (new : Slot) → slots.items ≡ slice_set was.slots.items k new → HoldsBox t after
        → TellsLabel (label.Idled k) pen after → TakesSync has.slot new → IsServing view t after (record was { slots = slots }) (k + 1)
    idle_now after slots new put holds tells takes =
        let now = record was { slots = slots } in
        let later = after_label key.layout pen.view.core (label.Idled k) past in
        let kept = slots_leave key.layout pen.view.core (label.Idled k) past tt in
        let same = beside_now slots new put in
        let desk = at_told view t pen after (label.Idled k) holds tells was now serving.at.space refl (record {
          frame = frame_same view key past later was now serving.at.fits.frame kept same
              (told_labels_fit (view was.disk) key.layout key.faults pen.view.core key.start (label.Idled k) past (past_fits_at t pen serving.at.holds)
              idle_may tt (serving.at.fits.frame.laws was.disk) serving.at.fits.frame.run);
          room = room_same view key past later was now serving.at.fits.room kept same;
          faults = serving.at.fits.faults;
          slots = λ calm. subst (SlotsFit key.layout later.slots) (sym put)
              (slots_put key.layout past.slots was.slots.items k None new (serving.at.fits.slots calm)
              (record { fits = idles new.phase (subst (λ (p : Phase). FollowsSync p new.phase) state_closing.1 takes.follows); notes = tt }));
        }) in
        record {
          at = record {
            holds = holds;
            calm = failed_told view t pen after (label.Idled k) holds tells None serving.at.calm;
            fits = desk.fits;
            space = desk.space;
          };
          calm = serving.calm;
          moment = ap (λ (p : BoxPast). p.synced) tells.past ∙ serving.moment;
          known = λ j work low there.
              serving.known j work (omega (arith, low))
              (sym (at_other past.slots k None j (λ e. absurd (omega (arith, low, e)))) ∙ (ap (λ (p : BoxPast). p.slots j) (sym tells.past) ∙ there));
          served = subst (λ l. NoneAwaits l (k + 1)) (sym put) (awaits_next was.slots.items k new serving.served takes.served);
        }

-- who tells of a slot goes beside its own
pub goes_told : {D : Type 0} (before after : PenHand D) (fact : Rattle.slot_laws.specs.declared.label.Label.Label) → TellsLabel fact before after
    → IsOfStep fact → is_device_call fact ≡ false → Rattle.slot_laws.specs.Labels.own_label fact (own_at before) ≡ own_at before
    → GoesBeside before after
goes_told before after fact tells of quiet same = record {
  goes = tells.goes;
  room = tells.room;
  tells = step_told before after fact tells of;
  calls = no_call_told before after fact tells quiet;
  own = tells.own ∙ same;
}
