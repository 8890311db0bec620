-- The steps of one write at a slot: when each label may be told, and what its core is at then.
use Rattle.std.specs.Prelude.{Vec}
use Rattle.std.specs.declared.alloc.Global.{Global}
use Rattle.std.specs.Result.{is_ok}
use Rattle.std.proofs.Common.{◌≡◌, ◌≤◌, ◌∙◌, ℕ, length, true, Bool, Some, Result, OnOk, refl, sym, ap, subst, arith, slice_set}
use Rattle.std.proofs.lemmas.List.{length-set}
use Rattle.sfs_dev.specs.Disk.{View}
use Rattle.journal_one.specs.Job.{Job, Place, fill_count, fill_piece, gate_piece, table_piece, without_fresh}
use Rattle.journal_one.specs.Stage.{Stage}
use Rattle.stamp_table.specs.Table.{TableState}
use Rattle.slot_laws.specs.declared.label.Label.TheVariants as label
use Rattle.slot_laws.specs.Slots.{SlotWork, changed_slot, known_filled, known_gated, known_placed, knowing, place_at, shut_gate}
use Rattle.slot_laws.specs.Labels.{owner}
use Rattle.slot_laws.specs.Rules.{FilledRule, IsOldestOf, PlacedRule, ShutRule}
use Rattle.slot_image_laws.specs.Run.{Writes}
use Rattle.disk_box.specs.declared.key.BoxKey.{BoxKey}
use Rattle.disk_box.specs.declared.desk.Desk.{Desk}
use Rattle.disk_box.specs.declared.desk.Phase.{Phase}
use Rattle.disk_box.specs.declared.desk.Phase.TheVariants as phase
use Rattle.disk_box.specs.declared.desk.Slot.{Slot}
use Rattle.disk_box.specs.declared.kind.Kind.TheVariants as kind
use Rattle.disk_box.specs.Calls.{FollowsWrite, HasMore, WritesNext, blocks_of, next_piece, written_of}
use Rattle.disk_box.specs.Kind.{HasKind}
use Rattle.disk_box.specs.Slots.{IsBeingFilled, IsBeingPlaced, IsCopiedOf, IsFillingOf, PhaseFits, SlotsFit}
use Rattle.disk_box.specs.Pens.{PenHand, past_at, HoldsBox, TellsLabel, WorksAtDesk}
use Rattle.disk_box.specs.Steps.{NextIsOldest, Steps}
use Rattle.disk_box.proofs.After.{past_fits_at}
use Rattle.disk_box.proofs.AtSlots.{IsTold, known_put, known_put_ok, of_there, ok_then, told_at, writes_as}
use Rattle.disk_box.proofs.Nexts.{next_filled, next_placed, next_shut}
use Rattle.disk_box.proofs.Phases.{copied_is, durable_is, filling_is}
use Rattle.disk_box.proofs.SlotSteps.{CalledAt, framed_of_slots, steps_so, writes_alike}

module _ {D : Type 0} (view : D → View) (t : TableState (BoxKey D)) (before : PenHand D) (was : Desk D) (k : ℕ) (at : WorksAtDesk view t before was) where
  abbrev key : BoxKey D
  key = before.table.given

  -- its place's layout is the disk's
  pub placed_at : (work : SlotWork) → (past_at before).slots k ≡ Some work → work.job.place.layout.blocks ≤ (view was.disk).size
  placed_at work there =
      let place = (past_fits_at t before at.holds).numbers.place k work there in
      subst (λ (p : Place). p.layout.blocks ≤ (view was.disk).size) (sym place) at.fits.frame.large

  -- A slot that is being filled.
  module _ (has : HasKind was.slots.items k kind.Filling) where
    abbrev told : IsTold (past_at before) key.layout k has.slot
    told = told_at view t before was k kind.Filling at has refl

    abbrev state : (filling : Stage) × (has.slot.phase ≡ phase.Filling filling)
    state = filling_is has.slot.phase has.kind_is

    filling_fits : IsFillingOf state.0 told.work
    filling_fits = subst (λ (p : Phase). PhaseFits p (place_at key.layout k) (Some told.work)) state.1 told.fits

    abbrev fits : IsBeingFilled state.0.job state.0.done told.work
    fits = filling_fits.being

    pub fill_large : blocks_of has.slot.phase ≤ (view was.disk).size
    fill_large =
        subst (λ (p : Phase). blocks_of p ≤ (view was.disk).size) (sym state.1)
        (subst (λ (j : Job). j.place.layout.blocks ≤ (view was.disk).size) fits.job_is (placed_at told.work told.there))

    pub fill_may : (n : ℕ) → owner key.layout k ≡ before.view.core → n ≡ written_of has.slot.phase → HasMore has.slot.phase
        → FilledRule key.layout before.view.core k n (past_at before)
    fill_may n own count more = record {
      calm = at.calm;
      own = own;
      has = record { work = told.work; there = told.there; aloft = fits.shut.aloft; gate_is = fits.shut.left };
      within =
          let low = subst (λ (p : Phase). HasMore p) state.1 more in
          let is = ap written_of state.1 in
          let same = ap fill_count fits.job_is in
          omega (arith, low, is, same, count);
    }

    -- it was written, or failed to be
    module _ {V : Type 0} (after : PenHand D) (now : Desk D) (new : Slot) (result : Result V ℕ) (piece : ℕ) (done : Bool) where
      pub fill_steps : HoldsBox t after → TellsLabel (label.Filled k piece done) before after
          → FilledRule key.layout before.view.core k piece (past_at before) → CalledAt view was now result
          → WritesNext has.slot new (view was.disk) (view now.disk) result → now.slots.items ≡ slice_set was.slots.items k new
          → (piece ≡ written_of has.slot.phase) × (done ≡ is_ok result) → Steps view t before after now result
      fill_steps holds tells may called wrote put counts =
          let count = counts.0 ∙ ap written_of state.1 in
          let change = λ (b : Bool). known_filled b piece in
          steps_so view t before after (label.Filled k piece done) was now result tt refl at holds tells
          (framed_of_slots view t before after (label.Filled k piece done) was now result at holds tells tt may
          (of_there (λ work. Writes done (fill_piece work.job piece) (view was.disk) (view now.disk)) (past_at before).slots k told.work told.there
          (writes_as result done (next_piece has.slot.phase) (fill_piece told.work.job piece) (view was.disk) (view now.disk) counts.1
          ((λ i. fill_piece (fits.job_is i) (count i)) ∙ ap next_piece (sym state.1)) wrote.writes)) called)
          (subst (λ l. OnOk result (SlotsFit key.layout
          (changed_slot (past_at before).slots k (knowing (known_filled done piece))) l))
          (sym put)
          (known_put_ok result done change key.layout (past_at before).slots was.slots.items k new counts.1
          (ok_then result (λ follows. known_put key.layout (past_at before).slots was.slots.items k told.work (known_filled true piece) has.slot new
          (at.fits.slots at.calm) told.there told.notes wrote.beside
          (subst (λ n. PhaseFits new.phase (place_at key.layout k) (Some (knowing (known_filled true n) told.work)))
          (sym count)
          (next_filled (place_at key.layout k) told.work state.0 filling_fits new.phase (subst (λ (p : Phase). FollowsWrite p new.phase) state.1 follows))))
          wrote.ok)))

  -- A slot with a durable commit of which records are to be placed.
  module _ (has : HasKind was.slots.items k kind.Durable) where
    abbrev told_durable : IsTold (past_at before) key.layout k has.slot
    told_durable = told_at view t before was k kind.Durable at has refl

    abbrev state_durable : (durable : Stage) × (has.slot.phase ≡ phase.Durable durable)
    state_durable = durable_is has.slot.phase has.kind_is

    fits_durable : IsBeingPlaced state_durable.0.job state_durable.0.done told_durable.work
    fits_durable = subst (λ (p : Phase). PhaseFits p (place_at key.layout k) (Some told_durable.work)) state_durable.1 told_durable.fits

    pub place_large : blocks_of has.slot.phase ≤ (view was.disk).size
    place_large =
        subst (λ (p : Phase). blocks_of p ≤ (view was.disk).size) (sym state_durable.1)
        (subst (λ (j : Job). j.place.layout.blocks ≤ (view was.disk).size) (sym fits_durable.job_is) (placed_at told_durable.work told_durable.there))

    pub place_may : (n : ℕ) → NextIsOldest (past_at before).slots k has.slot → n ≡ written_of has.slot.phase → HasMore has.slot.phase
        → PlacedRule k n (past_at before)
    place_may n oldest count more = record {
      calm = at.calm;
      has = record { work = told_durable.work; there = told_durable.there; aloft = fits_durable.durable; gate_is = fits_durable.left };
      within =
          let low = subst (λ (p : Phase). HasMore p) state_durable.1 more in
          let is = ap written_of state_durable.1 in
          let same = ap (λ (j : Job). length j.entries) fits_durable.job_is in
          omega (arith, low, is, same, count);
      oldest = subst (λ m. IsOldestOf (past_at before).slots k told_durable.work m) (sym (count ∙ ap written_of state_durable.1))
          (subst (λ (s : Slot). NextIsOldest (past_at before).slots k s) (λ i. record has.slot { phase = state_durable.1 i }) oldest
          told_durable.work told_durable.there);
    }

    module _ {V : Type 0} (after : PenHand D) (now : Desk D) (new : Slot) (result : Result V ℕ) (n : ℕ) (done : Bool) where
      pub place_steps : HoldsBox t after → TellsLabel (label.Placed k n done) before after → PlacedRule k n (past_at before)
          → CalledAt view was now result → WritesNext has.slot new (view was.disk) (view now.disk) result
          → now.slots.items ≡ slice_set was.slots.items k new → (n ≡ written_of has.slot.phase) × (done ≡ is_ok result)
          → Steps view t before after now result
      place_steps holds tells may called wrote put counts =
          let count = counts.0 ∙ ap written_of state_durable.1 in
          let change = λ (b : Bool). known_placed b n in
          steps_so view t before after (label.Placed k n done) was now result tt refl at holds tells
          (framed_of_slots view t before after (label.Placed k n done) was now result at holds tells tt may
          (of_there (λ work. Writes done (table_piece work.job n) (view was.disk) (view now.disk)) (past_at before).slots k told_durable.work
          told_durable.there
          (writes_as result done (next_piece has.slot.phase) (table_piece told_durable.work.job n) (view was.disk) (view now.disk) counts.1
          ((λ i. table_piece (without_fresh told_durable.work.job) (count i))
          ∙ (ap (λ (j : Job). table_piece j state_durable.0.done) (sym fits_durable.job_is) ∙ ap next_piece (sym state_durable.1))) wrote.writes)) called)
          (subst (λ l. OnOk result (SlotsFit key.layout
          (changed_slot (past_at before).slots k (knowing (known_placed done n))) l))
          (sym put)
          (known_put_ok result done change key.layout (past_at before).slots was.slots.items k new counts.1
          (ok_then result (λ follows. known_put key.layout (past_at before).slots was.slots.items k told_durable.work (known_placed true n) has.slot new
          (at.fits.slots at.calm) told_durable.there told_durable.notes wrote.beside
          (subst (λ m. PhaseFits new.phase (place_at key.layout k) (Some (knowing (known_placed true m) told_durable.work)))
          (sym count)
          (next_placed (place_at key.layout k) told_durable.work state_durable.0 fits_durable new.phase
          (subst (λ (p : Phase). FollowsWrite p new.phase) state_durable.1 follows))))
          wrote.ok)))

  -- A slot whose records are all in the table on the disk.
  module _ (has : HasKind was.slots.items k kind.Copied) where
    abbrev told_copied : IsTold (past_at before) key.layout k has.slot
    told_copied = told_at view t before was k kind.Copied at has refl

    abbrev state_copied : (copied : Job) × (has.slot.phase ≡ phase.Copied copied)
    state_copied = copied_is has.slot.phase has.kind_is

    fits_copied : IsCopiedOf state_copied.0 told_copied.work
    fits_copied = subst (λ (p : Phase). PhaseFits p (place_at key.layout k) (Some told_copied.work)) state_copied.1 told_copied.fits

    pub shut_large : blocks_of has.slot.phase ≤ (view was.disk).size
    shut_large =
        subst (λ (p : Phase). blocks_of p ≤ (view was.disk).size) (sym state_copied.1)
        (subst (λ (j : Job). j.place.layout.blocks ≤ (view was.disk).size) (sym fits_copied.placed.job_is) (placed_at told_copied.work told_copied.there))

    pub shut_may : ShutRule k (past_at before)
    shut_may = record {
      calm = at.calm;
      has = record { work = told_copied.work; there = told_copied.there; aloft = fits_copied.placed.durable; gate_is = fits_copied.placed.left };
      placed = λ n low. fits_copied.on_disk n
          (let same = ap (λ (j : Job). length j.entries) fits_copied.placed.job_is in omega (arith, low, same));
    }

    module _ {V : Type 0} (after : PenHand D) (now : Desk D) (new : Slot) (result : Result V ℕ) (done : Bool) where
      pub shut_steps : HoldsBox t after → TellsLabel (label.Shut k done) before after → CalledAt view was now result
          → WritesNext has.slot new (view was.disk) (view now.disk) result → now.slots.items ≡ slice_set was.slots.items k new
          → done ≡ is_ok result → Steps view t before after now result
      shut_steps holds tells called wrote put is =
          let change = λ (b : Bool). known_gated b shut_gate in
          steps_so view t before after (label.Shut k done) was now result tt refl at holds tells
          (framed_of_slots view t before after (label.Shut k done) was now result at holds tells tt shut_may
          (of_there (λ work. Writes done (gate_piece work.job.place 0) (view was.disk) (view now.disk)) (past_at before).slots k told_copied.work
          told_copied.there
          (writes_as result done (next_piece has.slot.phase) (gate_piece told_copied.work.job.place 0) (view was.disk) (view now.disk) is
          (ap (λ (j : Job). gate_piece j.place 0) (sym fits_copied.placed.job_is) ∙ ap next_piece (sym state_copied.1)) wrote.writes)) called)
          (subst (λ l. OnOk result (SlotsFit key.layout
          (changed_slot (past_at before).slots k (knowing (known_gated done shut_gate))) l))
          (sym put)
          (known_put_ok result done change key.layout (past_at before).slots was.slots.items k new is
          (ok_then result (λ follows. known_put key.layout (past_at before).slots was.slots.items k told_copied.work (known_gated true shut_gate) has.slot
          new (at.fits.slots at.calm) told_copied.there told_copied.notes wrote.beside
          (next_shut (place_at key.layout k) told_copied.work state_copied.0 fits_copied new.phase
          (subst (λ (p : Phase). FollowsWrite p new.phase) state_copied.1 follows)))
          wrote.ok)))

-- a write for a slot, as a desk sees it
pub called_for : {D V : Type 0} (view : D → View) (was : Desk D) (disk : D) (slots : Vec Slot Global) (k : ℕ) (old new : Slot) (result : Result V ℕ)
    → slots.items ≡ slice_set was.slots.items k new → WritesNext old new (view was.disk) (view disk) result
    → CalledAt view was (record was { disk = disk; slots = slots }) result
called_for view was disk slots k old new result put wrote = record {
  beside = refl;
  tells = writes_alike (is_ok result) (next_piece old.phase) (view was.disk) (view disk) wrote.writes;
  count = ap length put ∙ length-set was.slots.items k new;
  size = wrote.writes.size;
  time = wrote.writes.time;
  answers = wrote.answers;
}
