-- With each device call of a core at work one less is due of the commit in a slot, where no other slot has a commit.
use Rattle.std.specs.Prelude.{option_map}
use Rattle.std.specs.Result.{is_ok}
use Rattle.std.proofs.Common.{◌≡◌, ◌≢◌, ◌⊎◌, ◌+◌, ◌∙◌, ℕ, Bool, true, Option, Some, None, Result, Ok, Err, OnOk, inl, inr, refl, sym, ap, subst, arith}
use Rattle.sfs_dev.specs.Disk.{View}
use Rattle.journal_one.specs.Job.{Job, Place, fill_count}
use Rattle.journal_one.specs.Stage.{Stage}
use Rattle.tree_laws.specs.declared.turns.Turn.{Turn}
use Rattle.stamp_table.specs.Table.{TableState}
use Rattle.slot_laws.specs.declared.label.Label.{Label}
use Rattle.slot_laws.specs.declared.label.Label.TheVariants as label
use Rattle.slot_laws.specs.Labels.{BoxPast}
use Rattle.slot_laws.specs.Schedule.{due_in}
use Rattle.slot_laws.specs.Slots.{SlotWork, known_filled, known_gated, known_synced, knowing, may_be_open, open_gate, place_at, settled_work}
use Rattle.slot_laws.specs.Telling.{is_device_call}
use Rattle.slot_laws.proofs.Basics.{at_here, at_other}
use Rattle.slot_laws.proofs.Schedule.{each_on_disk}
use Rattle.disk_box.specs.declared.key.BoxKey.{BoxKey}
use Rattle.disk_box.specs.declared.desk.Desk.{Desk}
use Rattle.disk_box.specs.declared.desk.Phase.{Phase}
use Rattle.disk_box.specs.declared.desk.Phase.TheVariants as phase
use Rattle.disk_box.specs.declared.kind.Kind.{Kind}
use Rattle.disk_box.specs.declared.kind.Kind.TheVariants as kind
use Rattle.disk_box.specs.declared.desk.Slot.{Slot}
use Rattle.disk_box.specs.Calls.{FollowsWrite, written_of}
use Rattle.disk_box.specs.Counting.{CountsDown, due_at}
use Rattle.disk_box.specs.Kind.{HasKind}
use Rattle.disk_box.specs.Pens.{PenHand, TellsLabel, WorksAtDesk, past_at}
use Rattle.disk_box.specs.Serving.{GoesBeside, IsServed, IsServing, ServesOne, due_served}
use Rattle.disk_box.specs.Slots.{IsClosingOf, IsFilledOf, IsFillingOf, IsOpenedOf, IsSealedOf, PhaseFits}
use Rattle.disk_box.proofs.AtSlots.{IsTold, told_at}
use Rattle.disk_box.proofs.Due.{due_fits, fill_step, sealed_due, served_shut, served_still, settled_due}
use Rattle.disk_box.proofs.Nexts.{next_filled}
use Rattle.disk_box.proofs.Phases.{closing_is, filled_is, filling_is, opened_is, sealed_is}
use Rattle.disk_box.proofs.StepsTold.{call_told}

-- a label of a device call that changes what was told of one slot alone
pub down_told : {D : Type 0} (k : ℕ) (before after : PenHand D) (fact : Label) → TellsLabel fact before after → is_device_call fact ≡ true
    → ((j : ℕ) → j ≢ k → (past_at after).slots j ≡ (past_at before).slots j) → due_at (past_at after) k + 1 ≡ due_at (past_at before) k
    → CountsDown k before after
down_told k before after fact tells is others less alone = record {
  alone = λ j not. others j not ∙ alone j not;
  counts = (let one = call_told before after fact tells is in omega (arith, one, less));
}

module _ {D : Type 0} (view : D → View) (t : TableState (BoxKey D)) (before : PenHand D) (was : Desk D) (k : ℕ) (at : WorksAtDesk view t before was) where
  abbrev place : Place
  place = place_at before.table.given.layout k

  -- A slot that is being filled.
  module _ (has : HasKind was.slots.items k kind.Filling) (after : PenHand D) (new : Slot) (piece : ℕ) (done : Bool)
      (tells : TellsLabel (label.Filled k piece done) before after) where
    abbrev told : IsTold (past_at before) before.table.given.layout k has.slot
    told = told_at view t before was k kind.Filling at has refl

    abbrev state : (filling : Stage) × (has.slot.phase ≡ phase.Filling filling)
    state = filling_is has.slot.phase has.kind_is

    fits : IsFillingOf state.0 told.work
    fits = subst (λ (p : Phase). PhaseFits p place (Some told.work)) state.1 told.fits

    fill_down : piece ≡ state.0.done → done ≡ true → FollowsWrite (phase.Filling state.0) new.phase → CountsDown k before after
    fill_down count is follows =
        let now : (past_at after).slots k ≡ Some (knowing (known_filled true state.0.done) told.work) =
        ap (λ (p : BoxPast). p.slots k) tells.past
        ∙ (at_here (past_at before).slots k (option_map (knowing (known_filled done piece)) ((past_at before).slots k))
        ∙ (ap (option_map (knowing (known_filled done piece))) told.there
        ∙ (λ i. Some (knowing (known_filled (is i) (count i)) told.work))))
        in
        let due_now = ap due_in now ∙ due_fits new.phase place (Some (knowing (known_filled true state.0.done) told.work))
        (next_filled place told.work state.0 fits new.phase follows)
        in
        let due_before = ap due_in told.there ∙ due_fits (phase.Filling state.0) place (Some told.work) fits in
        let step = fill_step state.0 new.phase follows in
        down_told k before after (label.Filled k piece done) tells refl
        (λ j not. ap (λ (p : BoxPast). p.slots j) tells.past
        ∙ at_other (past_at before).slots k (option_map (knowing (known_filled done piece)) ((past_at before).slots k)) j not)
        (omega (arith, due_now, due_before, step))

    pub fill_counts : {V : Type 0} (result : Result V ℕ) → piece ≡ written_of has.slot.phase → done ≡ is_ok result
        → OnOk result (FollowsWrite has.slot.phase new.phase) → OnOk result (CountsDown k before after)
    fill_counts (Err e) count is follows = tt
    fill_counts (Ok v) count is follows =
        fill_down (count ∙ ap written_of state.1) is (subst (λ (p : Phase). FollowsWrite p new.phase) state.1 follows)

  -- One whose gate is opened.
  module _ (has : HasKind was.slots.items k kind.Sealed) (after : PenHand D) (new : Slot) (done : Bool) (cut opened : Turn)
      (tells : TellsLabel (label.Opened k done cut opened) before after) where
    abbrev told_sealed : IsTold (past_at before) before.table.given.layout k has.slot
    told_sealed = told_at view t before was k kind.Sealed at has refl

    abbrev state_sealed : (sealed : Job) × (has.slot.phase ≡ phase.Sealed sealed)
    state_sealed = sealed_is has.slot.phase has.kind_is

    fits_sealed : IsSealedOf state_sealed.0 told_sealed.work
    fits_sealed = subst (λ (p : Phase). PhaseFits p place (Some told_sealed.work)) state_sealed.1 told_sealed.fits

    open_down : done ≡ true → CountsDown k before after
    open_down is =
        let work : SlotWork = knowing (known_gated true open_gate) told_sealed.work in
        let now : (past_at after).slots k ≡ Some work =
        ap (λ (p : BoxPast). p.slots k) tells.past
        ∙ (at_here (past_at before).slots k (option_map (knowing (known_gated done open_gate)) ((past_at before).slots k))
        ∙ (ap (option_map (knowing (known_gated done open_gate))) told_sealed.there
        ∙ (λ i. Some (knowing (known_gated (is i) open_gate) told_sealed.work))))
        in
        let due_now = ap due_in now ∙ due_fits (phase.Opened state_sealed.0) place (Some work)
        (record { job_is = fits_sealed.filled.job_is; aloft = fits_sealed.filled.shut.aloft; read = refl })
        in
        let due_before = ap due_in told_sealed.there ∙ due_fits (phase.Sealed state_sealed.0) place (Some told_sealed.work) fits_sealed in
        down_told k before after (label.Opened k done cut opened) tells refl
        (λ j not. ap (λ (p : BoxPast). p.slots j) tells.past
        ∙ at_other (past_at before).slots k (option_map (knowing (known_gated done open_gate)) ((past_at before).slots k)) j not)
        (omega (arith, due_now, due_before))

    pub open_counts : {V : Type 0} (result : Result V ℕ) → done ≡ is_ok result → OnOk result (CountsDown k before after)
    open_counts (Err e) is = tt
    open_counts (Ok v) is = open_down is

  -- The disk was synced, and each slot was served.
  module _ (mid after : PenHand D) (now : ℕ) (tells : TellsLabel (label.Synced now) before mid) (beside : GoesBeside mid after)
      (served : (j : ℕ) → IsServed ((past_at mid).slots j) ((past_at after).slots j)) where
    abbrev synced : Option SlotWork → Option SlotWork
    synced = option_map (knowing known_synced)

    told_synced : (j : ℕ) → (past_at mid).slots j ≡ synced ((past_at before).slots j)
    told_synced j = ap (λ (p : BoxPast). p.slots j) tells.past

    sync_down : (due_served (synced ((past_at before).slots k)) + 1 ≡ due_at (past_at before) k) → CountsDown k before after
    sync_down less alone = record {
      alone = λ j not. (served j).none (told_synced j ∙ ap synced (alone j not));
      counts =
          let one = call_told before mid (label.Synced now) tells refl in
          let none = beside.calls in
          let due = (served k).due ∙ ap due_served (told_synced k) in
          omega (arith, one, none, due, less);
    }

    -- one that was filled is sealed
    sync_filled : HasKind was.slots.items k kind.Filled → CountsDown k before after
    sync_filled has =
        let one = told_at view t before was k kind.Filled at has refl in
        let state = filled_is has.slot.phase has.kind_is in
        let fits : IsFilledOf state.0 one.work = subst (λ (p : Phase). PhaseFits p place (Some one.work)) state.1 one.fits in
        let count = ap fill_count fits.being.job_is in
        let due_before = ap due_in one.there ∙ due_fits (phase.Filled state.0) place (Some one.work) fits in
        let work : SlotWork = knowing known_synced one.work in
        let shut = ap may_be_open fits.being.shut.read in
        let two = sealed_due work fits.being.shut.aloft shut
        (each_on_disk work.known.fill_left (fill_count work.job) (λ m low. fits.being.written m (omega (arith, low, count))))
        in
        let served_due : due_served (synced ((past_at before).slots k)) ≡ 2 =
        ap (λ (w : Option SlotWork). due_served (synced w)) one.there ∙ (sym (served_shut work shut) ∙ two)
        in
        sync_down (omega (arith, due_before, served_due))

    -- and one whose gate was opened is durable
    sync_opened : HasKind was.slots.items k kind.Opened → CountsDown k before after
    sync_opened has =
        let one = told_at view t before was k kind.Opened at has refl in
        let state = opened_is has.slot.phase has.kind_is in
        let fits : IsOpenedOf state.0 one.work = subst (λ (p : Phase). PhaseFits p place (Some one.work)) state.1 one.fits in
        let due_before = ap due_in one.there ∙ due_fits (phase.Opened state.0) place (Some one.work) fits in
        let opens = ap may_be_open fits.read in
        let served_due : due_served (synced ((past_at before).slots k)) ≡ 0 =
        ap (λ (w : Option SlotWork). due_served (synced w)) one.there ∙ (rw opens refl)
        in
        sync_down (omega (arith, due_before, served_due))

    pub sync_counts : HasKind was.slots.items k kind.Filled ⊎ HasKind was.slots.items k kind.Opened → CountsDown k before after
    sync_counts has = elim has [
      | inl filled ↦ sync_filled filled
      | inr opened ↦ sync_opened opened
    ]

-- What is told of a slot as it is served.
module _ {D : Type 0} (view : D → View) (t : TableState (BoxKey D)) (pen : PenHand D) (desk : Desk D) (k : ℕ) (serving : IsServing view t pen desk k) where
  abbrev spot : Place
  spot = place_at pen.table.given.layout k

  -- nothing, where it is in no such phase as comes to a label
  pub still_served : (what : Kind) → HasKind desk.slots.items k what → what ≢ kind.Opened → ServesOne k pen pen
  still_served what has not = record {
    here = record {
      due = served_still has.slot.phase spot ((past_at pen).slots k)
          (((serving.at.fits.slots serving.at.calm).each k has.slot has.there).fits) (λ e. not (sym has.kind_is ∙ e));
      none = λ is. is;
    };
    others = λ j not. refl;
  }

  -- a commit is durable
  pub settled_served : (after : PenHand D) (turn : Turn) → HasKind desk.slots.items k kind.Opened → TellsLabel (label.Settled k turn) pen after
      → ServesOne k pen after
  settled_served after turn has tells =
      let one = told_at view t pen desk k kind.Opened serving.at has refl in
      let state = opened_is has.slot.phase has.kind_is in
      let fits : IsOpenedOf state.0 one.work = subst (λ (p : Phase). PhaseFits p spot (Some one.work)) state.1 one.fits in
      let opens = ap may_be_open fits.read in
      let now : (past_at after).slots k ≡ Some (settled_work one.work) =
      ap (λ (p : BoxPast). p.slots k) tells.past
      ∙ (at_here (past_at pen).slots k (option_map settled_work ((past_at pen).slots k)) ∙ ap (option_map settled_work) one.there)
      in
      let before : due_served ((past_at pen).slots k) ≡ 0 = ap due_served one.there ∙ (rw opens refl) in
      record {
        here = record {
          due = ap due_in now ∙ sym before;
          none = λ is. absurd (Rattle.sfs_base.proofs.BasicOptions.none_some (sym is ∙ one.there));
        };
        others = λ j not. ap (λ (p : BoxPast). p.slots j) tells.past
            ∙ at_other (past_at pen).slots k (option_map settled_work ((past_at pen).slots k)) j not;
      }

  -- a slot is idle again
  pub idled_served : (after : PenHand D) → HasKind desk.slots.items k kind.Closing → TellsLabel (label.Idled k) pen after → ServesOne k pen after
  idled_served after has tells =
      let one = told_at view t pen desk k kind.Closing serving.at has refl in
      let state = closing_is has.slot.phase has.kind_is in
      let fits : IsClosingOf state.0 one.work = subst (λ (p : Phase). PhaseFits p spot (Some one.work)) state.1 one.fits in
      let now : (past_at after).slots k ≡ None =
      ap (λ (p : BoxPast). p.slots k) tells.past ∙ at_here (past_at pen).slots k None
      in
      let still = served_still (phase.Closing state.0) spot (Some one.work) fits (λ e. absurd (cc e)) in
      let none = settled_due one.work fits.durable in
      record {
        here = record {
          due = ap due_in now ∙ (sym none ∙ (still ∙ ap due_served (sym one.there)));
          none = λ is. now;
        };
        others = λ j not. ap (λ (p : BoxPast). p.slots j) tells.past ∙ at_other (past_at pen).slots k None j not;
      }
