-- The step that opens a slot's gate: when its label may be told, and what its core is at then.
use Rattle.sfs_dev.proofs.Runs.{GoesOn-call, GoesOn-trans}
use Rattle.std.specs.Prelude.{Vec, slice_get, option_map}
use Rattle.std.specs.declared.alloc.Global.{Global}
use Rattle.std.proofs.Common.{◌≡◌, ◌≢◌, ◌+◌, ◌<◌, ◌≤◌, ◌∷◌, ◌++◌, ◌∙◌, ℕ, List, [], length, true, false, Bool, Option, Some, None, Result, Ok, Err, OnOk, inl, inr, refl, sym, ap, subst, arith, append_assoc, slice_set, max}
use Rattle.std.specs.Option.{option_or}
use Rattle.std.specs.Result.{is_ok}
use Rattle.sfs_base.specs.Lists.{Roomy}
use Rattle.sfs_dev.specs.Disk.{View}
use Rattle.journal_one.specs.Job.{Job, Place, gate_piece}
use Rattle.merge_laws.proofs.Blocks.{same_or_not}
use Rattle.tree_laws.specs.declared.turns.Turn.{Turn}
use Rattle.tree_laws.specs.declared.turns.TurnAct.{TurnAct}
use Rattle.tree_laws.specs.declared.turns.TurnAct.TheVariants as act
use Rattle.turn_laws.specs.Books.{CountsFaults}
use Rattle.commit_ledger.proofs.Kept.{quiet_labels_keep_it as keeps_same}
use Rattle.slot_laws.specs.declared.label.Label.TheVariants as label
use Rattle.slot_laws.specs.Slots.{SlotWork, changed_slot, known_gated, knowing, open_gate, place_at}
use Rattle.slot_laws.specs.Labels.{BoxPast, OwnTold, SlotFlight, after_label, fsync_told, opened_flight, own_label, owner}
use Rattle.slot_laws.specs.Rules.{IsTurnBy, OpenedRule}
use Rattle.slot_image_laws.specs.Labels.{IsDoneBy}
use Rattle.slot_image_laws.specs.Run.{Writes}
use Rattle.slot_image_laws.proofs.Running.{done_labels_fit}
use Rattle.stamp_table.specs.Table.{TableState}
use Rattle.disk_box.specs.declared.key.BoxKey.{BoxKey}
use Rattle.disk_box.specs.declared.desk.Desk.{Desk}
use Rattle.disk_box.specs.declared.desk.Phase.{Phase}
use Rattle.disk_box.specs.declared.desk.Phase.TheVariants as phase
use Rattle.disk_box.specs.declared.desk.Slot.{Slot}
use Rattle.disk_box.specs.declared.kind.Kind.TheVariants as kind
use Rattle.disk_box.specs.Calls.{FollowsWrite, WritesNext, blocks_of, next_piece}
use Rattle.disk_box.specs.Desk.{FrameFits, open_for, owed_by, owed_of, turn_faults}
use Rattle.disk_box.specs.Kind.{HasKind}
use Rattle.disk_box.specs.Slots.{IsSealedOf, PhaseFits, SlotsFit}
use Rattle.disk_box.specs.Pens.{PenHand, past_at, own_at, HoldsBox, TellsLabel, WorksAtDesk}
use Rattle.disk_box.specs.Steps.{OpensFlight, Steps}
use Rattle.disk_box.proofs.After.{past_fits_at, space_told}
use Rattle.disk_box.proofs.AtSlots.{IsTold, known_put, known_put_ok, of_there, ok_then, told_at, writes_as}
use Rattle.disk_box.proofs.Flights.{FliesIn, flies_in, owed_flying}
use Rattle.disk_box.proofs.Frames.{own_after, others_after, owed_taken}
use Rattle.disk_box.proofs.Nexts.{next_opened}
use Rattle.disk_box.proofs.Owes.{owns_own}
use Rattle.disk_box.proofs.Phases.{sealed_is}
use Rattle.disk_box.proofs.SlotLists.{get_put}
use Rattle.disk_box.proofs.SlotSteps.{steps_so, writes_alike}
use Rattle.disk_box.proofs.WriteSteps.{placed_at}
use Rattle.disk_box.proofs.Few.{few_both, few_later, few_one, few_none}

-- a core's open commit is the one that it was, and what it owes is two turns less
abbrev kept_number : ℕ → ℕ × Bool
kept_number number = (number, false)

abbrev begun_flight : SlotFlight → ℕ × Bool
begun_flight flight = (flight.commit, true)

map_opened : (flight : Option SlotFlight) → option_map begun_flight (option_map opened_flight flight) ≡ option_map begun_flight flight
map_opened None = refl
map_opened (Some f) = refl

open_as : (k : ℕ) (done : Bool) (cut opened : Turn) (own : OwnTold) (waits : Option Turn)
    → open_for (own_label (label.Opened k done cut opened) own) waits ≡ open_for own waits
open_as k done cut opened own None = ap (option_or (option_map kept_number own.reserved)) (map_opened own.flight)
open_as k done cut opened own (Some turn) = refl

-- The two turns of a commit whose gate was written, at a moment.
pub record AreOpening (core before moment : ℕ) (slot : Slot) (cut opened : Turn) : Type 0 where
  pub cut_by : IsTurnBy cut act.CutAt core slot.commit (fsync_told slot.node slot.stamp)
  pub opened_by : IsTurnBy opened act.Opened core slot.commit (fsync_told slot.node slot.stamp)
  pub cut_now : cut.now ≡ moment
  pub opened_now : opened.now ≡ moment
  pub cut_faults : cut.faults ≡ before
  pub opened_faults : opened.faults ≡ before

-- a turn made of a slot that was put, of which only the phase was another before
pub slot_turn_by : (slots : List Slot) (k core : ℕ) (was new : Slot) (turn : Turn) (what : TurnAct) → slice_get slots k ≡ Some was
    → new ≡ record was { phase = new.phase }
    → ((slot : Slot) → slice_get (slice_set slots k new) k ≡ Some slot → IsTurnBy turn what core slot.commit (fsync_told slot.node slot.stamp))
    → IsTurnBy turn what core was.commit (fsync_told was.node was.stamp)
slot_turn_by slots k core was new turn what there beside by =
    subst (λ (s : Slot). IsTurnBy turn what core s.commit (fsync_told s.node s.stamp)) beside (by new (get_put slots k new was there))

-- its count of faults, where none has failed
pub faults_calm : {D : Type 0} (view : D → View) (key : BoxKey D) (past : BoxPast) (desk : Desk D) (faults now : ℕ) → FrameFits view key past desk
    → past.failed ≡ None → faults ≡ turn_faults desk.faults desk.failed now → faults ≡ key.faults
faults_calm view key past desk faults now frame calm is =
    is ∙ (ap (λ f. turn_faults desk.faults f now) (frame.failed ∙ calm) ∙ frame.faults)

module _ {D : Type 0} (view : D → View) (t : TableState (BoxKey D)) (before : PenHand D) (was : Desk D) (k : ℕ) (at : WorksAtDesk view t before was)
    (own : owner before.table.given.layout k ≡ before.view.core) (has : HasKind was.slots.items k kind.Sealed) where
  abbrev key : BoxKey D
  key = before.table.given

  abbrev past : BoxPast
  past = past_at before

  abbrev told : IsTold past key.layout k has.slot
  told = told_at view t before was k kind.Sealed at has refl

  abbrev state : (sealed : Job) × (has.slot.phase ≡ phase.Sealed sealed)
  state = sealed_is has.slot.phase has.kind_is

  fits : IsSealedOf state.0 told.work
  fits = subst (λ (p : Phase). PhaseFits p (place_at key.layout k) (Some told.work)) state.1 told.fits

  flies : FliesIn past k before.view.core told.work
  flies = subst (λ c. FliesIn past k c told.work) own
      (flies_in key past (past_fits_at t before at.holds) at.calm k told.work told.there fits.filled.shut.aloft)

  flies_shut : flies.flight.opened ≡ false
  flies_shut = sym flies.opened_is ∙ ap Rattle.slot_laws.specs.Slots.may_be_open fits.filled.shut.left

  pub open_large : blocks_of has.slot.phase ≤ (view was.disk).size
  open_large =
      subst (λ (p : Phase). blocks_of p ≤ (view was.disk).size) (sym state.1)
      (subst (λ (j : Job). j.place.layout.blocks ≤ (view was.disk).size) fits.filled.job_is (placed_at view t before was k at told.work told.there))

  -- there is room for the two turns
  owed_here : owed_of (past.owns before.view.core) (past.waits before.view.core) ≡ 3
  owed_here =
      owed_flying (past.owns before.view.core) (past.waits before.view.core) flies.flight flies.waits_none flies.goes_on flies.none_reserved flies.flies_is
      ∙ ap (λ b. Rattle.std.proofs.Common.cond b 1 3) flies_shut

  pub open_room : 2 < was.turns.spare
  open_room =
      let within = Rattle.disk_box.proofs.Owes.owed_within key.layout.cores before.view.core past at.holds.core_is in
      let here = owed_here in
      let room = at.fits.room in
      omega (arith, within, here, room)

  module _ (disk : D) (cut opened : Turn) (turns : AreOpening before.view.core key.faults (view disk).now has.slot cut opened)
      (later_now : (view was.disk).now ≤ (view disk).now) where
    -- the label may be told
    counted : (turn : Turn) (what : TurnAct) → turn.faults ≡ key.faults → CountsFaults key.faults turn.faults None what turn.faults ≡ (turn.faults ≡ key.faults)
        → turn.act ≡ what → CountsFaults key.faults turn.faults past.failed turn.act turn.faults
    counted turn what same reads is =
        subst (λ (z : Option ℕ × TurnAct). CountsFaults key.faults turn.faults z.0 z.1 turn.faults) (λ i. (sym at.calm i, sym is i))
        (subst (λ (X : Type 0). X) (sym reads) same)

    by_work : (turn : Turn) (what : TurnAct) → IsTurnBy turn what before.view.core has.slot.commit (fsync_told has.slot.node has.slot.stamp)
        → IsTurnBy turn what before.view.core told.work.commit told.work.flush
    by_work turn what by = record {
      did_is = by.did_is;
      core_is = by.core_is;
      commit_is = by.commit_is ∙ told.notes.commit_is;
      flush_is = by.flush_is ∙ sym told.notes.flush_is;
    }

    pub open_may : OpenedRule key.layout key.faults before.view.core k cut opened past
    open_may = record {
      calm = at.calm;
      own = own;
      has = record { work = told.work; there = told.there; aloft = fits.filled.shut.aloft; gate_is = fits.filled.shut.left };
      filled = λ n low. fits.on_disk n
          (let same = ap Rattle.journal_one.specs.Job.fill_count fits.filled.job_is in omega (arith, low, same));
      cut_is = by_work cut act.CutAt turns.cut_by;
      opened_is = by_work opened act.Opened turns.opened_by;
      cut_now = record {
        rises = (let moment = at.fits.frame.moment in let is = turns.cut_now in omega (arith, moment, later_now, is));
        counts = counted cut act.CutAt turns.cut_faults refl turns.cut_by.did_is;
      };
      opened_now = (turns.opened_now ∙ sym turns.cut_now, turns.opened_faults);
    }

    -- it was told
    module _ {V : Type 0} (after : PenHand D) (slots : Vec Slot Global) (list : Roomy Turn) (new : Slot) (result : Result V ℕ) (done : Bool)
        (holds : HoldsBox t after) (tells : TellsLabel (label.Opened k done cut opened) before after)
        (wrote : WritesNext has.slot new (view was.disk) (view disk) result) (put : slots.items ≡ slice_set was.slots.items k new)
        (is : done ≡ is_ok result) (items : list.items ≡ (was.turns.items ++ cut ∷ []) ++ opened ∷ []) (spare : list.spare + 2 ≡ was.turns.spare) where
      abbrev now : Desk D
      now = record was { disk = disk; slots = slots; turns = list }

      abbrev later : BoxPast
      later = after_label key.layout before.view.core (label.Opened k done cut opened) past

      own_later : later.owns before.view.core ≡ own_label (label.Opened k done cut opened) (past.owns before.view.core)
      own_later = own_after key.layout before.view.core (label.Opened k done cut opened) past

      opens_later : (c : ℕ) → open_for (later.owns c) (past.waits c) ≡ open_for (past.owns c) (past.waits c)
      opens_later c = elim (same_or_not c before.view.core) [
        | inl same ↦
            ap (λ d. open_for (later.owns d) (past.waits d)) same
            ∙ (ap (λ (o : OwnTold). open_for o (past.waits before.view.core)) own_later
            ∙ (open_as k done cut opened (past.owns before.view.core) (past.waits before.view.core)
            ∙ ap (λ d. open_for (past.owns d) (past.waits d)) (sym same)))
        | inr not ↦
            ap (λ (o : OwnTold). open_for o (past.waits c)) (others_after key.layout before.view.core (label.Opened k done cut opened) past c not)
      ]

      owed_later : owed_of (later.owns before.view.core) (later.waits before.view.core) ≡ 1
      owed_later =
          owed_flying (later.owns before.view.core) (past.waits before.view.core) (opened_flight flies.flight) flies.waits_none
          (ap (λ (o : OwnTold). o.over) own_later ∙ flies.goes_on) (ap (λ (o : OwnTold). o.reserved) own_later ∙ flies.none_reserved)
          (ap (λ (o : OwnTold). o.flight) own_later ∙ ap (option_map opened_flight) flies.flies_is)

      room_now : owed_by key.layout.cores later ≤ list.spare
      room_now =
          let here = owed_here in
          let one = owed_later in
          let taken = owed_taken key.layout.cores before.view.core 2 past later at.holds.core_is (omega (arith, here, one))
          (λ other low not.
          let same : owed_of (later.owns other) (past.waits other) ≡ owed_of (past.owns other) (past.waits other) =
          ap (λ (o : OwnTold). owed_of o (past.waits other)) (others_after key.layout before.view.core (label.Opened k done cut opened) past other not)
          in
          omega (arith, same))
          in
          let room = at.fits.room in
          omega (arith, taken, room, spare)

      done_by : IsDoneBy (label.Opened k done cut opened) past.slots (view was.disk) (view disk)
      done_by = (
        turns.cut_now,
        of_there (λ work. Writes done (gate_piece work.job.place 1) (view was.disk) (view disk)) past.slots k told.work told.there
            (writes_as result done (next_piece has.slot.phase) (gate_piece told.work.job.place 1) (view was.disk) (view disk) is
            (ap (λ (j : Job). gate_piece j.place 1) fits.filled.job_is ∙ ap next_piece (sym state.1)) wrote.writes),
      )

      frame_now : FrameFits view key later now
      frame_now = record {
        layout = at.fits.frame.layout;
        large = subst (λ n. key.layout.blocks ≤ n) (sym wrote.writes.size) at.fits.frame.large;
        laws = at.fits.frame.laws;
        count = ap length put ∙ (Rattle.std.proofs.lemmas.List.length-set was.slots.items k new ∙ at.fits.frame.count);
        cores = at.fits.frame.cores;
        waits = at.fits.frame.waits;
        ledger = keeps_same was.ledger past later (record { commits = refl; lasts = refl; opens = refl; done = refl }) at.fits.frame.ledger;
        places = at.fits.frame.places;
        opens = λ c. at.fits.frame.opens c ∙ sym (opens_later c);
        stamps = at.fits.frame.stamps;
        faults = at.fits.frame.faults;
        failed = at.fits.frame.failed;
        turns = items ∙ (append_assoc was.turns.items (cut ∷ []) (opened ∷ []) ∙ ap (λ l. l ++ cut ∷ opened ∷ []) at.fits.frame.turns);
        few =
            let most = max key.faults (view disk).faults in
            let first = turns.cut_faults in
            let second = turns.opened_faults in
            few_both past.turns (cut ∷ opened ∷ []) most
            (few_later past.turns key.faults (view was.disk).faults (view disk).faults at.fits.frame.few wrote.answers.cause.never_falls)
            (few_one cut (opened ∷ []) most (omega (arith, first)) (few_one opened [] most (omega (arith, second)) (few_none most)));
        moment = (let same = turns.opened_now in omega (arith, same));
        since = record {
          goes = λ first is. GoesOn-trans (view first.value) (view was.disk) (view disk) (at.fits.frame.since.goes first is)
              (GoesOn-call (view was.disk) (view disk) (at.fits.frame.laws was.disk).now_fits wrote.writes.time wrote.writes.size wrote.answers.cause.never_falls);
          tells = λ first is. writes_alike (is_ok result) (next_piece has.slot.phase) (view was.disk) (view disk) wrote.writes
              ∙ at.fits.frame.since.tells first is;
        };
        run = done_labels_fit (view was.disk) (view disk) key.layout key.faults before.view.core key.start (label.Opened k done cut opened) past
            open_may done_by (at.fits.frame.laws was.disk) at.fits.frame.run;
      }

      pub open_steps : Steps view t before after now result
      open_steps = steps_so view t before after (label.Opened k done cut opened) was now result tt refl at holds tells (record {
        frame = frame_now;
        room = room_now;
        calm = at.calm;
        space = space_told view t before after (label.Opened k done cut opened) holds tells was now at.space refl;
        answers = wrote.answers;
      })
          (subst (λ l. OnOk result (SlotsFit key.layout (changed_slot past.slots k (knowing (known_gated done open_gate))) l)) (sym put)
          (known_put_ok result done (λ (b : Bool). known_gated b open_gate) key.layout past.slots was.slots.items k new is
          (ok_then result (λ follows. known_put key.layout past.slots was.slots.items k told.work (known_gated true open_gate) has.slot
          new (at.fits.slots at.calm) told.there told.notes wrote.beside
          (next_opened (place_at key.layout k) told.work state.0 fits new.phase (subst (λ (p : Phase). FollowsWrite p new.phase) state.1 follows)))
          wrote.ok)))

      pub opens_flight : OpensFlight before.view.core (own_at before) (own_at after)
      opens_flight =
          let same = owns_own t before at.holds in
          let flew = ap (λ (o : OwnTold). o.flight) (sym same) ∙ flies.flies_is in
          record {
            flight = flies.flight;
            cut = cut;
            opened = opened;
            flew = flew;
            shut = flies_shut;
            after_is = tells.own
                ∙ (λ i. record (own_at before) { flight = option_map opened_flight (flew i); told = (own_at before).told ++ cut ∷ opened ∷ [] });
            cut_by = record {
              did_is = turns.cut_by.did_is;
              core_is = turns.cut_by.core_is;
              commit_is = turns.cut_by.commit_is ∙ (told.notes.commit_is ∙ flies.commit_is);
              flush_is = turns.cut_by.flush_is ∙ (sym told.notes.flush_is ∙ flies.flush_is);
            };
            opened_by = record {
              did_is = turns.opened_by.did_is;
              core_is = turns.opened_by.core_is;
              commit_is = turns.opened_by.commit_is ∙ (told.notes.commit_is ∙ flies.commit_is);
              flush_is = turns.opened_by.flush_is ∙ (sym told.notes.flush_is ∙ flies.flush_is);
            };
          }
