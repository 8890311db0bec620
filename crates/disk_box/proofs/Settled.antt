-- A commit is durable behind a sync: its turn is taken, it has ended, and waits for its core to learn of it.
use Rattle.std.specs.Prelude.{is_some, slice_get, option_map}
use Rattle.std.proofs.Common.{◌≡◌, ◌<◌, ◌≤◌, ◌+◌, ◌*◌, ◌∷◌, ◌++◌, ◌∙◌, ℕ, Bool, List, [], length, true, cond, Option, Some, None, inl, inr, refl, sym, ap, subst, arith, slice_set, max}
use Rattle.std.proofs.lemmas.Grind.{get_or-set_at}
use Rattle.std.proofs.lemmas.List.{get_or-set_other, length-set}
use Rattle.std.proofs.lemmas.Option.{slice_get_within}
use Rattle.std.proofs.Math.Nat.{div-lt_iff_lt-mul}
use Rattle.sfs_dev.specs.Disk.{View}
use Rattle.journal_one.specs.Job.{Job, without_fresh}
use Rattle.journal_one.specs.Stage.{Stage}
use Rattle.tree_laws.specs.declared.turns.Turn.{Turn}
use Rattle.tree_laws.specs.declared.turns.TurnAct.{TurnAct}
use Rattle.tree_laws.specs.declared.turns.TurnAct.TheVariants as act
use Rattle.turn_laws.specs.Books.{CountsFaults}
use Rattle.merge_laws.proofs.Blocks.{same_or_not}
use Rattle.stamp_table.specs.Table.{TableState}
use Rattle.slot_laws.specs.declared.label.Label.TheVariants as label
use Rattle.slot_laws.specs.Slots.{SlotWork, may_be_open, open_gate, place_at, settled_work, with_at}
use Rattle.slot_laws.specs.Labels.{BoxPast, after_label, fsync_told, owner}
use Rattle.slot_laws.specs.Rules.{IsTurnBy, SettledRule}
use Rattle.slot_laws.proofs.Basics.{at_other, at_same, mapped_some}
use Rattle.commit_ledger.specs.Calls.{MayEnd, PaysDebt}
use Rattle.commit_ledger.specs.Keeps.{LedgerGoes}
use Rattle.commit_ledger.specs.View.{DebtView, OpenView, number_in, open_in}
use Rattle.commit_ledger.proofs.Kept.{begun_may_end}
use Rattle.slot_image_laws.proofs.Running.{told_labels_fit}
use Rattle.disk_box.specs.Desk.{GoesOnSince, HaveFew, FrameFits, open_for, open_told, owed_by, owed_of, turn_faults, wait_in}
use Rattle.disk_box.specs.declared.key.BoxKey.{BoxKey}
use Rattle.disk_box.specs.declared.desk.Desk.{Desk}
use Rattle.disk_box.specs.declared.desk.Phase.{Phase}
use Rattle.disk_box.specs.declared.desk.Phase.TheVariants as phase
use Rattle.disk_box.specs.declared.desk.Slot.{Slot}
use Rattle.disk_box.specs.declared.kind.Kind.TheVariants as kind
use Rattle.disk_box.specs.Calls.{FollowsSync, NoneAwaits, TakesSync}
use Rattle.disk_box.specs.Kind.{HasKind}
use Rattle.disk_box.specs.Serving.{IsServing, owner_by}
use Rattle.disk_box.specs.Slots.{IsOpenedOf, PhaseFits, SlotsFit}
use Rattle.disk_box.specs.Pens.{PenHand, past_at, HoldsBox, TellsLabel}
use Rattle.disk_box.proofs.After.{at_told, failed_told, past_fits_at}
use Rattle.disk_box.proofs.AtSlots.{IsTold, told_at}
use Rattle.disk_box.proofs.Entered.{open_same, owed_same}
use Rattle.disk_box.proofs.Flights.{FliesIn, flies_in, open_flying, owed_flying}
use Rattle.disk_box.proofs.Frames.{owed_taken}
use Rattle.disk_box.proofs.GateOpened.{faults_calm, slot_turn_by}
use Rattle.disk_box.proofs.Owes.{owed_within}
use Rattle.disk_box.proofs.Phases.{opened_is}
use Rattle.disk_box.proofs.Served.{awaits_next, gate_same, notes_kept}
use Rattle.disk_box.proofs.SlotLists.{slots_put}
use Rattle.disk_box.proofs.Waits.{wait_put}
use Rattle.disk_box.proofs.Few.{few_both, few_one, few_none}

-- The turn of a durable commit in a slot, at the moment of now.
pub record IsSettling (core before moment : ℕ) (slot : Slot) (turn : Turn) : Type 0 where
  pub by : IsTurnBy turn act.Durable core slot.commit (fsync_told slot.node slot.stamp)
  pub now : turn.now ≡ moment
  pub faults : turn.faults ≡ before

-- It was made of a slot of a desk.
pub record MadeAt {D : Type 0} (view : D → View) (desk : Desk D) (core : ℕ) (slots : List Slot) (k : ℕ) (turn : Turn) : Type 0 where
  pub by : (slot : Slot) → slice_get slots k ≡ Some slot → IsTurnBy turn act.Durable core slot.commit (fsync_told slot.node slot.stamp)
  pub now : turn.now ≡ (view desk.disk).now
  pub faults : turn.faults ≡ turn_faults desk.faults desk.failed (view desk.disk).faults

-- What is kept beside the slots has taken it.
pub record KeepsTurn {D : Type 0} (core : ℕ) (turn : Turn) (was now : Desk D) : Type 0 where
  pub beside : now ≡ record was { slots = now.slots; waits = now.waits; ledger = now.ledger; turns = now.turns }
  pub items : now.turns.items ≡ was.turns.items ++ turn ∷ []
  pub spare : now.turns.spare + 1 ≡ was.turns.spare
  pub waits : now.waits.items ≡ slice_set was.waits.items core (Some turn)
  pub pays : PaysDebt core was.ledger now.ledger

-- the owner's turn, as it is made
pub settling_of : {D : Type 0} (view : D → View) (t : TableState (BoxKey D)) (pen : PenHand D) (was : Desk D) (k core : ℕ) (slot new : Slot) (turn : Turn)
    → IsServing view t pen was k → slice_get was.slots.items k ≡ Some slot → core ≡ owner pen.table.given.layout k → new ≡ record slot { phase = new.phase }
    → MadeAt view was core (slice_set was.slots.items k new) k turn
    → IsSettling (owner pen.table.given.layout k) pen.table.given.faults (view was.disk).now slot turn
settling_of view t pen was k core slot new turn serving there same beside made = record {
  by = subst (λ n. IsTurnBy turn act.Durable n slot.commit (fsync_told slot.node slot.stamp)) same
      (slot_turn_by was.slots.items k core slot new turn act.Durable there beside made.by);
  now = made.now;
  faults = faults_calm view pen.table.given (past_at pen) was turn.faults (view was.disk).faults serving.at.fits.frame serving.at.calm made.faults;
}

some_debt : (debt : Option DebtView) → is_some debt ≡ true → (one : DebtView) × (debt ≡ Some one)
some_debt None is = absurd (cc is)
some_debt (Some one) is = (one, refl)

module _ {D : Type 0} (view : D → View) (t : TableState (BoxKey D)) (pen : PenHand D) (was : Desk D) (k : ℕ) (serving : IsServing view t pen was k) where
  abbrev key : BoxKey D
  key = pen.table.given

  abbrev past : BoxPast
  past = past_at pen

  -- whose the slot is
  module _ (within : k < length was.slots.items) where
    pub owner_is : owner_by (length was.slots.items) (length was.waits.items) k ≡ owner key.layout k
    owner_is = Rattle.disk_box.proofs.Owners.owner_is view key past was serving.at.fits.frame k

    pub owner_low : owner key.layout k < key.layout.cores
    owner_low =
        let slots = serving.at.fits.frame.layout.ranges.slots_low in
        let some : 0 < key.layout.slots = omega (arith, slots) in
        let low : k < key.layout.cores * key.layout.slots = subst (λ n. k < n) serving.at.fits.frame.count within in
        (div-lt_iff_lt-mul some).1 low

    pub waits_some : 0 < length was.waits.items
    waits_some = Rattle.disk_box.proofs.Owners.waits_some view key past was serving.at.fits.frame

    pub slots_many : length was.waits.items ≤ length was.slots.items
    slots_many = Rattle.disk_box.proofs.Owners.slots_many view key past was serving.at.fits.frame

    pub owner_fits : owner key.layout k < 256
    owner_fits = (let low = owner_low in let most = serving.at.fits.frame.layout.ranges.cores_high in omega (arith, low, most))

  module _ (has : HasKind was.slots.items k kind.Opened) where
    abbrev mine : ℕ
    mine = owner key.layout k

    within_k : k < length was.slots.items
    within_k = slice_get_within was.slots.items k has.slot has.there

    abbrev told : IsTold past key.layout k has.slot
    told = told_at view t pen was k kind.Opened serving.at has refl

    abbrev state : (opened : Job) × (has.slot.phase ≡ phase.Opened opened)
    state = opened_is has.slot.phase has.kind_is

    fits : IsOpenedOf state.0 told.work
    fits = subst (λ (p : Phase). PhaseFits p (place_at key.layout k) (Some told.work)) state.1 told.fits

    gate_open : told.work.known.gate_left ≡ open_gate
    gate_open = gate_same told.work.known (serving.known k told.work (omega arith) told.there) ∙ fits.read

    flies : FliesIn past k mine told.work
    flies = flies_in key past (past_fits_at t pen serving.at.holds) serving.at.calm k told.work told.there fits.aloft

    owed_here : owed_of (past.owns mine) (past.waits mine) ≡ 1
    owed_here =
        owed_flying (past.owns mine) (past.waits mine) flies.flight flies.waits_none flies.goes_on flies.none_reserved flies.flies_is
        ∙ ap (λ b. cond b 1 3) (sym flies.opened_is ∙ ap may_be_open gate_open)

    pub settle_room : 0 < was.turns.spare
    settle_room =
        let within = owed_within key.layout.cores mine past (owner_low within_k) in
        let here = owed_here in
        let room = serving.at.fits.room in
        omega (arith, within, here, room)

    -- its open commit in the ledger
    opened_there : (one : OpenView) × (open_in was.ledger mine ≡ Some one) × (open_told one ≡ (flies.flight.commit, true))
    opened_there = mapped_some open_told (open_in was.ledger mine) (flies.flight.commit, true)
        (serving.at.fits.frame.opens mine
        ∙ open_flying (past.owns mine) (past.waits mine) flies.flight flies.waits_none flies.none_reserved flies.flies_is)

    abbrev debt : (one : DebtView) × (opened_there.0.debt ≡ Some one)
    debt = some_debt opened_there.0.debt (ap (λ (z : ℕ × Bool). z.1) opened_there.2)

    pub may_end : MayEnd mine was.ledger
    may_end = begun_may_end was.ledger past mine opened_there.0 debt.0 serving.at.fits.frame.ledger opened_there.1 debt.1

    -- it is told with this turn
    module _ (turn : Turn) (settling : IsSettling mine key.faults (view was.disk).now has.slot turn) where
      pub numbered : number_in was.ledger mine ≡ Some turn.commit
      numbered =
          ap (option_map (λ (one : OpenView). one.number)) opened_there.1
          ∙ ap Some (ap (λ (z : ℕ × Bool). z.0) opened_there.2
          ∙ (sym flies.commit_is ∙ (sym told.notes.commit_is ∙ sym settling.by.commit_is)))

      counted : CountsFaults key.faults turn.faults past.failed turn.act turn.faults
      counted = subst (λ (z : Option ℕ × TurnAct). CountsFaults key.faults turn.faults z.0 z.1 turn.faults)
          (λ i. (sym serving.at.calm i, sym settling.by.did_is i)) settling.faults

      pub settle_may : SettledRule key.layout key.faults k turn past
      settle_may = record {
        calm = serving.at.calm;
        has = record { work = told.work; there = told.there; aloft = fits.aloft; gate_is = gate_open };
        is = record {
          did_is = settling.by.did_is;
          core_is = settling.by.core_is;
          commit_is = settling.by.commit_is ∙ told.notes.commit_is;
          flush_is = settling.by.flush_is ∙ sym told.notes.flush_is;
        };
        moment = settling.now ∙ sym serving.moment;
        now = record {
          rises = (let moment = serving.at.fits.frame.moment in let is = settling.now in omega (arith, moment, is));
          counts = counted;
        };
      }

      -- and was told
      module _ (after : PenHand D) (now : Desk D) (new : Slot) (holds : HoldsBox t after) (tells : TellsLabel (label.Settled k turn) pen after)
          (keeps : KeepsTurn mine turn was now) (put : now.slots.items ≡ slice_set was.slots.items k new) (takes : TakesSync has.slot new)
          (goes : LedgerGoes (label.Settled k turn) past was.ledger now.ledger) where
        abbrev later : BoxPast
        later = after_label key.layout pen.view.core (label.Settled k turn) past

        waits_later : (c : ℕ) → wait_in now.waits.items c ≡ later.waits c
        waits_later c =
            ap (λ l. wait_in l c) keeps.waits
            ∙ (wait_put was.waits.items mine (Some turn) (subst (λ n. mine < n) (sym serving.at.fits.frame.cores) (owner_low within_k)) c
            ∙ (λ i. with_at (λ d. serving.at.fits.frame.waits d i) mine (Some turn) c))

        opens_later : (c : ℕ) → option_map open_told (open_in now.ledger c) ≡ open_for (later.owns c) (later.waits c)
        opens_later c = elim (same_or_not c mine) [
          | inl same ↦
              let low : mine < length was.ledger.opens =
              subst (λ n. mine < n) (sym serving.at.fits.frame.places) (owner_low within_k)
              in
              ap (option_map open_told)
              (ap (λ l. Rattle.std.proofs.Common.get_or l c None) keeps.pays.ends.opens ∙ get_or-set_at was.ledger.opens mine c None None same low)
              ∙ sym (ap (open_for (later.owns c)) (at_same past.waits mine (Some turn) c same))
          | inr not ↦
              ap (option_map open_told)
              (ap (λ l. Rattle.std.proofs.Common.get_or l c None) keeps.pays.ends.opens ∙ get_or-set_other was.ledger.opens mine c None None not)
              ∙ (serving.at.fits.frame.opens c
              ∙ (sym (open_same key.layout pen.view.core (label.Settled k turn) past refl past.waits c)
              ∙ sym (ap (open_for (later.owns c)) (at_other past.waits mine (Some turn) c not))))
        ]

        room_later : owed_by key.layout.cores later ≤ now.turns.spare
        room_later =
            let here = owed_here in
            let none : owed_of (later.owns mine) (later.waits mine) ≡ 0 =
            ap (owed_of (later.owns mine)) (at_same past.waits mine (Some turn) mine refl)
            in
            let taken = owed_taken key.layout.cores mine 1 past later (owner_low within_k) (omega (arith, here, none))
            (λ other low not.
            let same : owed_of (later.owns other) (later.waits other) ≡ owed_of (later.owns other) (past.waits other) =
            ap (owed_of (later.owns other)) (at_other past.waits mine (Some turn) other not)
            in
            let less = owed_same key.layout pen.view.core (label.Settled k turn) past refl past.waits other in
            omega (arith, same, less))
            in
            let room = serving.at.fits.room in
            let spare = keeps.spare in
            omega (arith, taken, room, spare)

        frame_later : FrameFits view key later now
        frame_later = record {
          layout = serving.at.fits.frame.layout;
          large = subst (λ (d : Desk D). key.layout.blocks ≤ (view d.disk).size) (sym keeps.beside) serving.at.fits.frame.large;
          laws = serving.at.fits.frame.laws;
          count = ap length put ∙ (length-set was.slots.items k new ∙ serving.at.fits.frame.count);
          cores = ap length keeps.waits ∙ (length-set was.waits.items mine (Some turn) ∙ serving.at.fits.frame.cores);
          waits = waits_later;
          ledger = goes.keeps key.layout pen.view.core;
          places = ap length keeps.pays.ends.opens ∙ (length-set was.ledger.opens mine None ∙ serving.at.fits.frame.places);
          opens = opens_later;
          stamps = ap (λ (d : Desk D). d.stamps) keeps.beside ∙ serving.at.fits.frame.stamps;
          faults = ap (λ (d : Desk D). d.faults) keeps.beside ∙ serving.at.fits.frame.faults;
          failed = ap (λ (d : Desk D). d.failed) keeps.beside ∙ serving.at.fits.frame.failed;
          turns = keeps.items ∙ ap (λ l. l ++ turn ∷ []) serving.at.fits.frame.turns;
          few = subst (λ (d : Desk D). HaveFew later.turns (max key.faults (view d.disk).faults)) (sym keeps.beside)
              (few_both past.turns (turn ∷ []) (max key.faults (view was.disk).faults) serving.at.fits.frame.few
              (few_one turn [] (max key.faults (view was.disk).faults) (let same = settling.faults in omega (arith, same))
              (few_none (max key.faults (view was.disk).faults))));
          moment = subst (λ (d : Desk D). turn.now ≤ (view d.disk).now) (sym keeps.beside) (let is = settling.now in omega (arith, is));
          since = subst (λ (d : Desk D). GoesOnSince view key d.disk) (sym keeps.beside) serving.at.fits.frame.since;
          run = subst (λ (d : Desk D). Rattle.slot_image_laws.specs.Run.RunFits key.layout key.start later (view d.disk)) (sym keeps.beside)
              (told_labels_fit (view was.disk) key.layout key.faults pen.view.core key.start (label.Settled k turn) past
              (past_fits_at t pen serving.at.holds) settle_may settling.now (serving.at.fits.frame.laws was.disk) serving.at.fits.frame.run);
        }

        lands : (next : Phase) → FollowsSync (phase.Opened state.0) next → PhaseFits next (place_at key.layout k) (Some (settled_work told.work))
        lands (phase.Durable durable) follows =
            subst (λ (s : Stage). PhaseFits (phase.Durable s) (place_at key.layout k) (Some (settled_work told.work))) (sym follows) (record {
              job_is = ap without_fresh (sym fits.job_is);
              durable = refl;
              left = gate_open;
              read = fits.read;
              placed = λ n low. absurd (omega (arith, low));
            })
        lands (phase.Idle x) follows = absurd follows
        lands (phase.Filling x) follows = absurd follows
        lands (phase.Filled x) follows = absurd follows
        lands (phase.Sealed x) follows = absurd follows
        lands (phase.Opened x) follows = absurd follows
        lands (phase.Placed x) follows = absurd follows
        lands (phase.Copied x) follows = absurd follows
        lands (phase.Closing x) follows = absurd follows
        lands phase.Lost follows = absurd follows

        slots_later : SlotsFit key.layout later.slots now.slots.items
        slots_later = subst (SlotsFit key.layout later.slots) (sym put)
            (subst (λ (w : Option SlotWork). SlotsFit key.layout (with_at past.slots k w) (slice_set was.slots.items k new))
            (ap (option_map settled_work) (sym told.there))
            (slots_put key.layout past.slots was.slots.items k (Some (settled_work told.work)) new (serving.at.fits.slots serving.at.calm) (record {
              fits = lands new.phase (subst (λ (p : Phase). FollowsSync p new.phase) state.1 takes.follows);
              notes =
                  let notes = notes_kept has.slot new told.work takes.beside told.notes in
                  record {
                    commit_is = notes.commit_is;
                    flush_is = notes.flush_is;
                    drawn_is = notes.drawn_is;
                    inodes_are = notes.inodes_are;
                    ascend = notes.ascend;
                  };
            })))

        pub settled_now : IsServing view t after now (k + 1)
        settled_now =
            let does = goes.space (record { 0 = pen.view.core }) in
            let desk = at_told view t pen after (label.Settled k turn) holds tells was now serving.at.space does (record {
              frame = frame_later;
              room = room_later;
              faults = subst (λ (d : Desk D). Rattle.disk_box.specs.Desk.FaultsFit key.faults past.failed (view d.disk).faults) (sym keeps.beside)
                  serving.at.fits.faults;
              slots = λ calm. slots_later;
            }) in
            record {
              at = record {
                holds = holds;
                calm = failed_told view t pen after (label.Settled k turn) holds tells None serving.at.calm;
                fits = desk.fits;
                space = desk.space;
              };
              calm = subst (λ (d : Desk D). Rattle.journal_one.specs.Calls.IsCalm (view d.disk)) (sym keeps.beside) serving.calm;
              moment = ap (λ (p : BoxPast). p.synced) tells.past
                  ∙ (serving.moment ∙ ap (λ (d : Desk D). (view d.disk).now) (sym keeps.beside));
              known = λ j work low there.
                  serving.known j work (omega (arith, low))
                  (sym (at_other past.slots k (option_map settled_work (past.slots k)) j (λ e. absurd (omega (arith, low, e))))
                  ∙ (ap (λ (p : BoxPast). p.slots j) (sym tells.past) ∙ there));
              served = subst (λ l. NoneAwaits l (k + 1)) (sym put) (awaits_next was.slots.items k new serving.served takes.served);
            }
