-- A core learns of the turn that waits for it.
use Rattle.std.proofs.Common.{◌≡◌, ◌<◌, ◌≤◌, ◌∙◌, ℕ, true, false, length, slice_set, Option, Some, None, inl, inr, refl, sym, ap, subst, arith, option_map, max}
use Rattle.sfs_base.proofs.BasicOptions.{none_some, some_same}
use Rattle.sfs_dev.specs.Disk.{View}
use Rattle.tree_laws.specs.declared.turns.Turn.{Turn}
use Rattle.tree_laws.specs.declared.turns.TurnAct.TheVariants as act
use Rattle.merge_laws.proofs.Blocks.{same_or_not}
use Rattle.slot_laws.specs.Slots.{with_at}
use Rattle.slot_laws.specs.Labels.{BoxPast, OwnTold, SlotFlight, after_label, own_label}
use Rattle.slot_laws.specs.Rules.{IsTurnBy, LearnedRule}
use Rattle.slot_laws.specs.Fits.{PastFits, Landed}
use Rattle.slot_laws.specs.declared.label.Label.TheVariants as label
use Rattle.slot_laws.proofs.Basics.{at_same, at_other}
use Rattle.commit_ledger.specs.Keeps.{LedgerKeeps}
use Rattle.commit_ledger.specs.View.{open_in}
use Rattle.commit_ledger.proofs.Kept.{quiet_labels_keep_it as keeps_same}
use Rattle.slot_image_laws.specs.Run.{RunFits}
use Rattle.slot_image_laws.proofs.Running.{told_labels_fit}
use Rattle.disk_box.specs.Desk.{GoesOnSince, HaveFew, DeskFits, FrameFits, open_for, open_told, owed_of, wait_in}
use Rattle.disk_box.specs.declared.key.BoxKey.{BoxKey}
use Rattle.disk_box.specs.declared.desk.Desk.{Desk}
use Rattle.disk_box.specs.Slots.{SlotsFit}
use Rattle.disk_box.specs.Turns.{Lands}
use Rattle.disk_box.proofs.Frames.{owed_less, own_after, others_after}
use Rattle.disk_box.proofs.Waits.{wait_put}

-- a core for which a turn waits has a flight that has landed
module _ {D : Type 0} (key : BoxKey D) (core : ℕ) (past : BoxPast) (fits : PastFits key.layout key.faults past) (turn : Turn) (waits : past.waits core ≡ Some turn) where
  flew_so : (flight : Option SlotFlight) → (past.owns core).flight ≡ flight → (f : SlotFlight) × ((past.owns core).flight ≡ Some f) × Landed past.waits core f
  flew_so None is = absurd (none_some (sym (fits.flights.idle core is) ∙ waits))
  flew_so (Some f) is = elim (fits.flights.each core f is).is [
    | inl flies ↦ absurd (none_some (sym flies.none ∙ waits))
    | inr landed ↦ (f, is, landed)
  ]

  pub flew : (f : SlotFlight) × ((past.owns core).flight ≡ Some f) × Landed past.waits core f
  flew = flew_so (past.owns core).flight refl

  same_turn : flew.2.turn ≡ turn
  same_turn = some_same (sym flew.2.waits_is ∙ waits)

  pub landed_by : IsTurnBy turn act.Durable core flew.0.commit flew.0.flush
  landed_by = subst (λ (t : Turn). IsTurnBy t act.Durable core flew.0.commit flew.0.flush) same_turn flew.2.turn_is

  pub learned_rule : LearnedRule core turn past
  learned_rule = record { own = landed_by.core_is; waits = waits }

  pub lands : Lands turn core (past.owns core) (own_label (label.Learned turn) (past.owns core))
  lands = record { flight = flew.0; flew = flew.1; opened = flew.2.opened; by = landed_by; after_is = refl }

  -- it has reserved no number
  reserved_so : (number : Option ℕ) → (past.owns core).reserved ≡ number → (past.owns core).reserved ≡ None
  reserved_so None is = is
  reserved_so (Some n) is = absurd (none_some (sym (fits.numbers.rests core n is) ∙ flew.1))

  pub none_reserved : (past.owns core).reserved ≡ None
  none_reserved = reserved_so (past.owns core).reserved refl

  abbrev later : BoxPast
  later = after_label key.layout core (label.Learned turn) past

  -- what it owes, and its open commit: none before, since a turn waited, and none behind
  owns_now : later.owns core ≡ own_label (label.Learned turn) (past.owns core)
  owns_now = own_after key.layout core (label.Learned turn) past

  waits_now : later.waits core ≡ None
  waits_now = at_same past.waits core None core refl

  nothing_open : (own : OwnTold) → own.reserved ≡ None → own.flight ≡ None → open_for own None ≡ None
  nothing_open own none idle =
      ap (λ (z : Option ℕ × Option SlotFlight). Rattle.std.specs.Option.option_or (option_map (λ number. (number, false)) z.0)
      (option_map (λ (f : SlotFlight). (f.commit, true)) z.1)) (λ i. (none i, idle i))

  pub open_learned : (other : ℕ) → open_for (later.owns other) (later.waits other) ≡ open_for (past.owns other) (past.waits other)
  open_learned other = elim (same_or_not other core) [
    | inl same ↦
        ap (λ c. open_for (later.owns c) (later.waits c)) same
        ∙ ((λ i. open_for (owns_now i) (waits_now i))
        ∙ (nothing_open (own_label (label.Learned turn) (past.owns core)) none_reserved refl
        ∙ (sym (ap (open_for (past.owns core)) waits) ∙ ap (λ c. open_for (past.owns c) (past.waits c)) (sym same))))
    | inr not ↦ λ i. open_for (others_after key.layout core (label.Learned turn) past other not i) (at_other past.waits core None other not i)
  ]

  owes_none : (own : OwnTold) → own.reserved ≡ None → own.flight ≡ None → (over : Rattle.std.proofs.Common.Bool) → own.over ≡ over → owed_of own None ≡ 0
  owes_none own none idle true over = rw over refl
  owes_none own none idle false over = rw over (rw none (rw idle refl))

  owed_learned : (other : ℕ) → owed_of (later.owns other) (later.waits other) ≤ owed_of (past.owns other) (past.waits other)
  owed_learned other = elim (same_or_not other core) [
    | inl same ↦
        let here : owed_of (later.owns other) (later.waits other) ≡ 0 = ap (λ c. owed_of (later.owns c) (later.waits c)) same
        ∙ ((λ i. owed_of (owns_now i) (waits_now i))
        ∙ owes_none (own_label (label.Learned turn) (past.owns core)) none_reserved refl (past.owns core).over refl)
        in
        omega (arith, here)
    | inr not ↦
        let here : owed_of (later.owns other) (later.waits other) ≡ owed_of (past.owns other) (past.waits other) =
        λ i. owed_of (others_after key.layout core (label.Learned turn) past other not i) (at_other past.waits core None other not i)
        in
        omega (arith, here)
  ]

  -- the desk fits, once the turn is gone from it
  module _ (view : D → View) (was now : Desk D) (low : core < key.layout.cores) (same : now ≡ record was { waits = now.waits })
      (put : now.waits.items ≡ slice_set was.waits.items core None) where
    learned_frame : FrameFits view key past was → FrameFits view key later now
    learned_frame frame = record {
      layout = frame.layout;
      large = subst (λ (d : Desk D). key.layout.blocks ≤ (view d.disk).size) (sym same) frame.large;
      laws = frame.laws;
      count = ap (λ (d : Desk D). length d.slots.items) same ∙ frame.count;
      cores = ap length put ∙ (Rattle.std.proofs.lemmas.List.length-set was.waits.items core None ∙ frame.cores);
      waits = λ c.
          ap (λ l. wait_in l c) put ∙ (wait_put was.waits.items core None (subst (λ n. core < n) (sym frame.cores) low) c
          ∙ (λ i. with_at (λ d. frame.waits d i) core None c));
      ledger = subst (λ (d : Desk D). LedgerKeeps d.ledger later) (sym same)
          (keeps_same was.ledger past later (record { commits = refl; lasts = refl; opens = refl; done = refl }) frame.ledger);
      places = ap (λ (d : Desk D). length d.ledger.opens) same ∙ frame.places;
      opens = λ c. ap (λ (d : Desk D). option_map open_told (open_in d.ledger c)) same ∙ (frame.opens c ∙ sym (open_learned c));
      stamps = ap (λ (d : Desk D). d.stamps) same ∙ frame.stamps;
      faults = ap (λ (d : Desk D). d.faults) same ∙ frame.faults;
      failed = ap (λ (d : Desk D). d.failed) same ∙ frame.failed;
      turns = ap (λ (d : Desk D). d.turns.items) same ∙ frame.turns;
      few = subst (λ (d : Desk D). HaveFew past.turns (max key.faults (view d.disk).faults)) (sym same) frame.few;
      moment = subst (λ (d : Desk D). past.moment ≤ (view d.disk).now) (sym same) frame.moment;
      since = subst (λ (d : Desk D). GoesOnSince view key d.disk) (sym same) frame.since;
      run = subst (λ (d : Desk D). RunFits key.layout key.start later (view d.disk)) (sym same)
          (told_labels_fit (view was.disk) key.layout key.faults core key.start (label.Learned turn) past fits learned_rule tt (frame.laws was.disk) frame.run);
    }

    pub learned_fits : DeskFits view key past was → DeskFits view key later now
    learned_fits old = record {
      frame = learned_frame old.frame;
      room =
          let less = owed_less key.layout.cores past later (λ c below. owed_learned c) in
          let room = old.room in
          let spare = ap (λ (d : Desk D). d.turns.spare) same in
          omega (arith, less, room, spare);
      faults = subst (λ (d : Desk D). Rattle.disk_box.specs.Desk.FaultsFit key.faults past.failed (view d.disk).faults) (sym same) old.faults;
      slots = λ calm. subst (λ (d : Desk D). SlotsFit key.layout past.slots d.slots.items) (sym same) (old.slots calm);
    }
