-- A core gives its number back: what lies in the box goes on to fit.
use Rattle.std.proofs.Common.{◌≡◌, ◌+◌, ◌<◌, ◌≤◌, ◌∙◌, ℕ, Bool, true, false, length, Some, None, refl, sym, ap, subst, arith, option_map}
use Rattle.std.proofs.lemmas.List.{length-set}
use Rattle.sfs_base.proofs.BasicOptions.{none_of}
use Rattle.sfs_dev.specs.Disk.{View}
use Rattle.space_map.specs.Space.{GrantedNumbers}
use Rattle.slot_laws.specs.declared.label.Label.TheVariants as label
use Rattle.slot_laws.specs.Labels.{BoxPast, OwnTold, after_label, own_label}
use Rattle.slot_laws.specs.Fits.{PastFits}
use Rattle.slot_image_laws.proofs.Running.{told_labels_fit}
use Rattle.commit_ledger.specs.View.{LedgerView, OpenView, open_in, number_in}
use Rattle.commit_ledger.specs.Keeps.{LedgerGoes, WasGranted}
use Rattle.commit_ledger.specs.Calls.{MayReturn, Returns}
use Rattle.commit_ledger.proofs.Kept.{granted_may_return}
use Rattle.disk_box.specs.declared.key.BoxKey.{BoxKey}
use Rattle.disk_box.specs.declared.desk.Desk.{Desk}
use Rattle.disk_box.specs.Desk.{DeskFits, FrameFits, open_for, owed_by, owed_of}
use Rattle.disk_box.proofs.Frames.{own_after, others_after, owed_taken}
use Rattle.journal_set.proofs.Opens.{IsOpenAs, open_as, open_changed, open_nothing, open_reserved}

-- A core that has reserved.
module _ {D : Type 0} (view : D → View) (key : BoxKey D) (core : ℕ) (past : BoxPast) (fits : PastFits key.layout key.faults past) (was : Desk D)
    (frame : FrameFits view key past was) (low : core < key.layout.cores) (number : ℕ) (reserved : (past.owns core).reserved ≡ Some number) where
  pub no_flight : (past.owns core).flight ≡ None
  no_flight = fits.numbers.rests core number reserved

  pub none_waits : past.waits core ≡ None
  none_waits = fits.flights.idle core no_flight

  pub is_open : IsOpenAs (open_in was.ledger core) number false
  is_open = open_as (open_in was.ledger core) number false
      (frame.opens core ∙ (ap (open_for (past.owns core)) none_waits ∙ open_reserved (past.owns core) number reserved))

  pub no_debt : is_open.one.debt ≡ None
  no_debt = none_of is_open.one.debt is_open.begun_is

  pub number_there : number_in was.ledger core ≡ Some number
  number_there = ap (option_map (λ (one : OpenView). one.number)) is_open.there ∙ ap Some is_open.number_is

  -- it may give back what it was granted
  pub may_return : (grant : GrantedNumbers) → WasGranted past.opens number grant → MayReturn core grant was.ledger
  may_return grant granted = granted_may_return was.ledger past core is_open.one grant frame.ledger is_open.there no_debt
      (subst (λ n. WasGranted past.opens n grant) (sym is_open.number_is) granted)

  abbrev later : BoxPast
  later = after_label key.layout core (label.Returned number) past

  own_now : later.owns core ≡ own_label (label.Returned number) (past.owns core)
  own_now = own_after key.layout core (label.Returned number) past

  -- what it owes no more
  pub owed_none : (own : OwnTold) → own.reserved ≡ None → own.flight ≡ None → (over : Bool) → own.over ≡ over → owed_of own None ≡ 0
  owed_none own none idle true over = rw over refl
  owed_none own none idle false over = rw over (rw none (rw idle refl))

  pub owed_three : (own : OwnTold) → own.reserved ≡ Some number → own.over ≡ false → owed_of own None ≡ 3
  owed_three own is over = rw over (rw is refl)

  pub room_returned : (past.owns core).over ≡ false → owed_by key.layout.cores later + 3 ≤ owed_by key.layout.cores past
  room_returned over =
      let none : owed_of (later.owns core) (later.waits core) ≡ 0 = (λ i. owed_of (own_now i) (none_waits i))
      ∙ owed_none (own_label (label.Returned number) (past.owns core)) refl no_flight (past.owns core).over refl
      in
      let three : owed_of (past.owns core) (past.waits core) ≡ 3 = ap (owed_of (past.owns core)) none_waits ∙ owed_three (past.owns core) reserved over in
      owed_taken key.layout.cores core 3 past later low (omega (arith, none, three)) (λ other below not.
      let same : owed_of (later.owns other) (later.waits other) ≡ owed_of (past.owns other) (past.waits other) =
      ap (λ (o : OwnTold). owed_of o (past.waits other)) (others_after key.layout core (label.Returned number) past other not)
      in
      omega (arith, same))

  -- and the desk fits
  module _ (next_ledger : LedgerView) (grant : GrantedNumbers) (returns : Returns core grant was.ledger next_ledger)
      (goes : LedgerGoes (label.Returned number) past was.ledger next_ledger) where
    pub returned_fits : DeskFits view key past was → (past.owns core).over ≡ false → DeskFits view key later (record was { ledger = next_ledger })
    returned_fits old over = record {
      frame = record {
        layout = frame.layout;
        large = frame.large;
        laws = frame.laws;
        count = frame.count;
        cores = frame.cores;
        waits = frame.waits;
        ledger = goes.keeps key.layout core;
        places = ap length returns.opens ∙ (length-set was.ledger.opens core None ∙ frame.places);
        opens = open_changed was.ledger.opens next_ledger.opens core None later.owns past.waits (subst (λ n. core < n) (sym frame.places) low) returns.opens
            (sym ((λ i. open_for (own_now i) (none_waits i)) ∙ open_nothing (own_label (label.Returned number) (past.owns core)) refl no_flight))
            (λ other not. frame.opens other ∙ ap (λ (o : OwnTold). open_for o (past.waits other))
            (sym (others_after key.layout core (label.Returned number) past other not)));
        stamps = frame.stamps;
        faults = frame.faults;
        failed = frame.failed;
        turns = frame.turns;
        few = frame.few;
        moment = frame.moment;
        since = frame.since;
        run = told_labels_fit (view was.disk) key.layout key.faults core key.start (label.Returned number) past fits reserved tt (frame.laws was.disk)
            frame.run;
      };
      room = (let less = room_returned over in let room = old.room in omega (arith, less, room));
      faults = old.faults;
      slots = old.slots;
    }
