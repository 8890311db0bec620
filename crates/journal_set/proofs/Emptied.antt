-- A commit that writes nothing: what lies in the box goes on to fit.
use Rattle.disk_box.specs.Desk.{GoesOnSince, HaveFew}
use Rattle.std.proofs.Common.{◌≡◌, ◌∷◌, ◌++◌, ◌+◌, ◌<◌, ◌≤◌, ◌∙◌, ℕ, false, [], length, slice_set, Option, Some, None, refl, sym, ap, subst, arith, max}
use Rattle.std.proofs.lemmas.List.{length-set}
use Rattle.sfs_dev.specs.Disk.{View}
use Rattle.tree_laws.specs.declared.turns.Turn.{Turn}
use Rattle.tree_laws.specs.declared.turns.TurnAct.{TurnAct}
use Rattle.tree_laws.specs.declared.turns.TurnAct.TheVariants as act
use Rattle.turn_laws.specs.Books.{CountsFaults}
use Rattle.cut_laws.specs.Closure.{Flush}
use Rattle.slot_laws.specs.declared.label.Label.TheVariants as label
use Rattle.slot_laws.specs.Labels.{BoxPast, OwnTold, after_label, own_label}
use Rattle.slot_laws.specs.Rules.{EmptyRule, IsTurnBy}
use Rattle.slot_laws.specs.Fits.{PastFits}
use Rattle.slot_image_laws.proofs.Running.{told_labels_fit}
use Rattle.commit_ledger.specs.Keeps.{LedgerGoes}
use Rattle.disk_box.specs.declared.key.BoxKey.{BoxKey}
use Rattle.disk_box.specs.declared.desk.Desk.{Desk}
use Rattle.disk_box.specs.Desk.{DeskFits, FaultsFit, FrameFits, RoomFits, open_for, open_told, owed_by, owed_of}
use Rattle.disk_box.specs.Slots.{SlotsFit}
use Rattle.disk_box.proofs.Frames.{own_after, others_after, owed_taken}
use Rattle.disk_box.proofs.Few.{few_one, few_none, few_both}
use Rattle.journal_set.proofs.Opens.{open_changed, open_nothing}
use Rattle.journal_set.proofs.Returned.{no_flight, none_waits, owed_none, owed_three}

-- The three turns of a commit of a core, at one moment.
pub record ThreeTurns (before core number moment : ℕ) (flush : Flush) (cut opened durable : Turn) : Type 0 where
  pub cut_is : IsTurnBy cut act.CutAt core number flush
  pub opened_is : IsTurnBy opened act.Opened core number flush
  pub durable_is : IsTurnBy durable act.Durable core number flush
  pub cut_now : (cut.now ≡ moment) × (cut.faults ≡ before)
  pub opened_now : (opened.now ≡ moment) × (opened.faults ≡ before)
  pub durable_now : (durable.now ≡ moment) × (durable.faults ≡ before)

module _ {D : Type 0} (view : D → View) (key : BoxKey D) (core : ℕ) (past : BoxPast) (fits : PastFits key.layout key.faults past) (was : Desk D)
    (frame : FrameFits view key past was) (low : core < key.layout.cores) (number : ℕ) (reserved : (past.owns core).reserved ≡ Some number)
    (calm : past.failed ≡ None) (flush : Flush) (cut opened durable : Turn)
    (three : ThreeTurns key.faults core number (view was.disk).now flush cut opened durable) where
  pub empty_rule : EmptyRule key.faults core number (record { cut = cut; opened = opened; durable = durable }) past
  empty_rule =
      let moment = frame.moment in
      let now = three.cut_now.0 in
      record {
        calm = calm;
        number = reserved;
        flush = flush;
        cut_is = three.cut_is;
        opened_is = three.opened_is;
        durable_is = three.durable_is;
        cut_now = record {
          rises = omega (arith, moment, now);
          counts = subst (λ (z : Option ℕ × TurnAct). CountsFaults key.faults cut.faults z.0 z.1 cut.faults) (λ i. (sym calm i, sym three.cut_is.did_is i))
              three.cut_now.1;
        };
        opened_now = (three.opened_now.0 ∙ sym three.cut_now.0, three.opened_now.1);
        durable_now = (three.durable_now.0 ∙ sym three.cut_now.0, three.durable_now.1);
      }

  abbrev later : BoxPast
  later = after_label key.layout core (label.Empty number cut opened durable) past

  idle : (past.owns core).flight ≡ None
  idle = no_flight view key core past fits was frame low number reserved

  waits : past.waits core ≡ None
  waits = none_waits view key core past fits was frame low number reserved

  own_now : later.owns core ≡ own_label (label.Empty number cut opened durable) (past.owns core)
  own_now = own_after key.layout core (label.Empty number cut opened durable) past

  pub room_emptied : (past.owns core).over ≡ false → owed_by key.layout.cores later + 3 ≤ owed_by key.layout.cores past
  room_emptied over =
      let none : owed_of (later.owns core) (later.waits core) ≡ 0 = (λ i. owed_of (own_now i) (waits i))
      ∙ owed_none view key core past fits was frame low number reserved (own_label (label.Empty number cut opened durable) (past.owns core)) refl idle
      (past.owns core).over refl
      in
      let three_owed : owed_of (past.owns core) (past.waits core) ≡ 3 = ap (owed_of (past.owns core)) waits
      ∙ owed_three view key core past fits was frame low number reserved (past.owns core) reserved over
      in
      owed_taken key.layout.cores core 3 past later low (omega (arith, none, three_owed)) (λ other below not.
      let same : owed_of (later.owns other) (later.waits other) ≡ owed_of (past.owns other) (past.waits other) =
      ap (λ (o : OwnTold). owed_of o (past.waits other)) (others_after key.layout core (label.Empty number cut opened durable) past other not)
      in
      omega (arith, same))

  -- none of the turns has more faults than before
  few_three : HaveFew (cut ∷ opened ∷ durable ∷ []) (max key.faults (view was.disk).faults)
  few_three =
      let most = max key.faults (view was.disk).faults in
      let first = three.cut_now.1 in
      let second = three.opened_now.1 in
      let third = three.durable_now.1 in
      few_one cut (opened ∷ durable ∷ []) most (omega (arith, first))
      (few_one opened (durable ∷ []) most (omega (arith, second)) (few_one durable [] most (omega (arith, third)) (few_none most)))

  -- the desk fits, once the turns are in its record and the commit has ended
  module _ (now : Desk D) (same : now ≡ record was { ledger = now.ledger; turns = now.turns })
      (opens : now.ledger.opens ≡ slice_set was.ledger.opens core None)
      (goes : LedgerGoes (label.Empty number cut opened durable) past was.ledger now.ledger)
      (turns : now.turns.items ≡ was.turns.items ++ cut ∷ opened ∷ durable ∷ []) (spare : now.turns.spare + 3 ≡ was.turns.spare) where
    pub emptied_fits : DeskFits view key past was → (past.owns core).over ≡ false → DeskFits view key later now
    emptied_fits old over = record {
      frame = record {
        layout = frame.layout;
        large = subst (λ (d : Desk D). key.layout.blocks ≤ (view d.disk).size) (sym same) frame.large;
        laws = frame.laws;
        count = ap (λ (d : Desk D). length d.slots.items) same ∙ frame.count;
        cores = ap (λ (d : Desk D). length d.waits.items) same ∙ frame.cores;
        waits = λ c. ap (λ (d : Desk D). Rattle.disk_box.specs.Desk.wait_in d.waits.items c) same ∙ frame.waits c;
        ledger = goes.keeps key.layout core;
        places = ap length opens ∙ (length-set was.ledger.opens core None ∙ frame.places);
        opens = open_changed was.ledger.opens now.ledger.opens core None later.owns past.waits (subst (λ n. core < n) (sym frame.places) low) opens
            (sym ((λ i. open_for (own_now i) (waits i)) ∙ open_nothing (own_label (label.Empty number cut opened durable) (past.owns core)) refl idle))
            (λ other not. frame.opens other ∙ ap (λ (o : OwnTold). open_for o (past.waits other))
            (sym (others_after key.layout core (label.Empty number cut opened durable) past other not)));
        stamps = ap (λ (d : Desk D). d.stamps) same ∙ frame.stamps;
        faults = ap (λ (d : Desk D). d.faults) same ∙ frame.faults;
        failed = ap (λ (d : Desk D). d.failed) same ∙ frame.failed;
        turns = turns ∙ ap (λ l. l ++ cut ∷ opened ∷ durable ∷ []) frame.turns;
        few = subst (λ (d : Desk D). HaveFew later.turns (max key.faults (view d.disk).faults)) (sym same)
            (few_both past.turns (cut ∷ opened ∷ durable ∷ []) (max key.faults (view was.disk).faults) frame.few few_three);
        moment = subst (λ (d : Desk D). durable.now ≤ (view d.disk).now) (sym same) (let at = three.durable_now.0 in omega (arith, at));
        since = subst (λ (d : Desk D). GoesOnSince view key d.disk) (sym same) frame.since;
        run = subst (λ (d : Desk D). Rattle.slot_image_laws.specs.Run.RunFits key.layout key.start later (view d.disk)) (sym same)
            (told_labels_fit (view was.disk) key.layout key.faults core key.start (label.Empty number cut opened durable) past fits empty_rule
            three.cut_now.0 (frame.laws was.disk) frame.run);
      };
      room = (let less = room_emptied over in let room = old.room in omega (arith, less, room, spare));
      faults = subst (λ (d : Desk D). FaultsFit key.faults past.failed (view d.disk).faults) (sym same) old.faults;
      slots = λ none. subst (λ (d : Desk D). SlotsFit key.layout past.slots d.slots.items) (sym same) (old.slots none);
    }
