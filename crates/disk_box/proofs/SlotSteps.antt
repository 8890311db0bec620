-- A label of a slot's device call, or of a slot that is idle again: what is kept beside the slots goes on to fit.
use Rattle.std.proofs.Common.{◌≡◌, ◌∙◌, ℕ, length, true, false, Option, Some, None, Result, Ok, Err, OnErr, OnOk, IfErr, refl, sym, ap, subst, arith, List, is_some, option_map, Bool}
use Rattle.sfs_base.specs.Ends.{HasRisen}
use Rattle.sfs_base.specs.declared.numbers.CoreId.{CoreId}
use Rattle.sfs_image.specs.Super.{Layout}
use Rattle.sfs_dev.specs.Disk.{View, Elapses, TornTold}
use Rattle.sfs_dev.specs.Ranges.{put}
use Rattle.sfs_dev.specs.Steps.{TellsAlike}
use Rattle.sfs_dev.proofs.Runs.{GoesOn-call}
use Rattle.journal_one.specs.Job.{Piece}
use Rattle.space_map.specs.Space.{Space}
use Rattle.tree_laws.specs.declared.turns.Turn.{Turn}
use Rattle.stamp_table.specs.declared.event.Event.TheVariants.{Told}
use Rattle.stamp_table.specs.Table.{TableState}
use Rattle.slot_laws.specs.declared.label.Label.{Label}
use Rattle.slot_laws.specs.declared.label.Label.TheVariants as label
use Rattle.slot_laws.specs.Labels.{BoxPast, after_label}
use Rattle.slot_laws.specs.Rules.{MayLabel}
use Rattle.slot_laws.specs.Grants.{SpaceDoes}
use Rattle.slot_laws.specs.Telling.{IsOfStep}
use Rattle.slot_image_laws.specs.Run.{KeepsLaws, Writes}
use Rattle.slot_image_laws.specs.Labels.{IsDoneBy}
use Rattle.slot_image_laws.proofs.Running.{done_labels_fit}
use Rattle.disk_box.specs.declared.key.BoxKey.{BoxKey}
use Rattle.disk_box.specs.declared.desk.Desk.{Desk}
use Rattle.disk_box.specs.Box.{SpaceFits}
use Rattle.disk_box.specs.Calls.{AnswersCall}
use Rattle.disk_box.specs.Desk.{FaultsFit, FrameFits, RoomFits}
use Rattle.disk_box.specs.Slots.{SlotsFit}
use Rattle.disk_box.specs.Pens.{PenHand, past_at, HoldsBox, TellsLabel, WorksAtDesk, IsBroken}
use Rattle.disk_box.specs.Steps.{Steps}
use Rattle.disk_box.proofs.StepsTold.{once_told, step_told}
use Rattle.disk_box.proofs.After.{failed_told, fits_told, frame_told, key_same, room_told, space_told}
use Rattle.disk_box.proofs.Entered.{open_same, owed_same}
use Rattle.disk_box.proofs.Quiet.{LeavesKept, SameBeside, frame_same, room_same}

-- whether a label changes nothing but what is known of slots
abbrev pub IsOfSlots : Label → Type 0
IsOfSlots (label.Filled slot piece done) = Unit {0}
IsOfSlots (label.Synced now) = Unit {0}
IsOfSlots (label.Placed slot n done) = Unit {0}
IsOfSlots (label.Shut slot done) = Unit {0}
IsOfSlots (label.Idled slot) = Unit {0}
IsOfSlots _ = ⊥

-- such a label leaves nodes, turns and numbers
pub slots_leave : (layout : Layout) (core : ℕ) (fact : Label) (past : BoxPast) → IsOfSlots fact → LeavesKept past (after_label layout core fact past)
slots_leave layout core (label.Filled slot piece done) past of = record {
  waits = λ c. refl;
  owed = owed_same layout core (label.Filled slot piece done) past refl past.waits;
  opens = open_same layout core (label.Filled slot piece done) past refl past.waits;
  nodes = record { commits = refl; lasts = refl; opens = refl; done = refl };
  stamps = refl;
  failed = refl;
  turns = refl;
  moment = refl;
}
slots_leave layout core (label.Synced now) past of = record {
  waits = λ c. refl;
  owed = owed_same layout core (label.Synced now) past refl past.waits;
  opens = open_same layout core (label.Synced now) past refl past.waits;
  nodes = record { commits = refl; lasts = refl; opens = refl; done = refl };
  stamps = refl;
  failed = refl;
  turns = refl;
  moment = refl;
}
slots_leave layout core (label.Placed slot n done) past of = record {
  waits = λ c. refl;
  owed = owed_same layout core (label.Placed slot n done) past refl past.waits;
  opens = open_same layout core (label.Placed slot n done) past refl past.waits;
  nodes = record { commits = refl; lasts = refl; opens = refl; done = refl };
  stamps = refl;
  failed = refl;
  turns = refl;
  moment = refl;
}
slots_leave layout core (label.Shut slot done) past of = record {
  waits = λ c. refl;
  owed = owed_same layout core (label.Shut slot done) past refl past.waits;
  opens = open_same layout core (label.Shut slot done) past refl past.waits;
  nodes = record { commits = refl; lasts = refl; opens = refl; done = refl };
  stamps = refl;
  failed = refl;
  turns = refl;
  moment = refl;
}
slots_leave layout core (label.Idled slot) past of = record {
  waits = λ c. refl;
  owed = owed_same layout core (label.Idled slot) past refl past.waits;
  opens = open_same layout core (label.Idled slot) past refl past.waits;
  nodes = record { commits = refl; lasts = refl; opens = refl; done = refl };
  stamps = refl;
  failed = refl;
  turns = refl;
  moment = refl;
}
slots_leave layout core label.Took past of = absurd of
slots_leave layout core label.Gave past of = absurd of
slots_leave layout core (label.Noted turn) past of = absurd of
slots_leave layout core (label.Reserved commit seen grant) past of = absurd of
slots_leave layout core (label.Returned commit) past of = absurd of
slots_leave layout core (label.Began filling commit node stamp blocks inodes) past of = absurd of
slots_leave layout core (label.Opened slot done cut opened) past of = absurd of
slots_leave layout core (label.Settled slot turn) past of = absurd of
slots_leave layout core (label.Learned turn) past of = absurd of
slots_leave layout core (label.Empty commit cut opened durable) past of = absurd of

-- and free space
pub slots_leave_space : (core : CoreId) (fact : Label) (past : BoxPast) (old new : Space) → IsOfSlots fact → new ≡ old
    → SpaceDoes (Told core fact) past old new
slots_leave_space core (label.Filled slot piece done) past old new of same = same
slots_leave_space core (label.Synced now) past old new of same = same
slots_leave_space core (label.Placed slot n done) past old new of same = same
slots_leave_space core (label.Shut slot done) past old new of same = same
slots_leave_space core (label.Idled slot) past old new of same = same
slots_leave_space core label.Took past old new of same = absurd of
slots_leave_space core label.Gave past old new of same = absurd of
slots_leave_space core (label.Noted turn) past old new of same = absurd of
slots_leave_space core (label.Reserved commit seen grant) past old new of same = absurd of
slots_leave_space core (label.Returned commit) past old new of same = absurd of
slots_leave_space core (label.Began filling commit node stamp blocks inodes) past old new of same = absurd of
slots_leave_space core (label.Opened slot done cut opened) past old new of same = absurd of
slots_leave_space core (label.Settled slot turn) past old new of same = absurd of
slots_leave_space core (label.Learned turn) past old new of same = absurd of
slots_leave_space core (label.Empty commit cut opened durable) past old new of same = absurd of

-- bytes that were put leave it told what a read gives where it was
put_alike : (piece : Piece) (was : Option (List ℕ)) → is_some (option_map (put piece.at piece.bytes) was) ≡ is_some was
put_alike piece (Some content) = refl
put_alike piece None = refl

-- and so do bytes that were torn
torn_alike : (at n : ℕ) (was now : Option (List ℕ)) → TornTold at n was now → is_some now ≡ is_some was
torn_alike at n (Some content) now torn = ap is_some torn.1
torn_alike at n None now torn = ap is_some torn

-- so does each device call that writes
pub writes_alike : (done : Bool) (piece : Piece) (old new : View) → Writes done piece old new → TellsAlike old new
writes_alike true piece old new writes = ap is_some (writes.ok refl) ∙ put_alike piece old.content
writes_alike false piece old new writes = torn_alike piece.at (length piece.bytes) old.content new.content (writes.err refl)

-- A device call was made, and nothing of a desk is another but its disk and its slots, of which there are as many.
pub record CalledAt {D V : Type 0} (view : D → View) (was now : Desk D) (result : Result V ℕ) : Type 0 where
  pub beside : now ≡ record was { disk = now.disk; slots = now.slots }
  pub count : length now.slots.items ≡ length was.slots.items
  pub size : (view now.disk).size ≡ (view was.disk).size
  pub time : Elapses (view was.disk) (view now.disk)
  pub tells : TellsAlike (view was.disk) (view now.disk)
  pub answers : AnswersCall (view was.disk) (view now.disk) result

pub called_beside : {D V : Type 0} (view : D → View) (was now : Desk D) (result : Result V ℕ) → KeepsLaws (view was.disk) → CalledAt view was now result
    → SameBeside view was now
called_beside view was now result laws called =
    let counted = called.time.counted in
    let fits = laws.now_fits in
    record {
      count = called.count;
      waits = ap (λ (d : Desk _). d.waits) called.beside;
      ledger = ap (λ (d : Desk _). d.ledger) called.beside;
      stamps = ap (λ (d : Desk _). d.stamps) called.beside;
      faults = ap (λ (d : Desk _). d.faults) called.beside;
      failed = ap (λ (d : Desk _). d.failed) called.beside;
      turns = ap (λ (d : Desk _). d.turns) called.beside;
      size = called.size;
      later = omega arith;
      goes = GoesOn-call (view was.disk) (view now.disk) laws.now_fits called.time called.size called.answers.cause.never_falls;
      tells = called.tells;
    }

-- A step has told its label: a desk with what is kept beside the slots, and room, and the slots too where its call answered Ok.
module _ {D V : Type 0} (view : D → View) (t : TableState (BoxKey D)) (before after : PenHand D) (fact : Label) (was now : Desk D) (result : Result V ℕ) where
  abbrev key : BoxKey D
  key = before.table.given

  abbrev later : BoxPast
  later = after_label key.layout before.view.core fact (past_at before)

  -- what is so of it beside the slots
  pub record Framed : Type 0 where
    pub frame : FrameFits view key later now
    pub room : RoomFits key later now
    pub calm : later.failed ≡ None
    pub space : SpaceFits after.table.given after.view.seen now
    pub answers : AnswersCall (view was.disk) (view now.disk) result

  faults_ok : (r : Result V ℕ) → result ≡ r → FaultsFit key.faults (past_at before).failed (view was.disk).faults → (past_at before).failed ≡ None
      → AnswersCall (view was.disk) (view now.disk) result → later.failed ≡ None → OnOk r (FaultsFit key.faults later.failed (view now.disk).faults)
  faults_ok (Err e) is old calm answers still = tt
  faults_ok (Ok v) is old calm answers still =
      let stayed : (view now.disk).faults ≡ (view was.disk).faults =
      subst (λ (r : Result V ℕ). OnOk r ((view now.disk).faults ≡ (view was.disk).faults)) is answers.cause.kept
      in
      let before_is : (view was.disk).faults ≡ key.faults = subst (λ (f : Option ℕ). FaultsFit key.faults f (view was.disk).faults) calm old in
      subst (λ (f : Option ℕ). FaultsFit key.faults f (view now.disk).faults) (sym still) (stayed ∙ before_is)

  at_ok : (r : Result V ℕ) → HoldsBox t after → TellsLabel fact before after → Framed → OnOk r (FaultsFit key.faults later.failed (view now.disk).faults)
      → OnOk r (SlotsFit key.layout later.slots now.slots.items) → OnOk r (WorksAtDesk view t after now)
  at_ok (Err e) holds tells framed faults slots = tt
  at_ok (Ok v) holds tells framed faults slots = record {
    holds = holds;
    calm = failed_told view t before after fact holds tells None framed.calm;
    fits = fits_told view t before after fact holds tells now
        (record { frame = framed.frame; room = framed.room; faults = faults; slots = λ calm. slots });
    space = framed.space;
  }

  broken_so : (r : Result V ℕ) → result ≡ r → HoldsBox t after → TellsLabel fact before after → Framed
      → FaultsFit key.faults (past_at before).failed (view was.disk).faults → (past_at before).failed ≡ None
      → IfErr r (λ faults. IsBroken view t after now faults)
  broken_so (Ok v) is holds tells framed old calm = tt
  broken_so (Err e) is holds tells framed old calm =
      let counted : e ≡ (view now.disk).faults =
      subst (λ (r : Result V ℕ). IfErr r (λ faults. faults ≡ (view now.disk).faults)) is framed.answers.counted
      in
      let rose : HasRisen (view was.disk).faults (view now.disk).faults =
      subst (λ (r : Result V ℕ). Rattle.std.proofs.Common.OnErr r (HasRisen (view was.disk).faults (view now.disk).faults)) is framed.answers.cause.risen
      in
      let before_is : (view was.disk).faults ≡ key.faults = subst (λ (f : Option ℕ). FaultsFit key.faults f (view was.disk).faults) calm old in
      record {
        holds = holds;
        calm = failed_told view t before after fact holds tells None framed.calm;
        frame = frame_told view t before after fact holds tells now framed.frame;
        room = room_told view t before after fact holds tells now framed.room;
        space = framed.space;
        counted = counted;
        risen = subst (λ (k : BoxKey D). HasRisen k.faults e) (sym (key_same view t before after fact holds tells))
            (subst (λ (z : ℕ × ℕ). HasRisen z.0 z.1) (λ i. (before_is i, sym counted i)) rose);
      }

  -- what is so however a call ends is so where it failed
  on_err : {P : Type 0} (r : Result V ℕ) → P → OnErr r P
  on_err (Ok x) p = tt
  on_err (Err e) p = p

  pub steps_so : IsOfStep fact → later.waits ≡ (past_at before).waits → WorksAtDesk view t before was → HoldsBox t after → TellsLabel fact before after → Framed
      → OnOk result (SlotsFit key.layout later.slots now.slots.items) → Steps view t before after now result
  steps_so of still at holds tells framed slots = record {
    goes = tells.goes;
    room = tells.room;
    tells = step_told before after fact tells of;
    once = once_told before after fact tells;
    ok = at_ok result holds tells framed (faults_ok result refl at.fits.faults at.calm framed.answers framed.calm) slots;
    waits = on_err result (ap (λ (p : BoxPast). p.waits before.view.core) tells.past ∙ ap (λ (w : ℕ → Option Turn). w before.view.core) still);
    err = broken_so result refl holds tells framed at.fits.faults at.calm;
  }

  -- of a label of slots
  pub framed_of_slots : WorksAtDesk view t before was → HoldsBox t after → TellsLabel fact before after → IsOfSlots fact
      → MayLabel key.layout key.faults before.view.core fact (past_at before)
      → IsDoneBy fact (past_at before).slots (view was.disk) (view now.disk) → CalledAt view was now result → Framed
  framed_of_slots at holds tells of may done called =
      let kept = slots_leave key.layout before.view.core fact (past_at before) of in
      let same = called_beside view was now result (at.fits.frame.laws was.disk) called in
      record {
        frame = frame_same view key (past_at before) later was now at.fits.frame kept same
            (done_labels_fit (view was.disk) (view now.disk) key.layout key.faults before.view.core key.start fact (past_at before) may done
            (at.fits.frame.laws was.disk) at.fits.frame.run);
        room = room_same view key (past_at before) later was now at.fits.room kept same;
        calm = kept.failed ∙ at.calm;
        space = space_told view t before after fact holds tells was now at.space
            (slots_leave_space (record { 0 = before.view.core }) fact (past_at before) was.ledger.space now.ledger.space of
            (ap (λ (d : Desk D). d.ledger.space) called.beside));
        answers = called.answers;
      }
