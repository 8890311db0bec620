-- A core that takes the box finds in it a desk that fits, and brings home one that does.
use Rattle.std.proofs.Common.{◌≡◌, ◌+◌, ◌<◌, ◌≤◌, ◌∷◌, ◌++◌, ◌∙◌, ℕ, List, [], Option, Some, None, inl, refl, sym, ap, subst, arith, IsSome, append_assoc, length, length-append, option_map}
use Rattle.std.proofs.lemmas.List.{nil_from_length}
use Rattle.std.proofs.lemmas.List.Elements.{filter-append}
use Rattle.sfs_image.specs.Super.{Layout}
use Rattle.sfs_dev.specs.Disk.{View}
use Rattle.sfs_dev.proofs.Runs.{GoesOn-refl}
use Rattle.tree_laws.specs.Tree.{TreeState}
use Rattle.stamp_table.specs.declared.event.Event.{Event}
use Rattle.stamp_table.specs.declared.event.Event.TheVariants.{Told}
use Rattle.stamp_table.specs.declared.held.HeldCell.{HeldCell}
use Rattle.stamp_table.specs.declared.view.View.{View as Sight}
use Rattle.stamp_table.specs.Events.{event_core}
use Rattle.stamp_table.specs.Rule.{Has, entries_by, is_by}
use Rattle.stamp_table.specs.Hand.{Desk as TableName}
use Rattle.stamp_table.specs.Table.{TableState, HoldsMore, TellsFact, MayTell, cell_at, with_value}
use Rattle.stamp_table.proofs.Logs.{own_comes}
use Rattle.slot_laws.specs.declared.label.Label.{Label}
use Rattle.slot_laws.specs.declared.label.Label.TheVariants as label
use Rattle.slot_laws.specs.Labels.{BoxPast, OwnTold, after_label, first_past, own_from, nothing_told}
use Rattle.slot_laws.specs.Fits.{PastFits}
use Rattle.slot_laws.proofs.Lawful.{lawful_fits, first_fits}
use Rattle.slot_laws.proofs.NodesTold.{past_parts}
use Rattle.slot_laws.proofs.GrantsTold.{goes_both}
use Rattle.slot_image_laws.proofs.Running.{told_labels_fit}
use Rattle.disk_box.specs.declared.key.BoxKey.{BoxKey}
use Rattle.disk_box.specs.declared.desk.Desk.{Desk}
use Rattle.disk_box.specs.Box.{past_of, LawfulBox, StandsBox, SpaceFits, IsHome}
use Rattle.disk_box.specs.Desk.{DeskFits, open_for, owed_of}
use Rattle.disk_box.specs.Pens.{PenHand, past_at, own_at, IsOutside, HoldsBox, PenGoes, TakesBox}
use Rattle.disk_box.proofs.Frames.{at_itself}
use Rattle.disk_box.proofs.Quiet.{LeavesKept, SameBeside, frame_same, room_same}
use Rattle.disk_box.proofs.Telling.{Lawful, Stood, may_tell, own_more}

-- what was told by the rules fits
pub past_fits : {D : Type 0} (key : BoxKey D) (log : List (Event Label)) → LawfulBox key log → PastFits key.layout key.faults (past_of key log)
past_fits key log may = lawful_fits key.layout key.faults log (first_past key.start) (first_fits key.layout key.faults key.start) may

pub same_beside : {D : Type 0} (view : D → View) (desk : Desk D) → SameBeside view desk desk
same_beside view desk = record {
  count = refl;
  waits = refl;
  ledger = refl;
  stamps = refl;
  faults = refl;
  failed = refl;
  turns = refl;
  size = refl;
  later = omega arith;
  goes = GoesOn-refl (view desk.disk);
  tells = refl;
}

-- nothing is kept otherwise by a label that changes neither nodes, turns, numbers nor what its core told
module _ (layout : Layout) (core : ℕ) (fact : Label) (past : BoxPast) (own : Rattle.slot_laws.specs.Labels.own_label fact (past.owns core) ≡ past.owns core) where
  owns_same : (other : ℕ) → (after_label layout core fact past).owns other ≡ past.owns other
  owns_same other = at_itself past.owns core (Rattle.slot_laws.specs.Labels.own_label fact (past.owns core)) other own

  pub owed_same : (waits : ℕ → Option Rattle.tree_laws.specs.declared.turns.Turn.Turn) (other : ℕ)
      → owed_of ((after_label layout core fact past).owns other) (waits other) ≤ owed_of (past.owns other) (waits other)
  owed_same waits other = subst (λ (o : OwnTold). owed_of o (waits other) ≤ owed_of (past.owns other) (waits other)) (sym (owns_same other)) (omega arith)

  pub open_same : (waits : ℕ → Option Rattle.tree_laws.specs.declared.turns.Turn.Turn) (other : ℕ)
      → open_for ((after_label layout core fact past).owns other) (waits other) ≡ open_for (past.owns other) (waits other)
  open_same waits other = ap (λ (o : OwnTold). open_for o (waits other)) (owns_same other)

module _ {D : Type 0} (view : D → View) (key : BoxKey D) (core : ℕ) (desk : Desk D) where
  took_kept : (past : BoxPast) → LeavesKept past (after_label key.layout core label.Took past)
  took_kept past = record {
    waits = λ c. refl;
    owed = owed_same key.layout core label.Took past refl past.waits;
    opens = open_same key.layout core label.Took past refl past.waits;
    nodes = record { commits = refl; lasts = refl; opens = refl; done = refl };
    stamps = refl;
    failed = refl;
    turns = refl;
    moment = refl;
  }

  pub took_fits : (past : BoxPast) → PastFits key.layout key.faults past → DeskFits view key past desk
      → DeskFits view key (after_label key.layout core label.Took past) desk
  took_fits past fits home = record {
    room = room_same view key past (after_label key.layout core label.Took past) desk desk home.room (took_kept past) (same_beside view desk);
    frame = frame_same view key past (after_label key.layout core label.Took past) desk desk home.frame (took_kept past) (same_beside view desk)
        (told_labels_fit (view desk.disk) key.layout key.faults core key.start label.Took past fits tt tt (home.frame.laws desk.disk) home.frame.run);
    faults = home.faults;
    slots = home.slots;
  }

  gave_kept : (past : BoxPast) → LeavesKept past (after_label key.layout core label.Gave past)
  gave_kept past = record {
    waits = λ c. refl;
    owed = owed_same key.layout core label.Gave past refl past.waits;
    opens = open_same key.layout core label.Gave past refl past.waits;
    nodes = record { commits = refl; lasts = refl; opens = refl; done = refl };
    stamps = refl;
    failed = refl;
    turns = refl;
    moment = refl;
  }

  pub gave_fits : (past : BoxPast) → PastFits key.layout key.faults past → DeskFits view key past desk
      → DeskFits view key (after_label key.layout core label.Gave past) desk
  gave_fits past fits home = record {
    room = room_same view key past (after_label key.layout core label.Gave past) desk desk home.room (gave_kept past) (same_beside view desk);
    frame = frame_same view key past (after_label key.layout core label.Gave past) desk desk home.frame (gave_kept past) (same_beside view desk)
        (told_labels_fit (view desk.disk) key.layout key.faults core key.start label.Gave past fits tt tt (home.frame.laws desk.disk) home.frame.run);
    faults = home.faults;
    slots = home.slots;
  }

-- where a core's own events are those of what it has seen, and one more of each, nothing came between of its own
none_before : (core : ℕ) (seen front mine after all_seen : List (Event Label)) (fact : Label)
    → entries_by event_core core seen ≡ mine → after ≡ entries_by event_core core all_seen → after ≡ mine ++ Told (record { 0 = core }) fact ∷ []
    → all_seen ≡ (seen ++ front) ++ Told (record { 0 = core }) fact ∷ [] → entries_by event_core core front ≡ []
none_before core seen front mine after all_seen fact before own more whole =
    let event = Told (record { 0 = core }) fact in
    let last = own_comes event_core core (seen ++ front) event refl in
    let parts = filter-append (is_by event_core core) seen front in
    let all = ap length (sym more ∙ (own ∙ (ap (entries_by event_core core) whole ∙ last))) in
    let one = length-append mine (event ∷ []) in
    let other = length-append (entries_by event_core core (seen ++ front)) (event ∷ []) in
    let split = ap length parts ∙ length-append (entries_by event_core core seen) (entries_by event_core core front) in
    let same = ap length before in
    nil_from_length (entries_by event_core core front) (omega (arith, all, one, other, split, same))

busy_none : {D : Type 0} (view : D → View) (key : BoxKey D) (log : List (Event Label)) (value : Option (Desk D)) → StandsBox view key log value
    → (past_of key log).busy ≡ None
busy_none view key log None stood = absurd stood
busy_none view key log (Some desk) stood = stood.busy

there : {D : Type 0} (view : D → View) (key : BoxKey D) (log : List (Event Label)) (value : Option (Desk D)) → StandsBox view key log value → IsSome value
there view key log None stood = absurd stood
there view key log (Some desk) stood = refl

-- A core has taken the cell of the box.
module _ {D : Type 0} (view : D → View) (t : TableState (BoxKey D)) (before holding : PenHand D) (outside : IsOutside t before)
    (holds : HoldsMore (Lawful view t.table.given) (Stood view t.table.given) 0 before holding) where
  abbrev key : BoxKey D
  key = t.table.given

  abbrev value : Option (Desk D)
  value = holds.value.0

  pub held_is : holding.held ≡ record { place = 0; value = value } ∷ []
  held_is = holds.value.1 ∙ ap (λ (l : List (HeldCell (Option (Desk D)))). l ++ record { place = 0; value = value } ∷ []) outside.holds_none

  pub cell_there : IsSome (cell_at 0 holding.held)
  cell_there = subst (λ (l : List (HeldCell (Option (Desk D)))). IsSome (cell_at 0 l)) (sym held_is) refl

  -- what it brought is a desk
  pub is_desk : (brought : Option (Desk D)) → option_map (λ (c : HeldCell (Option (Desk D))). c.value) (cell_at 0 holding.held) ≡ Some brought
      → brought ≡ value
  is_desk brought is = sym (Rattle.sfs_base.proofs.BasicOptions.some_same
      (sym (ap (λ (l : List (HeldCell (Option (Desk D)))). option_map (λ (c : HeldCell (Option (Desk D))). c.value) (cell_at 0 l)) held_is) ∙ is))

  pub some_desk : IsSome value
  some_desk = there view key holding.view.seen value (holds.value.2 refl)

  has_place : Has holding.view.held 0
  has_place = subst (λ l. Has l 0) (sym holds.saw.held) (inl refl)

  core_held : before.view.core ≡ holding.view.core
  core_held = ap (λ (v : Sight TreeState (Event Label)). v.core) (sym holds.saw.frame)

  pub may_take : (seat : Sight TreeState (Event Label)) → seat ≡ holding.view → MayTell (Lawful view key) (Stood view key) seat label.Took
  may_take seat same = subst (λ s. MayTell (Lawful view key) (Stood view key) s label.Took) (sym same)
      (may_tell view key holding.view label.Took has_place (subst (λ (z : ℕ × TableName (BoxKey D)). z.0 < z.1.given.layout.cores)
      (λ i. (core_held i, outside.table_is i)) outside.core_is)
      (λ log past. (busy_none view key log value (past.held 0 (Some value) has_place holds.value.2 refl), tt)))

  -- It has told so, with the desk in its hands.
  module _ (desk : Desk D) (value_is : value ≡ Some desk) (replaced after : PenHand D)
      (put : replaced ≡ record holding { held = with_value 0 None holding.held })
      (tells : TellsFact (Lawful view key) (Stood view key) label.Took replaced after) where
    abbrev log : List (Event Label)
    log = tells.told.0

    view_same : replaced.view ≡ holding.view
    view_same = ap (λ (h : PenHand D). h.view) put

    core_same : replaced.view.core ≡ before.view.core
    core_same = ap (λ (v : Sight TreeState (Event Label)). v.core) view_same ∙ ap (λ (v : Sight TreeState (Event Label)). v.core) holds.saw.frame

    abbrev event : Event Label
    event = Told (record { 0 = replaced.view.core }) label.Took

    home : IsHome view key log desk
    home = subst (StandsBox view key log) value_is
        (tells.told.2.kept 0 (Some value) (subst (λ (v : Sight TreeState (Event Label)). Has v.held 0) (sym view_same) has_place)
        (subst (λ (v : Sight TreeState (Event Label)). Stood view key holding.view.first v.seen 0 value) (sym view_same) holds.value.2) refl)

    past_is : past_of key after.view.seen ≡ after_label key.layout replaced.view.core label.Took (past_of key log)
    past_is = ap (past_of key) tells.told.2.entry_last ∙ past_parts key.layout key.faults log (event ∷ []) (first_past key.start)

    lawful_log : LawfulBox key log
    lawful_log = (Rattle.slot_laws.proofs.NodesTold.may_parts key.layout key.faults log (event ∷ []) (first_past key.start)
        (subst (LawfulBox key) tells.told.2.entry_last tells.told.2.legal_seen.told.rules)).0

    fits_taken : DeskFits view key (past_of key after.view.seen) desk
    fits_taken = subst (λ (p : BoxPast). DeskFits view key p desk) (sym past_is)
        (took_fits view key replaced.view.core desk (past_of key log) (past_fits key log lawful_log) home.fits)

    table_same : after.table ≡ t.table
    table_same =
        ap (λ (h : PenHand D). h.table) tells.frame ∙ (ap (λ (h : PenHand D). h.table) put
        ∙ (ap (λ (h : PenHand D). h.table) holds.frame ∙ outside.table_is))

    space_taken : SpaceFits key after.view.seen desk
    space_taken = subst (λ l. SpaceFits key l desk) (sym tells.told.2.entry_last)
        (goes_both key.layout (event ∷ []) desk.ledger.space desk.ledger.space log (first_past key.start) key.space home.space
        (record { next = desk.ledger.space; does = refl }, refl))

    pub space_now : SpaceFits after.table.given after.view.seen desk
    space_now = subst (λ (k : BoxKey D). SpaceFits k after.view.seen desk) (sym (ap (λ (d : TableName (BoxKey D)). d.given) table_same)) space_taken

    pub fits_now : DeskFits view after.table.given (past_at after) desk
    fits_now = subst (λ (k : BoxKey D). DeskFits view k (past_of k after.view.seen) desk) (sym (ap (λ (d : TableName (BoxKey D)). d.given) table_same)) fits_taken

    core_after : after.view.core ≡ before.view.core
    core_after = ap (λ (v : Sight TreeState (Event Label)). v.core) tells.told.2.frame ∙ core_same

    pub holds_now : HoldsBox t after
    holds_now = record {
      table_is = table_same;
      place = subst (λ (d : TableName (BoxKey D)). 0 < d.id.slots) (outside.table_is ∙ sym table_same) outside.place;
      core_is = subst (λ (z : ℕ × TableName (BoxKey D)). z.0 < z.1.given.layout.cores) (λ i. (sym core_after i, (outside.table_is ∙ sym table_same) i))
          outside.core_is;
      holds = ap (λ (h : PenHand D). h.held) tells.frame ∙ (ap (λ (h : PenHand D). h.held) put ∙ ap (with_value 0 None) held_is);
      held = ap (λ (v : Sight TreeState (Event Label)). v.held) tells.told.2.frame
          ∙ (ap (λ (v : Sight TreeState (Event Label)). v.held) view_same
          ∙ (holds.saw.held ∙ ap (λ l. 0 ∷ l) outside.none_held));
      lawful = subst (λ (k : BoxKey D). LawfulBox k after.view.seen) (sym (ap (λ (d : TableName (BoxKey D)). d.given) table_same))
          tells.told.2.legal_seen.told.rules;
      mine = tells.told.2.own ∙ ap (λ c. entries_by event_core c after.view.seen) (core_same ∙ sym core_after);
      busy = ap (λ (k : BoxKey D). (past_of k after.view.seen).busy) (ap (λ (d : TableName (BoxKey D)). d.given) table_same)
          ∙ (ap (λ (p : BoxPast). p.busy) past_is ∙ ap Some (core_same ∙ sym core_after));
    }

    pub own_now : own_at after ≡ own_at before
    own_now =
        ap (λ l. own_from l nothing_told) tells.told.2.mine
        ∙ (own_more replaced.view.mine label.Took replaced.view.core nothing_told
        ∙ (ap (λ (v : Sight TreeState (Event Label)). own_from v.mine nothing_told) view_same
        ∙ ap (λ (v : Sight TreeState (Event Label)). own_from v.mine nothing_told) holds.saw.frame))

    pub mine_now : after.view.mine ≡ before.view.mine ++ Told (record { 0 = before.view.core }) label.Took ∷ []
    mine_now =
        tells.told.2.mine
        ∙ (λ i. (ap (λ (v : Sight TreeState (Event Label)). v.mine) view_same ∙ ap (λ (v : Sight TreeState (Event Label)). v.mine) holds.saw.frame) i
        ++ Told (record { 0 = core_same i }) label.Took ∷ [])

    pub goes_now : PenGoes before after
    goes_now = record {
      frame =
          (λ i. record (tells.frame i) { view = before.view; held = before.held; room = before.room })
          ∙ ((λ i. record (put i) { view = before.view; held = before.held; room = before.room })
          ∙ (λ i. record (holds.frame i) { view = before.view; held = before.held; room = before.room }));
      view =
          (λ i. record (tells.told.2.frame i) { seen = before.view.seen; mine = before.view.mine; held = before.view.held })
          ∙ ((λ i. record (view_same i) { seen = before.view.seen; mine = before.view.mine; held = before.view.held })
          ∙ (λ i. record (holds.saw.frame i) { seen = before.view.seen; mine = before.view.mine; held = before.view.held }));
      seen =
          let one = holds.saw.seen in
          let two = tells.told.2.seen in (
            one.0 ++ (two.0 ++ event ∷ []),
            sym (append_assoc before.view.seen one.0 (two.0 ++ event ∷ []))
                ∙ (ap (λ l. l ++ (two.0 ++ event ∷ [])) one.1
                ∙ (ap (λ (v : Sight TreeState (Event Label)). v.seen ++ (two.0 ++ event ∷ [])) (sym view_same)
                ∙ (sym (append_assoc replaced.view.seen two.0 (event ∷ []))
                ∙ (ap (λ l. l ++ event ∷ []) two.1 ∙ sym tells.told.2.entry_last)))),
          );
    }

    -- what others had told before, of which nothing is its own
    pub takes_now : TakesBox before after
    takes_now =
        let front = holds.saw.seen.0 ++ tells.told.2.seen.0 in
        let seen : after.view.seen ≡ (before.view.seen ++ front) ++ Told (record { 0 = before.view.core }) label.Took ∷ [] =
        tells.told.2.entry_last
        ∙ (ap (λ l. l ++ event ∷ []) (sym tells.told.2.seen.1)
        ∙ (ap (λ (v : Sight TreeState (Event Label)). (v.seen ++ tells.told.2.seen.0) ++ event ∷ []) view_same
        ∙ (ap (λ l. (l ++ tells.told.2.seen.0) ++ event ∷ []) (sym holds.saw.seen.1)
        ∙ (ap (λ l. l ++ event ∷ []) (append_assoc before.view.seen holds.saw.seen.0 tells.told.2.seen.0)
        ∙ ap (λ c. (before.view.seen ++ front) ++ Told (record { 0 = c }) label.Took ∷ []) core_same))))
        in
        record {
          front = front;
          others = none_before before.view.core before.view.seen front before.view.mine after.view.mine after.view.seen label.Took (sym outside.mine)
              (holds_now.mine
              ∙ ap (λ c. entries_by event_core c after.view.seen) core_after) mine_now seen;
          seen_is = seen;
        }

    pub room_now : after.room + 1 ≡ before.room
    room_now =
        let one = holds.room in
        let two = ap (λ (h : PenHand D). h.room) tells.frame ∙ ap (λ (h : PenHand D). h.room) put in
        omega (arith, one, two)
