-- A core brings the box home, with a desk that fits.
use Rattle.std.proofs.Common.{◌≡◌, ◌+◌, ◌<◌, ◌∷◌, ◌++◌, ◌∙◌, ℕ, List, [], length, reverse, Option, Some, None, refl, sym, ap, subst, arith, IsSome}
use Rattle.sfs_dev.specs.Disk.{View}
use Rattle.tree_laws.specs.Tree.{TreeState}
use Rattle.stamp_table.specs.declared.event.Event.{Event}
use Rattle.stamp_table.specs.declared.event.Event.TheVariants.{Told}
use Rattle.stamp_table.specs.declared.held.HeldCell.{HeldCell}
use Rattle.stamp_table.specs.declared.view.View.{View as Sight}
use Rattle.stamp_table.specs.Events.{event_core}
use Rattle.stamp_table.specs.Rule.{entries_by}
use Rattle.stamp_table.specs.Hand.{Desk as TableName, places_of}
use Rattle.stamp_table.specs.Table.{TableState, TellsFact, MayTell, LetsGo, Stands, EachFrom, cell_at, with_value, left_below}
use Rattle.stamp_table.proofs.Logs.{own_comes}
use Rattle.slot_laws.specs.declared.label.Label.{Label}
use Rattle.slot_laws.specs.declared.label.Label.TheVariants as label
use Rattle.slot_laws.specs.Labels.{BoxPast, after_label, first_past, own_from, nothing_told}
use Rattle.slot_laws.proofs.NodesTold.{past_parts}
use Rattle.slot_laws.proofs.GrantsTold.{goes_both}
use Rattle.disk_box.specs.declared.key.BoxKey.{BoxKey}
use Rattle.disk_box.specs.declared.desk.Desk.{Desk}
use Rattle.disk_box.specs.Box.{past_of, SpaceFits, IsHome}
use Rattle.disk_box.specs.Desk.{DeskFits}
use Rattle.disk_box.specs.Pens.{PenHand, past_at, own_at, IsOutside, HoldsBox, PenGoes}
use Rattle.disk_box.proofs.Telling.{Lawful, Stood, may_tell_here, own_more, seen_is, goes_told}
use Rattle.disk_box.proofs.Entered.{gave_fits, past_fits}

-- A core that has the box tells that it brings it home, and lets go of it with a desk that fits.
module _ {D : Type 0} (view : D → View) (t : TableState (BoxKey D)) (before : PenHand D) (holds : HoldsBox t before) (desk : Desk D)
    (fits : DeskFits view before.table.given (past_at before) desk) (space : SpaceFits before.table.given before.view.seen desk) where
  abbrev key : BoxKey D
  key = before.table.given

  pub may_leave : MayTell (Lawful view key) (Stood view key) before.view label.Gave
  may_leave = may_tell_here view t before holds label.Gave holds.busy tt

  module _ (told put : PenHand D) (tells : TellsFact (Lawful view key) (Stood view key) label.Gave before told)
      (put_is : put ≡ record told { held = with_value 0 (Some desk) told.held }) where
    held_told : told.held ≡ record { place = 0; value = None } ∷ []
    held_told = ap (λ (h : PenHand D). h.held) tells.frame ∙ holds.holds

    pub told_cell : IsSome (cell_at 0 told.held)
    told_cell = subst (λ (l : List (HeldCell (Option (Desk D)))). IsSome (cell_at 0 l)) (sym held_told) refl

    held_put : put.held ≡ record { place = 0; value = Some desk } ∷ []
    held_put = ap (λ (h : PenHand D). h.held) put_is ∙ ap (with_value 0 (Some desk)) held_told

    seen_same : put.view.seen ≡ told.view.seen
    seen_same = ap (λ (h : PenHand D). h.view.seen) put_is

    home : IsHome view key told.view.seen desk
    home =
        let event = Told (record { 0 = before.view.core }) label.Gave in
        let seen = seen_is view t before holds label.Gave told tells in
        let same : past_of key told.view.seen ≡ after_label key.layout before.view.core label.Gave (past_at before) =
        ap (past_of key) seen ∙ past_parts key.layout key.faults before.view.seen (event ∷ []) (first_past key.start)
        in
        record {
          fits = subst (λ (p : BoxPast). DeskFits view key p desk) (sym same)
              (gave_fits view key before.view.core desk (past_at before) (past_fits key before.view.seen holds.lawful) fits);
          space = subst (λ l. SpaceFits key l desk) (sym seen)
              (goes_both key.layout (event ∷ []) desk.ledger.space desk.ledger.space before.view.seen (first_past key.start) key.space space
              (record { next = desk.ledger.space; does = refl }, refl));
          busy = ap (λ (p : BoxPast). p.busy) same;
        }

    pub goes_home : EachFrom 0 (Stands (Lawful view key) (Stood view key) put.view) put.held
    goes_home = subst (EachFrom 0 (Stands (Lawful view key) (Stood view key) put.view)) (sym held_put)
        ((λ low zero. subst (λ l. IsHome view key l desk) (sym seen_same) home), tt)

    module _ (after : PenHand D) (lets : LetsGo put after) (left : after.held ≡ left_below 0 put.held) (places : after.view.held ≡ reverse (places_of after.held)) where
      none_held : after.held ≡ []
      none_held = left ∙ ap (left_below 0) held_put

      table_same : after.table ≡ before.table
      table_same = ap (λ (h : PenHand D). h.table) lets.frame ∙ (ap (λ (h : PenHand D). h.table) put_is ∙ ap (λ (h : PenHand D). h.table) tells.frame)

      core_same : after.view.core ≡ before.view.core
      core_same =
          ap (λ (v : Sight TreeState (Event Label)). v.core) lets.view
          ∙ (ap (λ (h : PenHand D). h.view.core) put_is ∙ ap (λ (v : Sight TreeState (Event Label)). v.core) tells.told.2.frame)

      pub seen_left : after.view.seen ≡ before.view.seen ++ Told (record { 0 = before.view.core }) label.Gave ∷ []
      seen_left =
          ap (λ (v : Sight TreeState (Event Label)). v.seen) lets.view
          ∙ (seen_same ∙ seen_is view t before holds label.Gave told tells)

      pub mine_left : after.view.mine ≡ before.view.mine ++ Told (record { 0 = before.view.core }) label.Gave ∷ []
      mine_left =
          ap (λ (v : Sight TreeState (Event Label)). v.mine) lets.view
          ∙ (ap (λ (h : PenHand D). h.view.mine) put_is ∙ tells.told.2.mine)

      own_seen : after.view.mine ≡ entries_by event_core after.view.core after.view.seen
      own_seen =
          let event = Told (record { 0 = before.view.core }) label.Gave in
          mine_left
          ∙ (ap (λ l. l ++ event ∷ []) holds.mine
          ∙ (sym (own_comes event_core before.view.core before.view.seen event refl)
          ∙ (λ i. entries_by event_core (sym core_same i) (sym seen_left i))))

      pub outside_now : IsOutside t after
      outside_now = record {
        table_is = table_same ∙ holds.table_is;
        place = subst (λ (d : TableName (BoxKey D)). 0 < d.id.slots) (sym table_same) holds.place;
        core_is = subst (λ (z : ℕ × TableName (BoxKey D)). z.0 < z.1.given.layout.cores) (λ i. (sym core_same i, sym table_same i)) holds.core_is;
        holds_none = none_held;
        none_held = places ∙ ap (λ (l : List (HeldCell (Option (Desk D)))). reverse (places_of l)) none_held;
        mine = own_seen;
      }

      pub own_left : own_at after ≡ own_at before
      own_left =
          ap (λ (v : Sight TreeState (Event Label)). own_from v.mine nothing_told) lets.view
          ∙ (ap (λ (h : PenHand D). own_from h.view.mine nothing_told) put_is
          ∙ (ap (λ l. own_from l nothing_told) tells.told.2.mine ∙ own_more before.view.mine label.Gave before.view.core nothing_told))

      pub goes_left : PenGoes before after
      goes_left =
          let told_goes = goes_told view t before holds label.Gave told tells in
          record {
            frame =
                (λ i. record (lets.frame i) { view = before.view; held = before.held; room = before.room })
                ∙ ((λ i. record (put_is i) { view = before.view; held = before.held; room = before.room }) ∙ told_goes.frame);
            view =
                (λ i. record (lets.view i) { seen = before.view.seen; mine = before.view.mine; held = before.view.held })
                ∙ ((λ i. record ((put_is i).view) { seen = before.view.seen; mine = before.view.mine; held = before.view.held }) ∙ told_goes.view);
            seen = (
              told_goes.seen.0,
              told_goes.seen.1 ∙ (ap (λ (h : PenHand D). h.view.seen) (sym put_is) ∙ ap (λ (v : Sight TreeState (Event Label)). v.seen) (sym lets.view)),
            );
          }

      pub room_left : after.room ≡ before.room + 1
      room_left =
          let room = lets.room in
          let one = ap length none_held in
          let two = ap length held_put in
          let three = ap (λ (h : PenHand D). h.room) put_is ∙ ap (λ (h : PenHand D). h.room) tells.frame in
          omega (arith, room, one, two, three)
