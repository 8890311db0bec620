-- Fronts of the record through the label that opens a gate.
use Rattle.std.proofs.Common.{◌∷◌, ◌++◌, ◌≡◌, ◌≢◌, ◌∙◌, List, ℕ, [], subst, sym, ap, refl, true, Bool, false, Some, inr, Option, None, inl, append_assoc, option_map}
use Rattle.sfs_base.specs.declared.numbers.CoreId.{CoreId}
use Rattle.sfs_base.proofs.BasicTruth.{false_not_true}
use Rattle.sfs_base.proofs.BasicOptions.{some_same}
use Rattle.sfs_image.specs.Super.{Layout}
use Rattle.space_map.specs.Space.{Space}
use Rattle.tree_laws.specs.declared.turns.TurnAct.TheVariants as act
use Rattle.tree_laws.specs.declared.turns.Turn.{Turn}
use Rattle.tree_laws.specs.declared.turns.TurnAct.{TurnAct}
use Rattle.disk_nodes.specs.declared.old.OldEntry.{OldEntry}
use Rattle.cut_laws.specs.Rules.{IsOneOf}
use Rattle.cut_laws.specs.Closure.{Flush}
use Rattle.cut_laws.proofs.Basics.{in_either}
use Rattle.cut_laws.proofs.Listed.{to_map}
use Rattle.flush_laws.specs.Volume.{Volume}
use Rattle.turn_laws.specs.Books.{flush_at}
use Rattle.merge_laws.proofs.Blocks.{same_or_not}
use Rattle.book_laws.specs.Pairs.{bringing_under}
use Rattle.stamp_table.specs.declared.event.Event.{Event}
use Rattle.stamp_table.specs.declared.event.Event.TheVariants.{Told}
use Rattle.slot_laws.specs.declared.label.Label.{Label}
use Rattle.slot_laws.specs.declared.label.Label.TheVariants as label
use Rattle.slot_laws.specs.Labels.{BoxPast, after_label, own_label, OwnTold, SlotFlight, opened_flight}
use Rattle.slot_laws.specs.Slots.{SlotWork, may_be_open}
use Rattle.slot_laws.specs.Nodes.{ReservedCommit}
use Rattle.slot_laws.specs.Rules.{OpenedRule}
use Rattle.slot_laws.proofs.Basics.{at_here}
use Rattle.slot_image_laws.specs.Images.{RunStart, disk_books, DiskBooks, book_act}
use Rattle.close_laws.specs.Maps.{Numbered}
use Rattle.close_laws.specs.Beside.{BeginsLabels, stamps_under}
use Rattle.close_laws.proofs.Beginning.{PlaceSo}
use Rattle.close_laws.proofs.Opens.{AloftOpen}
use Rattle.close_laws.specs.Fronts.{AreOneRecord}
use Rattle.close_laws.proofs.Words.{run_from, flying, no_end, flush_of}
use Rattle.close_laws.proofs.Flying.{FliesSo, FliesAt, front_quiet, books_on, books_quiet, fronts_push, front_opened, FrontAt}
use Rattle.close_laws.proofs.Fronts.{flight_other, from_front}
use Rattle.close_laws.proofs.Labelled.{as_one, here_front, apart_so}

module _ (layout : Layout) (start : Volume) (entries : List OldEntry) (named : Numbered) (first : Space) (begins : BeginsLabels layout start entries first)
    (moment : ℕ) (before : ℕ) where
  abbrev run : RunStart
  run = run_from layout moment start named

  abbrev Place : List (Event Label) → BoxPast → List (Event Label) → Space → Type 0
  Place = PlaceSo layout start entries named first begins moment before

  abbrev Flies : BoxPast → Type 0
  Flies = FliesSo layout start entries named first begins moment before

  abbrev FliesHere : BoxPast → ℕ → Type 0
  FliesHere = FliesAt layout start entries named first begins moment before

  abbrev Fronts : List Turn → Type 0
  Fronts turns = AreOneRecord start named run turns

  module _ (done : List (Event Label)) (past : BoxPast) (core : CoreId) (rest : List (Event Label)) (space next : Space) (flies : Flies past)
      (fronts : Fronts past.turns) where
    abbrev Here : Label → Type 0
    Here fact = Place done past (Told core fact ∷ rest) space

    abbrev There : Label → Type 0
    There fact = Place (done ++ Told core fact ∷ []) (after_label layout core.0 fact past) rest next

    abbrev Then : Label → Type 0
    Then fact = Flies (after_label layout core.0 fact past) × Fronts (after_label layout core.0 fact past).turns

    abbrev dones : List ℕ
    dones = stamps_under named past.done

    abbrev opens : List ℕ
    opens = stamps_under named past.opens

    abbrev FrontSo : List Turn → Type 0
    FrontSo = FrontAt layout start entries named first begins moment before dones opens

    pub opened_so : (k : ℕ) (ok : Bool) (cut opened : Turn) → Here (label.Opened k ok cut opened)
        → (bringing_under named.pairs opened.stamp.0).flush ≡ flush_at opened → Then (label.Opened k ok cut opened)
    opened_so k ok cut opened at tie = (
      from_front layout start entries named first begins moment before done past core rest space flies (after_label layout core.0 fact past)
          opens (subst FrontSo whole front_two) flown_then,
      subst Fronts whole
          (fronts_push layout start entries named first begins moment before (past.turns ++ cut ∷ []) opened
          (fronts_push layout start entries named first begins moment before past.turns cut fronts
          (as_one layout start entries named first begins moment before done past core rest space next flies fronts (past.turns ++ cut ∷ []) front_one))
          (as_one layout start entries named first begins moment before done past core rest space next flies fronts
          ((past.turns ++ cut ∷ []) ++ opened ∷ []) front_two)),
    )
      where
        fact : Label
        fact = label.Opened k ok cut opened

        rule : OpenedRule layout before core.0 k cut opened past
        rule = at.drawing.owing.may.0.1

        work : SlotWork
        work = rule.has.work

        aloft : AloftOpen named past.opens rule.has.work
        aloft = at.drawing.opens.aloft k rule.has.work rule.has.there rule.has.aloft

        cut_opens : cut.act ≢ act.Opened
        cut_opens e = let never : act.CutAt ≡ act.Opened = sym rule.cut_is.did_is ∙ e in absurd (cc never)

        front_one : FrontSo (past.turns ++ cut ∷ [])
        front_one =
            front_quiet layout start entries named first begins moment before dones opens past.turns cut cut_opens
            (no_end act.CutAt cut rule.cut_is.did_is (λ e. cc e))
            (here_front layout start entries named first begins moment before done past core rest space next flies fronts (label.Opened k ok cut opened) at)

        one_books : disk_books run (past.turns ++ cut ∷ []) ≡ disk_books run past.turns
        one_books =
            books_quiet layout start entries named first begins moment before past.turns cut cut_opens (no_end act.CutAt cut rule.cut_is.did_is (λ e. cc e))

        -- a flight whose gate was written is not the one whose gate is shut
        away : (other : ℕ) → FliesHere past other → other ≢ rule.has.work.commit
        away other flight same = elim (at.drawing.fits.flights.each flight.core flight.flight flight.is).is [
          | inr landed ↦ absurd (let never : ◌≡◌ {A = Option Turn} None (Some landed.turn) = sym flight.waits ∙ landed.waits_is in cc never)
          | inl flying_one ↦
              let slots = at.drawing.fits.numbers.numbered flight.flight.slot k flying_one.work rule.has.work flying_one.there rule.has.there
              (flying_one.commit ∙ (flight.number_is ∙ same)) in
              let work_is : flying_one.work ≡ rule.has.work =
              some_same (sym flying_one.there ∙ (ap past.slots slots ∙ rule.has.there)) in
              let never : false ≡ true =
              sym (ap may_be_open (ap (λ (w : SlotWork). w.known.gate_left) work_is ∙ rule.has.gate_is)) ∙ (flying_one.left ∙ flight.opened) in
              false_not_true never
        ]

        stamp : opened.stamp.0 ≡ named.stamps rule.has.work.commit
        stamp = ap (λ (f : Flush). f.stamp) rule.opened_is.flush_is ∙ aloft.stamp_is

        front_two : FrontSo ((past.turns ++ cut ∷ []) ++ opened ∷ [])
        front_two =
            front_opened layout start entries named first begins moment before dones opens
            (past.turns ++ cut ∷ []) opened rule.has.work.commit front_one rule.opened_is.did_is
            rule.opened_is.commit_is opens_there
            (λ other one.
            let flight = flies.flown other (subst (λ (b : DiskBooks). IsOneOf b.flying other) one_books one) in
            λ same. apart_so layout start entries named first begins moment before done past core rest space next flies fronts
            (label.Opened k ok cut opened) at aloft.one aloft.among other flight (λ e. away other flight (e ∙ aloft.number_is))
            (same ∙ ap named.stamps (sym aloft.number_is)))
            (flush_of named rule.has.work.commit opened stamp tie) stamp
          where
            opens_there : IsOneOf opens (named.stamps rule.has.work.commit)
            opens_there =
                subst (λ n. IsOneOf (stamps_under named past.opens) (named.stamps n)) aloft.number_is
                (to_map (λ (c : ReservedCommit). named.stamps c.number) past.opens aloft.one aloft.among)

        whole : (past.turns ++ cut ∷ []) ++ opened ∷ [] ≡ past.turns ++ cut ∷ opened ∷ []
        whole = append_assoc past.turns (cut ∷ []) (opened ∷ [])

        flown_then : (other : ℕ) → IsOneOf (flying run (past.turns ++ cut ∷ opened ∷ [])) other
            → FliesHere (after_label layout core.0 (label.Opened k ok cut opened) past) other
        flown_then other one = elim (in_either (flying run past.turns) (rule.has.work.commit ∷ []) other
            (subst (λ l. IsOneOf l other) flying_is one)) [
              | inl old ↦ kept other (flies.flown other old)
              | inr new ↦ elim new [
                | inl same ↦ subst (FliesHere (after_label layout core.0 (label.Opened k ok cut opened) past)) same fresh
                | inr never ↦
                    absurd never
              ]
            ]
          where
            flying_is : flying run (past.turns ++ cut ∷ opened ∷ []) ≡ flying run past.turns ++ rule.has.work.commit ∷ []
            flying_is =
                ap (flying run) (sym whole)
                ∙ (ap (λ (b : DiskBooks). b.flying) (books_on layout start entries named first begins moment before (past.turns ++ cut ∷ []) opened)
                ∙ ap (λ (p : TurnAct × ℕ × DiskBooks). (book_act run.gives p.0 p.1 p.2).flying)
                (λ i. (rule.opened_is.did_is i, rule.opened_is.commit_is i, one_books i)))

            own_flight : (flight : SlotFlight) → (past.owns core.0).flight ≡ Some flight
                → ((after_label layout core.0 (label.Opened k ok cut opened) past).owns core.0).flight ≡ Some (opened_flight flight)
            own_flight flight is =
                ap (λ (o : OwnTold). o.flight) (at_here past.owns core.0 (own_label (label.Opened k ok cut opened) (past.owns core.0)))
                ∙ ap (option_map opened_flight) is

            kept : (number : ℕ) → FliesHere past number → FliesHere (after_label layout core.0 (label.Opened k ok cut opened) past) number
            kept number flight = elim (same_or_not flight.core core.0) [
              | inr apart ↦ flight_other layout start entries named first begins moment before done past core rest space flies
                  (label.Opened k ok cut opened) number flight apart refl
              | inl same ↦ record {
                core = core.0;
                flight = opened_flight flight.flight;
                is = own_flight flight.flight (ap (λ c. (past.owns c).flight) (sym same) ∙ flight.is);
                number_is = flight.number_is;
                opened = refl;
                waits = ap past.waits (sym same) ∙ flight.waits;
              }
            ]

            fresh : FliesHere (after_label layout core.0 (label.Opened k ok cut opened) past) rule.has.work.commit
            fresh =
                let by = at.drawing.fits.flights.aloft k rule.has.work rule.has.there rule.has.aloft in
                let there : past.slots k ≡ Some by.flies.work = subst (λ s. past.slots s ≡ Some by.flies.work) by.slot_is by.flies.there in
                let work_is : by.flies.work ≡ rule.has.work = some_same (sym there ∙ rule.has.there) in
                record {
                  core = core.0;
                  flight = opened_flight by.flight;
                  is = own_flight by.flight (ap (λ c. (past.owns c).flight) (sym rule.own) ∙ by.flies_is);
                  number_is = sym by.flies.commit ∙ ap (λ (w : SlotWork). w.commit) work_is;
                  opened = refl;
                  waits = ap past.waits (sym rule.own) ∙ by.flies.none;
                }
