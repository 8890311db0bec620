-- Fronts of the record through the label by which a commit is durable.
use Rattle.std.proofs.Common.{◌∷◌, ◌++◌, ◌≡◌, ◌∙◌, List, ℕ, [], subst, sym, ap, refl, not, nat_eq, Some}
use Rattle.sfs_base.specs.declared.numbers.CoreId.{CoreId}
use Rattle.sfs_base.proofs.BasicOptions.{some_same}
use Rattle.sfs_image.specs.Super.{Layout}
use Rattle.space_map.specs.Space.{Space}
use Rattle.tree_laws.specs.declared.turns.Turn.{Turn}
use Rattle.disk_nodes.specs.declared.old.OldEntry.{OldEntry}
use Rattle.cut_laws.specs.Rules.{IsOneOf}
use Rattle.cut_laws.specs.Closure.{Flush}
use Rattle.cut_laws.proofs.RunFacts.{in_filter}
use Rattle.flush_laws.specs.Volume.{Volume}
use Rattle.turn_laws.specs.Books.{flush_at}
use Rattle.book_laws.specs.Pairs.{bringing_under}
use Rattle.stamp_table.specs.declared.event.Event.{Event}
use Rattle.stamp_table.specs.declared.event.Event.TheVariants.{Told}
use Rattle.slot_laws.specs.declared.label.Label.{Label}
use Rattle.slot_laws.specs.declared.label.Label.TheVariants as label
use Rattle.slot_laws.specs.Labels.{BoxPast, after_label, OwnTold, owner, SlotFlight}
use Rattle.slot_laws.specs.Slots.{SlotWork}
use Rattle.slot_laws.specs.Grants.{EndsGrant}
use Rattle.slot_laws.specs.Rules.{SettledRule}
use Rattle.slot_laws.proofs.Basics.{at_other, own_same}
use Rattle.slot_image_laws.specs.Images.{RunStart, disk_books, DiskBooks, book_act}
use Rattle.close_laws.specs.Maps.{Numbered}
use Rattle.close_laws.specs.Beside.{BeginsLabels, stamps_under}
use Rattle.close_laws.proofs.Beginning.{PlaceSo}
use Rattle.close_laws.proofs.Opens.{AloftOpen}
use Rattle.close_laws.specs.Fronts.{AreOneRecord, DifferBy, WasOpened}
use Rattle.close_laws.proofs.Words.{run_from, flying, without, not_without, flush_of}
use Rattle.close_laws.proofs.Flying.{FliesSo, FliesAt, books_on, fronts_push, opened_on, differ_fewer, FrontAt}
use Rattle.close_laws.proofs.Fronts.{record_here}
use Rattle.close_laws.proofs.Labelled.{ended_so}

module _ (layout : Layout) (start : Volume) (entries : List OldEntry) (named : Numbered) (first : Space) (begins : BeginsLabels layout start entries first)
    (moment : ℕ) (before : ℕ) where
  abbrev run : RunStart
  run = run_from layout moment start named

  abbrev Place : List (Event Label) → BoxPast → List (Event Label) → Space → Type 0
  Place = PlaceSo layout start entries named first begins moment before

  abbrev Flies : BoxPast → Type 0
  Flies = FliesSo layout start entries named first begins moment before

  abbrev FliesHere : BoxPast → ℕ → Type 0
  FliesHere = FliesAt layout start entries named first begins moment before

  abbrev Fronts : List Turn → Type 0
  Fronts turns = AreOneRecord start named run turns

  module _ (done : List (Event Label)) (past : BoxPast) (core : CoreId) (rest : List (Event Label)) (space next : Space) (flies : Flies past)
      (fronts : Fronts past.turns) where
    abbrev Here : Label → Type 0
    Here fact = Place done past (Told core fact ∷ rest) space

    abbrev There : Label → Type 0
    There fact = Place (done ++ Told core fact ∷ []) (after_label layout core.0 fact past) rest next

    abbrev Then : Label → Type 0
    Then fact = Flies (after_label layout core.0 fact past) × Fronts (after_label layout core.0 fact past).turns

    abbrev dones : List ℕ
    dones = stamps_under named past.done

    abbrev opens : List ℕ
    opens = stamps_under named past.opens

    abbrev FrontSo : List Turn → Type 0
    FrontSo = FrontAt layout start entries named first begins moment before dones opens

    pub settled_so : (k : ℕ) (turn : Turn) → Here (label.Settled k turn) → There (label.Settled k turn) → EndsGrant past.opens turn.commit space next
        → (bringing_under named.pairs turn.stamp.0).flush ≡ flush_at turn → Then (label.Settled k turn)
    settled_so k turn at then ends tie = (
      so,
      fronts_push layout start entries named first begins moment before past.turns turn fronts
          (record_here layout start entries named first begins moment before (done ++ Told core (label.Settled k turn) ∷ [])
          (after_label layout core.0 (label.Settled k turn) past) rest next
          then so),
    )
      where
        rule : SettledRule layout before k turn past
        rule = at.drawing.owing.may.0.1

        aloft : AloftOpen named past.opens rule.has.work
        aloft = at.drawing.opens.aloft k rule.has.work rule.has.there rule.has.aloft

        stamp : turn.stamp.0 ≡ named.stamps ends.own.commit.number
        stamp =
            ap (λ (f : Flush). f.stamp) rule.is.flush_is
            ∙ (aloft.stamp_is ∙ ap named.stamps (sym rule.is.commit_is ∙ sym ends.own.number_is))

        flying_is : flying run (past.turns ++ turn ∷ []) ≡ without turn.commit (flying run past.turns)
        flying_is =
            ap (λ (b : DiskBooks). b.flying) (books_on layout start entries named first begins moment before past.turns turn)
            ∙ ap (λ a. (book_act run.gives a turn.commit (disk_books run past.turns)).flying) rule.is.did_is

        flown_then : (other : ℕ) → IsOneOf (flying run (past.turns ++ turn ∷ [])) other
            → FliesHere (after_label layout core.0 (label.Settled k turn) past) other × WasOpened named (past.turns ++ turn ∷ []) other
        flown_then other one =
            let was = in_filter (λ n. not (nat_eq n turn.commit)) (flying run past.turns) other (subst (λ l. IsOneOf l other) flying_is one) in
            let flight = flies.flown other was.0 in (
              record {
                core = flight.core;
                flight = flight.flight;
                is = ap (λ f. f flight.core) (own_same (λ (o : OwnTold). o.flight) past.owns core.0 (past.owns core.0) refl) ∙ flight.is;
                number_is = flight.number_is;
                opened = flight.opened;
                waits = at_other past.waits (owner layout k) (Some turn) flight.core (λ same.
                    not_without turn.commit other was.1 (other_is flight same)) ∙ flight.waits;
              },
              opened_on layout start entries named first begins moment before past.turns (turn ∷ []) other (flies.opened other was.0),
            )
          where
            other_is : (flight : FliesHere past other) → flight.core ≡ owner layout k → other ≡ turn.commit
            other_is flight same =
                let by = at.drawing.fits.flights.aloft k rule.has.work rule.has.there rule.has.aloft in
                let one_flight : flight.flight ≡ by.flight =
                some_same (sym flight.is ∙ (ap (λ c. (past.owns c).flight) same ∙ by.flies_is)) in
                let there : past.slots k ≡ Some by.flies.work = subst (λ s. past.slots s ≡ Some by.flies.work) by.slot_is by.flies.there in
                let work_is : by.flies.work ≡ rule.has.work = some_same (sym there ∙ rule.has.there) in
                sym flight.number_is ∙ (ap (λ (f : SlotFlight). f.commit) one_flight
                ∙ (sym by.flies.commit ∙ (ap (λ (w : SlotWork). w.commit) work_is ∙ sym rule.is.commit_is)))

        so : Flies (after_label layout core.0 (label.Settled k turn) past)
        so =
            ended_so layout start entries named first begins moment before done past core rest space next flies fronts
            (label.Settled k turn) at turn.commit ends.own past.turns turn refl rule.is.did_is
            (flush_of named ends.own.commit.number turn stamp tie) stamp refl refl
            (subst (DifferBy named.stamps) (sym flying_is) (differ_fewer named.stamps (λ n. not (nat_eq n turn.commit)) (flying run past.turns) flies.once))
            flown_then
