-- That each front of the record is one record, along labels.
use Rattle.std.proofs.Common.{◌≡◌, ◌∙◌, ◌∷◌, ◌≢◌, List, ℕ, inl, inr, Option, None, Some, sym, subst, ap, map}
use Rattle.sfs_base.specs.declared.numbers.CoreId.{CoreId}
use Rattle.sfs_image.specs.Super.{Layout}
use Rattle.space_map.specs.Space.{Space}
use Rattle.tree_laws.specs.declared.turns.Turn.{Turn}
use Rattle.disk_nodes.specs.declared.old.OldEntry.{OldEntry}
use Rattle.cut_laws.specs.Rules.{IsOneOf}
use Rattle.cut_laws.proofs.Listed.{to_map}
use Rattle.flush_laws.specs.Volume.{Volume}
use Rattle.merge_laws.specs.Plays.{durables}
use Rattle.book_laws.specs.Imagined.{flush_brought}
use Rattle.book_laws.specs.Walk.{brought_under}
use Rattle.stamp_table.specs.declared.event.Event.{Event}
use Rattle.stamp_table.specs.declared.event.Event.TheVariants.{Told}
use Rattle.slot_laws.specs.declared.label.Label.{Label}
use Rattle.slot_laws.specs.Labels.{BoxPast, own_label, box_label, after_label, OwnTold}
use Rattle.slot_laws.specs.Slots.{SlotWork}
use Rattle.slot_laws.specs.Nodes.{ReservedCommit}
use Rattle.slot_laws.proofs.Basics.{at_other, own_same}
use Rattle.slot_image_laws.specs.Images.{RunStart}
use Rattle.close_laws.specs.Maps.{Numbered}
use Rattle.close_laws.specs.Beside.{BeginsLabels, stamps_under}
use Rattle.close_laws.proofs.Beginning.{PlaceSo}
use Rattle.close_laws.proofs.Opens.{AloftOpen}
use Rattle.close_laws.specs.Fronts.{IsOneRecord, DifferBy, WasOpened}
use Rattle.close_laws.proofs.Words.{run_from, flying}
use Rattle.close_laws.proofs.Flying.{FliesAt, FliesSo, FrontAt, as_record}

module _ (layout : Layout) (start : Volume) (entries : List OldEntry) (named : Numbered) (first : Space) (begins : BeginsLabels layout start entries first)
    (moment : ℕ) (before : ℕ) where
  abbrev Flies : BoxPast → Type 0
  Flies = FliesSo layout start entries named first begins moment before

  abbrev run : RunStart
  run = run_from layout moment start named

  module _ (done : List (Event Label)) (past : BoxPast) (rest : List (Event Label)) (space : Space)
      (at : PlaceSo layout start entries named first begins moment before done past rest space) (flies : Flies past) where
    -- the commit of a flight is an open one
    pub aloft_of : (number : ℕ) → FliesAt layout start entries named first begins moment before past number
        → (work : SlotWork) × (work.commit ≡ number) × AloftOpen named past.opens work
    aloft_of number one = elim (at.drawing.fits.flights.each one.core one.flight one.is).is [
      | inl flying_one ↦ (
        flying_one.work,
        flying_one.commit ∙ one.number_is,
        at.drawing.opens.aloft one.flight.slot flying_one.work flying_one.there flying_one.aloft,
      )
      | inr landed ↦ absurd (let never : ◌≡◌ {A = Option Turn} None (Some landed.turn) = sym one.waits ∙ landed.waits_is in cc never)
    ]

    pub flies_open : (number : ℕ) → FliesAt layout start entries named first begins moment before past number
        → IsOneOf (stamps_under named past.opens) (named.stamps number)
    flies_open number one =
        let aloft = aloft_of number one in
        subst (λ n. IsOneOf (stamps_under named past.opens) (named.stamps n)) (aloft.2.number_is ∙ aloft.1)
        (to_map (λ (c : ReservedCommit). named.stamps c.number) past.opens aloft.2.one aloft.2.among)

    pub front_here : FrontAt layout start entries named first begins moment before (stamps_under named past.done) (stamps_under named past.opens) past.turns
    front_here = record {
      place = record { volume = at.beside.volume; imagines = at.beside.imagines; beside = at.beside.beside at.beside.volume at.beside.imagines };
      flushes = flies.flushes;
      base = at.books.base;
      flies = λ number one. (flies_open number (flies.flown number one), flies.opened number one);
      own = flies.own;
      differ = flies.differ;
      once = flies.once;
    }

    pub record_here : IsOneRecord start named run past.turns
    record_here =
        as_record layout start entries named first begins moment before (stamps_under named past.done) (stamps_under named past.opens) past.turns front_here

  module _ (done : List (Event Label)) (past : BoxPast) (core : CoreId) (rest : List (Event Label)) (space : Space) (flies : Flies past) where
    abbrev Here : Label → Type 0
    Here fact = PlaceSo layout start entries named first begins moment before done past (Told core fact ∷ rest) space

    abbrev FliesHere : BoxPast → ℕ → Type 0
    FliesHere = FliesAt layout start entries named first begins moment before

    -- flights that a label leaves
    pub flight_stays : (fact : Label) → (own_label fact (past.owns core.0)).flight ≡ (past.owns core.0).flight
        → (box_label layout core.0 fact past).waits ≡ past.waits → (number : ℕ) → FliesHere past number → FliesHere (after_label layout core.0 fact past) number
    flight_stays fact same same_waits number one = record {
      core = one.core;
      flight = one.flight;
      is = ap (λ f. f one.core) (own_same (λ (o : OwnTold). o.flight) past.owns core.0 (own_label fact (past.owns core.0)) same) ∙ one.is;
      number_is = one.number_is;
      opened = one.opened;
      waits = ap (λ f. f one.core) same_waits ∙ one.waits;
    }

    -- flights of other cores
    pub flight_other : (fact : Label) (number : ℕ) (one : FliesHere past number) → one.core ≢ core.0
        → (box_label layout core.0 fact past).waits one.core ≡ past.waits one.core → FliesHere (after_label layout core.0 fact past) number
    flight_other fact number one apart same_waits = record {
      core = one.core;
      flight = one.flight;
      is = ap (λ (o : OwnTold). o.flight) (at_other past.owns core.0 (own_label fact (past.owns core.0)) one.core apart) ∙ one.is;
      number_is = one.number_is;
      opened = one.opened;
      waits = same_waits ∙ one.waits;
    }

    -- a label without a turn, which ends nothing
    pub still : (fact : Label) → (after_label layout core.0 fact past).turns ≡ past.turns → (after_label layout core.0 fact past).done ≡ past.done
        → ((number : ℕ) → FliesHere past number → FliesHere (after_label layout core.0 fact past) number) → Flies (after_label layout core.0 fact past)
    still fact turns done_is stays = record {
      flown = λ number one. stays number (flies.flown number (subst (λ t. IsOneOf (flying run t) number) turns one));
      once = subst (λ t. DifferBy named.stamps (flying run t)) (sym turns) flies.once;
      differ = subst (λ d. DifferBy (λ stamp. stamp) (stamps_under named d)) (sym done_is) flies.differ;
      flushes = ap (λ d. map flush_brought (brought_under named.pairs (stamps_under named d))) done_is ∙ (flies.flushes ∙ ap durables (sym turns));
      opened = λ number one. subst (λ t. WasOpened named t number) (sym turns) (flies.opened number (subst (λ t. IsOneOf (flying run t) number) turns one));
      own = λ stamp one. flies.own stamp (subst (λ d. IsOneOf (stamps_under named d) stamp) done_is one);
    }

    -- what of one record is so of the flights
    pub from_front : (later : BoxPast) (opens : List ℕ)
        → FrontAt layout start entries named first begins moment before (stamps_under named later.done) opens later.turns
        → ((number : ℕ) → IsOneOf (flying run later.turns) number → FliesHere later number) → Flies later
    from_front later opens front flown = record {
      flown = flown;
      once = front.once;
      differ = front.differ;
      flushes = front.flushes;
      opened = λ number one. (front.flies number one).1;
      own = front.own;
    }
