-- What is told by the rules goes on to fit, and makes the record.
use Rattle.std.proofs.Common.{◌≡◌, ◌≤◌, ◌∷◌, ◌++◌, ◌∙◌, ℕ, Bool, true, false, cond, List, [], Option, Some, None, inl, inr, refl, sym, ap, subst, nat_eq, length, arith}
use Rattle.std.proofs.lemmas.List.{append-nil}
use Rattle.sfs_base.proofs.BasicNumbers.{same_number, not_same}
use Rattle.sfs_base.proofs.BasicTruth.{false_not_true}
use Rattle.sfs_image.specs.Super.{Layout}
use Rattle.tree_laws.specs.declared.turns.Turn.{Turn}
use Rattle.tree_laws.specs.declared.turns.TurnAct.{TurnAct}
use Rattle.tree_laws.specs.declared.turns.TurnAct.TheVariants as act
use Rattle.cut_laws.specs.Rules.{IsOneOf}
use Rattle.cut_laws.proofs.Basics.{below_or}
use Rattle.turn_laws.specs.Books.{CountsFaults}
use Rattle.cut_laws.proofs.Listed.{to_filter}
use Rattle.merge_laws.specs.Pens.{failed_in, turns_of_core}
use Rattle.merge_laws.proofs.Blocks.{same_or_not}
use Rattle.merge_laws.proofs.Lists.{among_at, nothing_there}
use Rattle.stamp_table.specs.declared.event.Event.{Event}
use Rattle.stamp_table.specs.declared.event.Event.TheVariants.{Called, Told}
use Rattle.stamp_table.specs.Events.{event_core}
use Rattle.stamp_table.specs.Rule.{entries_by}
use Rattle.slot_laws.specs.declared.label.Label.{Label}
use Rattle.slot_laws.specs.Labels.{OwnTold, own_label, BoxPast, first_past, after_label, past_from, own_from, nothing_told}
use Rattle.slot_laws.specs.Fits.{waiting_turns, PastFits}
use Rattle.slot_laws.specs.Laws.{LawfulFits, OwnIs, PensMakeTheRecord, LabelsCountFaults, LabelsRise, LabelsMergePens, AreOfCores, IsAtRest}
use Rattle.slot_laws.proofs.Basics.{at_same, at_other, none_there}
use Rattle.slot_laws.proofs.Labels.{label_fits}

pub lawful_fits : LawfulFits
lawful_fits layout before [] past fits may = fits
lawful_fits layout before (Called entry ∷ log) past fits may = absurd may.0
lawful_fits layout before (Told core fact ∷ log) past fits may =
    lawful_fits layout before log (after_label layout core.0 fact past) (label_fits layout before core.0 past fits fact may.0.1) may.1

-- before the first label all fits
pub first_fits : (layout : Layout) (before moment : ℕ) → PastFits layout before (first_past moment)
first_fits layout before moment = record {
  flights = record { each = λ core flight is. none_there is; aloft = λ k work is aloft. none_there is; idle = λ core is. refl };
  turns = λ core. refl;
  numbers = record {
    below = λ k work is. none_there is;
    stamped = λ k work is. none_there is;
    given = λ core number is. none_there is;
    once = λ core other number is also. none_there is;
    unused = λ core number k work is there. none_there is;
    rests = λ core number is. none_there is;
    beyond = λ k above. refl;
    numbered = λ j k one other is there same. none_there is;
    drawn = λ j k one other is there same. none_there is;
    place = λ k work is. none_there is;
  };
  over = λ core e. absurd (false_not_true e);
  times = record { rise = tt; latest = λ turn one. absurd one; failed = refl; counts = λ front back turn e. absurd (nothing_there front turn back e) };
}

-- what a core told is what its own events come to, from something on
own_goes_on : (layout : Layout) (log : List (Event Label)) (core : ℕ) (past : BoxPast)
    → (past_from layout log past).owns core ≡ own_from (entries_by event_core core log) (past.owns core)
own_goes_on layout [] core past = refl
own_goes_on layout (Called entry ∷ log) core past =
    own_goes_on layout log core past ∙ sym (by (nat_eq entry.core.0 core))
  where
    by : (b : Bool) → own_from (cond b (Called entry ∷ entries_by event_core core log) (entries_by event_core core log)) (past.owns core)
        ≡ own_from (entries_by event_core core log) (past.owns core)
    by true = refl
    by false = refl
own_goes_on layout (Told teller fact ∷ log) core past =
    own_goes_on layout log core (after_label layout teller.0 fact past) ∙ elim (same_or_not core teller.0) [
      | inl same ↦
          ap (own_from (entries_by event_core core log)) (at_same past.owns teller.0 (own_label fact (past.owns teller.0)) core same)
          ∙ ap (λ (n : ℕ). own_from (entries_by event_core core log) (own_label fact (past.owns n))) (sym same)
          ∙ ap (λ (b : Bool). own_from (cond b (Told teller fact ∷ entries_by event_core core log) (entries_by event_core core log)) (past.owns core))
          (sym (ap (nat_eq teller.0) same ∙ same_number teller.0))
      | inr apart ↦
          ap (own_from (entries_by event_core core log)) (at_other past.owns teller.0 (own_label fact (past.owns teller.0)) core apart)
          ∙ ap (λ (b : Bool). own_from (cond b (Told teller fact ∷ entries_by event_core core log) (entries_by event_core core log)) (past.owns core))
          (sym (not_same teller.0 core (λ same. apart (sym same))))
    ]

pub own_is : OwnIs
own_is layout log core moment = own_goes_on layout log core (first_past moment)

pub pens_make_the_record : PensMakeTheRecord
pens_make_the_record layout before log core moment may rest =
    let fits = lawful_fits layout before log (first_past moment) (first_fits layout before moment) may in
    let own = own_is layout log core moment in
    let none : (past_from layout log (first_past moment)).waits core ≡ None = elim rest [
      | inl flight ↦ fits.flights.idle core (ap (λ (o : OwnTold). o.flight) own ∙ flight)
      | inr over ↦ (fits.over core (ap (λ (o : OwnTold). o.over) own ∙ over)).0
    ] in
    fits.turns core ∙ ap (λ (o : Option Turn). ((past_from layout log (first_past moment)).owns core).told ++ waiting_turns o) none
    ∙ append-nil ((past_from layout log (first_past moment)).owns core).told ∙ ap (λ (o : OwnTold). o.told) own

-- a count that is right up to itself is right up to each greater one
counts_up : (before most faults : ℕ) (failed : Option ℕ) (a : TurnAct) → faults ≤ most → CountsFaults before faults failed a faults
    → CountsFaults before most failed a faults
counts_up before most faults None act.Fail le counts = (counts.0, le)
counts_up before most faults None act.Halted le counts = counts
counts_up before most faults None act.Granted le counts = counts
counts_up before most faults None act.GivenBack le counts = counts
counts_up before most faults None (act.Short kind need free) le counts = counts
counts_up before most faults None act.CutAt le counts = counts
counts_up before most faults None act.Opened le counts = counts
counts_up before most faults None act.Durable le counts = counts
counts_up before most faults (Some failed) act.Halted le counts = (counts.0, le)
counts_up before most faults (Some failed) act.GivenBack le counts = (counts.0, le)
counts_up before most faults (Some failed) act.Granted le counts = counts
counts_up before most faults (Some failed) (act.Short kind need free) le counts = counts
counts_up before most faults (Some failed) act.CutAt le counts = counts
counts_up before most faults (Some failed) act.Opened le counts = counts
counts_up before most faults (Some failed) act.Durable le counts = counts
counts_up before most faults (Some failed) act.Fail le counts = counts

pub labels_count_faults : LabelsCountFaults
labels_count_faults layout before most log moment may within front back turn whole =
    let fits = lawful_fits layout before log (first_past moment) (first_fits layout before moment) may in
    counts_up before most turn.faults (failed_in front) turn.act
    (within turn (subst (λ (l : List Turn). IsOneOf l turn) (sym whole) (among_at front turn back))) (fits.times.counts front back turn whole)

pub labels_rise : LabelsRise
labels_rise layout before log moment may =
    (lawful_fits layout before log (first_past moment) (first_fits layout before moment) may).times.rise

-- a core of which no event is tells nothing
pub none_by : (log : List (Event Label)) (cores core : ℕ) → AreOfCores cores log → cores ≤ core → entries_by event_core core log ≡ []
none_by [] cores core all above = refl
none_by (event ∷ log) cores core all above =
    ap (λ (b : Bool). cond b (event ∷ entries_by event_core core log) (entries_by event_core core log))
    (not_same (event_core event) core (λ same. let low = all event (inl refl) in omega (arith, low, above, same)))
    ∙ none_by log cores core (λ other one. all other (inr one)) above

pub labels_merge_pens : LabelsMergePens
labels_merge_pens layout before log moment pens may all have = record {
  own = λ core fsyncs pen.
      let is = have core fsyncs pen in
      pens_make_the_record layout before log core moment may is.rests ∙ is.told;
  cores = λ turn among. elim (below_or turn.core.0 (length pens)) [
    | inl low ↦ low
    | inr above ↦
        let silent = none_by log (length pens) turn.core.0 all above in
        let rests : IsAtRest (own_from (entries_by event_core turn.core.0 log) nothing_told) =
        inl (ap (λ (l : List (Event Label)). (own_from l nothing_told).flight) silent) in
        let none : turns_of_core turn.core.0 (past_from layout log (first_past moment)).turns ≡ [] =
        pens_make_the_record layout before log turn.core.0 moment may rests
        ∙ ap (λ (l : List (Event Label)). (own_from l nothing_told).told) silent in
        absurd
        (subst (λ (l : List Turn). IsOneOf l turn) none
        (to_filter (λ (t : Turn). nat_eq t.core.0 turn.core.0) (past_from layout log (first_past moment)).turns turn among (same_number turn.core.0)))
  ];
}
