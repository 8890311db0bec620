-- Each label that may be told leaves what fits.
use Rattle.std.specs.Prelude.{option_map}
use Rattle.std.specs.Option.{option_or}
use Rattle.std.proofs.Common.{◌≡◌, ◌≢◌, ◌∷◌, ◌++◌, ◌∙◌, ℕ, Bool, true, List, [], Option, Some, None, inl, inr, refl, sym, ap, subst, arith}
use Rattle.std.proofs.Math.Path.{fun_ext}
use Rattle.std.proofs.lemmas.List.{append_assoc}
use Rattle.sfs_base.specs.declared.numbers.NodeId.{NodeId}
use Rattle.sfs_base.specs.declared.numbers.Stamp.{Stamp}
use Rattle.sfs_base.specs.Lists.{Roomy}
use Rattle.sfs_base.proofs.BasicOptions.{some_same, some_not_none}
use Rattle.sfs_base.proofs.BasicTruth.{not_both}
use Rattle.sfs_image.specs.Super.{Layout}
use Rattle.journal_one.specs.declared.slot.Filling.{Filling}
use Rattle.space_map.specs.Space.{GrantedNumbers}
use Rattle.tree_laws.specs.declared.turns.Turn.{Turn}
use Rattle.cut_laws.specs.Rules.{IsOneOf}
use Rattle.merge_laws.specs.Pens.{failure_by}
use Rattle.merge_laws.proofs.Blocks.{same_or_not}
use Rattle.slot_laws.specs.declared.label.Label.{Label}
use Rattle.slot_laws.specs.declared.label.Label.TheVariants as label
use Rattle.slot_laws.specs.Slots.{open_gate, shut_gate, known_filled, known_placed, known_gated, SlotWork, begun_work, knowing, settled_work, Slots, with_at, changed_slot, synced_slots}
use Rattle.slot_laws.specs.Labels.{owner, fsync_told, SlotFlight, OwnTold, ends_all, opened_flight, own_label, BoxPast, box_label, after_label}
use Rattle.slot_laws.specs.Rules.{NotedRule, ReservedRule, BeganRule, OpenedRule, SettledRule, ShutRule, IdledRule, LearnedRule, EmptyRule, MayLabel}
use Rattle.slot_laws.specs.Fits.{FlightsFit, TurnsFit, NumbersFit, TimesFit, PastFits}
use Rattle.slot_laws.specs.declared.label.Seen.{Seen}
use Rattle.slot_laws.proofs.Basics.{at_same, at_other, parts, own_put, own_same, either_true}
use Rattle.slot_laws.proofs.Came.{knowing_told}
use Rattle.slot_laws.proofs.Flying.{SlotsKeep, changed_keeps, synced_keep, kept_fit, begun_fit, idled_fit}
use Rattle.slot_laws.proofs.Landing.{opened_fit, none_waits, owner_waits, settled_fit, learned_fit}
use Rattle.slot_laws.proofs.Numbers.{SlotsCome, known_come, settled_come, synced_come, idled_come, slots_come, numbers_stay, numbers_back, numbers_reserve, numbers_begin}
use Rattle.slot_laws.proofs.Quiet.{ends_failed, or_some, counts_calm, cut_not_fail, opened_not_fail, durable_not_fail, quiet_more}
use Rattle.slot_laws.proofs.Turns.{only_own, turns_told, turns_wait, turns_learned, times_more}

-- a core that tells nothing new of itself
owns_same : (owns : ℕ → OwnTold) (core : ℕ) → with_at owns core (owns core) ≡ owns
owns_same owns core = fun_ext (λ c. elim (same_or_not c core) [
  | inl same ↦ at_same owns core (owns core) c same ∙ ap owns (sym same)
  | inr apart ↦ at_other owns core (owns core) c apart
])

-- the flights, turns and numbers that cores tell
abbrev flight_of : OwnTold → Option SlotFlight
flight_of own = own.flight

abbrev told_of : OwnTold → List Turn
told_of own = own.told

abbrev reserved_of : OwnTold → Option ℕ
reserved_of own = own.reserved

abbrev over_of : OwnTold → Bool
over_of own = own.over

module _ (layout : Layout) (before core : ℕ) (past : BoxPast) (fits : PastFits layout before past) where
  -- the same with what the core tells of itself
  flights_same : (own : OwnTold) (slots : Slots) (waits : ℕ → Option Turn) → own.flight ≡ (past.owns core).flight
      → FlightsFit layout slots waits (parts flight_of past.owns) → FlightsFit layout slots waits (parts flight_of (with_at past.owns core own))
  flights_same own slots waits same = subst (FlightsFit layout slots waits) (sym (own_same flight_of past.owns core own same))

  flights_put : (own : OwnTold) (slots : Slots) (waits : ℕ → Option Turn) → FlightsFit layout slots waits (with_at (parts flight_of past.owns) core own.flight)
      → FlightsFit layout slots waits (parts flight_of (with_at past.owns core own))
  flights_put own slots waits = subst (FlightsFit layout slots waits) (sym (own_put flight_of past.owns core own))

  told_same : (own : OwnTold) (turns : List Turn) (waits : ℕ → Option Turn) → own.told ≡ (past.owns core).told
      → TurnsFit turns waits (parts told_of past.owns) → TurnsFit turns waits (parts told_of (with_at past.owns core own))
  told_same own turns waits same = subst (TurnsFit turns waits) (sym (own_same told_of past.owns core own same))

  told_put : (own : OwnTold) (turns : List Turn) (waits : ℕ → Option Turn) → TurnsFit turns waits (with_at (parts told_of past.owns) core own.told)
      → TurnsFit turns waits (parts told_of (with_at past.owns core own))
  told_put own turns waits = subst (TurnsFit turns waits) (sym (own_put told_of past.owns core own))

  -- no flight is where there was none
  still_rests : (own : OwnTold) → ((past.owns core).flight ≡ None → own.flight ≡ None) → (c : ℕ) → flight_of (past.owns c) ≡ None
      → flight_of (with_at past.owns core own c) ≡ None
  still_rests own rest c none = elim (same_or_not c core) [
    | inl same ↦ ap flight_of (at_same past.owns core own c same) ∙ rest (ap (λ (n : ℕ). flight_of (past.owns n)) (sym same) ∙ none)
    | inr apart ↦ ap flight_of (at_other past.owns core own c apart) ∙ none
  ]

  -- while none has failed, none is over
  calm_over : past.failed ≡ None → (own : OwnTold) → own.over ≡ (past.owns core).over → {P : Type 0} → (c : ℕ)
      → over_of (with_at past.owns core own c) ≡ true → P
  calm_over calm own same c e =
      absurd ((fits.over c (sym (ap (λ (f : ℕ → Bool). f c) (own_same over_of past.owns core own same)) ∙ e)).1 calm)

  -- what the core tells nothing new of itself with
  unchanged : (fact : Label) → own_label fact (past.owns core) ≡ past.owns core
      → PastFits layout before (record (box_label layout core fact past) { owns = past.owns })
      → PastFits layout before (after_label layout core fact past)
  unchanged fact own =
      subst (λ (o : ℕ → OwnTold). PastFits layout before (record (box_label layout core fact past) { owns = o }))
      (sym (ap (with_at past.owns core) own ∙ owns_same past.owns core))

  -- of the slots' commits something else is known
  fits_kept : (later : Slots) → SlotsKeep past.slots later → SlotsCome past.slots later → PastFits layout before (record past { slots = later })
  fits_kept later keep come = record {
    flights = kept_fit layout past.slots past.waits (parts flight_of past.owns) fits.flights later keep;
    turns = fits.turns;
    numbers = numbers_stay layout past.slots (parts reserved_of past.owns) (parts flight_of past.owns) past.commits past.stamps fits.numbers later
        (parts flight_of past.owns) come (λ c e. e);
    over = fits.over;
    times = fits.times;
  }

  took : PastFits layout before (after_label layout core label.Took past)
  took = unchanged label.Took refl (record { flights = fits.flights; turns = fits.turns; numbers = fits.numbers; over = fits.over; times = fits.times })

  gave : PastFits layout before (after_label layout core label.Gave past)
  gave = unchanged label.Gave refl (record { flights = fits.flights; turns = fits.turns; numbers = fits.numbers; over = fits.over; times = fits.times })

  filled : (k piece : ℕ) (done : Bool) → PastFits layout before (after_label layout core (label.Filled k piece done) past)
  filled k piece done =
      unchanged (label.Filled k piece done) refl
      (fits_kept (changed_slot past.slots k (knowing (known_filled done piece)))
      (changed_keeps past.slots k (knowing (known_filled done piece))
      (λ work there. record { told = knowing_told (known_filled done piece) work; gates = λ aloft opened left read. (left, read) }))
      (known_come past.slots k (known_filled done piece)))

  placed : (k n : ℕ) (done : Bool) → PastFits layout before (after_label layout core (label.Placed k n done) past)
  placed k n done =
      unchanged (label.Placed k n done) refl
      (fits_kept (changed_slot past.slots k (knowing (known_placed done n)))
      (changed_keeps past.slots k (knowing (known_placed done n))
      (λ work there. record { told = knowing_told (known_placed done n) work; gates = λ aloft opened left read. (left, read) }))
      (known_come past.slots k (known_placed done n)))

  synced : (now : ℕ) → PastFits layout before (after_label layout core (label.Synced now) past)
  synced now =
      let kept = fits_kept (synced_slots past.slots) (synced_keep past.slots) (synced_come past.slots) in
      unchanged (label.Synced now) refl
      (record { flights = kept.flights; turns = kept.turns; numbers = kept.numbers; over = kept.over; times = kept.times })

  shut : (k : ℕ) (done : Bool) → ShutRule k past → PastFits layout before (after_label layout core (label.Shut k done) past)
  shut k done rule =
      unchanged (label.Shut k done) refl
      (fits_kept (changed_slot past.slots k (knowing (known_gated done shut_gate)))
      (changed_keeps past.slots k (knowing (known_gated done shut_gate))
      (λ work there. record {
        told = knowing_told (known_gated done shut_gate) work;
        gates = λ aloft. absurd
            (not_both (ap (λ (w : SlotWork). w.settled) (some_same (sym there ∙ rule.has.there)) ∙ rule.has.aloft) aloft);
      }))
      (known_come past.slots k (known_gated done shut_gate)))

  idled : (k : ℕ) → IdledRule k past → PastFits layout before (after_label layout core (label.Idled k) past)
  idled k rule = unchanged (label.Idled k) refl (record {
    flights = idled_fit layout past.slots past.waits (parts flight_of past.owns) fits.flights k rule.has.work rule.has.there rule.has.aloft;
    turns = fits.turns;
    numbers = numbers_stay layout past.slots (parts reserved_of past.owns) (parts flight_of past.owns) past.commits past.stamps fits.numbers
        (with_at past.slots k None) (parts flight_of past.owns) (idled_come past.slots k) (λ c e. e);
    over = fits.over;
    times = fits.times;
  })

  settled : (k : ℕ) (turn : Turn) → SettledRule layout before k turn past → PastFits layout before (after_label layout core (label.Settled k turn) past)
  settled k turn rule = unchanged (label.Settled k turn) refl (record {
    flights = settled_fit layout past.slots past.waits
        (parts flight_of past.owns) fits.flights k turn rule.has.work rule.has.there rule.has.aloft rule.has.gate_is rule.is;
    turns = turns_wait past.turns past.waits (parts told_of past.owns) fits.turns (owner layout k) turn rule.is.core_is
        (owner_waits layout past.slots past.waits
        (parts flight_of past.owns) fits.flights k turn rule.has.work rule.has.there rule.has.aloft rule.has.gate_is rule.is);
    numbers = numbers_stay layout past.slots (parts reserved_of past.owns) (parts flight_of past.owns) past.commits past.stamps fits.numbers
        (changed_slot past.slots k settled_work) (parts flight_of past.owns) (settled_come past.slots k) (λ c e. e);
    over = λ c e. absurd ((fits.over c e).1 rule.calm);
    times = quiet_more before past.turns past.moment past.failed fits.times turn (λ e. durable_not_fail (sym rule.is.did_is
        ∙ e)) rule.now.rises rule.now.counts;
  })

  noted : (turn : Turn) → NotedRule before core turn past → PastFits layout before (after_label layout core (label.Noted turn) past)
  noted turn rule = record {
    flights = flights_same own past.slots past.waits refl fits.flights;
    turns = told_put own (past.turns ++ turn ∷ []) past.waits
        (turns_told past.turns past.waits (parts told_of past.owns) fits.turns core (turn ∷ []) (only_own core turn rule.own) rule.learned);
    numbers = subst (λ (f : ℕ → Option SlotFlight). NumbersFit layout past.slots (parts reserved_of (with_at past.owns core own)) f past.commits past.stamps)
        (sym (own_same flight_of past.owns core own refl))
        (subst (λ (r : ℕ → Option ℕ). NumbersFit layout past.slots r (parts flight_of past.owns) past.commits past.stamps)
        (sym (own_same reserved_of past.owns core own refl)) fits.numbers);
    over = over_then;
    times = times_more before past.turns past.moment past.failed fits.times turn rule.now.rises rule.now.counts;
  }
    where
      own : OwnTold
      own = own_label (label.Noted turn) (past.owns core)

      over_then : (c : ℕ) → over_of (with_at past.owns core own c) ≡ true
          → (past.waits c ≡ None) × (option_or past.failed (failure_by turn.act turn.faults) ≢ None)
      over_then c e = elim (same_or_not c core) [
        | inl same ↦ elim (either_true (ends_all turn.act) (past.owns core).over (sym (ap over_of (at_same past.owns core own c same)) ∙ e)) [
          | inl ends ↦ (ap past.waits same ∙ rule.learned, ends_failed before turn.faults turn.act past.failed rule.now.counts ends)
          | inr was ↦
              let had = fits.over core was in
              (ap past.waits same ∙ had.0, or_some past.failed (failure_by turn.act turn.faults) had.1)
        ]
        | inr apart ↦
            let had = fits.over c (sym (ap over_of (at_other past.owns core own c apart)) ∙ e) in
            (had.0, or_some past.failed (failure_by turn.act turn.faults) had.1)
      ]

  reserves : (commit : ℕ) (seen : Roomy Seen) (grant : GrantedNumbers) → ReservedRule core commit seen.items past
      → PastFits layout before (after_label layout core (label.Reserved commit seen grant) past)
  reserves commit seen grant rule = record {
    flights = flights_same own past.slots past.waits refl fits.flights;
    turns = told_same own past.turns past.waits refl fits.turns;
    numbers = subst (λ (f : ℕ → Option SlotFlight). NumbersFit layout past.slots (parts reserved_of (with_at past.owns core own)) f commit past.stamps)
        (sym (own_same flight_of past.owns core own refl))
        (subst (λ (r : ℕ → Option ℕ). NumbersFit layout past.slots r (parts flight_of past.owns) commit past.stamps)
        (sym (own_put reserved_of past.owns core own))
        (numbers_reserve layout past.slots (parts reserved_of past.owns) (parts flight_of past.owns) past.commits past.stamps fits.numbers core commit
        rule.next rule.rests));
    over = λ c e. calm_over rule.calm own refl c e;
    times = fits.times;
  }
    where
      own : OwnTold
      own = own_label (label.Reserved commit seen grant) (past.owns core)

  returns : (commit : ℕ) → PastFits layout before (after_label layout core (label.Returned commit) past)
  returns commit = record {
    flights = flights_same own past.slots past.waits refl fits.flights;
    turns = told_same own past.turns past.waits refl fits.turns;
    numbers = subst (λ (f : ℕ → Option SlotFlight). NumbersFit layout past.slots (parts reserved_of (with_at past.owns core own)) f past.commits past.stamps)
        (sym (own_same flight_of past.owns core own refl))
        (subst (λ (r : ℕ → Option ℕ). NumbersFit layout past.slots r (parts flight_of past.owns) past.commits past.stamps)
        (sym (own_put reserved_of past.owns core own))
        (numbers_back layout past.slots (parts reserved_of past.owns) (parts flight_of past.owns) past.commits past.stamps fits.numbers core));
    over = λ c e. fits.over c (sym (ap (λ (f : ℕ → Bool). f c) (own_same over_of past.owns core own refl)) ∙ e);
    times = fits.times;
  }
    where
      own : OwnTold
      own = own_label (label.Returned commit) (past.owns core)

  began : (filling : Filling) (commit : ℕ) (node : NodeId) (stamp : Stamp) (blocks inodes : Roomy ℕ) → BeganRule layout core filling.job commit past
      → PastFits layout before (after_label layout core (label.Began filling commit node stamp blocks inodes) past)
  began filling commit node stamp blocks inodes rule = record {
    flights = flights_put own later past.waits
        (begun_fit layout past.slots past.waits (parts flight_of past.owns) fits.flights core k filling.job commit
        (fsync_told node stamp) rule.idle rests rule.own);
    turns = told_same own past.turns past.waits refl fits.turns;
    numbers = subst (λ (f : ℕ → Option SlotFlight). NumbersFit layout later (parts reserved_of (with_at past.owns core own)) f past.commits filling.job.stamp)
        (sym (own_put flight_of past.owns core own))
        (subst (λ (r : ℕ → Option ℕ). NumbersFit layout later r (with_at (parts flight_of past.owns) core own.flight) past.commits filling.job.stamp)
        (sym (own_put reserved_of past.owns core own))
        (numbers_begin layout past.slots (parts reserved_of past.owns)
        (parts flight_of past.owns) past.commits past.stamps fits.numbers core k filling.job commit
        (fsync_told node stamp) rule.number rule.stamp rule.within rule.place own.flight));
    over = λ c e. calm_over rule.calm own refl c e;
    times = fits.times;
  }
    where
      own : OwnTold
      own = own_label (label.Began filling commit node stamp blocks inodes) (past.owns core)

      k : ℕ
      k = filling.job.place.slot

      later : Slots
      later = with_at past.slots filling.job.place.slot (Some (begun_work filling.job commit (fsync_told node stamp)))

      rests : (past.owns core).flight ≡ None
      rests = fits.numbers.rests core commit rule.number

  learned : (turn : Turn) → LearnedRule core turn past → PastFits layout before (after_label layout core (label.Learned turn) past)
  learned turn rule = record {
    flights = flights_put own past.slots (with_at past.waits core None)
        (learned_fit layout past.slots past.waits (parts flight_of past.owns) fits.flights core turn rule.waits);
    turns = told_put own past.turns (with_at past.waits core None) (turns_learned past.turns past.waits
        (parts told_of past.owns) fits.turns core turn rule.waits);
    numbers = subst (λ (r : ℕ → Option ℕ). NumbersFit layout past.slots r (parts flight_of (with_at past.owns core own)) past.commits past.stamps)
        (sym (own_same reserved_of past.owns core own refl))
        (numbers_stay layout past.slots (parts reserved_of past.owns) (parts flight_of past.owns) past.commits past.stamps fits.numbers past.slots
        (parts flight_of (with_at past.owns core own)) (slots_come past.slots) (still_rests own (λ none. refl)));
    over = over_then;
    times = fits.times;
  }
    where
      own : OwnTold
      own = own_label (label.Learned turn) (past.owns core)

      over_then : (c : ℕ) → over_of (with_at past.owns core own c) ≡ true → (with_at past.waits core None c ≡ None) × (past.failed ≢ None)
      over_then c e =
          let had = fits.over c (sym (ap (λ (f : ℕ → Bool). f c) (own_same over_of past.owns core own refl)) ∙ e) in
          elim (same_or_not c core) [
            | inl same ↦ absurd (some_not_none (sym rule.waits ∙ ap past.waits (sym same) ∙ had.0))
            | inr apart ↦ (at_other past.waits core None c apart ∙ had.0, had.1)
          ]

  opened_label : (k : ℕ) (done : Bool) (cut opened : Turn) → OpenedRule layout before core k cut opened past
      → PastFits layout before (after_label layout core (label.Opened k done cut opened) past)
  opened_label k done cut opened rule = record {
    flights = flights_put own later past.waits
        (opened_fit layout past.slots past.waits (parts flight_of past.owns) fits.flights core k done rule.has.work rule.has.there rule.has.aloft rule.own);
    turns = told_put own (past.turns ++ cut ∷ opened ∷ []) past.waits
        (turns_told past.turns past.waits (parts told_of past.owns) fits.turns core (cut ∷ opened ∷ []) its
        (none_waits layout past.slots past.waits (parts flight_of past.owns) fits.flights core k done rule.has.work rule.has.there rule.has.aloft rule.own));
    numbers = subst (λ (r : ℕ → Option ℕ). NumbersFit layout later r (parts flight_of (with_at past.owns core own)) past.commits past.stamps)
        (sym (own_same reserved_of past.owns core own refl))
        (numbers_stay layout past.slots (parts reserved_of past.owns) (parts flight_of past.owns) past.commits past.stamps fits.numbers later
        (parts flight_of (with_at past.owns core own))
        (known_come past.slots k (known_gated done open_gate)) (still_rests own (ap (option_map opened_flight))));
    over = λ c e. calm_over rule.calm own refl c e;
    times = subst (λ (l : List Turn). TimesFit before l opened.now past.failed) (append_assoc past.turns (cut ∷ []) (opened ∷ []))
        (quiet_more before (past.turns ++ cut ∷ []) cut.now past.failed
        (quiet_more before past.turns past.moment past.failed fits.times cut (λ e. cut_not_fail (sym rule.cut_is.did_is
        ∙ e)) rule.cut_now.rises rule.cut_now.counts)
        opened (λ e. opened_not_fail (sym rule.opened_is.did_is ∙ e)) (let same = rule.opened_now.0 in omega (arith, same))
        (counts_calm before opened.faults past.failed opened.act rule.calm (inl rule.opened_is.did_is) rule.opened_now.1));
  }
    where
      own : OwnTold
      own = own_label (label.Opened k done cut opened) (past.owns core)

      later : Slots
      later = changed_slot past.slots k (knowing (known_gated done open_gate))

      its : (t : Turn) → IsOneOf (cut ∷ opened ∷ []) t → t.core.0 ≡ core
      its t one = elim one [
        | inl same ↦ ap (λ (u : Turn). u.core.0) (sym same) ∙ rule.cut_is.core_is
        | inr more ↦ elim more [
          | inl same ↦ ap (λ (u : Turn). u.core.0) (sym same) ∙ rule.opened_is.core_is
          | inr nothing ↦ absurd nothing
        ]
      ]

  empty_label : (commit : ℕ) (cut opened durable : Turn)
      → EmptyRule before core commit (record { cut = cut; opened = opened; durable = durable }) past
      → PastFits layout before (after_label layout core (label.Empty commit cut opened durable) past)
  empty_label commit cut opened durable rule = record {
    flights = flights_same own past.slots past.waits refl fits.flights;
    turns = told_put own (past.turns ++ cut ∷ opened ∷ durable ∷ []) past.waits
        (turns_told past.turns past.waits (parts told_of past.owns) fits.turns core (cut ∷ opened ∷ durable ∷ []) its
        (fits.flights.idle core (fits.numbers.rests core commit rule.number)));
    numbers = subst (λ (f : ℕ → Option SlotFlight). NumbersFit layout past.slots (parts reserved_of (with_at past.owns core own)) f past.commits past.stamps)
        (sym (own_same flight_of past.owns core own refl))
        (subst (λ (r : ℕ → Option ℕ). NumbersFit layout past.slots r (parts flight_of past.owns) past.commits past.stamps)
        (sym (own_put reserved_of past.owns core own))
        (numbers_back layout past.slots (parts reserved_of past.owns) (parts flight_of past.owns) past.commits past.stamps fits.numbers core));
    over = λ c e. calm_over rule.calm own refl c e;
    times = subst (λ (l : List Turn). TimesFit before l durable.now past.failed)
        (append_assoc (past.turns ++ cut ∷ []) (opened ∷ []) (durable ∷ []) ∙ append_assoc past.turns (cut ∷ []) (opened ∷ durable ∷ []))
        (quiet_more before ((past.turns ++ cut ∷ []) ++ opened ∷ []) opened.now past.failed
        (quiet_more before (past.turns ++ cut ∷ []) cut.now past.failed
        (quiet_more before past.turns past.moment past.failed fits.times cut (λ e. cut_not_fail (sym rule.cut_is.did_is
        ∙ e)) rule.cut_now.rises rule.cut_now.counts)
        opened (λ e. opened_not_fail (sym rule.opened_is.did_is ∙ e)) (let same = rule.opened_now.0 in omega (arith, same))
        (counts_calm before opened.faults past.failed opened.act rule.calm (inl rule.opened_is.did_is) rule.opened_now.1))
        durable (λ e. durable_not_fail (sym rule.durable_is.did_is ∙ e))
        (let same = rule.durable_now.0 in let first = rule.opened_now.0 in omega (arith, same, first))
        (counts_calm before durable.faults past.failed durable.act rule.calm (inr rule.durable_is.did_is) rule.durable_now.1));
  }
    where
      own : OwnTold
      own = own_label (label.Empty commit cut opened durable) (past.owns core)

      its : (t : Turn) → IsOneOf (cut ∷ opened ∷ durable ∷ []) t → t.core.0 ≡ core
      its t one = elim one [
        | inl same ↦ ap (λ (u : Turn). u.core.0) (sym same) ∙ rule.cut_is.core_is
        | inr more ↦ elim more [
          | inl same ↦ ap (λ (u : Turn). u.core.0) (sym same) ∙ rule.opened_is.core_is
          | inr last ↦ elim last [
            | inl same ↦ ap (λ (u : Turn). u.core.0) (sym same) ∙ rule.durable_is.core_is
            | inr nothing ↦ absurd nothing
          ]
        ]
      ]

  -- so it is of each label
  pub label_fits : (fact : Label) → MayLabel layout before core fact past → PastFits layout before (after_label layout core fact past)
  label_fits label.Took rule = took
  label_fits label.Gave rule = gave
  label_fits (label.Noted turn) rule = noted turn rule
  label_fits (label.Reserved commit seen grant) rule = reserves commit seen grant rule
  label_fits (label.Returned commit) rule = returns commit
  label_fits (label.Began filling commit node stamp blocks inodes) rule = began filling commit node stamp blocks inodes rule
  label_fits (label.Filled k piece done) rule = filled k piece done
  label_fits (label.Synced now) rule = synced now
  label_fits (label.Opened k done cut opened) rule = opened_label k done cut opened rule
  label_fits (label.Settled k turn) rule = settled k turn rule
  label_fits (label.Learned turn) rule = learned turn rule
  label_fits (label.Placed k n done) rule = placed k n done
  label_fits (label.Shut k done) rule = shut k done rule
  label_fits (label.Idled k) rule = idled k rule
  label_fits (label.Empty commit cut opened durable) rule = empty_label commit cut opened durable rule
