-- A slot has its durable commit until the sync after its gate was written shut.
use Rattle.std.specs.Prelude.{option_map}
use Rattle.std.proofs.Common.{◌∷◌, ◌≡◌, ◌≢◌, ◌∙◌, subst, List, ℕ, Bool, true, sym, ap, Option, false, Some, None, [], inr, inl, refl}
use Rattle.sfs_base.specs.declared.numbers.CoreId.{CoreId}
use Rattle.sfs_base.proofs.BasicOptions.{some_same, none_some}
use Rattle.sfs_base.proofs.BasicTruth.{false_not_true, true_not_false}
use Rattle.sfs_image.specs.Super.{Layout}
use Rattle.cut_laws.specs.Rules.{IsOneOf}
use Rattle.stamp_table.specs.declared.event.Event.TheVariants.{Told, Called}
use Rattle.stamp_table.specs.declared.event.Event.{Event}
use Rattle.slot_laws.specs.Counting.{PlacingsTakeTheOldest, is_sync, SlotsCountUntilSynced}
use Rattle.slot_laws.specs.declared.label.Label.TheVariants as label
use Rattle.slot_laws.specs.Labels.{first_past, BoxPast, after_label, fsync_told, past_from}
use Rattle.slot_laws.specs.declared.label.Label.{Label}
use Rattle.slot_laws.specs.Rules.{MayFrom, HasWork, MayLabel, ShutRule}
use Rattle.slot_laws.specs.Slots.{KnownGate, open_gate, any_gate, shut_gate, Slots, SlotWork, with_at, begun_work, knowing, known_filled, known_gated, settled_work, known_placed}
use Rattle.slot_laws.proofs.NodesTold.{may_parts, past_parts}
use Rattle.slot_laws.proofs.Basics.{at_other, at_here}

pub placings_take_the_oldest : PlacingsTakeTheOldest
placings_take_the_oldest layout before moment log k n places may =
    let parts = may_parts layout before places.front (Told places.core (label.Placed k n places.done) ∷ places.back) (first_past moment)
    (subst (λ (l : List (Event Label)). MayFrom layout before l (first_past moment)) places.whole may) in
    let rule = parts.1.0.1 in
    record { has = rule.has; within = rule.within; oldest = rule.oldest }

open_not_any : ◌≡◌ {A = KnownGate} open_gate any_gate → ⊥
open_not_any e = cc

shut_not_any : ◌≡◌ {A = KnownGate} shut_gate any_gate → ⊥
shut_not_any e = cc

-- another slot is meant where a commit is known otherwise
not_here : (slots : Slots) (k j : ℕ) (durable : Bool) (gate : KnownGate) → HasWork slots k true any_gate → HasWork slots j durable gate
    → (durable ≡ true → gate ≡ any_gate → ⊥) → k ≢ j
not_here slots k j durable gate it other never same =
    let one : it.work ≡ other.work = some_same (sym it.there ∙ ap slots same ∙ other.there) in
    never (sym other.aloft ∙ ap (λ (w : SlotWork). w.settled) (sym one) ∙ it.aloft)
    (sym other.gate_is ∙ ap (λ (w : SlotWork). w.known.gate_left) (sym one) ∙ it.gate_is)

stays_elsewhere : (slots : Slots) (k j : ℕ) (one : Option SlotWork) → k ≢ j → HasWork slots k true any_gate → HasWork (with_at slots j one) k true any_gate
stays_elsewhere slots k j one away it =
    record { work = it.work; there = at_other slots j one k away ∙ it.there; aloft = it.aloft; gate_is = it.gate_is }

module _ (layout : Layout) (before : ℕ) (k : ℕ) where
  counts_label : (core : CoreId) (past : BoxPast) (fact : Label) → is_sync (Told core fact) ≡ false → MayLabel layout before core.0 fact past
      → HasWork past.slots k true any_gate → HasWork (after_label layout core.0 fact past).slots k true any_gate
  counts_label core past label.Took quiet rule it = it
  counts_label core past label.Gave quiet rule it = it
  counts_label core past (label.Noted turn) quiet rule it = it
  counts_label core past (label.Reserved commit seen grant) quiet rule it = it
  counts_label core past (label.Returned commit) quiet rule it = it
  counts_label core past (label.Began filling commit node stamp blocks inodes) quiet rule it =
      stays_elsewhere past.slots k filling.job.place.slot (Some (begun_work filling.job commit (fsync_told node stamp)))
      (λ same. none_some (sym (ap past.slots same ∙ rule.idle) ∙ it.there)) it
  counts_label core past (label.Filled j piece done) quiet rule it =
      stays_elsewhere past.slots k j (option_map (knowing (known_filled done piece)) (past.slots j))
      (not_here past.slots k j false shut_gate it rule.has (λ e. absurd (false_not_true e))) it
  counts_label core past (label.Synced now) quiet rule it = absurd (true_not_false quiet)
  counts_label core past (label.Opened j done cut opened) quiet rule it =
      stays_elsewhere past.slots k j (option_map (knowing (known_gated done open_gate)) (past.slots j))
      (not_here past.slots k j false shut_gate it rule.has (λ e. absurd (false_not_true e))) it
  counts_label core past (label.Settled j turn) quiet rule it =
      stays_elsewhere past.slots k j (option_map settled_work (past.slots j))
      (not_here past.slots k j false open_gate it rule.has (λ e. absurd (false_not_true e))) it
  counts_label core past (label.Learned turn) quiet rule it = it
  counts_label core past (label.Placed j n done) quiet rule it =
      stays_elsewhere past.slots k j (option_map (knowing (known_placed done n)) (past.slots j))
      (not_here past.slots k j true open_gate it rule.has (λ e gate. open_not_any gate)) it
  counts_label core past (label.Shut j done) quiet rule it =
      stays_elsewhere past.slots k j (option_map (knowing (known_gated done shut_gate)) (past.slots j))
      (not_here past.slots k j true open_gate it rule.has (λ e gate. open_not_any gate)) it
  counts_label core past (label.Idled j) quiet rule it =
      stays_elsewhere past.slots k j None (not_here past.slots k j true shut_gate it rule.has (λ e gate. shut_not_any gate)) it
  counts_label core past (label.Empty commit cut opened durable) quiet rule it = it

  counts_log : (log : List (Event Label)) (past : BoxPast) → ((event : Event Label) → IsOneOf log event → is_sync event ≡ false)
      → MayFrom layout before log past → HasWork past.slots k true any_gate → HasWork (past_from layout log past).slots k true any_gate
  counts_log [] past quiet may it = it
  counts_log (Called entry ∷ log) past quiet may it = absurd may.0
  counts_log (Told core fact ∷ log) past quiet may it =
      counts_log log (after_label layout core.0 fact past) (λ event among. quiet event (inr among)) may.1
      (counts_label core past fact (quiet (Told core fact) (inl refl)) may.0.1 it)

-- as its gate is written shut it has its commit
shut_now : (layout : Layout) (core k : ℕ) (done : Bool) (past : BoxPast) → ShutRule k past
    → HasWork (after_label layout core (label.Shut k done) past).slots k true any_gate
shut_now layout core k done past rule = record {
  work = knowing (known_gated done shut_gate) rule.has.work;
  there = at_here past.slots k (option_map (knowing (known_gated done shut_gate)) (past.slots k))
      ∙ ap (option_map (knowing (known_gated done shut_gate))) rule.has.there;
  aloft = rule.has.aloft;
  gate_is = refl;
}

pub slots_count_until_synced : SlotsCountUntilSynced
slots_count_until_synced layout before moment log k shut may =
    let fact : Label = label.Shut k shut.done in
    let parts = may_parts layout before shut.front (Told shut.core fact ∷ shut.back) (first_past moment)
    (subst (λ (l : List (Event Label)). MayFrom layout before l (first_past moment)) shut.whole may) in
    let past = past_from layout shut.front (first_past moment) in
    subst (λ (p : BoxPast). HasWork p.slots k true any_gate)
    (sym (ap (λ (l : List (Event Label)). past_from layout l (first_past moment)) shut.whole
    ∙ past_parts layout before shut.front (Told shut.core fact ∷ shut.back) (first_past moment)))
    (counts_log layout before k shut.back (after_label layout shut.core.0 fact past) shut.unsynced parts.1.1
    (shut_now layout shut.core.0 k shut.done past parts.1.0.1))
