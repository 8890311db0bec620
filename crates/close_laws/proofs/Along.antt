-- Fronts of the record through each label.
use Rattle.std.proofs.Common.{◌∷◌, ◌++◌, ◌≡◌, ◌≢◌, ◌∙◌, List, ℕ, [], sym, ap, refl, Some, inr, Option, None, inl}
use Rattle.sfs_base.specs.declared.numbers.CoreId.{CoreId}
use Rattle.sfs_image.specs.Super.{Layout}
use Rattle.space_map.specs.Space.{Space}
use Rattle.tree_laws.specs.declared.turns.Turn.{Turn}
use Rattle.disk_nodes.specs.declared.old.OldEntry.{OldEntry}
use Rattle.cut_laws.proofs.Basics.{in_right}
use Rattle.flush_laws.specs.Volume.{Volume}
use Rattle.stamp_table.specs.declared.event.Event.{Event}
use Rattle.stamp_table.specs.declared.event.Event.TheVariants.{Told}
use Rattle.slot_laws.specs.declared.label.Label.{Label}
use Rattle.slot_laws.specs.declared.label.Label.TheVariants as label
use Rattle.slot_laws.specs.Labels.{BoxPast, after_label, box_label, own_label, SlotFlight}
use Rattle.slot_laws.specs.Grants.{SpaceDoes}
use Rattle.slot_laws.proofs.Basics.{at_other}
use Rattle.slot_image_laws.specs.Images.{RunStart}
use Rattle.close_laws.specs.Maps.{Numbered}
use Rattle.close_laws.specs.Beside.{BeginsLabels, stamps_under}
use Rattle.close_laws.proofs.Beginning.{PlaceSo}
use Rattle.close_laws.specs.Fronts.{AreTurnsOf, AreOneRecord}
use Rattle.close_laws.proofs.Words.{run_from}
use Rattle.close_laws.proofs.Flying.{FliesSo, FliesAt, FrontAt}
use Rattle.close_laws.proofs.Fronts.{flight_stays, flight_other}
use Rattle.close_laws.proofs.Labelled.{still_so, noted_so}
use Rattle.close_laws.proofs.OpenedFronts.{opened_so}
use Rattle.close_laws.proofs.SettledFronts.{settled_so}
use Rattle.close_laws.proofs.EmptyFronts.{empty_so}

module _ (layout : Layout) (start : Volume) (entries : List OldEntry) (named : Numbered) (first : Space) (begins : BeginsLabels layout start entries first)
    (moment : ℕ) (before : ℕ) where
  abbrev run : RunStart
  run = run_from layout moment start named

  abbrev Place : List (Event Label) → BoxPast → List (Event Label) → Space → Type 0
  Place = PlaceSo layout start entries named first begins moment before

  abbrev Flies : BoxPast → Type 0
  Flies = FliesSo layout start entries named first begins moment before

  abbrev FliesHere : BoxPast → ℕ → Type 0
  FliesHere = FliesAt layout start entries named first begins moment before

  abbrev Fronts : List Turn → Type 0
  Fronts turns = AreOneRecord start named run turns

  module _ (done : List (Event Label)) (past : BoxPast) (core : CoreId) (rest : List (Event Label)) (space next : Space) (flies : Flies past)
      (fronts : Fronts past.turns) where
    abbrev Here : Label → Type 0
    Here fact = Place done past (Told core fact ∷ rest) space

    abbrev There : Label → Type 0
    There fact = Place (done ++ Told core fact ∷ []) (after_label layout core.0 fact past) rest next

    abbrev Then : Label → Type 0
    Then fact = Flies (after_label layout core.0 fact past) × Fronts (after_label layout core.0 fact past).turns

    abbrev dones : List ℕ
    dones = stamps_under named past.done

    abbrev opens : List ℕ
    opens = stamps_under named past.opens

    abbrev FrontSo : List Turn → Type 0
    FrontSo = FrontAt layout start entries named first begins moment before dones opens

    began_so : (fact : Label) (at : Here fact) (number : ℕ) → (past.owns core.0).reserved ≡ Some number → (box_label layout core.0 fact past).waits ≡ past.waits
        → (other : ℕ) → FliesHere past other → FliesHere (after_label layout core.0 fact past) other
    began_so fact at number reserved waits other flight =
        flight_other layout start entries named first begins moment before done past core rest space flies fact other flight
        (λ same. let never : ◌≡◌ {A = Option SlotFlight} None (Some flight.flight) =
        sym (at.drawing.fits.numbers.rests core.0 number reserved) ∙ (ap (λ c. (past.owns c).flight) (sym same) ∙ flight.is) in cc never)
        (ap (λ f. f flight.core) waits)

    learned_so : (turn : Turn) → Here (label.Learned turn) → (other : ℕ) → FliesHere past other
        → FliesHere (after_label layout core.0 (label.Learned turn) past) other
    learned_so turn at other flight =
        let rule = at.drawing.owing.may.0.1 in
        let apart : flight.core ≢ core.0 = λ same.
        (let never : ◌≡◌ {A = Option Turn} None (Some turn) = sym flight.waits ∙ (ap past.waits same ∙ rule.waits) in cc never) in
        flight_other layout start entries named first begins moment before done past core rest space flies (label.Learned turn) other flight apart
        (at_other past.waits core.0 None flight.core apart)

    -- a label without a turn, which ends nothing and leaves each core's flight
    quiet_so : (fact : Label) → (after_label layout core.0 fact past).turns ≡ past.turns → (after_label layout core.0 fact past).done ≡ past.done
        → (own_label fact (past.owns core.0)).flight ≡ (past.owns core.0).flight → (box_label layout core.0 fact past).waits ≡ past.waits → Then fact
    quiet_so fact turns done_is same waits =
        still_so layout start entries named first begins moment before done past core rest space next flies fronts fact turns done_is
        (flight_stays layout start entries named first begins moment before done past core rest space flies fact same waits)

    pub front_label : (fact : Label) → Here fact → There fact → SpaceDoes (Told core fact) past space next
        → AreTurnsOf named (after_label layout core.0 fact past).turns → Then fact
    front_label label.Took at then does ties = quiet_so label.Took refl refl refl refl
    front_label label.Gave at then does ties = quiet_so label.Gave refl refl refl refl
    front_label (label.Noted turn) at then does ties =
        noted_so layout start entries named first begins moment before done past core rest space next flies fronts turn at
    front_label (label.Reserved commit seen grant) at then does ties = quiet_so (label.Reserved commit seen grant) refl refl refl refl
    front_label (label.Returned commit) at then does ties = quiet_so (label.Returned commit) refl refl refl refl
    front_label (label.Began filling commit node stamp blocks inodes) at then does ties =
        still_so layout start entries named first begins moment before done past core rest space next flies fronts
        (label.Began filling commit node stamp blocks inodes) refl refl
        (began_so (label.Began filling commit node stamp blocks inodes) at commit at.drawing.owing.may.0.1.number refl)
    front_label (label.Filled k piece ok) at then does ties = quiet_so (label.Filled k piece ok) refl refl refl refl
    front_label (label.Synced now) at then does ties = quiet_so (label.Synced now) refl refl refl refl
    front_label (label.Opened k ok cut opened) at then does ties =
        opened_so layout start entries named first begins moment before done past core rest space next flies fronts k ok cut opened at
        (ties opened (in_right past.turns (cut ∷ opened ∷ []) opened (inr (inl refl))) (inl at.drawing.owing.may.0.1.opened_is.did_is))
    front_label (label.Settled k turn) at then does ties =
        settled_so layout start entries named first begins moment before done past core rest space next flies fronts k turn at then does
        (ties turn (in_right past.turns (turn ∷ []) turn (inl refl)) (inr at.drawing.owing.may.0.1.is.did_is))
    front_label (label.Learned turn) at then does ties =
        still_so layout start entries named first begins moment before done past core rest space next flies fronts (label.Learned turn) refl refl
        (learned_so turn at)
    front_label (label.Placed k n ok) at then does ties = quiet_so (label.Placed k n ok) refl refl refl refl
    front_label (label.Shut k ok) at then does ties = quiet_so (label.Shut k ok) refl refl refl refl
    front_label (label.Idled k) at then does ties = quiet_so (label.Idled k) refl refl refl refl
    front_label (label.Empty commit cut opened durable) at then does ties =
        empty_so layout start entries named first begins moment before done past core rest space next flies fronts commit cut opened durable at then does
        (ties opened (in_right past.turns (cut ∷ opened ∷ durable ∷ []) opened (inr (inl refl))) (inl at.drawing.owing.may.0.1.opened_is.did_is))
        (ties durable (in_right past.turns (cut ∷ opened ∷ durable ∷ []) durable (inr (inr (inl refl)))) (inr at.drawing.owing.may.0.1.durable_is.did_is))
