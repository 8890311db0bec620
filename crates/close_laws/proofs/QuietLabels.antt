-- The map along turns through a label behind which no turn is owed.
use Rattle.std.proofs.Common.{◌∷◌, ◌++◌, ◌≡◌, ◌∙◌, ℕ, List, [], subst, sym, append-nil, map, ap}
use Rattle.sfs_base.specs.declared.numbers.CoreId.{CoreId}
use Rattle.sfs_image.specs.Super.{Layout}
use Rattle.space_map.specs.Space.{Space, GrantedNumbers}
use Rattle.tree_laws.specs.declared.turns.Turn.{Turn}
use Rattle.cut_laws.proofs.Listed.{from_map}
use Rattle.book_laws.specs.Along.{MapGoes}
use Rattle.stamp_table.specs.declared.event.Event.{Event}
use Rattle.stamp_table.specs.declared.event.Event.TheVariants.{Told}
use Rattle.slot_laws.specs.Slots.{with_at}
use Rattle.slot_laws.specs.declared.label.Label.{Label}
use Rattle.slot_laws.specs.declared.label.Label.TheVariants as label
use Rattle.slot_laws.specs.Nodes.{ReservedCommit, giving_up}
use Rattle.slot_laws.specs.Labels.{BoxPast, after_label}
use Rattle.slot_laws.specs.Grants.{SpaceDoes}
use Rattle.slot_laws.proofs.NodesTold.{giving_number}
use Rattle.slot_laws.proofs.GrantsHeld.{giving_grant}
use Rattle.close_laws.specs.Own.{owes_nothing, own_owed}
use Rattle.close_laws.specs.Maps.{Numbered, FitsBringing, AreSameMaps}
use Rattle.close_laws.proofs.Drawn.{DrawnSo, Drawing, nobody_now, tells_now, WereOpen, drawing_then, free_drawn, none_then}
use Rattle.close_laws.proofs.Owing.{free_where, others_may}

module _ (named : Numbered) (layout : Layout) (before : ℕ) (first : Space) where
  module _ (done : List (Event Label)) (past : BoxPast) (core : CoreId) (rest : List (Event Label)) (space next : Space) where
    abbrev At : Label → Type 0
    At fact = Drawing named layout before first done past (Told core fact ∷ rest) space

    abbrev Then : Label → Type 0
    Then fact = Drawing named layout before first (done ++ Told core fact ∷ []) (after_label layout core.0 fact past) rest next

    -- where a label notes no turn nobody owes one before it
    pub nobody_before : (fact : Label) (at : At fact) → SpaceDoes (Told core fact) past space next → FitsBringing named (Told core fact)
        → ((turn : Turn) → fact ≡ label.Noted turn → ⊥) → (c : ℕ) → (at.owing.own c).owes ≡ owes_nothing
    nobody_before fact at does told none =
        nobody_now named layout before first done past core fact rest space next at does told
        (free_where named.stamps (past.owns core.0) fact none (at.owing.own core.0).owes (at.owing.own core.0).may
        (tells_now named layout before first done past core fact rest space next at does told))

    -- what such a label makes of the map along turns, where nobody owes one behind it
    pub free_label : (fact : Label) (at : At fact) (does : SpaceDoes (Told core fact) past space next) (told : FitsBringing named (Told core fact))
        (nobody : (c : ℕ) → (at.owing.own c).owes ≡ owes_nothing) → (own_owed fact (at.owing.own core.0)).may ≡ owes_nothing
        → WereOpen past.opens (after_label layout core.0 fact past).opens
        → (more : List Turn) → (after_label layout core.0 fact past).turns ≡ past.turns ++ more
        → (drawn : Space) → MapGoes named.pairs first (past.turns ++ more) drawn → AreSameMaps drawn next → Then fact
    free_label fact at does told nobody none were more turns_are drawn goes same =
        drawing_then named layout before first done past core fact rest space next at does told
        (subst (λ turns. DrawnSo named layout before first (after_label layout core.0 fact past).opens turns
        (with_at at.owing.own core.0 (own_owed fact (at.owing.own core.0))) next)
        (sym turns_are)
        (free_drawn named layout before first past.opens past.turns at.owing.own space at.so nobody (λ one among. (at.opens.grants one among).grants)
        (after_label layout core.0 fact past).opens (with_at at.owing.own core.0 (own_owed fact (at.owing.own core.0))) more next drawn
        (none_then named layout before first past core.0 at.owing.own (others_may layout before named.stamps done past core fact rest at.owing) fact none)
        were goes same))

    -- one that neither makes a turn nor moves the map
    pub quiet_label : (fact : Label) (at : At fact) (does : SpaceDoes (Told core fact) past space next) (told : FitsBringing named (Told core fact))
        → ((turn : Turn) → fact ≡ label.Noted turn → ⊥) → (own_owed fact (at.owing.own core.0)).may ≡ owes_nothing
        → WereOpen past.opens (after_label layout core.0 fact past).opens → (after_label layout core.0 fact past).turns ≡ past.turns → next ≡ space
        → Then fact
    quiet_label fact at does told no_note none were turns_are same_space =
        let nobody = nobody_before fact at does told no_note in
        free_label fact at does told nobody none were [] (turns_are ∙ sym (append-nil past.turns)) at.so.drawn
        (subst (λ turns. MapGoes named.pairs first turns at.so.drawn) (sym (append-nil past.turns)) at.so.goes)
        (subst (AreSameMaps at.so.drawn) (sym same_space) (at.so.same nobody))

    pub began_were : (number : ℕ) (numbers : GrantedNumbers) → WereOpen past.opens (map (giving_up number numbers) past.opens)
    began_were number numbers one among =
        let was = from_map (giving_up number numbers) past.opens one among in (
          was.0,
          was.1,
          sym (giving_number number numbers was.0) ∙ ap (λ (o : ReservedCommit). o.number) was.2,
          sym (giving_grant number numbers was.0) ∙ ap (λ (o : ReservedCommit). o.grant) was.2,
        )
