-- The map along turns through each label, and along a history.
use Rattle.std.proofs.Common.{◌∷◌, ◌++◌, ◌≡◌, ◌∙◌, ℕ, List, [], subst, sym, append-nil, ap, refl, append_assoc, inr, inl}
use Rattle.sfs_base.specs.declared.numbers.CoreId.{CoreId}
use Rattle.sfs_image.specs.Super.{Layout}
use Rattle.space_map.specs.Space.{Space}
use Rattle.book_laws.specs.Along.{no_turn_made}
use Rattle.stamp_table.specs.declared.event.Event.{Event}
use Rattle.stamp_table.specs.declared.event.Event.TheVariants.{Called, Told}
use Rattle.slot_laws.specs.declared.label.Label.{Label}
use Rattle.slot_laws.specs.declared.label.Label.TheVariants as label
use Rattle.slot_laws.specs.Labels.{BoxPast, after_label, past_from, first_past}
use Rattle.slot_laws.specs.Grants.{SpaceDoes, SpaceGoes, GoesAlong, inodes_granted, blocks_granted}
use Rattle.slot_laws.proofs.GrantsTold.{none_granted}
use Rattle.slot_laws.proofs.Basics.{none_there}
use Rattle.slot_laws.proofs.NodesTold.{first_lasts}
use Rattle.slot_laws.proofs.Lawful.{first_fits}
use Rattle.close_laws.specs.Own.{owes_granted, owes_given_back, OwnOwed, StandBeside}
use Rattle.close_laws.specs.Maps.{Numbered, FitsBringing, FitBringings, MapsAreDrawn}
use Rattle.close_laws.proofs.Drawn.{Drawing, tells_now, all_were}
use Rattle.close_laws.proofs.Owing.{owing_first, first_owes}
use Rattle.close_laws.proofs.Opens.{OpensSo}
use Rattle.close_laws.proofs.QuietLabels.{quiet_label, began_were}
use Rattle.close_laws.proofs.NotedLabels.{noted_label}
use Rattle.close_laws.proofs.GrantLabels.{reserved_label, returned_label}
use Rattle.close_laws.proofs.TurnLabels.{opened_label, settled_label, empty_label}

module _ (named : Numbered) (layout : Layout) (before : ℕ) (first : Space) where
  module _ (done : List (Event Label)) (past : BoxPast) (core : CoreId) (rest : List (Event Label)) (space next : Space) where
    abbrev At : Label → Type 0
    At fact = Drawing named layout before first done past (Told core fact ∷ rest) space

    abbrev Then : Label → Type 0
    Then fact = Drawing named layout before first (done ++ Told core fact ∷ []) (after_label layout core.0 fact past) rest next

    pub through_label : (fact : Label) → At fact → SpaceDoes (Told core fact) past space next → FitsBringing named (Told core fact) → Then fact
    through_label label.Took at does told = quiet_label named layout before first done past core rest space next label.Took at does told
        (λ turn e. cc e) refl (all_were past.opens) refl does
    through_label label.Gave at does told = quiet_label named layout before first done past core rest space next label.Gave at does told
        (λ turn e. cc e) refl (all_were past.opens) refl does
    through_label (label.Noted turn) at does told =
        noted_label named layout before first done past core rest space next turn at does (at.owing.own core.0).owes refl
        (tells_now named layout before first done past core (label.Noted turn) rest space next at does told)
    through_label (label.Reserved commit seen grant) at does told =
        reserved_label named layout before first done past core rest space next commit seen grant at does told
    through_label (label.Returned commit) at does told = returned_label named layout before first done past core rest space next commit at does
    through_label (label.Began filling commit node stamp blocks inodes) at does told =
        quiet_label named layout before first done past core rest space next (label.Began filling commit node stamp blocks inodes) at does told
        (λ turn e. cc e) refl
        (began_were named layout before first done past core rest space next commit (record { inodes = inodes.items; blocks = blocks.items })) refl does
    through_label (label.Filled k piece done_so) at does told =
        quiet_label named layout before first done past core rest space next (label.Filled k piece done_so) at does told (λ turn e. cc e) refl
        (all_were past.opens) refl does
    through_label (label.Synced now) at does told = quiet_label named layout before first done past core rest space next (label.Synced now) at does told
        (λ turn e. cc e) refl (all_were past.opens) refl does
    through_label (label.Opened k done_so cut opened) at does told =
        opened_label named layout before first done past core rest space next k done_so cut opened at does
    through_label (label.Settled k turn) at does told = settled_label named layout before first done past core rest space next k turn at does
    through_label (label.Learned turn) at does told = quiet_label named layout before first done past core rest space next (label.Learned turn) at does told
        (λ other e. cc e) refl (all_were past.opens) refl does
    through_label (label.Placed k n done_so) at does told =
        quiet_label named layout before first done past core rest space next (label.Placed k n done_so) at does told (λ turn e. cc e) refl
        (all_were past.opens) refl does
    through_label (label.Shut k done_so) at does told =
        quiet_label named layout before first done past core rest space next (label.Shut k done_so) at does told (λ turn e. cc e) refl
        (all_were past.opens) refl does
    through_label (label.Idled k) at does told = quiet_label named layout before first done past core rest space next (label.Idled k) at does told
        (λ turn e. cc e) refl (all_were past.opens) refl does
    through_label (label.Empty commit cut opened durable) at does told =
        empty_label named layout before first done past core rest space next commit cut opened durable at does told

  -- along each history
  pub drawing_along : (done rest : List (Event Label)) (past : BoxPast) (space now : Space) → Drawing named layout before first done past rest space
      → SpaceGoes layout rest past space now → FitBringings named rest → Drawing named layout before first (done ++ rest) (past_from layout rest past) [] now
  drawing_along done [] past space now at goes fit =
      subst (λ (p : List (Event Label) × Space). Drawing named layout before first p.0 past [] p.1) (λ i. (sym (append-nil done) i, sym goes i)) at
  drawing_along done (Called entry ∷ rest) past space now at goes fit = absurd at.owing.may.0
  drawing_along done (Told core fact ∷ rest) past space now at goes fit =
      subst (λ l. Drawing named layout before first l (past_from layout rest (after_label layout core.0 fact past)) [] now)
      (append_assoc done (Told core fact ∷ []) rest)
      (drawing_along (done ++ Told core fact ∷ []) rest (after_label layout core.0 fact past) goes.0.next now
      (through_label done past core rest space goes.0.next fact at goes.0.does (fit (Told core fact) (inl refl)))
      goes.1 (λ event among. fit event (inr among)))

  pub drawing_first : (moment : ℕ) (log : List (Event Label)) (now : Space) → GoesAlong layout before moment log first now → StandBeside named.stamps log
      → Drawing named layout before first [] (first_past moment) log first
  drawing_first moment log now along stand = record {
    owing = owing_first layout before named.stamps moment log along.may stand;
    fits = first_fits layout before moment;
    lasts = first_lasts moment;
    theirs = record { inodes = none_granted inodes_granted first.inodes along.no_inodes; blocks = none_granted blocks_granted first.blocks along.no_blocks };
    opens = opens_first;
    so = record {
      drawn = first;
      goes = no_turn_made;
      same = λ none. record { inodes = λ n. refl; blocks = λ n. refl };
      to_grant = λ c n may. absurd (may_first c may);
      to_return = λ c n may. absurd (may_first_back c may);
      had = λ one among some. absurd among;
    };
  }
    where
      opens_first : OpensSo named (first_past moment) (owing_first layout before named.stamps moment log along.may stand).own
      opens_first = record {
        reserved_open = λ core number is. none_there is;
        aloft = λ k work is aloft. none_there is;
        grants = λ one among. absurd among;
      }

      may_first : (c : ℕ) {n : ℕ} → ((owing_first layout before named.stamps moment log along.may stand).own c).may ≡ owes_granted n → ⊥
      may_first c may = cc (sym (ap (λ (o : OwnOwed). o.may) (first_owes layout before named.stamps moment log along.may stand c)) ∙ may)

      may_first_back : (c : ℕ) {n : ℕ} → ((owing_first layout before named.stamps moment log along.may stand).own c).may ≡ owes_given_back n → ⊥
      may_first_back c may = cc (sym (ap (λ (o : OwnOwed). o.may) (first_owes layout before named.stamps moment log along.may stand c)) ∙ may)

pub maps_are_drawn : MapsAreDrawn
maps_are_drawn named told is =
    let at =
    drawing_along named told.layout told.before told.first [] told.log (first_past told.moment) told.first told.now
    (drawing_first named told.layout told.before told.first told.moment told.log told.now is.along is.stand) is.along.goes is.fit in
    record {
      drawn = at.so.drawn;
      goes = at.so.goes;
      same = λ none. at.so.same (λ core. ap (λ (o : OwnOwed). o.owes) (at.owing.owed core) ∙ none core);
    }
