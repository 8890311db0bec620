-- The map along turns through a turn that is noted.
use Rattle.std.proofs.Common.{◌∷◌, ◌++◌, ◌≡◌, ◌∙◌, ℕ, List, [], subst, sym, ap, refl, true, inr, inl, Option, None, Some}
use Rattle.sfs_base.specs.declared.numbers.CoreId.{CoreId}
use Rattle.sfs_image.specs.Super.{Layout}
use Rattle.space_map.specs.Space.{Space}
use Rattle.tree_laws.specs.declared.turns.TurnAct.TheVariants as act
use Rattle.tree_laws.specs.declared.turns.Turn.{Turn}
use Rattle.tree_laws.specs.declared.turns.TurnAct.{TurnAct}
use Rattle.cut_laws.specs.Closure.{Flush}
use Rattle.cut_laws.specs.Rules.{IsOneOf}
use Rattle.cut_laws.proofs.Basics.{in_right}
use Rattle.merge_laws.proofs.Blocks.{same_or_not}
use Rattle.space_laws.specs.Map.{WasReturned}
use Rattle.book_laws.specs.Along.{MapGoes, MapDoes}
use Rattle.book_laws.specs.Out.{WasReserved}
use Rattle.stamp_table.specs.declared.event.Event.{Event}
use Rattle.stamp_table.specs.declared.event.Event.TheVariants.{Told}
use Rattle.slot_laws.specs.Slots.{with_at}
use Rattle.slot_laws.specs.declared.label.Label.{Label}
use Rattle.slot_laws.specs.declared.label.Label.TheVariants as label
use Rattle.slot_laws.specs.Nodes.{ReservedCommit}
use Rattle.slot_laws.specs.Labels.{BoxPast, after_label}
use Rattle.slot_laws.specs.Rules.{NotedRule}
use Rattle.close_laws.specs.Own.{OwesTurn, owes_granted, owes_given_back, owes_nothing, own_owed, TellsBeside, has_numbers, FliesAs, WaitsAs}
use Rattle.close_laws.specs.Maps.{Numbered, AreSameMaps, bringing_of}
use Rattle.close_laws.proofs.Drawn.{Drawing, nobody_now, drawing_then, none_then, cut_goes, push, HasTurnOf, had_on, had_turn}
use Rattle.close_laws.proofs.Owing.{others_owe, others_may}

module _ (named : Numbered) (layout : Layout) (before : ℕ) (first : Space) where
  module _ (done : List (Event Label)) (past : BoxPast) (core : CoreId) (rest : List (Event Label)) (space next : Space) where
    abbrev At : Label → Type 0
    At fact = Drawing named layout before first done past (Told core fact ∷ rest) space

    abbrev Then : Label → Type 0
    Then fact = Drawing named layout before first (done ++ Told core fact ∷ []) (after_label layout core.0 fact past) rest next

    -- behind a turn that is noted nobody owes one, and all that had a turn have one
    noted_drawn : (turn : Turn) (at : At (label.Noted turn)) → next ≡ space → (drawn : Space) → MapGoes named.pairs first (past.turns ++ turn ∷ []) drawn
        → AreSameMaps drawn next
        → ((one : ReservedCommit) → IsOneOf past.opens one → has_numbers one.grant ≡ true
        → HasTurnOf named layout before first (named.stamps one.number) (past.turns ++ turn ∷ []))
        → Then (label.Noted turn)
    noted_drawn turn at same_space drawn goes same had =
        drawing_then named layout before first done past core (label.Noted turn) rest space next at same_space tt (record {
          drawn = drawn;
          goes = goes;
          same = λ _. same;
          to_grant = λ c n may. let never = sym (none c) ∙ may in absurd (cc never);
          to_return = λ c n may. let never = sym (none c) ∙ may in absurd (cc never);
          had = λ one among some. inr (had one among some);
        })
      where
        none : (c : ℕ) → (with_at at.owing.own core.0 (own_owed (label.Noted turn) (at.owing.own core.0)) c).may ≡ owes_nothing
        none =
            none_then named layout before first past core.0 at.owing.own
            (others_may layout before named.stamps done past core (label.Noted turn) rest at.owing) (label.Noted turn) refl

    -- who owes a turn of a grant is this core
    owes_here : (turn : Turn) (at : At (label.Noted turn)) (c n : ℕ) → (at.owing.own c).owes ≡ owes_granted n → c ≡ core.0
    owes_here turn at c n owes = elim (same_or_not c core.0) [
      | inl same ↦ same
      | inr apart ↦
          let never = sym (others_owe layout before named.stamps done past core (label.Noted turn) rest at.owing c apart) ∙ owes in absurd (cc never)
    ]

    -- what it owes it may tell
    may_of : (turn : Turn) (at : At (label.Noted turn)) (o : OwesTurn) → (o ≡ owes_nothing → ⊥) → (at.owing.own core.0).owes ≡ o → (at.owing.own core.0).may ≡ o
    may_of turn at o some owes = elim (at.owing.due core.0) [ inl none ↦ absurd (some (sym owes ∙ none)) | inr may ↦ sym may ∙ owes ]

    -- a map goes along one turn more, with the statuses of the labels' map
    abbrev Goes : Turn → Type 0
    Goes turn = (drawn : Space) × MapGoes named.pairs first (past.turns ++ turn ∷ []) drawn × AreSameMaps drawn next

    pub noted_label : (turn : Turn) (at : At (label.Noted turn)) → next ≡ space → (o : OwesTurn) → (at.owing.own core.0).owes ≡ o
        → TellsBeside named.stamps o (at.owing.own core.0).may (past.owns core.0) (label.Noted turn) → Then (label.Noted turn)
    noted_label turn at same_space (owes_granted n) owes tells =
        let same : turn ≡ tells.turn = cc tells.is in
        let did : turn.act ≡ act.Granted = ap (λ (t : Turn). t.act) same ∙ tells.did_is in
        let stamp : turn.stamp.0 ≡ named.stamps n = ap (λ (t : Turn). t.stamp.0) same ∙ tells.stamp_is in
        let reserved = subst (WasReserved (bringing_of named n).plan at.so.drawn (bringing_of named n).grant) (sym same_space)
        (at.so.to_grant core.0 n (may_of turn at (owes_granted n) (λ none. cc none) owes)) in
        noted_drawn turn at same_space next
        (push named layout before first past.turns turn act.Granted (named.stamps n) at.so.drawn next did stamp at.so.goes reserved)
        (record { inodes = λ m. refl; blocks = λ m. refl })
        (λ one among some. elim (at.so.had one among some) [
          | inr had ↦ had_on named layout before first past.turns (turn ∷ []) (named.stamps one.number) had
          | inl debt ↦
              let here = subst (λ c. (at.owing.own c).owes ≡ owes_granted one.number) (owes_here turn at debt.0 one.number debt.1) debt.1 in
              let is : ◌≡◌ {A = OwesTurn} (owes_granted n) (owes_granted one.number) = sym owes ∙ here in
              record {
                turn = turn;
                among = in_right past.turns (turn ∷ []) turn (inl refl);
                stamp_is = stamp ∙ ap named.stamps (let same : n ≡ one.number = cc is in same);
              }
        ])
    noted_label turn at same_space (owes_given_back n) owes tells =
        let same : turn ≡ tells.turn = cc tells.is in
        let did : turn.act ≡ act.GivenBack = ap (λ (t : Turn). t.act) same ∙ tells.did_is in
        let stamp : turn.stamp.0 ≡ named.stamps n = ap (λ (t : Turn). t.stamp.0) same ∙ tells.stamp_is in
        let returned = subst (WasReturned at.so.drawn (bringing_of named n).grant) (sym same_space)
        (at.so.to_return core.0 n (may_of turn at (owes_given_back n) (λ none. cc none) owes)) in
        noted_drawn turn at same_space next
        (push named layout before first past.turns turn act.GivenBack (named.stamps n) at.so.drawn next did stamp at.so.goes returned)
        (record { inodes = λ m. refl; blocks = λ m. refl })
        (λ one among some. elim (at.so.had one among some) [
          | inr had ↦ had_on named layout before first past.turns (turn ∷ []) (named.stamps one.number) had
          | inl debt ↦
              let here = subst (λ c. (at.owing.own c).owes ≡ owes_granted one.number) (owes_here turn at debt.0 one.number debt.1) debt.1 in
              let is : ◌≡◌ {A = OwesTurn} (owes_given_back n) (owes_granted one.number) = sym owes ∙ here in absurd (cc is)
        ])
    noted_label turn at same_space owes_nothing owes tells =
        let nobody = nobody_now named layout before first done past core (label.Noted turn) rest space next at same_space tt owes in
        let now = goes_by turn.act refl in
        noted_drawn turn at same_space now.0 now.1 now.2
        (λ one among some. had_on named layout before first past.turns (turn ∷ []) (named.stamps one.number)
        (had_turn named layout before first past.opens past.turns at.owing.own space at.so nobody
        (λ one among. (at.opens.grants one among).grants) one among some))
      where
        rule : NotedRule before core.0 turn past
        rule = at.owing.may.0.1

        nobody : (c : ℕ) → (at.owing.own c).owes ≡ owes_nothing
        nobody = nobody_now named layout before first done past core (label.Noted turn) rest space next at same_space tt owes

        stays : MapGoes named.pairs first (past.turns ++ turn ∷ []) at.so.drawn → Goes turn
        stays goes = (at.so.drawn, goes, subst (AreSameMaps at.so.drawn) (sym same_space) (at.so.same nobody))

        as_is : (did : TurnAct) → turn.act ≡ did → MapDoes did named.pairs past.turns turn.stamp.0 at.so.drawn at.so.drawn → Goes turn
        as_is did is does = stays (push named layout before first past.turns turn did turn.stamp.0 at.so.drawn at.so.drawn is refl at.so.goes does)

        -- of a grant of nothing
        granted_by : turn.act ≡ act.Granted → Goes turn
        granted_by is =
            let free = tells.own_grant is in
            let reserved = subst (WasReserved (bringing_of named free.number).plan at.so.drawn (bringing_of named free.number).grant) (sym same_space)
            (at.so.to_grant core.0 free.number free.may_is) in (
              next,
              push named layout before first past.turns turn act.Granted (named.stamps free.number) at.so.drawn next is free.stamp_is at.so.goes reserved,
              record { inodes = λ m. refl; blocks = λ m. refl },
            )

        returned_by : turn.act ≡ act.GivenBack → Goes turn
        returned_by is =
            let free = tells.own_return is in
            let returned = subst (WasReturned at.so.drawn (bringing_of named free.number).grant) (sym same_space)
            (at.so.to_return core.0 free.number free.may_is) in (
              next,
              push named layout before first past.turns turn act.GivenBack (named.stamps free.number) at.so.drawn next is free.stamp_is at.so.goes returned,
              record { inodes = λ m. refl; blocks = λ m. refl },
            )

        -- of a commit in a slot, or of one that waits for a slot
        flying_cut : FliesAs (past.owns core.0) turn → turn.act ≡ act.CutAt → Goes turn
        flying_cut flies is =
            elim (at.fits.flights.each core.0 flies.flight flies.flies).is [
              | inr landed ↦ absurd (let never : ◌≡◌ {A = Option Turn} None (Some landed.turn) = sym rule.learned ∙ landed.waits_is in cc never)
              | inl flying ↦
                  let aloft = at.opens.aloft flies.flight.slot flying.work flying.there flying.aloft in
                  let stamp : turn.stamp.0 ≡ named.stamps aloft.one.number =
                  flies.stamp_is ∙ (ap (λ (f : Flush). f.stamp) (sym flying.flush) ∙ (aloft.stamp_is ∙ ap named.stamps (sym aloft.number_is))) in
                  stays (cut_goes named layout before first past.opens past.turns at.owing.own space at.so nobody
                  (λ one among. (at.opens.grants one among).grants)
                  aloft.one aloft.among turn is stamp)
            ]

        waiting_cut : WaitsAs named.stamps (past.owns core.0) turn → turn.act ≡ act.CutAt → Goes turn
        waiting_cut waits is =
            let open_one = at.opens.reserved_open core.0 waits.number waits.reserved in
            stays (cut_goes named layout before first past.opens past.turns at.owing.own space at.so nobody (λ one among. (at.opens.grants one among).grants)
            open_one.one open_one.among turn is (waits.stamp_is ∙ ap named.stamps (sym open_one.number_is)))

        cut_by : turn.act ≡ act.CutAt → Goes turn
        cut_by is = elim (tells.own_cut is) [ inl flies ↦ flying_cut flies is | inr waits ↦ waiting_cut waits is ]

        goes_by : (did : TurnAct) → turn.act ≡ did → Goes turn
        goes_by act.Granted is = granted_by is
        goes_by act.GivenBack is = returned_by is
        goes_by act.Opened is = absurd (rule.no_open is)
        goes_by act.Durable is = absurd (rule.no_durable is)
        goes_by act.CutAt is = cut_by is
        goes_by (act.Short kind asked have) is = as_is (act.Short kind asked have) is refl
        goes_by act.Fail is = as_is act.Fail is refl
        goes_by act.Halted is = as_is act.Halted is refl
