-- The map along turns through a label that reserves or gives back.
use Rattle.std.proofs.Common.{◌∷◌, ◌++◌, ◌≡◌, ◌∙◌, if◌then◌else◌, ◌⊎◌, ℕ, List, [], subst, sym, ap, Bool, refl, true, inr, inl, false}
use Rattle.sfs_base.specs.declared.numbers.CoreId.{CoreId}
use Rattle.sfs_base.specs.Lists.{Roomy}
use Rattle.sfs_image.specs.Super.{Layout}
use Rattle.space_map.specs.Space.{Space, GrantedNumbers}
use Rattle.cut_laws.proofs.RunFacts.{in_filter}
use Rattle.merge_laws.proofs.Blocks.{same_or_not}
use Rattle.space_laws.specs.Map.{WasReturned}
use Rattle.book_laws.specs.Out.{WasReserved}
use Rattle.stamp_table.specs.declared.event.Event.{Event}
use Rattle.stamp_table.specs.declared.event.Event.TheVariants.{Told}
use Rattle.slot_laws.specs.declared.label.Seen.{Seen}
use Rattle.slot_laws.specs.Slots.{with_at}
use Rattle.slot_laws.specs.declared.label.Label.{Label}
use Rattle.slot_laws.specs.declared.label.Label.TheVariants as label
use Rattle.slot_laws.specs.Nodes.{ReservedCommit, no_numbers, is_numbered_otherwise}
use Rattle.slot_laws.specs.Labels.{BoxPast, after_label}
use Rattle.slot_laws.specs.Grants.{TakesGrant, GivesGrantBack}
use Rattle.slot_laws.proofs.Numbered.{last_or_before}
use Rattle.slot_laws.proofs.Basics.{at_same, at_other}
use Rattle.slot_laws.proofs.GrantsHeld.{same_commit}
use Rattle.close_laws.specs.Own.{OwesTurn, owes_granted, owes_given_back, owes_nothing, OwnOwed, own_owed, has_numbers}
use Rattle.close_laws.specs.Maps.{Numbered, AreSameMaps, bringing_of, GrantFits, ReservedAs}
use Rattle.close_laws.proofs.Drawn.{Drawing, drawing_then, taken_nothing, reserved_from, HadTurns, returned_nothing, returned_from, had_turn}
use Rattle.close_laws.proofs.Opens.{ReservedOpen}
use Rattle.close_laws.proofs.QuietLabels.{nobody_before}
use Rattle.close_laws.proofs.Owing.{others_may}

module _ (named : Numbered) (layout : Layout) (before : ℕ) (first : Space) where
  module _ (done : List (Event Label)) (past : BoxPast) (core : CoreId) (rest : List (Event Label)) (space next : Space) where
    abbrev At : Label → Type 0
    At fact = Drawing named layout before first done past (Told core fact ∷ rest) space

    abbrev Then : Label → Type 0
    Then fact = Drawing named layout before first (done ++ Told core fact ∷ []) (after_label layout core.0 fact past) rest next

    -- a number is reserved, with something granted or nothing
    pub reserved_label : (commit : ℕ) (seen : Roomy Seen) (grant : GrantedNumbers) (at : At (label.Reserved commit seen grant)) → TakesGrant space grant next
        → ReservedAs named commit seen.items grant → Then (label.Reserved commit seen grant)
    reserved_label commit seen grant at takes fits =
        drawing_then named layout before first done past core (label.Reserved commit seen grant) rest space next at takes fits (record {
          drawn = at.so.drawn;
          goes = at.so.goes;
          same = λ none. same_by (has_numbers grant) refl (sym (ap (λ (o : OwnOwed). o.owes) here_is) ∙ none core.0);
          to_grant = grant_by;
          to_return = λ c n may. absurd (no_return c n may);
          had = had_by;
        })
      where
        fact : Label
        fact = label.Reserved commit seen grant

        nobody : (c : ℕ) → (at.owing.own c).owes ≡ owes_nothing
        nobody = nobody_before named layout before first done past core rest space next (label.Reserved commit seen grant) at takes fits (λ turn e. cc e)

        owed : OwnOwed
        owed = own_owed (label.Reserved commit seen grant) (at.owing.own core.0)

        own_then : ℕ → OwnOwed
        own_then = with_at at.owing.own core.0 owed

        here_is : own_then core.0 ≡ owed
        here_is = at_same at.owing.own core.0 owed core.0 refl

        debt_is : (b : Bool) → has_numbers grant ≡ b → owed.owes ≡ (if b then owes_granted commit else owes_nothing)
        debt_is b is = ap (λ c. if c then owes_granted commit else owes_nothing) is

        same_by : (b : Bool) → has_numbers grant ≡ b → owed.owes ≡ owes_nothing → AreSameMaps at.so.drawn next
        same_by true is none = let never : ◌≡◌ {A = OwesTurn} (owes_granted commit) owes_nothing = sym (debt_is true is) ∙ none in absurd (cc never)
        same_by false is none = taken_nothing grant at.so.drawn space next is (at.so.same nobody) takes

        may_is : (c n : ℕ) (asked : OwesTurn) → (own_then c).may ≡ asked
            → (c ≡ core.0) × (◌≡◌ {A = OwesTurn} (owes_granted commit) asked) ⊎ (owes_nothing ≡ asked)
        may_is c n asked may = elim (same_or_not c core.0) [
          | inl same ↦ inl (same, sym (ap (λ (o : OwnOwed). o.may) (at_same at.owing.own core.0 owed c same)) ∙ may)
          | inr apart ↦
              inr (sym (ap (λ (o : OwnOwed). o.may) (at_other at.owing.own core.0 owed c apart)
              ∙ others_may layout before named.stamps done past core (label.Reserved commit seen grant) rest at.owing c apart) ∙ may)
        ]

        grant_by : (c n : ℕ) → (own_then c).may ≡ owes_granted n
            → WasReserved (bringing_of named n).plan at.so.drawn (bringing_of named n).grant next
        grant_by c n may = elim (may_is c n (owes_granted n) may) [
          | inl here ↦
              subst (λ m. WasReserved (bringing_of named m).plan at.so.drawn (bringing_of named m).grant next)
              (let same : commit ≡ n = cc here.1 in same)
              (reserved_from (bringing_of named commit) grant at.so.drawn space next fits.grants (at.so.same nobody) takes)
          | inr never ↦ absurd (cc never)
        ]

        no_return : (c n : ℕ) → (own_then c).may ≡ owes_given_back n → ⊥
        no_return c n may = elim (may_is c n (owes_given_back n) may) [ inl here ↦ cc here.1 | inr never ↦ cc never ]

        new : ReservedCommit
        new = record { number = commit; seen = seen.items; grant = grant; gives_up = no_numbers }

        had_by : HadTurns named layout before first (past.opens ++ new ∷ []) own_then past.turns
        had_by one among some = elim (last_or_before past.opens new one among) [
          | inl old ↦
              inr (had_turn named layout before first past.opens past.turns at.owing.own space at.so nobody
              (λ one among. (at.opens.grants one among).grants) one old some)
          | inr same ↦
              let is : has_numbers grant ≡ true = ap (λ (o : ReservedCommit). has_numbers o.grant) same ∙ some in
              inl (core.0, ap (λ (o : OwnOwed). o.owes) here_is ∙ (debt_is true is ∙ ap (λ (o : ReservedCommit). owes_granted o.number) same))
        ]

    -- and one is given back
    pub returned_label : (commit : ℕ) (at : At (label.Returned commit)) → GivesGrantBack past.opens commit space next → Then (label.Returned commit)
    returned_label commit at back =
        drawing_then named layout before first done past core (label.Returned commit) rest space next at back tt (record {
          drawn = at.so.drawn;
          goes = at.so.goes;
          same = λ none. same_by (at.owing.own core.0).granted refl (sym (ap (λ (o : OwnOwed). o.owes) here_is) ∙ none core.0);
          to_grant = λ c n may. absurd (no_grant c n may);
          to_return = return_by;
          had = λ one among some. inr
              (had_turn named layout before first past.opens past.turns at.owing.own space at.so nobody (λ one among. (at.opens.grants one among).grants) one
              (in_filter (is_numbered_otherwise commit) past.opens one among).0 some);
        })
      where
        nobody : (c : ℕ) → (at.owing.own c).owes ≡ owes_nothing
        nobody = nobody_before named layout before first done past core rest space next (label.Returned commit) at back tt (λ turn e. cc e)

        owed : OwnOwed
        owed = own_owed (label.Returned commit) (at.owing.own core.0)

        own_then : ℕ → OwnOwed
        own_then = with_at at.owing.own core.0 owed

        here_is : own_then core.0 ≡ owed
        here_is = at_same at.owing.own core.0 owed core.0 refl

        mine : ReservedOpen named past.opens commit (at.owing.own core.0).granted
        mine = at.opens.reserved_open core.0 commit at.owing.may.0.1

        same_one : mine.one ≡ back.own.commit
        same_one = same_commit past.opens at.lasts.once mine.one back.own.commit mine.among back.own.among (mine.number_is ∙ sym back.own.number_is)

        fits : GrantFits (bringing_of named commit) back.own.commit.grant
        fits = subst (λ n. GrantFits (bringing_of named n) back.own.commit.grant) back.own.number_is (at.opens.grants back.own.commit back.own.among).grants

        some_is : (at.owing.own core.0).granted ≡ has_numbers back.own.commit.grant
        some_is = mine.some ∙ ap (λ (o : ReservedCommit). has_numbers o.grant) same_one

        debt_is : (b : Bool) → (at.owing.own core.0).granted ≡ b → owed.owes ≡ (if b then owes_given_back commit else owes_nothing)
        debt_is b is = ap (λ c. if c then owes_given_back commit else owes_nothing) is

        same_by : (b : Bool) → (at.owing.own core.0).granted ≡ b → owed.owes ≡ owes_nothing → AreSameMaps at.so.drawn next
        same_by true is none = let never : ◌≡◌ {A = OwesTurn} (owes_given_back commit) owes_nothing = sym (debt_is true is) ∙ none in absurd (cc never)
        same_by false is none =
            returned_nothing back.own.commit.grant at.so.drawn space next (sym some_is ∙ is) (at.so.same nobody) back.inodes back.blocks

        may_is : (c n : ℕ) (asked : OwesTurn) → (own_then c).may ≡ asked
            → (c ≡ core.0) × (◌≡◌ {A = OwesTurn} (owes_given_back commit) asked) ⊎ (owes_nothing ≡ asked)
        may_is c n asked may = elim (same_or_not c core.0) [
          | inl same ↦ inl (same, sym (ap (λ (o : OwnOwed). o.may) (at_same at.owing.own core.0 owed c same)) ∙ may)
          | inr apart ↦
              inr (sym (ap (λ (o : OwnOwed). o.may) (at_other at.owing.own core.0 owed c apart)
              ∙ others_may layout before named.stamps done past core (label.Returned commit) rest at.owing c apart) ∙ may)
        ]

        return_by : (c n : ℕ) → (own_then c).may ≡ owes_given_back n → WasReturned at.so.drawn (bringing_of named n).grant next
        return_by c n may = elim (may_is c n (owes_given_back n) may) [
          | inl here ↦
              subst (λ m. WasReturned at.so.drawn (bringing_of named m).grant next) (let same : commit ≡ n = cc here.1 in same)
              (returned_from (bringing_of named commit) past.opens commit at.so.drawn space next back fits (at.so.same nobody) at.theirs)
          | inr never ↦ absurd (cc never)
        ]

        no_grant : (c n : ℕ) → (own_then c).may ≡ owes_granted n → ⊥
        no_grant c n may = elim (may_is c n (owes_granted n) may) [ inl here ↦ cc here.1 | inr never ↦ cc never ]
