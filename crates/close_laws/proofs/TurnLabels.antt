-- The map along turns through a label that makes turns.
use Rattle.std.proofs.Common.{◌∷◌, ◌++◌, ◌≡◌, ◌∙◌, ℕ, List, [], subst, sym, ap, Bool, refl, append_assoc}
use Rattle.sfs_base.specs.declared.numbers.CoreId.{CoreId}
use Rattle.sfs_image.specs.Super.{Layout}
use Rattle.space_map.specs.Space.{Space}
use Rattle.tree_laws.specs.declared.turns.TurnAct.TheVariants as act
use Rattle.tree_laws.specs.declared.turns.Turn.{Turn}
use Rattle.cut_laws.specs.Closure.{Flush}
use Rattle.book_laws.specs.Along.{MapGoes}
use Rattle.stamp_table.specs.declared.event.Event.{Event}
use Rattle.stamp_table.specs.declared.event.Event.TheVariants.{Told}
use Rattle.slot_laws.specs.declared.label.Label.{Label}
use Rattle.slot_laws.specs.declared.label.Label.TheVariants as label
use Rattle.slot_laws.specs.Nodes.{ReservedCommit}
use Rattle.slot_laws.specs.Labels.{BoxPast, after_label}
use Rattle.slot_laws.specs.Grants.{EndsGrant}
use Rattle.slot_laws.proofs.GrantsHeld.{same_commit}
use Rattle.close_laws.specs.Own.{OwesTurn, owes_granted, owes_given_back, owes_nothing, TellsBeside}
use Rattle.close_laws.specs.Maps.{Numbered, AreSameMaps, FreesAs, bringing_of, GrantFits, IsEmptyAs}
use Rattle.close_laws.proofs.Drawn.{Drawing, tells_now, cut_goes, push, all_were, ends_from, fewer_were}
use Rattle.close_laws.proofs.QuietLabels.{nobody_before, free_label}

module _ (named : Numbered) (layout : Layout) (before : ℕ) (first : Space) where
  module _ (done : List (Event Label)) (past : BoxPast) (core : CoreId) (rest : List (Event Label)) (space next : Space) where
    abbrev At : Label → Type 0
    At fact = Drawing named layout before first done past (Told core fact ∷ rest) space

    abbrev Then : Label → Type 0
    Then fact = Drawing named layout before first (done ++ Told core fact ∷ []) (after_label layout core.0 fact past) rest next

    -- the two turns of a commit whose gate is written
    pub opened_label : (k : ℕ) (done_so : Bool) (cut opened : Turn) → At (label.Opened k done_so cut opened) → next ≡ space
        → Then (label.Opened k done_so cut opened)
    opened_label k done_so cut opened at same_space =
        let fact = label.Opened k done_so cut opened in
        let rule = at.owing.may.0.1 in
        let nobody = nobody_before named layout before first done past core rest space next (label.Opened k done_so cut opened) at same_space tt
        (λ turn e. cc e) in
        let aloft = at.opens.aloft k rule.has.work rule.has.there rule.has.aloft in
        let stamp : cut.stamp.0 ≡ named.stamps aloft.one.number =
        ap (λ (f : Flush). f.stamp) rule.cut_is.flush_is ∙ (aloft.stamp_is ∙ ap named.stamps (sym aloft.number_is)) in
        let begun =
        cut_goes named layout before first past.opens past.turns at.owing.own space at.so nobody
        (λ one among. (at.opens.grants one among).grants) aloft.one aloft.among cut rule.cut_is.did_is stamp in
        let both =
        push named layout before first
        (past.turns ++ cut ∷ []) opened act.Opened opened.stamp.0 at.so.drawn at.so.drawn rule.opened_is.did_is refl begun refl in
        free_label named layout before first done past core rest space next (label.Opened k done_so cut opened) at same_space tt nobody refl
        (all_were past.opens) (cut ∷ opened ∷ []) refl at.so.drawn
        (subst (λ turns. MapGoes named.pairs first turns at.so.drawn) (append_assoc past.turns (cut ∷ []) (opened ∷ [])) both)
        (subst (AreSameMaps at.so.drawn) (sym same_space) (at.so.same nobody))

    -- the turn that makes a commit durable
    pub settled_label : (k : ℕ) (turn : Turn) → At (label.Settled k turn) → EndsGrant past.opens turn.commit space next → Then (label.Settled k turn)
    settled_label k turn at ends =
        let rule = at.owing.may.0.1 in
        let nobody = nobody_before named layout before first done past core rest space next (label.Settled k turn) at ends tt (λ other e. cc e) in
        let aloft = at.opens.aloft k rule.has.work rule.has.there rule.has.aloft in
        let number : ends.own.commit.number ≡ aloft.one.number =
        ends.own.number_is ∙ (rule.is.commit_is ∙ sym aloft.number_is) in
        let same_one : aloft.one ≡ ends.own.commit =
        same_commit past.opens at.lasts.once aloft.one ends.own.commit aloft.among ends.own.among (sym number) in
        let work_number : rule.has.work.commit ≡ ends.own.commit.number = sym (number ∙ aloft.number_is) in
        let stamp : turn.stamp.0 ≡ named.stamps ends.own.commit.number =
        ap (λ (f : Flush). f.stamp) rule.is.flush_is ∙ (aloft.stamp_is ∙ ap named.stamps work_number) in
        let frees : FreesAs (bringing_of named ends.own.commit.number) ends.own.commit.gives_up =
        subst (λ (p : ℕ × ReservedCommit). FreesAs (bringing_of named p.0) p.1.gives_up) (λ i. (work_number i, same_one i)) aloft.frees in
        let ended =
        ends_from (bringing_of named ends.own.commit.number) ends.own.commit at.so.drawn space next
        (at.opens.grants ends.own.commit ends.own.among).grants frees
        (at.so.same nobody) ends.inodes ends.blocks in
        free_label named layout before first done past core rest space next (label.Settled k turn) at ends tt nobody refl (fewer_were past.opens turn.commit)
        (turn ∷ []) refl next
        (push named layout before first past.turns turn act.Durable
        (named.stamps ends.own.commit.number) at.so.drawn next rule.is.did_is stamp at.so.goes ended)
        (record { inodes = λ n. refl; blocks = λ n. refl })

    -- the three turns of a commit that wrote nothing
    pub empty_label : (commit : ℕ) (cut opened durable : Turn) → At (label.Empty commit cut opened durable) → EndsGrant past.opens commit space next
        → IsEmptyAs (bringing_of named commit) → Then (label.Empty commit cut opened durable)
    empty_label commit cut opened durable at ends empty =
        let fact = label.Empty commit cut opened durable in
        let rule = at.owing.may.0.1 in
        let nobody = nobody_before named layout before first done past core rest space next (label.Empty commit cut opened durable) at ends empty
        (λ other e. cc e) in
        let open_one = at.opens.reserved_open core.0 commit rule.number in
        let same_one : open_one.one ≡ ends.own.commit =
        same_commit past.opens at.lasts.once open_one.one ends.own.commit open_one.among ends.own.among (open_one.number_is ∙ sym ends.own.number_is) in
        let cut_stamp : cut.stamp.0 ≡ named.stamps commit =
        freely (at.owing.own core.0).owes (at.owing.own core.0).may
        (tells_now named layout before first done past core (label.Empty commit cut opened durable) rest space next at ends empty) in
        let flush : cut.stamp.0 ≡ durable.stamp.0 =
        ap (λ (f : Flush). f.stamp) (rule.cut_is.flush_is ∙ sym rule.durable_is.flush_is) in
        let begun =
        cut_goes named layout before first past.opens past.turns at.owing.own space at.so nobody
        (λ one among. (at.opens.grants one among).grants) ends.own.commit ends.own.among cut
        rule.cut_is.did_is (cut_stamp ∙ ap named.stamps (sym ends.own.number_is)) in
        let both =
        push named layout before first
        (past.turns ++ cut ∷ []) opened act.Opened opened.stamp.0 at.so.drawn at.so.drawn rule.opened_is.did_is refl begun refl in
        let gives : FreesAs (bringing_of named commit) ends.own.commit.gives_up =
        subst (FreesAs (bringing_of named commit)) (sym (ap (λ (o : ReservedCommit). o.gives_up) (sym same_one) ∙ open_one.gives)) empty.frees in
        let grants : GrantFits (bringing_of named commit) ends.own.commit.grant =
        subst (λ n. GrantFits (bringing_of named n) ends.own.commit.grant) ends.own.number_is (at.opens.grants ends.own.commit ends.own.among).grants in
        let ended =
        ends_from (bringing_of named commit) ends.own.commit at.so.drawn space next grants gives (at.so.same nobody) ends.inodes ends.blocks in
        let all =
        push named layout before first ((past.turns ++ cut ∷ []) ++ opened ∷ []) durable act.Durable (named.stamps commit) at.so.drawn next
        rule.durable_is.did_is (sym flush ∙ cut_stamp) both ended in
        free_label named layout before first done past core rest space next (label.Empty commit cut opened durable) at ends empty nobody refl
        (fewer_were past.opens commit) (cut ∷ opened ∷ durable ∷ []) refl next
        (subst (λ turns. MapGoes named.pairs first turns next)
        (append_assoc (past.turns ++ cut ∷ []) (opened ∷ []) (durable ∷ []) ∙ append_assoc past.turns (cut ∷ []) (opened ∷ durable ∷ [])) all)
        (record { inodes = λ n. refl; blocks = λ n. refl })
      where
        freely : (o may : OwesTurn) → TellsBeside named.stamps o may (past.owns core.0) (label.Empty commit cut opened durable) → cut.stamp.0
            ≡ named.stamps commit
        freely owes_nothing may is = is
        freely (owes_granted n) may is = absurd (cc is.is)
        freely (owes_given_back n) may is = absurd (cc is.is)
