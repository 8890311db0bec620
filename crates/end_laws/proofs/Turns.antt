-- What each turn of a mount's record fits: whose it is, and what its core tells as it begins a commit.
use Rattle.close_laws.proofs.Owing.{tells}
use Rattle.std.proofs.Common.{◌≢◌, ◌≡◌, ◌++◌, ◌∷◌, ◌∙◌, ◌⊎◌, List, ℕ, refl, true, [], inr, inl, subst, nat_eq, sym, ap}
use Rattle.sfs_base.proofs.BasicNumbers.{same_number}
use Rattle.tree_laws.specs.declared.turns.Turn.{Turn}
use Rattle.tree_laws.specs.declared.turns.TurnAct.TheVariants as act
use Rattle.cut_laws.specs.Rules.{IsOneOf}
use Rattle.cut_laws.specs.Closure.{Flush}
use Rattle.cut_laws.proofs.Listed.{to_filter, from_map}
use Rattle.turn_laws.specs.Ways.{own_turns}
use Rattle.merge_laws.specs.Plays.{PensMerge}
use Rattle.merge_laws.specs.Phases.{may_follow, phase_of, no_turn_yet, has_reserved}
use Rattle.merge_laws.proofs.Follows.{granted_first, cut_begins}
use Rattle.merge_laws.proofs.Phases.{first_turn}
use Rattle.stamp_table.specs.declared.event.Event.{Event}
use Rattle.stamp_table.specs.declared.event.Event.TheVariants.{Told}
use Rattle.slot_laws.specs.declared.label.Label.{Label}
use Rattle.slot_laws.specs.Labels.{BoxPast, past_from}
use Rattle.slot_laws.specs.Nodes.{ReservedCommit, no_numbers}
use Rattle.slot_laws.specs.Lasts.{Reserving, told_reserving}
use Rattle.slot_laws.specs.declared.label.Label.TheVariants as label
use Rattle.slot_laws.specs.Rules.{OpenedRule, EmptyRule}
use Rattle.slot_laws.proofs.NodesTold.{past_parts}
use Rattle.close_laws.specs.Maps.{Numbered, past_of}
use Rattle.close_laws.specs.Own.{NotesTurn}
use Rattle.close_laws.specs.Beside.{stamps_under}
use Rattle.close_laws.proofs.Opens.{AloftOpen, ReservedOpen}
use Rattle.end_laws.specs.Mount.{MountEnd, MountEnds, AreNamedAlong}
use Rattle.end_laws.proofs.TurnPlaces.{layout, begun, PlaceAt, place_there, opens_there, comes_behind, turns_stand, pens_told}
use Rattle.end_laws.proofs.TurnFronts.{ToldFrom, StartsWith, notes_it, opens_it, ends_it, turns_are_told}
use Rattle.end_laws.proofs.Played.{may_come_there}
use Rattle.end_laws.proofs.Opens.{ReservedLast}
use Rattle.end_laws.proofs.Next.{ComesReserved}
use Rattle.end_laws.proofs.LacksReserved.{IsBehind}
use Rattle.end_laws.proofs.Walk.{own_there}
use Rattle.end_laws.proofs.Through.{freely}

module _ (D : Type 0) (at : MountEnd) (named : Numbered) (ends : MountEnds D at) (are : AreNamedAlong at named) where
  abbrev turns : List Turn
  turns = (past_of at.told).turns

  abbrev past_at : List (Event Label) → BoxPast
  past_at front = past_from (layout D at named ends are) front (begun D at named ends are)

  -- At a place of the record.
  module _ (merge : PensMerge at.start.first at.start.history turns) (front : List Turn) (turn : Turn) (tail : List Turn)
      (place_is : turns ≡ front ++ turn ∷ tail) where
    abbrev stamp : ℕ
    stamp = turn.stamp.0

    abbrev Told_from : Type 0
    Told_from = ToldFrom (layout D at named ends are) at.told.before (begun D at named ends are) at.told.log ends.along.may front turn

    told_from : turn.act ≢ act.Opened → turn.act ≢ act.Durable → Told_from
    told_from no_open no_durable =
        turns_are_told (layout D at named ends are) at.told.before (begun D at named ends are) at.told.log ends.along.may refl front turn tail place_is
        no_open no_durable

    may_follow_here : may_follow (phase_of stamp front) turn.act ≡ true
    may_follow_here = may_come_there at.start.first at.start.history turns merge front turn tail place_is

    -- with the place of its labels
    module _ (from : Told_from) where
      abbrev behind_fact : Label → Type 0
      behind_fact fact = at.told.log ≡ from.done ++ Told from.core fact ∷ from.rest

      module _ (fact : Label) (whole : behind_fact fact) where
        abbrev here : PlaceAt D at named ends are from.done (past_at from.done) (Told from.core fact ∷ from.rest)
        here = place_there D at named ends are from.done (Told from.core fact ∷ from.rest) whole

        -- an open commit of an fsync without turns was reserved right before
        reserved_before : own_turns stamp front ≡ [] → (one : ReservedCommit) → IsOneOf (past_at from.done).opens one → stamp ≡ named.stamps one.number
            → ReservedLast named from.done one.number
        reserved_before none one among is = elim ((opens_there D at named ends are from.done (Told from.core fact ∷ from.rest) whole).had one among) [
          | inr last ↦ last
          | inl had ↦ absurd (subst (λ l. IsOneOf l had.turn) none
              (to_filter (λ (t : Turn). nat_eq t.stamp.0 stamp) front had.turn (subst (λ l. IsOneOf l had.turn) from.turns had.among)
              (subst (λ n. nat_eq had.turn.stamp.0 n ≡ true) (had.stamp_is ∙ sym is) (same_number had.turn.stamp.0))))
        ]

        comes : (number : ℕ) (last : ReservedLast named from.done number) → ComesReserved named.stamps last.one.commit last.one.grant fact
        comes number last =
            comes_behind D at named ends are last.rest last.one from.core fact from.rest (whole ∙ ap (λ l. l ++ Told from.core fact ∷ from.rest) last.whole)

        -- so the turn comes right behind that label
        is_behind : (rest : List (Event Label)) (one : Reserving) → from.done ≡ rest ++ told_reserving one ∷ [] → stamp ≡ named.stamps one.commit
            → ((own : ℕ) → NotesTurn act.GivenBack own fact → ⊥) → IsBehind D at named ends are front turn
        is_behind rest one done_is is no_back = record {
          rest = rest;
          one = one;
          core = from.core;
          fact = fact;
          back = from.rest;
          whole = whole ∙ ap (λ l. l ++ Told from.core fact ∷ from.rest) done_is;
          turns = sym (ap (λ (p : BoxPast). p.turns)
              (ap past_at done_is
              ∙ past_parts (layout D at named ends are) at.told.before rest (told_reserving one ∷ []) (begun D at named ends are)))
              ∙ from.turns;
          stamp_is = is;
          no_back = no_back;
        }

    -- a turn that reserves is the first of its fsync
    pub first_granted : turn.act ≡ act.Granted → phase_of stamp front ≡ no_turn_yet
    first_granted did = granted_first (phase_of stamp front) (subst (λ a. may_follow (phase_of stamp front) a ≡ true) did may_follow_here)

    -- one that begins a commit is, or its fsync has reserved
    pub first_cut : turn.act ≡ act.CutAt → (phase_of stamp front ≡ no_turn_yet) ⊎ (phase_of stamp front ≡ has_reserved)
    first_cut did = cut_begins (phase_of stamp front) (subst (λ a. may_follow (phase_of stamp front) a ≡ true) did may_follow_here)

    -- It comes right behind the label that reserved its number, which it has.
    pub record GrantsBehind : Type 0 where
      pub behind : IsBehind D at named ends are front turn
      pub commit_is : turn.commit ≡ behind.one.commit

    pub granted_behind : turn.act ≡ act.Granted → GrantsBehind
    unfolding is_behind
    granted_behind did = by own_place own_place.starts
      where
        own_place : Told_from
        own_place = told_from (λ e. cc (sym did ∙ e)) (λ e. cc (sym did ∙ e))

        by : (from : Told_from) → StartsWith turn from.fact → GrantsBehind
        by from (notes_it is) =
            let whole = from.whole ∙ ap (λ f. from.done ++ Told from.core f ∷ from.rest) is in
            let stands = (turns_stand D at named ends are).granted turn (record { front = from.done; core = from.core; back = from.rest; whole = whole }) did in
            let last : ReservedLast named from.done stands.one.commit =
            record { rest = stands.rest; one = stands.one; whole = stands.whole; number_is = refl } in
            record {
              behind = is_behind from (label.Noted turn) whole stands.rest stands.one stands.whole stands.stamp_is
                  (λ own notes. let same : turn ≡ notes.turn = cc notes.is in
                  cc (sym did ∙ (ap (λ (t : Turn). t.act) same ∙ notes.did_is)));
              commit_is = elim (comes from (label.Noted turn) whole stands.one.commit last) [
                | inl its ↦ let same : turn ≡ its.notes.turn = cc its.notes.is in ap (λ (t : Turn). t.commit) same ∙ its.commit_is
                | inr its ↦ absurd {A = turn.commit ≡ stands.one.commit} (cc its.is)
              ];
            }
        by from (opens_it k ok opened is) =
            let whole = from.whole ∙ ap (λ f. from.done ++ Told from.core f ∷ from.rest) is in
            let rule = (here from (label.Opened k ok turn opened) whole).is.drawing.owing.may.0.1 in
            absurd {A = GrantsBehind} (cc (sym did ∙ rule.cut_is.did_is))
        by from (ends_it commit opened durable is) =
            let whole = from.whole ∙ ap (λ f. from.done ++ Told from.core f ∷ from.rest) is in
            let rule = (here from (label.Empty commit turn opened durable) whole).is.drawing.owing.may.0.1 in
            absurd {A = GrantsBehind} (cc (sym did ∙ rule.cut_is.did_is))

    -- A commit begins with its fsync's first turn: it is one that wrote nothing, for which nothing was granted.
    pub record BeginsFirst : Type 0 where
      pub behind : IsBehind D at named ends are front turn
      pub none : behind.one.grant ≡ no_numbers
      pub commit_is : turn.commit ≡ behind.one.commit

    pub begins_first : turn.act ≡ act.CutAt → phase_of stamp front ≡ no_turn_yet → BeginsFirst
    unfolding is_behind reserved_before
    begins_first did first = by own_place own_place.starts
      where
        own_place : Told_from
        own_place = told_from (λ e. cc (sym did ∙ e)) (λ e. cc (sym did ∙ e))

        none_own : own_turns stamp front ≡ []
        none_own = first_turn stamp front first

        by : (from : Told_from) → StartsWith turn from.fact → BeginsFirst
        by from (notes_it is) = elim (comes from fact whole was.0.number last) [
          | inl notes ↦
              let same : turn ≡ notes.notes.turn = cc notes.notes.is in
              absurd {A = BeginsFirst} (cc (sym did ∙ (ap (λ (t : Turn). t.act) same ∙ notes.notes.did_is)))
          | inr its ↦ absurd {A = BeginsFirst} (cc its.is)
        ]
          where
            fact : Label
            fact = label.Noted turn

            whole : behind_fact from fact
            whole = from.whole ∙ ap (λ f. from.done ++ Told from.core f ∷ from.rest) is

            place : PlaceAt D at named ends are from.done (past_at from.done) (Told from.core fact ∷ from.rest)
            place = here from fact whole

            there : IsOneOf (stamps_under named (past_at from.done).opens) stamp
            there =
                own_there named (layout D at named ends are) at.told.before at.told.moment at.told.first at.told.log ends.along.may
                (pens_told D at named ends are) (turns_stand D at named ends are) from.done from.core from.rest place.space
                (opens_there D at named ends are from.done (Told from.core fact ∷ from.rest) whole) turn whole place.is.drawing act.CutAt did refl

            was : (one : ReservedCommit) × IsOneOf (past_at from.done).opens one × (named.stamps one.number ≡ stamp)
            was = from_map (λ (c : ReservedCommit). named.stamps c.number) (past_at from.done).opens stamp there

            last : ReservedLast named from.done was.0.number
            last = reserved_before from fact whole none_own was.0 was.1 (sym was.2)
        by from (opens_it k ok opened is) = elim (comes from fact whole aloft.one.number last) [
          | inl its ↦ absurd {A = BeginsFirst} (cc its.notes.is)
          | inr its ↦ absurd {A = BeginsFirst} (cc its.is)
        ]
          where
            fact : Label
            fact = label.Opened k ok turn opened

            whole : behind_fact from fact
            whole = from.whole ∙ ap (λ f. from.done ++ Told from.core f ∷ from.rest) is

            place : PlaceAt D at named ends are from.done (past_at from.done) (Told from.core fact ∷ from.rest)
            place = here from fact whole

            rule : OpenedRule (layout D at named ends are) at.told.before from.core.0 k turn opened (past_at from.done)
            rule = place.is.drawing.owing.may.0.1

            aloft : AloftOpen named (past_at from.done).opens rule.has.work
            aloft = place.is.drawing.opens.aloft k rule.has.work rule.has.there rule.has.aloft

            last : ReservedLast named from.done aloft.one.number
            last =
                reserved_before from fact whole none_own aloft.one aloft.among
                (ap (λ (f : Flush). f.stamp) rule.cut_is.flush_is ∙ (aloft.stamp_is ∙ ap named.stamps (sym aloft.number_is)))
        by from (ends_it commit opened durable is) = elim (comes from fact whole open_one.one.number last) [
          | inl its ↦ absurd {A = BeginsFirst} (cc its.notes.is)
          | inr its ↦
              let same : commit ≡ last.one.commit = cc its.is in
              record {
                behind = is_behind from fact whole last.rest last.one last.whole (cut_stamp ∙ ap named.stamps same) (λ own notes. cc notes.is);
                none = its.none;
                commit_is = rule.cut_is.commit_is ∙ same;
              }
        ]
          where
            fact : Label
            fact = label.Empty commit turn opened durable

            whole : behind_fact from fact
            whole = from.whole ∙ ap (λ f. from.done ++ Told from.core f ∷ from.rest) is

            place : PlaceAt D at named ends are from.done (past_at from.done) (Told from.core fact ∷ from.rest)
            place = here from fact whole

            rule : EmptyRule at.told.before from.core.0 commit (record { cut = turn; opened = opened; durable = durable }) (past_at from.done)
            rule = place.is.drawing.owing.may.0.1

            open_one : ReservedOpen named (past_at from.done).opens commit (place.is.drawing.owing.own from.core.0).granted
            open_one = place.is.drawing.opens.reserved_open from.core.0 commit rule.number

            cut_stamp : stamp ≡ named.stamps commit
            cut_stamp =
                freely named (layout D at named ends are) at.told.before at.told.moment at.told.first at.told.log ends.along.may
                (pens_told D at named ends are) (turns_stand D at named ends are) from.done from.core from.rest place.space
                (opens_there D at named ends are from.done (Told from.core fact ∷ from.rest) whole) fact commit turn opened durable
                (place.is.drawing.owing.own from.core.0).owes (place.is.drawing.owing.own from.core.0).may
                (tells (layout D at named ends are) at.told.before named.stamps from.done (past_at from.done) from.core fact from.rest place.is.drawing.owing)

            last : ReservedLast named from.done open_one.one.number
            last = reserved_before from fact whole none_own open_one.one open_one.among (cut_stamp ∙ ap named.stamps (sym open_one.number_is))
