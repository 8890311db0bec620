-- What is known of a map of free space goes on with each turn of a record, while none has failed.
-- an fsync that needs nothing was granted nothing
use Rattle.std.proofs.Common.{◌≡◌, ◌∙◌, ◌++◌, ◌∷◌, ◌≢◌, ◌⊎◌, [], ap, List, subst, sym, ℕ, append-nil, map, filter, not, nat_eq, refl, true, inl, inr, None, false, Some}
use Rattle.std.proofs.lemmas.List.{nil_from_length, map-append}
use Rattle.sfs_base.specs.Listed.{is_listed}
use Rattle.sfs_base.proofs.BasicTruth.{true_or_false, not_both, false_not_true}
use Rattle.sfs_base.proofs.BasicOptions.{none_some}
use Rattle.space_map.specs.Space.{Space}
use Rattle.space_map.specs.Pool.{Pool, status_of}
use Rattle.space_map.specs.declared.status.Status.TheVariants.{Granted}
use Rattle.tree_laws.specs.declared.turns.Turn.{Turn}
use Rattle.tree_laws.specs.declared.turns.TurnAct.{TurnAct}
use Rattle.tree_laws.specs.declared.turns.TurnAct.TheVariants as act
use Rattle.disk_nodes.specs.declared.old.OldEntry.{OldEntry}
use Rattle.commit_laws.specs.PartsMade.{store_planned}
use Rattle.cut_laws.specs.Rules.{IsOneOf}
use Rattle.cut_laws.proofs.Listed.{to_map, listed_one}
use Rattle.cut_laws.proofs.Basics.{in_either}
use Rattle.flush_laws.specs.Volume.{Volume, OneFsync}
use Rattle.flush_laws.specs.Planned.{IsPlannedFsync}
use Rattle.turn_laws.specs.Need.{nothing, Amount}
use Rattle.merge_laws.specs.Plays.{no_play, PlayState, PlaysBack, Aloft, PlaysEnd, PlaysAct, nothing_played, Plays, one_play}
use Rattle.merge_laws.proofs.Lists.{StandsAt, stands_at, among_at, with_one, but_one}
use Rattle.space_laws.specs.Map.{WasReturned}
use Rattle.volume_laws.proofs.Stores.{commits_stay_standing, store_left}
use Rattle.turn_ties.specs.Plans.{amount_planned}
use Rattle.book_laws.specs.Brings.{Bringing, Brings}
use Rattle.book_laws.specs.Imagined.{entries_once, Imagines}
use Rattle.book_laws.specs.Entries.{entries_behind}
use Rattle.book_laws.proofs.Imagined.{LastImagined, last_imagined, first_imagined}
use Rattle.book_laws.proofs.Kept.{planned_those, after_those, once_more, with_those}
use Rattle.book_laws.specs.Pairs.{Pair, bringing_under}
use Rattle.book_laws.specs.Walk.{brought_under}
use Rattle.book_laws.proofs.Calm.{waited_there, left_within, waits_not_aloft}
use Rattle.book_laws.proofs.Grants.{none_before}
use Rattle.book_laws.proofs.Played.{fits_play}
use Rattle.book_laws.specs.Out.{GrantOut, AreOut, ListsGranted, inodes_out, blocks_out, IsMapWithOut, Beside}
use Rattle.book_laws.specs.Along.{out_under, MapKeeping, outs_under, EndsBringing, MapDoes, stamps_by, BeginsMap, MapGoes, stamps_after}
use Rattle.book_laws.specs.Ending.{Ending, EndsRight}
use Rattle.book_laws.proofs.Along.{as_needed, TurnThere, MapKnown, beside_stamps, outs_were, known_taken, apart, known_reserved, known_still, none_made, last_made}
use Rattle.book_laws.proofs.Gone.{inodes_more, blocks_more, grants_come_back}
use Rattle.book_laws.proofs.Stamps.{one_taken, none_taken, stamps_more}
use Rattle.book_laws.proofs.GoOn.{maps_go_on}

none_granted : (volume : Volume) (one : Bringing) → Brings volume one → amount_planned one.plan ≡ nothing
    → (one.grant.inodes ≡ []) × (one.grant.blocks ≡ [])
none_granted volume one brings none =
    let all = as_needed volume one brings in (
      nil_from_length one.grant.inodes (all.0 ∙ ap (λ (a : Amount). a.inodes) none),
      nil_from_length one.grant.blocks (all.1 ∙ ap (λ (a : Amount). a.blocks) none),
    )

-- what is out is out beside a grant of nothing too
out_beside : (space : Space) (outs : List GrantOut) (out : GrantOut) → (out.numbers.inodes ≡ []) × (out.numbers.blocks ≡ []) → AreOut space outs
    → AreOut space (outs ++ out ∷ [])
out_beside space outs out none are = record {
  inodes =
      subst (ListsGranted space.inodes)
      (sym (inodes_more outs out ∙ ap (λ (l : List ℕ). inodes_out outs ++ l) none.0 ∙ append-nil (inodes_out outs))) are.inodes;
  blocks =
      subst (ListsGranted space.blocks)
      (sym (blocks_more outs out ∙ ap (λ (l : List ℕ). blocks_out outs ++ l) none.1 ∙ append-nil (blocks_out outs))) are.blocks;
}

module _ (keeping : MapKeeping) (place : TurnThere keeping) where
  abbrev front : List Turn
  front = place.front

  abbrev turn : Turn
  turn = place.turn

  abbrev at : PlayState
  at = place.at

  abbrev stamps : List ℕ
  stamps = place.stamps

  abbrev own : ℕ
  own = turn.stamp.0

  abbrev pairs : ℕ → Pair
  pairs = keeping.kept.pairs

  abbrev one : Bringing
  one = bringing_under pairs own

  abbrev Before : Volume → Space → Type 0
  Before volume old = MapKnown keeping front stamps at volume old

  abbrev Behind : List ℕ → PlayState → Volume → Space → Type 0
  Behind then later volume new = MapKnown keeping (front ++ turn ∷ []) then later volume new

  -- the map beside other grants
  abbrev RightWith : Volume → List GrantOut → Space → Type 0
  RightWith volume outs space = IsMapWithOut (record (beside_stamps keeping stamps at.done volume) { outs = outs }) space

  -- An fsync gives back.
  module _ (later : PlayState) (plays : PlaysBack at own later) (volume : Volume) (old new : Space) (known : Before volume old)
      (does : WasReturned old one.grant new) where
    abbrev left : List ℕ
    left = plays.left

    its_place : StandsAt stamps own
    its_place = stands_at stamps own (known.waits own (waited_there at own left plays.waited))

    abbrev rest : List ℕ
    rest = its_place.front ++ its_place.back

    right_then : RightWith volume (outs_under pairs rest) new
    right_then =
        subst (λ (outs : List GrantOut). RightWith volume outs new) (sym (map-append (out_under pairs) its_place.front its_place.back))
        (grants_come_back (beside_stamps keeping stamps at.done volume) old new (outs_under pairs its_place.front) (outs_under pairs its_place.back)
        (out_under pairs own)
        (subst (λ (outs : List GrantOut). RightWith volume outs old)
        (outs_were keeping place its_place.front its_place.back its_place.whole volume volume old new known) known.right)
        does)

    given : Behind rest (record at { waiting = left }) volume new
    given = known_taken keeping place its_place.front its_place.back its_place.whole volume volume old new known (record at { waiting = left }) right_then
        (left_within at own left plays.waited)
        (λ flight there. (
          there,
          λ same.
              waits_not_aloft front at place.so own (waited_there at own left plays.waited)
              (subst (IsOneOf (map (λ (flight : Aloft). flight.stamp) at.aloft)) same (to_map (λ (flight : Aloft). flight.stamp) at.aloft flight there)),
        ))

    pub known_given : Behind (filter (λ other. not (nat_eq other own)) stamps) later volume new
    known_given =
        subst (λ (l : List ℕ). Behind l later volume new)
        (sym (ap (filter (λ other. not (nat_eq other own))) its_place.whole
        ∙ one_taken own its_place.front its_place.back
        (λ there. (apart keeping place its_place.front its_place.back its_place.whole volume volume old new known).1 own there refl)))
        (subst (λ (s : PlayState). Behind rest s volume new) (sym plays.later_is) given)

  -- The commit of an fsync is durable.
  module _ (later : PlayState) (plays : PlaysEnd at own later) (volume : Volume)
      (last : LastImagined keeping.kept.start (brought_under pairs at.done) one volume) (old new : Space) (known : Before last.was old)
      (does : EndsBringing one old new) where
    abbrev entries : List OldEntry
    entries = entries_once (brought_under pairs at.done) keeping.entries

    abbrev ended : OneFsync
    ended = with_those last.was one last.brings entries known.right.keeps

    planned : IsPlannedFsync last.was ended
    planned = planned_those last.was one last.brings entries known.right.keeps

    abbrev ending : List GrantOut → List GrantOut → Ending
    ending before behind = record {
      volume = last.was;
      one = ended;
      stamp = own;
      front = before;
      back = behind;
      store = store_planned last.was.store one.plan one.grant;
      later = entries_behind one.nodes one.plan one.grant entries;
    }

    ends : (before behind : List GrantOut) → EndsRight (ending before behind) old new
    ends before behind = record {
      planned = planned;
      stands =
          commits_stay_standing last.was ended (store_planned last.was.store one.plan one.grant) known.right.stands planned
          (record { low = last.brings.comes.low; live = last.brings.comes.live }) (store_left last.was ended planned);
      keeps = after_those last.was one last.brings entries known.right.keeps;
      tx = does.tx;
      used = does.used;
    }

    abbrev landed : PlayState
    landed = record at { done = at.done ++ own ∷ []; aloft = plays.before ++ plays.behind }

    entries_then : entries_behind one.nodes one.plan one.grant entries ≡ entries_once (brought_under pairs (at.done ++ own ∷ [])) keeping.entries
    entries_then =
        sym (once_more (brought_under pairs at.done) one keeping.entries)
        ∙ ap (λ (l : List Bringing). entries_once l keeping.entries) (sym (map-append (bringing_under pairs) at.done (own ∷ [])))

    -- it is no more out, and all others are
    right_ended : (before behind : List GrantOut) (then : List ℕ) → before ++ behind ≡ outs_under pairs then
        → RightWith last.was (before ++ out_under pairs own ∷ behind) old → IsMapWithOut (beside_stamps keeping then landed.done volume) new
    right_ended before behind then are right =
        subst (λ (b : Beside). IsMapWithOut b new) (λ i. record { volume = (sym last.is) i; entries = entries_then i; outs = are i })
        (maps_go_on (ending before behind) old new right (ends before behind))

    own_flew : IsOneOf at.aloft (record { stamp = own; opened = true })
    own_flew =
        subst (λ (l : List Aloft). IsOneOf l (record { stamp = own; opened = true })) (sym plays.flies.whole)
        (among_at plays.before (record { stamp = own; opened = true }) plays.behind)

    waits_still : (stamp : ℕ) → IsOneOf at.waiting stamp → IsOneOf at.waiting stamp × (stamp ≢ own)
    waits_still stamp there = (
      there,
      λ same.
          waits_not_aloft front at place.so own (subst (IsOneOf at.waiting) same there)
          (to_map (λ (flight : Aloft). flight.stamp) at.aloft (record { stamp = own; opened = true }) own_flew),
    )

    flies_still : (flight : Aloft) → IsOneOf (plays.before ++ plays.behind) flight → IsOneOf at.aloft flight × (flight.stamp ≢ own)
    flies_still flight there = (
      subst (λ (l : List Aloft). IsOneOf l flight) (sym plays.flies.whole)
          (with_one plays.before (record { stamp = own; opened = true }) plays.behind flight there),
      plays.flies.once flight there,
    )

    -- something was reserved for it
    was_reserved : IsOneOf stamps own → Behind (filter (λ other. not (nat_eq other own)) stamps) landed volume new
    was_reserved there =
        let at_place = stands_at stamps own there in
        let right =
        right_ended (outs_under pairs at_place.front) (outs_under pairs at_place.back) (at_place.front ++ at_place.back)
        (sym (map-append (out_under pairs) at_place.front at_place.back))
        (subst (λ (outs : List GrantOut). RightWith last.was outs old)
        (outs_were keeping place at_place.front at_place.back at_place.whole volume last.was old new known) known.right) in
        subst (λ (l : List ℕ). Behind l landed volume new)
        (sym (ap (filter (λ other. not (nat_eq other own))) at_place.whole
        ∙ one_taken own at_place.front at_place.back
        (λ one_more. (apart keeping place at_place.front at_place.back at_place.whole volume last.was old new known).1 own one_more refl)))
        (known_taken keeping place at_place.front at_place.back at_place.whole volume last.was old new known landed right waits_still flies_still)

    -- or it needed nothing
    needed_nothing : (IsOneOf stamps own → ⊥) → amount_planned one.plan ≡ nothing
        → Behind (filter (λ other. not (nat_eq other own)) stamps) landed volume new
    needed_nothing away none =
        subst (λ (l : List ℕ). Behind l landed volume new) (sym (none_taken own stamps away)) (record {
          right = right_ended (outs_under pairs stamps) [] stamps (append-nil (outs_under pairs stamps)) (record {
            stands = known.right.stands;
            keeps = known.right.keeps;
            right = known.right.right;
            are_out = out_beside old (outs_under pairs stamps) (out_under pairs own) (none_granted last.was one last.brings none) known.right.are_out;
          });
          once = known.once;
          had_turn = λ stamp e. known.had_turn stamp (none_before front turn stamp e).0;
          waits = known.waits;
          flies = λ flight there. known.flies flight (flies_still flight there).0;
          needed = known.needed;
        })

    pub known_ended : Behind (filter (λ other. not (nat_eq other own)) stamps) later volume new
    known_ended = subst (λ (s : PlayState). Behind (filter (λ other. not (nat_eq other own)) stamps) s volume new) (sym plays.later_is)
        (elim (true_or_false (is_listed stamps own)) [
          | inl listed ↦ was_reserved ((listed_one stamps own).0 listed)
          | inr not_listed ↦
              let away : IsOneOf stamps own → ⊥ = λ there. not_both ((listed_one stamps own).1 there) not_listed in
              elim (known.flies (record { stamp = own; opened = true }) own_flew) [
                | inl there ↦ absurd (away there)
                | inr none ↦ needed_nothing away none
              ]
        ])

  -- An act of the turn.
  module _ (later : PlayState) (calm : later.failed ≡ None) (volume : Volume) (old new : Space)
      (before : (was : Volume) → at.failed ≡ None → Imagines keeping.kept.start (brought_under pairs at.done) was → Before was old) where
    abbrev There : PlayState → Type 0
    There state = Imagines keeping.kept.start (brought_under pairs state.done) volume

    pub by_act : (did : TurnAct) → PlaysAct did front at turn later → MapDoes did pairs front own old new → There later
        → Behind (stamps_by did own stamps) later volume new
    by_act act.Granted plays does imagines =
        known_reserved keeping place later plays volume old new (before volume plays.calm (subst There plays.later_is imagines)) does
    by_act act.GivenBack plays does imagines =
        known_given later plays volume old new
        (before volume (sym (ap (λ (s : PlayState). s.failed) plays.later_is) ∙ calm) (subst There plays.later_is imagines)) does
    by_act (act.Short kind asked have) plays does imagines =
        subst (Behind stamps later volume) (sym does)
        (known_still keeping place later volume old (before volume plays.calm (subst There plays.later_is imagines))
        (ap (λ (s : PlayState). s.done) plays.later_is)
        (λ stamp there. subst (λ (s : PlayState). IsOneOf s.waiting stamp) plays.later_is there)
        (λ flight there. inl (flight, subst (λ (s : PlayState). IsOneOf s.aloft flight) plays.later_is there, refl)))
    by_act act.CutAt plays does imagines =
        let known = before volume plays.calm (subst There plays.later_is imagines) in
        subst (Behind stamps later volume) (sym does.1)
        (known_still keeping place later volume old known (ap (λ (s : PlayState). s.done) plays.later_is)
        (λ stamp there. begun_waited stamp (subst (λ (s : PlayState). IsOneOf s.waiting stamp) plays.later_is there))
        (λ flight there. begun_flew known flight (subst (λ (s : PlayState). IsOneOf s.aloft flight) plays.later_is there)))
      where
        begun_waited : (stamp : ℕ) → IsOneOf plays.left stamp → IsOneOf at.waiting stamp
        begun_waited stamp there = elim plays.waited [
          | inl stops ↦ (left_within at own plays.left stops stamp there).0
          | inr first ↦ subst (λ (l : List ℕ). IsOneOf l stamp) first.1 there
        ]

        begun_flew : Before volume old → (flight : Aloft) → IsOneOf (at.aloft ++ record { stamp = own; opened = false } ∷ []) flight
            → ((was : Aloft) × IsOneOf at.aloft was × (was.stamp ≡ flight.stamp))
            ⊎ ((flight.stamp ≡ own) × (IsOneOf stamps own ⊎ (amount_planned one.plan ≡ nothing)))
        begun_flew known flight there = elim (in_either at.aloft (record { stamp = own; opened = false } ∷ []) flight there) [
          | inl was ↦ inl (flight, was, refl)
          | inr last ↦ elim last [
            | inl same ↦ inr (
              sym (ap (λ (f : Aloft). f.stamp) same),
              elim plays.waited [
                | inl stops ↦ inl (known.waits own (waited_there at own plays.left stops))
                | inr first ↦ inr (does.0 first.0)
              ],
            )
            | inr none ↦ absurd none
          ]
        ]
    by_act act.Opened plays does imagines =
        subst (Behind stamps later volume) (sym does)
        (known_still keeping place later volume old (before volume plays.calm (subst There plays.later_is imagines))
        (ap (λ (s : PlayState). s.done) plays.later_is)
        (λ stamp there. subst (λ (s : PlayState). IsOneOf s.waiting stamp) plays.later_is there)
        (λ flight there. inl (opened_flew flight (subst (λ (s : PlayState). IsOneOf s.aloft flight) plays.later_is there))))
      where
        opened_flew : (flight : Aloft) → IsOneOf (plays.before ++ record { stamp = own; opened = true } ∷ plays.behind) flight
            → (was : Aloft) × IsOneOf at.aloft was × (was.stamp ≡ flight.stamp)
        opened_flew flight there = elim (but_one plays.before (record { stamp = own; opened = true }) plays.behind flight there) [
          | inl same ↦ (
            record { stamp = own; opened = false },
            subst (λ (l : List Aloft). IsOneOf l (record { stamp = own; opened = false })) (sym plays.flies.whole)
                (among_at plays.before (record { stamp = own; opened = false }) plays.behind),
            ap (λ (f : Aloft). f.stamp) same,
          )
          | inr rest ↦ (
            flight,
            subst (λ (l : List Aloft). IsOneOf l flight) (sym plays.flies.whole)
                (with_one plays.before (record { stamp = own; opened = false }) plays.behind flight rest),
            refl,
          )
        ]
    by_act act.Durable plays does imagines =
        let last =
        last_imagined keeping.kept.start volume (brought_under pairs later.done) imagines (brought_under pairs at.done) one
        (ap (λ (s : PlayState). brought_under pairs s.done) plays.later_is ∙ map-append (bringing_under pairs) at.done (own ∷ [])) in
        known_ended later plays volume last old new (before last.was plays.calm last.imagines) does
    by_act act.Fail plays does imagines = absurd (none_some (sym calm ∙ ap (λ (s : PlayState). s.failed) plays.later_is))
    by_act act.Halted plays does imagines =
        absurd (none_some (sym calm ∙ ap (λ (s : PlayState). s.failed) plays.later_is ∙ plays.failed))

module _ (keeping : MapKeeping) (begins : BeginsMap keeping) where
  -- before the first turn
  known_first : MapKnown keeping [] [] nothing_played keeping.kept.start keeping.first
  known_first = record {
    right = record {
      stands = begins.stands;
      keeps = begins.keeps;
      right = begins.right;
      are_out = record { inodes = lists_none keeping.first.inodes begins.none.inodes; blocks = lists_none keeping.first.blocks begins.none.blocks };
    };
    once = tt;
    had_turn = λ stamp e there. absurd there;
    waits = λ stamp there. absurd there;
    flies = λ flight there. absurd there;
    needed = λ stamp there. absurd there;
  }
    where
      lists_none : (pool : Pool) → ((number : ℕ) → status_of pool number ≢ Some Granted) → ListsGranted pool []
      lists_none pool none = record { each = λ number. ((λ is. absurd (none number is)), (λ is. absurd (false_not_true is))); once = tt }

  pub known_along : (front : List Turn) (at : PlayState) → Plays front at → (volume : Volume) (space : Space) → at.failed ≡ None
      → Imagines keeping.kept.start (brought_under keeping.kept.pairs at.done) volume → MapGoes keeping.kept.pairs keeping.first front space
      → MapKnown keeping front (stamps_after [] front) at volume space
  known_along _ _ no_play volume space calm imagines goes =
      subst (λ (v : Volume). MapKnown keeping [] [] nothing_played v space) (sym (first_imagined keeping.kept.start volume [] imagines refl))
      (subst (MapKnown keeping [] [] nothing_played keeping.kept.start) (sym (none_made keeping.kept.pairs keeping.first [] space goes refl)) known_first)
  known_along _ _ (one_play front turn at later plays did) volume space calm imagines goes =
      let last = last_made keeping.kept.pairs keeping.first (front ++ turn ∷ []) space goes front turn refl in
      subst (λ (stamps : List ℕ). MapKnown keeping (front ++ turn ∷ []) stamps later volume space) (sym (stamps_more [] front turn))
      (by_act keeping (record { front = front; turn = turn; at = at; stamps = stamps_after [] front; so = fits_play front at plays }) later calm volume last.old
      space (λ was calm_there there. known_along front at plays was last.old calm_there there last.goes) turn.act did last.does imagines)
