-- A map of free space along a record: what is known of it at each place where none has failed.
-- The map behind the last turn, with what it was before it.
use Rattle.std.proofs.Common.{◌≡◌, ◌++◌, ◌∷◌, ◌∙◌, ◌⊎◌, ◌≢◌, ℕ, List, [], subst, refl, sym, length, inl, inr, ap}
use Rattle.std.proofs.lemmas.List.{same_from_push, map-append}
use Rattle.space_map.specs.Space.{Space}
use Rattle.tree_laws.specs.declared.turns.Turn.{Turn}
use Rattle.commit_laws.specs.CommitOfPlan.{change_planned}
use Rattle.commit_laws.proofs.Ranked.{needs_are_those}
use Rattle.cut_laws.specs.Rules.{IsOneOf}
use Rattle.cut_laws.proofs.Basics.{in_either, in_left, in_right}
use Rattle.flush_laws.specs.Volume.{Volume}
use Rattle.turn_laws.specs.Ways.{own_turns}
use Rattle.turn_laws.specs.Need.{nothing}
use Rattle.merge_laws.specs.Plays.{PlayState, Aloft, PlaysGrant}
use Rattle.merge_laws.proofs.Lists.{nothing_there, with_one, but_one}
use Rattle.merge_laws.proofs.Playing.{KeysDiffer, differ_more, differ_out}
use Rattle.space_laws.proofs.Asked.{enters_counted}
use Rattle.turn_ties.specs.Plans.{amount_planned}
use Rattle.book_laws.specs.Brings.{Bringing, Brings}
use Rattle.book_laws.specs.Imagined.{entries_once}
use Rattle.book_laws.specs.Pairs.{Pair, bringing_under}
use Rattle.book_laws.specs.Walk.{brought_under, grant_at}
use Rattle.book_laws.proofs.Played.{PlayFits}
use Rattle.book_laws.proofs.Grants.{none_before}
use Rattle.book_laws.specs.Along.{out_under, no_turn_made, MapGoes, MapDoes, one_turn_made, MapKeeping, outs_under}
use Rattle.book_laws.specs.Out.{Beside, IsMapWithOut, grant_out, GrantOut, WasReserved}
use Rattle.book_laws.proofs.Gone.{grants_go_out}
use Rattle.book_laws.proofs.Reserved.{maps_reserve}

pub record LastMade (pairs : ℕ → Pair) (first : Space) (front : List Turn) (turn : Turn) (new : Space) : Type 0 where
  pub old : Space
  pub goes : MapGoes pairs first front old
  pub does : MapDoes turn.act pairs front turn.stamp.0 old new

pub last_made : (pairs : ℕ → Pair) (first : Space) (turns : List Turn) (space : Space) → MapGoes pairs first turns space → (front : List Turn) (turn : Turn)
    → turns ≡ front ++ turn ∷ [] → LastMade pairs first front turn space
last_made pairs first _ _ no_turn_made front turn e = absurd (nothing_there front turn [] e)
last_made pairs first _ _ (one_turn_made before own old new goes does) front turn e =
    let same = same_from_push before front own turn e in
    subst (λ (t : Turn). LastMade pairs first front t new) same.1
    (subst (λ (l : List Turn). LastMade pairs first l own new) same.0 (record { old = old; goes = goes; does = does }))

pub none_made : (pairs : ℕ → Pair) (first : Space) (turns : List Turn) (space : Space) → MapGoes pairs first turns space → turns ≡ [] → space ≡ first
none_made pairs first _ _ no_turn_made e = refl
none_made pairs first _ _ (one_turn_made before own old new goes does) e = absurd (nothing_there before own [] (sym e))

-- what was granted for a plan is as much as it needs
pub as_needed : (volume : Volume) (one : Bringing) → Brings volume one
    → (length one.grant.inodes ≡ (amount_planned one.plan).inodes) × (length one.grant.blocks ≡ (amount_planned one.plan).blocks)
as_needed volume one brings = (
  brings.planned.grants.serves.inodes.enough ∙ sym (enters_counted one.plan),
  brings.planned.grants.serves.blocks.enough ∙ needs_are_those (change_planned one.plan).seats,
)

-- what stands beside a map, by the stamps for which something is reserved
abbrev pub beside_stamps : MapKeeping → List ℕ → List ℕ → Volume → Beside
beside_stamps keeping stamps done volume = record {
  volume = volume;
  entries = entries_once (brought_under keeping.kept.pairs done) keeping.entries;
  outs = outs_under keeping.kept.pairs stamps;
}

-- What is known of the map behind turns: it is right beside what stands there; something is reserved once for each of some fsyncs, each of which had a
-- turn; for each that waits; and for each aloft that needs something; and it is as much as it needs.
pub record MapKnown (keeping : MapKeeping) (front : List Turn) (stamps : List ℕ) (at : PlayState) (volume : Volume) (space : Space) : Type 0 where
  pub right : IsMapWithOut (beside_stamps keeping stamps at.done volume) space
  pub once : KeysDiffer (λ (stamp : ℕ). stamp) stamps
  pub had_turn : (stamp : ℕ) → own_turns stamp front ≡ [] → IsOneOf stamps stamp → ⊥
  pub waits : (stamp : ℕ) → IsOneOf at.waiting stamp → IsOneOf stamps stamp
  pub flies : (flight : Aloft) → IsOneOf at.aloft flight
      → IsOneOf stamps flight.stamp ⊎ (amount_planned (bringing_under keeping.kept.pairs flight.stamp).plan ≡ nothing)
  pub needed : (stamp : ℕ) → IsOneOf stamps stamp
      → grant_out (out_under keeping.kept.pairs stamp) ≡ grant_at keeping.kept.pairs stamp

-- A turn at a place of a record.
pub record TurnThere (keeping : MapKeeping) : Type 0 where
  pub front : List Turn
  pub turn : Turn
  pub at : PlayState
  pub stamps : List ℕ
  pub so : PlayFits front at

module _ (keeping : MapKeeping) (place : TurnThere keeping) where
  abbrev front : List Turn
  front = place.front

  abbrev turn : Turn
  turn = place.turn

  abbrev at : PlayState
  at = place.at

  abbrev stamps : List ℕ
  stamps = place.stamps

  abbrev own : ℕ
  own = turn.stamp.0

  abbrev pairs : ℕ → Pair
  pairs = keeping.kept.pairs

  abbrev one : Bringing
  one = bringing_under pairs own

  abbrev Before : Volume → Space → Type 0
  Before volume old = MapKnown keeping front stamps at volume old

  abbrev Behind : List ℕ → PlayState → Volume → Space → Type 0
  Behind then later volume new = MapKnown keeping (front ++ turn ∷ []) then later volume new

  -- an fsync reserves
  module _ (later : PlayState) (plays : PlaysGrant front at own later) (volume : Volume) (old new : Space) (known : Before volume old)
      (does : WasReserved one.plan old one.grant new) where
    away : IsOneOf stamps own → ⊥
    away there = known.had_turn own plays.first there

    reserved : Behind (stamps ++ own ∷ []) (record at { waiting = at.waiting ++ own ∷ [] }) volume new
    reserved = record {
      right =
          subst (λ (outs : List GrantOut). IsMapWithOut (record (beside_stamps keeping stamps at.done volume) { outs = outs }) new)
          (sym (map-append (out_under pairs) stamps (own ∷ [])))
          (grants_go_out (beside_stamps keeping stamps at.done volume) old new one.plan (out_under pairs own) known.right does.taken);
      once = differ_more (λ (stamp : ℕ). stamp) stamps own known.once (λ stamp there same. away (subst (IsOneOf stamps) same there));
      had_turn = λ stamp e there.
          let was = none_before front turn stamp e in
          elim (in_either stamps (own ∷ []) stamp there) [
            | inl before ↦ known.had_turn stamp was.0 before
            | inr last ↦ elim last [ inl same ↦ was.1 (sym same) | inr none ↦ absurd none ]
          ];
      waits = λ stamp there. elim (in_either at.waiting (own ∷ []) stamp there) [
        | inl before ↦ in_left stamps (own ∷ []) stamp (known.waits stamp before)
        | inr last ↦ in_right stamps (own ∷ []) stamp last
      ];
      flies = λ flight there. elim (known.flies flight there) [
        | inl has ↦ inl (in_left stamps (own ∷ []) flight.stamp has)
        | inr none ↦ inr none
      ];
      needed = λ stamp there. elim (in_either stamps (own ∷ []) stamp there) [
        | inl before ↦ known.needed stamp before
        | inr last ↦ elim last [
          | inl same ↦
              subst (λ (n : ℕ). grant_out (out_under pairs n) ≡ grant_at pairs n) same
              (maps_reserve (beside_stamps keeping stamps at.done volume) old new one.plan (out_under pairs own) known.right does).as_needed
          | inr none ↦ absurd none
        ]
      ];
    }

    pub known_reserved : Behind (stamps ++ own ∷ []) later volume new
    known_reserved = subst (λ (s : PlayState). Behind (stamps ++ own ∷ []) s volume new) (sym plays.later_is) reserved

  -- a turn leaves the map as it is, and all that wait and fly did so before, but for its own commit
  pub known_still : (later : PlayState) (volume : Volume) (space : Space) → Before volume space → later.done ≡ at.done
      → ((stamp : ℕ) → IsOneOf later.waiting stamp → IsOneOf at.waiting stamp)
      → ((flight : Aloft) → IsOneOf later.aloft flight
      → ((was : Aloft) × IsOneOf at.aloft was × (was.stamp ≡ flight.stamp))
      ⊎ ((flight.stamp ≡ own) × (IsOneOf stamps own ⊎ (amount_planned one.plan ≡ nothing))))
      → Behind stamps later volume space
  known_still later volume space known done waits flies = record {
    right = subst (λ (l : List ℕ). IsMapWithOut (beside_stamps keeping stamps l volume) space) (sym done) known.right;
    once = known.once;
    had_turn = λ stamp e. known.had_turn stamp (none_before front turn stamp e).0;
    waits = λ stamp there. known.waits stamp (waits stamp there);
    flies = λ flight there. elim (flies flight there) [
      | inl was ↦
          subst (λ (n : ℕ). IsOneOf stamps n ⊎ (amount_planned (bringing_under pairs n).plan ≡ nothing)) was.2 (known.flies was.0 was.1)
      | inr begun ↦
          subst (λ (n : ℕ). IsOneOf stamps n ⊎ (amount_planned (bringing_under pairs n).plan ≡ nothing)) (sym begun.0) begun.1
    ];
    needed = known.needed;
  }

  -- nothing is reserved for an fsync any more
  module _ (before behind : List ℕ) (whole : stamps ≡ before ++ own ∷ behind) (volume was : Volume) (old new : Space) (known : Before was old) where
    pub apart : KeysDiffer (λ (stamp : ℕ). stamp) (before ++ behind) × ((stamp : ℕ) → IsOneOf (before ++ behind) stamp → stamp ≢ own)
    apart = differ_out (λ (stamp : ℕ). stamp) before own behind (subst (KeysDiffer (λ (stamp : ℕ). stamp)) whole known.once)

    within : (stamp : ℕ) → IsOneOf (before ++ behind) stamp → IsOneOf stamps stamp
    within stamp there = subst (λ (l : List ℕ). IsOneOf l stamp) (sym whole) (with_one before own behind stamp there)

    still : (stamp : ℕ) → IsOneOf stamps stamp → stamp ≢ own → IsOneOf (before ++ behind) stamp
    still stamp there differ = elim (but_one before own behind stamp (subst (λ (l : List ℕ). IsOneOf l stamp) whole there)) [
      | inl same ↦ absurd (differ (sym same))
      | inr rest ↦ rest
    ]

    pub outs_were : outs_under pairs stamps ≡ outs_under pairs before ++ out_under pairs own ∷ outs_under pairs behind
    outs_were = ap (outs_under pairs) whole ∙ map-append (out_under pairs) before (own ∷ behind)

    pub known_taken : (later : PlayState) → IsMapWithOut (beside_stamps keeping (before ++ behind) later.done volume) new
        → ((stamp : ℕ) → IsOneOf later.waiting stamp → IsOneOf at.waiting stamp × (stamp ≢ own))
        → ((flight : Aloft) → IsOneOf later.aloft flight → IsOneOf at.aloft flight × (flight.stamp ≢ own))
        → Behind (before ++ behind) later volume new
    known_taken later right waits flies = record {
      right = right;
      once = apart.0;
      had_turn = λ stamp e there. known.had_turn stamp (none_before front turn stamp e).0 (within stamp there);
      waits = λ stamp there. let its = waits stamp there in still stamp (known.waits stamp its.0) its.1;
      flies = λ flight there.
          let its = flies flight there in elim (known.flies flight its.0) [ inl has ↦ inl (still flight.stamp has its.1) | inr none ↦ inr none ];
      needed = λ stamp there. known.needed stamp (within stamp there);
    }
