-- The turns of a mount are recorded, as it ends.
use Rattle.std.proofs.Common.{◌≡◌, ◌∙◌, List, length, subst, inr, inl, ap, ℕ, refl, map}
use Rattle.sfs_base.specs.declared.numbers.SpaceKind.{SpaceKind}
use Rattle.space_map.specs.Space.{Space, GrantedNumbers}
use Rattle.tree_laws.specs.declared.turns.Turn.{Turn}
use Rattle.tree_laws.specs.declared.turns.TurnAct.TheVariants as act
use Rattle.tree_laws.specs.declared.turns.TurnAct.{TurnAct}
use Rattle.cut_laws.specs.Rules.{IsOneOf}
use Rattle.flush_laws.specs.Volume.{Volume}
use Rattle.merge_laws.specs.Plays.{PensMerge, PlayState}
use Rattle.merge_laws.specs.Phases.{phase_of, no_turn_yet}
use Rattle.turn_ties.specs.Plans.{amount_planned}
use Rattle.book_laws.specs.Walk.{IsCalmPlace, FitsRecord}
use Rattle.book_laws.specs.Pairs.{bringing_under}
use Rattle.book_laws.proofs.Played.{fits_play}
use Rattle.book_laws.proofs.Walk.{records_are_kept}
use Rattle.book_laws.specs.Along.{MapPlace, MapDoes, TellsLack}
use Rattle.reserve_laws.specs.Fits.{TellsThere, ReservesTold, BeginsTold, TellsAct, CoresTell}
use Rattle.reserve_laws.proofs.Fits.{records_fit}
use Rattle.close_laws.specs.Maps.{IsDrawn, past_of, Numbered}
use Rattle.close_laws.proofs.AlongLabels.{maps_are_drawn}
use Rattle.flush_agrees.specs.Closing.{pen_fsyncs}
use Rattle.end_laws.specs.Mount.{MountEnd, MountEnds, AreNamedAlong}
use Rattle.end_laws.proofs.Places.{told_labels}
use Rattle.end_laws.proofs.Survives.{turns_of_mounts_end}
use Rattle.end_laws.specs.Recorded.{LacksAreTold, kept_at, MountsAreRecorded}
use Rattle.end_laws.proofs.Goes.{map_behind, GoesAt, goes_at}
use Rattle.end_laws.proofs.LacksReserved.{IsBehind, tells_there, own_reserved}
use Rattle.end_laws.proofs.Turns.{granted_behind, first_granted, first_cut, begins_first}
use Rattle.end_laws.proofs.Numbers.{core_has, flush_has, commit_has}
use Rattle.end_laws.proofs.TurnPlaces.{keeping_at, begins_map}

module _ (D : Type 0) (at : MountEnd) (named : Numbered) (ends : MountEnds D at) (are : AreNamedAlong at named)
    (merge : PensMerge at.start.first at.start.history (past_of at.told).turns) (lacks : LacksAreTold at named) where
  abbrev turns : List Turn
  turns = (past_of at.told).turns

  drawn : IsDrawn named at.told
  drawn = maps_are_drawn named at.told (told_labels D at named ends are)

  map_at : List Turn → Space
  map_at front = map_behind named.pairs at.told.first drawn.goes (length front)

  module _ (front : List Turn) (turn : Turn) (play : PlayState) (volume : Volume) (place : IsCalmPlace (kept_at at named) turns front turn play volume) where
    goes : GoesAt named.pairs at.told.first drawn.goes front turn
    goes = goes_at named.pairs at.told.first drawn.goes front turn place.back place.whole

    abbrev here : MapPlace
    here = record { front = front; at = play; volume = volume; space = map_at front }

    there : IsBehind D at named ends are front turn → phase_of turn.stamp.0 front ≡ no_turn_yet → TellsThere named.pairs here turn.stamp.0
    there behind first = tells_there D at named ends are front turn behind play volume place.plays place.calm place.imagined first (map_at front)

    granted_told : turn.act ≡ act.Granted → ReservesTold named.pairs here turn.stamp.0
    unfolding map_at
    granted_told did =
        let behind = granted_behind D at named ends are merge front turn place.back place.whole did in
        record {
          there = there behind.behind (first_granted D at named ends are merge front turn place.back place.whole did);
          left = goes.left;
          reserved = subst (λ a. MapDoes a named.pairs front turn.stamp.0 (map_at front) goes.left) did goes.does;
        }

    begins_told : turn.act ≡ act.CutAt → (IsOneOf play.waiting turn.stamp.0 → ⊥) → BeginsTold named.pairs here turn.stamp.0
    begins_told did away = elim (first_cut D at named ends are merge front turn place.back place.whole did) [
      | inr reserved ↦ absurd (away ((fits_play front play place.plays).fits.reserved turn.stamp.0 reserved))
      | inl first ↦
          let begun = begins_first D at named ends are merge front turn place.back place.whole did first in
          let fits = (own_reserved D at named ends are front turn begun.behind).grants in
          record {
            there = there begun.behind first;
            no_need = ap (λ s. amount_planned (bringing_under named.pairs s).plan) begun.behind.stamp_is
                ∙ (fits.needed ∙ ap (λ (g : GrantedNumbers). record { inodes = length g.inodes; blocks = length g.blocks }) begun.none);
            no_grant = ap (λ s. (bringing_under named.pairs s).grant) begun.behind.stamp_is ∙ (fits.grant_is ∙ begun.none);
          }
    ]

    short_told : (kind : SpaceKind) (asked have : ℕ) → turn.act ≡ act.Short kind asked have
        → TellsLack volume (map_at front) turn (record { kind = kind; asked = asked; have = have })
    unfolding map_at
    short_told kind asked have did =
        lacks front turn (record { kind = kind; asked = asked; have = have })
        (record { play = play; volume = volume; space = map_at front; place = place; goes = goes.front_goes; did = did })

    tells_by : (did : TurnAct) → turn.act ≡ did → TellsAct did named.pairs here turn
    tells_by act.Granted did = granted_told did
    tells_by (act.Short kind asked have) did = short_told kind asked have did
    tells_by act.CutAt did = begins_told did
    tells_by act.GivenBack did = tt
    tells_by act.Halted did = tt
    tells_by act.Opened did = tt
    tells_by act.Durable did = tt
    tells_by act.Fail did = tt

  cores_tell : CoresTell (keeping_at D at named ends are) turns
  unfolding map_at
  cores_tell = record {
    begins = begins_map D at named ends are;
    core = core_has D at named ends are merge;
    flush = flush_has D at named ends are merge;
    commit = commit_has D at named ends are merge;
    map_at = map_at;
    goes = λ front turn play volume place. (goes front turn play volume place).front_goes;
    tells = λ front turn play volume place. tells_by front turn play volume place turn.act refl;
  }

  pub record_fits : FitsRecord (kept_at at named) turns
  record_fits = records_fit (keeping_at D at named ends are) turns cores_tell

pub mounts_are_recorded : (D : Type 0) → MountsAreRecorded D
mounts_are_recorded D at named entry_faults most ends are lacks since few =
    let of_turns = turns_of_mounts_end D at most ends few in
    records_are_kept (kept_at at named) entry_faults at.told.before most (past_of at.told).turns (map pen_fsyncs at.fsyncs) (record {
      begins = ends.begins.labels.walk;
      agrees = of_turns.agrees;
      since = since;
      fits = record_fits D at named ends are of_turns.merge lacks;
    })
