-- A record fits what its books are kept from where cores tell so.
use Rattle.std.proofs.Common.{◌≡◌, ◌∙◌, List, subst, sym, map, [], ap, arith, ℕ}
use Rattle.tree_laws.specs.declared.turns.Turn.{Turn}
use Rattle.tree_laws.specs.declared.turns.TurnAct.{TurnAct}
use Rattle.tree_laws.specs.declared.turns.TurnAct.TheVariants as act
use Rattle.commit_laws.specs.CommitOfPlan.{CommitPlan, change_planned}
use Rattle.commit_laws.proofs.Ranked.{needs_are_those}
use Rattle.beside_laws.specs.Commits.{CoreCommit}
use Rattle.flush_laws.specs.Volume.{Volume}
use Rattle.turn_laws.specs.Need.{nothing, Amount}
use Rattle.merge_laws.specs.Plays.{PlayState}
use Rattle.space_laws.specs.Laws.{ServesAt}
use Rattle.space_laws.proofs.Asked.{enters_counted}
use Rattle.space_laws.proofs.Served.{grants_serve}
use Rattle.turn_ties.specs.Plans.{amount_planned}
use Rattle.book_laws.specs.Pairs.{Pair, IsOpenBeside, commit_under, bringing_under}
use Rattle.book_laws.specs.Walk.{IsCalmPlace, ReservesThere, grants_in, open_stamps, BeginsThere, FitsAct, FitsRecord}
use Rattle.book_laws.specs.Along.{MapKeeping, MapPlace, IsMapPlace, beside_at}
use Rattle.book_laws.proofs.Placed.{map_there, reserves_there, lacks_at}
use Rattle.reserve_laws.specs.Fits.{ToldReserve, TellsPair, by_look, by_own, CoresTell, place_of, ReservesTold, BeginsTold, TellsAct, RecordsFit}
use Rattle.reserve_laws.specs.Looks.{ServesPair}
use Rattle.reserve_laws.proofs.Looks.{opens_beside}
use Rattle.reserve_laws.proofs.OwnFile.{opens_own}

opens_told : (volume : Volume) (done : List CoreCommit) (pair : Pair) → TellsPair volume done pair → ServesPair volume pair → IsOpenBeside volume done pair
opens_told volume done pair (by_look from tells) serves = opens_beside volume done pair from tells serves
opens_told volume done pair (by_own own makes later is) serves =
    subst (IsOpenBeside volume done) (sym is) (opens_own volume done own makes pair.one.grant (subst (ServesPair volume) is serves) later)

pub told_reserve : ToldReserve
told_reserve pairs volume done open_ones stamp told =
    record { opens = opens_told volume (map (commit_under pairs) done) (pairs stamp) told.tells told.serves; apart = told.apart }

-- nothing serves a plan that needs nothing
nothing_serves : (volume : Volume) (plan : CommitPlan) → amount_planned plan ≡ nothing
    → ServesAt volume.layout volume.parts plan (record { inodes = []; blocks = [] })
nothing_serves volume plan none = record {
  serves = record {
    inodes = record {
      enough = sym (ap (λ (a : Amount). a.inodes) none) ∙ enters_counted plan;
      once = λ j k low few same. absurd (omega (arith, low));
      within = λ k low. absurd (omega (arith, low));
      free = λ k low. absurd (omega (arith, low));
    };
    blocks = record {
      enough = sym (ap (λ (a : Amount). a.blocks) none) ∙ sym (needs_are_those (change_planned plan).seats);
      once = λ j k low few same. absurd (omega (arith, low));
      free = λ k i place low within few has. absurd (omega (arith, low));
    };
  };
  lies = λ block there. absurd (omega (arith, there.1));
}

module _ (keeping : MapKeeping) (turns : List Turn) (tell : CoresTell keeping turns) where
  module _ (front : List Turn) (turn : Turn) (at : PlayState) (volume : Volume) (calm : IsCalmPlace keeping.kept turns front turn at volume) where
    abbrev place : MapPlace
    place = place_of tell.map_at front at volume

    abbrev own : ℕ
    own = turn.stamp.0

    is_place : IsMapPlace keeping place
    is_place = record {
      begins = tell.begins;
      plays = calm.plays;
      calm = calm.calm;
      imagines = calm.imagined.imagines;
      goes = tell.goes front turn at volume calm;
    }

    reserves_told : ReservesTold keeping.kept.pairs place own → ReservesThere keeping.kept (grants_in keeping.kept.pairs front) at volume turn
    reserves_told told =
        let right = (map_there keeping place is_place).right in
        reserves_there keeping place is_place turn told.left (told_reserve keeping.kept.pairs volume at.done (open_stamps at) own (record {
          tells = told.there.tells;
          serves =
              grants_serve volume (beside_at keeping place).entries (bringing_under keeping.kept.pairs own).plan place.space told.left
              (bringing_under keeping.kept.pairs own).grant
              right.stands.between right.keeps right.right told.reserved.taken;
          apart = told.there.apart;
        })) told.reserved

    begins_told : BeginsTold keeping.kept.pairs place own → BeginsThere keeping.kept at volume turn
    begins_told told = record {
      pair = told_reserve keeping.kept.pairs volume at.done (open_stamps at) own (record {
        tells = told.there.tells;
        serves =
            subst (ServesAt volume.layout volume.parts (bringing_under keeping.kept.pairs own).plan) (sym told.no_grant)
            (nothing_serves volume (bringing_under keeping.kept.pairs own).plan told.no_need);
        apart = told.there.apart;
      });
      no_need = told.no_need;
    }

    by_act : (did : TurnAct) → TellsAct did keeping.kept.pairs place turn → FitsAct did keeping.kept (grants_in keeping.kept.pairs front) at volume turn
    by_act act.Granted told = reserves_told told
    by_act (act.Short kind asked have) told = lacks_at keeping place is_place turn (record { kind = kind; asked = asked; have = have }) told
    by_act act.CutAt told = λ away. begins_told (told away)
    by_act act.Opened told = tt
    by_act act.Durable told = tt
    by_act act.Fail told = tt
    by_act act.Halted told = tt
    by_act act.GivenBack told = tt

  pub record_fits : FitsRecord keeping.kept turns
  record_fits = record {
    core = tell.core;
    flush = tell.flush;
    commit = tell.commit;
    fits = λ front turn at volume calm. by_act front turn at volume calm turn.act (tell.tells front turn at volume calm);
  }

pub records_fit : RecordsFit
records_fit = record_fits
