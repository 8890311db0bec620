-- A map of free space is right at each place of a record where none has failed, and its grants are those of the books.
-- what is known at a place
use Rattle.std.proofs.Common.{◌≡◌, ◌∙◌, ◌∷◌, [], map, sym, List, ℕ, refl, inl, inr, ap, subst}
use Rattle.space_map.specs.Space.{Space}
use Rattle.tree_laws.specs.declared.turns.Turn.{Turn}
use Rattle.tree_laws.specs.declared.turns.TurnAct.TheVariants as act
use Rattle.cut_laws.specs.Rules.{IsOneOf}
use Rattle.turn_laws.specs.Books.{Books, FitsFree, free_in, least_open, IsShortOf}
use Rattle.turn_ties.specs.Plans.{amount_planned}
use Rattle.book_laws.specs.Brings.{Bringing}
use Rattle.book_laws.specs.Walk.{grants_in, grant_at, open_stamps, ReservesThere, LacksThere}
use Rattle.book_laws.specs.Pairs.{bringing_under, PairReserves}
use Rattle.book_laws.specs.Midway.{books_granted}
use Rattle.book_laws.specs.Along.{out_under, MapKeeping, MapPlace, IsMapPlace, stamps_after, outs_in, outs_under, IsMapAt, beside_at, MapDoes, LackTold, TellsLack, MapsGoAlong, PlacesReserve, PlacesLack}
use Rattle.book_laws.specs.Out.{grant_out, books_out}
use Rattle.book_laws.proofs.Along.{MapKnown}
use Rattle.book_laws.proofs.Places.{known_along}
use Rattle.book_laws.proofs.Stamps.{grants_are}
use Rattle.book_laws.proofs.Reserved.{maps_reserve}
use Rattle.book_laws.proofs.Lacked.{maps_lack}

module _ (keeping : MapKeeping) (place : MapPlace) (is : IsMapPlace keeping place) where
  known_there : MapKnown keeping place.front (stamps_after [] place.front) place.at place.volume place.space
  known_there = known_along keeping is.begins place.front place.at is.plays place.volume place.space is.calm is.imagines is.goes

  grants_there : map grant_out (outs_in keeping.kept.pairs place.front) ≡ grants_in keeping.kept.pairs place.front
  grants_there = each (stamps_after [] place.front) known_there.needed ∙ sym (grants_are keeping.kept.pairs place.front)
    where
      each : (stamps : List ℕ)
          → ((stamp : ℕ) → IsOneOf stamps stamp
          → grant_out (out_under keeping.kept.pairs stamp) ≡ grant_at keeping.kept.pairs stamp)
          → map grant_out (outs_under keeping.kept.pairs stamps) ≡ map (grant_at keeping.kept.pairs) stamps
      each [] needed = refl
      each (stamp ∷ stamps) needed = λ i. needed stamp (inl refl) i ∷ each stamps (λ other there. needed other (inr there)) i

  pub map_there : IsMapAt keeping place
  map_there = record { right = known_there.right; grants = grants_there }

  books_there : books_out (beside_at keeping place) ≡ books_granted place.volume (grants_in keeping.kept.pairs place.front)
  books_there = ap (books_granted place.volume) grants_there

  pub reserves_there : (turn : Turn) (new : Space) → PairReserves keeping.kept.pairs place.volume place.at.done (open_stamps place.at) turn.stamp.0
      → MapDoes act.Granted keeping.kept.pairs place.front turn.stamp.0 place.space new
      → ReservesThere keeping.kept (grants_in keeping.kept.pairs place.front) place.at place.volume turn
  reserves_there turn new pair does =
      let one : Bringing = bringing_under keeping.kept.pairs turn.stamp.0 in
      let reserved =
      maps_reserve (beside_at keeping place) place.space new one.plan (record { stamp = turn.stamp.0; numbers = one.grant }) known_there.right does in
      record {
        pair = pair;
        fits = subst (λ (books : Books). FitsFree (amount_planned one.plan) (free_in books)) books_there reserved.fits;
        least = subst (λ (books : Books). one.grant.inodes ≡ least_open books (amount_planned one.plan).inodes) books_there reserved.least;
      }

  pub lacks_at : (turn : Turn) (told : LackTold) → TellsLack place.volume place.space turn told
      → LacksThere (grants_in keeping.kept.pairs place.front) place.volume turn told.kind told.asked told.have
  lacks_at _ told tells = record {
    planning = tells.planning;
    plans = tells.plans;
    short =
        subst (λ (books : Books). IsShortOf (amount_planned tells.planning.plan) (free_in books) told.kind told.asked told.have) books_there
        (maps_lack (beside_at keeping place) place.space tells.planning.plan told.kind told.asked told.have known_there.right tells.lacks);
  }

pub maps_go_along : MapsGoAlong
maps_go_along = map_there

pub places_reserve : PlacesReserve
places_reserve keeping place turn new is pair does = reserves_there keeping place is turn new pair does

pub places_lack : PlacesLack
places_lack keeping place turn told is tells = lacks_at keeping place is turn told tells
