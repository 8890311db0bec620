-- Workers at seats, before and after they made calls.
use Rattle.std.proofs.Common.{◌≡◌, ◌<◌, ◌∷◌, ◌∙◌, ℕ, zero, suc, List, [], length, map, get_or, refl, sym, ap, subst, arith}
use Rattle.std.proofs.lemmas.List.{length-map}
use Rattle.stamp_table.specs.Table.{AreAllCores, IsSameCore}
use Rattle.stamp_table.proofs.Beginning.{all_again}
use Rattle.mem_values.specs.Start.{FileHand}
use Rattle.workers.specs.Works.{Rests}
use Rattle.mount.specs.Workers.{AreWorkers, PairAgrees, core_of}
use Rattle.mount.specs.declared.volume.Volume.{Volume}
use Rattle.library_example.specs.Seats.{AllAreBack, AllRest, worker_at}
use Rattle.library_example.specs.declared.seats.Seat.{Seat}

-- what a list is mapped to at one of its places
there : {X Y : Type 0} (f : X → Y) (xs : List X) (k : ℕ) (d : Y) (x : X) → k < length xs → get_or (map f xs) k d ≡ f (get_or xs k x)
there f [] k d x low = absurd (omega (arith, low))
there f (y ∷ xs) zero d x low = refl
there f (y ∷ xs) (suc k) d x low = there f xs k d x (omega (arith, low))

-- some item of a list that has a place
some_item : {X : Type 0} (xs : List X) (k : ℕ) → k < length xs → X
some_item [] k low = absurd (omega (arith, low))
some_item (x ∷ xs) k low = x

-- the core of the worker at a seat
abbrev core_at : {D : Type 0} → Seat D → FileHand
core_at seat = seat.worker.core

-- those are the cores of the workers
cores_are : {D : Type 0} (seats : List (Seat D)) → map core_of (map worker_at seats) ≡ map core_at seats
cores_are [] = refl
cores_are (seat ∷ seats) = ap (λ cores. seat.worker.core ∷ cores) (cores_are seats)

module _ {D : Type 0} (volume : Volume D) where
  -- the workers of a volume rest at their seats
  pub all_rest : (seats : List (Seat D)) → AreWorkers volume (map worker_at seats) → AllRest volume.table volume.set seats
  all_rest seats are place d low =
      subst (Rests volume.table (PairAgrees volume)) (there worker_at seats place d.worker d low)
      (are.rest place d.worker (let long = length-map seats worker_at in omega (arith, low, long)))

  module _ (before after : List (Seat D)) (long : length after ≡ length before) (back : AllAreBack volume.table volume.set before after) where
    -- where each is back its core is the one that it had, and holds nothing
    same : (place : ℕ) (d : FileHand) → place < length (map core_at before)
        → IsSameCore (get_or (map core_at before) place d) (get_or (map core_at after) place d) × ((get_or (map core_at after) place d).held ≡ [])
    same place d low =
        let within : place < length before = (let count = length-map before core_at in omega (arith, low, count)) in
        let seat = some_item before place within in
        let is = back place seat within in
        let was = there core_at before place d seat within in
        let now = there core_at after place d seat (omega (arith, within, long)) in (
          subst (λ (z : FileHand × FileHand). IsSameCore z.0 z.1) (λ i. (sym was i, sym now i)) is.same,
          subst (λ (h : FileHand). h.held ≡ []) (sym now) is.rests.between.holds_none,
        )

    -- and they are all workers of the volume still
    pub seats_again : AreWorkers volume (map worker_at before) → AreWorkers volume (map worker_at after)
    seats_again are = record {
      all = subst (AreAllCores volume.table) (sym (cores_are after))
          (all_again volume.table (map core_at before) (map core_at after)
          (length-map after core_at ∙ (long ∙ sym (length-map before core_at))) same
          (subst (AreAllCores volume.table) (cores_are before) are.all));
      rest = λ place d low.
          let within : place < length after = (let count = length-map after worker_at in omega (arith, low, count)) in
          let seat = some_item after place within in
          let is = back place seat (omega (arith, within, long)) in
          subst (Rests volume.table (PairAgrees volume)) (sym (there worker_at after place d seat within)) is.rests;
    }
