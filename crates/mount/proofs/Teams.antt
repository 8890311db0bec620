-- The workers of a volume, before and after they ran, and as they are taken in.
use Rattle.std.proofs.Common.{◌≡◌, ◌<◌, ◌+◌, ◌∷◌, ◌∙◌, ℕ, zero, suc, List, [], Some, length, map, get_or, true, refl, sym, ap, subst, arith}
use Rattle.std.specs.Prelude.{All, slice_get, slice_index_or}
use Rattle.std.proofs.lemmas.List.{length-map}
use Rattle.std.proofs.lemmas.Option.{get_or_from_slice_get, slice_get_within}
use Rattle.script.specs.declared.commands.Line.{Line}
use Rattle.stamp_table.specs.Table.{AreIdleFrom, IsSameCore, first_leads}
use Rattle.stamp_table.proofs.Beginning.{all_again}
use Rattle.commit_laws.proofs.CommitMade.{map_there}
use Rattle.mem_values.specs.Start.{FileHand, FileState}
use Rattle.disk_box.specs.Pens.{PenHand}
use Rattle.journal_set.specs.Making.{MayClose}
use Rattle.workers.specs.Works.{Rests, WorksEach}
use Rattle.workers.specs.declared.worker.Worker.{Worker}
use Rattle.mount.specs.Volume.{HasRoomForWorkers, IsVolume}
use Rattle.mount.specs.Workers.{WorkersAreBack, AreWorkers, PairAgrees, core_of, pen_of, worker_begun}
use Rattle.mount.specs.declared.volume.Volume.{Volume}

-- what is so of workers by an agreement is so of them by one that it implies
module _ {P : Type 0} (t : FileState) (From To : FileHand → P → Type 0) (more : (core : FileHand) (pen : P) → From core pen → To core pen) where
  pub rests_by : (worker : Worker P) → Rests t From worker → Rests t To worker
  rests_by worker rests = record { between = rests.between; agree = more worker.core worker.pen rests.agree; past = rests.past }

  pub each_by : (phase : List Line) (from : ℕ) (before after : List (Worker P)) → WorksEach t From phase from before after → WorksEach t To phase from before after
  each_by phase from before after each place d low =
      let works = each place d low in
      record {
        made = works.made;
        rests = rests_by (slice_index_or after place d) works.rests;
        same = works.same;
        grown = works.grown;
        makes = works.makes;
        past = works.past;
        late = works.late;
        refused = works.refused;
      }

-- what a list is mapped to, place by place
pub at_map : {X Y : Type 0} (f : X → Y) (xs : List X) (k : ℕ) (d : X) → get_or (map f xs) k (f d) ≡ f (get_or xs k d)
at_map f [] k d = refl
at_map f (x ∷ xs) zero d = refl
at_map f (x ∷ xs) (suc k) d = at_map f xs k d

-- what holds of all holds of the one at a place
pub all_there : {X : Type 0} (P : X → Type 0) (xs : List X) (k : ℕ) (x : X) → All P xs → slice_get xs k ≡ Some x → P x
all_there P xs k x all there = subst P (get_or_from_slice_get xs k x x there) (all k x (slice_get_within xs k x there))

-- what a list is mapped to at a place
pub there_too : {P : Type 0} (workers : List (Worker P)) (k : ℕ) (worker : Worker P) → slice_get workers k ≡ Some worker
    → slice_get (map core_of workers) k ≡ Some worker.core
there_too [] k worker there = absurd (let low = slice_get_within [] k worker there in omega (arith, low))
there_too (w ∷ workers) zero worker there = (let same : w ≡ worker = cc (there) in ap (λ (x : Worker _). Some x.core) same)
there_too (w ∷ workers) (suc k) worker there = there_too workers k worker there

-- some worker of a list that has one at a place
some_worker : {P : Type 0} (workers : List (Worker P)) (place : ℕ) → place < length workers → Worker P
some_worker [] place low = absurd (omega (arith, low))
some_worker (worker ∷ workers) place low = worker

-- one of them has the same core, which holds nothing
same_at : {D : Type 0} (volume : Volume D) (workers after : List (Worker (PenHand D))) → WorkersAreBack volume workers after → (place : ℕ) (d : FileHand)
    → place < length workers
    → IsSameCore (get_or (map core_of workers) place d) (get_or (map core_of after) place d) × ((get_or (map core_of after) place d).held ≡ [])
same_at {D = D} volume workers after back place d low =
    let other : Worker (PenHand D) = worker_begun d (some_worker workers place low).pen in
    let is = back place other low in
    let was = at_map core_of workers place other in
    let now = at_map core_of after place other in (
      subst (λ (z : FileHand × FileHand). IsSameCore z.0 z.1) (λ i. (sym was i, sym now i)) is.1,
      subst (λ (h : FileHand). h.held ≡ []) (sym now) is.0.between.holds_none,
    )

module _ {D : Type 0} (volume : Volume D) (workers : List (Worker (PenHand D))) (are : AreWorkers volume workers) where
  -- there are as many as the table has cores
  pub workers_count : length workers ≡ volume.table.cores
  workers_count = sym (length-map workers core_of) ∙ are.all.count

  -- one at a place rests
  rest_there : (core : ℕ) (worker : Worker (PenHand D)) → slice_get workers core ≡ Some worker → Rests volume.table (PairAgrees volume) worker
  rest_there core worker there = all_there (Rests volume.table (PairAgrees volume)) workers core worker are.rest there

  -- where they are back from calls they are all workers still
  pub team_again : (after : List (Worker (PenHand D))) → length after ≡ length workers → WorkersAreBack volume workers after → AreWorkers volume after
  team_again after long back = record {
    all = all_again volume.table (map core_of workers) (map core_of after)
        (length-map after core_of ∙ (long ∙ sym (length-map workers core_of))) same are.all;
    rest = λ place d within. (back place d (omega (arith, within, long))).0;
  }
    where
      same : (place : ℕ) (d : FileHand) → place < length (map core_of workers)
          → IsSameCore (get_or (map core_of workers) place d) (get_or (map core_of after) place d)
          × ((get_or (map core_of after) place d).held ≡ [])
      same place d within = same_at volume workers after back place d (let count = length-map workers core_of in omega (arith, within, count))

  -- so they are behind a phase
  pub run_again : (phase : List Line) (from : ℕ) (after : List (Worker (PenHand D))) → length after ≡ length workers
      → WorksEach volume.table (PairAgrees volume) phase from workers after → AreWorkers volume after
  run_again phase from after long each = team_again after long (λ place d low. ((each place d low).rests, (each place d low).same))

-- pens of workers that rest are idle as their cores are
idle_pens : {D : Type 0} (volume : Volume D) (number : ℕ) (workers : List (Worker (PenHand D)))
    → AreIdleFrom volume.table.table volume.table.cores number (map core_of workers) → All (Rests volume.table (PairAgrees volume)) workers
    → AreIdleFrom volume.set.table volume.set.cores number (map pen_of workers)
idle_pens volume number [] idle rest = tt
idle_pens volume number (worker ∷ workers) idle rest =
    let agrees = (rest 0 worker (omega arith)).agree in (
      record {
        table_is = agrees.ready.outside.table_is;
        cores_are = agrees.cores;
        number_is = agrees.agree.one ∙ idle.0.number_is;
        holds_none = agrees.ready.outside.holds_none;
      },
      idle_pens volume (number + 1) workers idle.1 (λ k d within. rest (suc k) d (omega (arith, within))),
    )

-- the first of them leads
pens_lead : {D : Type 0} (volume : Volume D) (workers : List (Worker (PenHand D))) → 0 < length workers
    → AreIdleFrom volume.table.table volume.table.cores 0 (map core_of workers) → All (Rests volume.table (PairAgrees volume)) workers
    → first_leads (map pen_of workers) ≡ true
pens_lead volume [] some idle rest = absurd (omega (arith, some))
pens_lead volume (worker ∷ workers) some idle rest = (rest 0 worker (omega arith)).agree.leads idle.0.number_is

-- so their journals may be closed
pub pens_close : {D : Type 0} (volume : Volume D) (workers : List (Worker (PenHand D))) → IsVolume volume → AreWorkers volume workers
    → MayClose volume.set (map pen_of workers)
pens_close {D = D} volume workers is are =
    let count = workers_count volume workers are in
    let cores = is.table_cores in
    let some = is.some in
    let same = length-map workers pen_of in
    record {
      all = record {
        count = same ∙ (count ∙ (is.table_cores ∙ sym is.set_cores));
        leads = pens_lead volume workers (omega (arith, some, cores, count)) are.all.ready are.rest;
        ready = idle_pens volume 0 workers are.all.ready are.rest;
      };
      some = omega (arith, some, cores, count, same);
      outside = λ core pen there.
          let found = map_there pen_of workers core pen there in
          subst (λ (p : PenHand D). Rattle.disk_box.specs.Pens.IsOutside volume.set p) found.2
          (rest_there volume workers are core found.0 found.1).agree.ready.outside;
      rests = λ core pen there.
          let found = map_there pen_of workers core pen there in
          subst (λ (p : PenHand D). Rattle.journal_set.specs.Ready.HasNothingDue (Rattle.disk_box.specs.Pens.own_at p)) found.2
          (rest_there volume workers are core found.0 found.1).agree.ready.rests;
    }

-- and there is room for them
pub room_is : {D : Type 0} (volume : Volume D) (workers : List (Worker (PenHand D))) → IsVolume volume → AreWorkers volume workers
    → HasRoomForWorkers (length workers) volume.room
room_is volume workers is are =
    subst (λ n. HasRoomForWorkers n volume.room) (sym (workers_count volume workers are ∙ is.table_cores)) is.room
