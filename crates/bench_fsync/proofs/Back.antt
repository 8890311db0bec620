-- One worker of a volume is back from a call, and all are workers still.
use Rattle.std.proofs.Common.{◌≡◌, ◌<◌, ◌∷◌, ◌∙◌, ℕ, zero, suc, List, [], Some, get_or, length, map, inl, inr, refl, sym, ap, subst, arith}
use Rattle.std.specs.Prelude.{slice_index_or, slice_set}
use Rattle.std.proofs.lemmas.Bool.Decides.{eqb_tells}
use Rattle.std.proofs.lemmas.List.{get_or-set_other, length-map, length-set}
use Rattle.std.proofs.lemmas.Grind.{get_or-set_at}
use Rattle.std.proofs.lemmas.Option.{get_or_from_slice_get, slice_get-get_or}
use Rattle.stamp_table.specs.Table.{IsSameCore}
use Rattle.stamp_table.proofs.Beginning.{all_again}
use Rattle.mem_values.specs.Start.{FileHand}
use Rattle.disk_box.specs.Pens.{PenHand}
use Rattle.workers.specs.Works.{Rests}
use Rattle.workers.specs.declared.worker.Worker.{Worker}
use Rattle.mount.specs.Workers.{AreWorkers, PairAgrees, WorkersAreBack, core_of, worker_begun}
use Rattle.mount.specs.declared.volume.Volume.{Volume}

-- the core of a worker at a place
core_there : {P : Type 0} (workers : List (Worker P)) (k : ℕ) (d : Worker P) → get_or (map core_of workers) k d.core ≡ (get_or workers k d).core
core_there [] k d = refl
core_there (w ∷ workers) zero d = refl
core_there (w ∷ workers) (suc k) d = core_there workers k d

module _ {D : Type 0} (volume : Volume D) (workers : List (Worker (PenHand D))) (place : ℕ) (before after : Worker (PenHand D)) where
  -- the worker that stood at the place, whatever would stand behind the end
  stood : place < length workers → before ≡ slice_index_or workers place before → (d : Worker (PenHand D)) → get_or workers place d ≡ before
  stood low is d = get_or_from_slice_get workers place before d (slice_get-get_or workers place before low ∙ ap Some (sym is))

  -- all are back, where the others made no call
  back : place < length workers → before ≡ slice_index_or workers place before → AreWorkers volume workers → Rests volume.table (PairAgrees volume) after
      → IsSameCore before.core after.core → WorkersAreBack volume workers (slice_set workers place after)
  back low is are rests same k d within = elim (eqb_tells k place) [
    | inl at ↦
        let was : get_or workers k d ≡ before = ap (λ n. get_or workers n d) at.1 ∙ stood low is d in
        let now : get_or (slice_set workers place after) k d ≡ after = get_or-set_at workers place k after d at.1 low in
        subst (λ (z : Worker (PenHand D) × Worker (PenHand D)). Rests volume.table (PairAgrees volume) z.1 × IsSameCore z.0.core z.1.core)
        (λ i. (sym was i, sym now i)) (rests, same)
    | inr apart ↦
        subst (λ (z : Worker (PenHand D)). Rests volume.table (PairAgrees volume) z × IsSameCore (get_or workers k d).core z.core)
        (sym (get_or-set_other workers place k after d apart.1))
        (are.rest k d within, record { table = refl; cores = refl; leads = refl; number = refl })
  ]

  -- so each core is the same and holds nothing
  same_at : WorkersAreBack volume workers (slice_set workers place after) → (k : ℕ) (d : FileHand) → k < length (map core_of workers)
      → IsSameCore (get_or (map core_of workers) k d) (get_or (map core_of (slice_set workers place after)) k d)
      × ((get_or (map core_of (slice_set workers place after)) k d).held ≡ [])
  same_at are_back k d within =
      let other : Worker (PenHand D) = worker_begun d before.pen in
      let long = length-map workers core_of in
      let is = are_back k other (omega (arith, within, long)) in
      let was = core_there workers k other in
      let now = core_there (slice_set workers place after) k other in (
        subst (λ (z : FileHand × FileHand). IsSameCore z.0 z.1) (λ i. (sym was i, sym now i)) is.1,
        subst (λ (h : FileHand). h.held ≡ []) (sym now) is.0.between.holds_none,
      )

  -- and they are all workers still
  pub one_again : place < length workers → before ≡ slice_index_or workers place before → AreWorkers volume workers
      → Rests volume.table (PairAgrees volume) after → IsSameCore before.core after.core → AreWorkers volume (slice_set workers place after)
  one_again low is are rests same =
      let now : List (Worker (PenHand D)) = slice_set workers place after in
      let is_back = back low is are rests same in
      let long : length now ≡ length workers = length-set workers place after in
      record {
        all = all_again volume.table (map core_of workers) (map core_of now) (length-map now core_of ∙ (long ∙ sym (length-map workers core_of)))
            (same_at is_back) are.all;
        rest = λ k d within. (is_back k d (omega (arith, within, long))).0;
      }
