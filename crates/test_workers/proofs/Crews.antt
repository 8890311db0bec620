-- Workers of all cores of a table, before and after they ran.
use Rattle.std.proofs.Common.{◌≡◌, ◌<◌, ◌≤◌, ℕ, zero, suc, List, [], ◌∷◌, length, map, get_or, refl, sym, ap, ◌∙◌, subst, arith}
use Rattle.std.specs.Prelude.{All, slice_index_or}
use Rattle.std.specs.List.{AllByRecursion}
use Rattle.std.proofs.lemmas.List.{length-map}
use Rattle.tree_laws.specs.Tree.{TreeState}
use Rattle.stamp_table.specs.Table.{AreAllCores, AreNew, IsBetweenCalls, IsSameCore}
use Rattle.stamp_table.proofs.Beginning.{all_again}
use Rattle.mem_values.specs.Start.{FileHand, FileState}
use Rattle.workers.specs.Keeping.{agree_always}
use Rattle.workers.specs.Phases.{AreBefore}
use Rattle.workers.specs.Works.{Rests}
use Rattle.workers.specs.declared.worker.Worker.{Worker}
use Rattle.test_workers.specs.Teams.{new_worker, worker_core, AreSameCores}

-- what holds of all holds of each
pub each_of : {X : Type 0} (P : X → Type 0) (xs : List X) (i : ℕ) (x : X) → i < length xs → x ≡ get_or xs i x → AllByRecursion P xs → P x
each_of P [] i x within is all = absurd (omega (arith, within))
each_of P (y ∷ xs) zero x within is all = subst P (sym is) all.0
each_of P (y ∷ xs) (suc i) x within is all = each_of P xs i x (omega (arith, within)) is all.1

-- what a list is mapped to, place by place
at_map : {X Y : Type 0} (f : X → Y) (xs : List X) (k : ℕ) (d : X) → get_or (map f xs) k (f d) ≡ f (get_or xs k d)
at_map f [] k d = refl
at_map f (x ∷ xs) zero d = refl
at_map f (x ∷ xs) (suc k) d = at_map f xs k d

-- new cores rest as workers
pub rests_new : (t : FileState) (first : TreeState) (hands : List FileHand) → All (IsBetweenCalls t) hands → AreNew first hands
    → All (Rests t agree_always) (map new_worker hands)
rests_new t first [] between new k d within = absurd (omega (arith, within))
rests_new t first (hand ∷ hands) between new zero d within = record {
  between = between 0 hand (omega arith);
  agree = tt;
  past = subst (λ l. AreBefore 0 l) (sym new.0.none_entered) tt;
}
rests_new t first (hand ∷ hands) between new (suc k) d within =
    rests_new t first hands (λ k' d' within'. between (suc k') d' (omega (arith, within'))) new.1 k d (omega (arith, within))

-- all cores are still all cores once their workers rest again
pub all_rest : (t : FileState) (hands : List FileHand) (after : List (Worker (Unit {0}))) → AreAllCores t hands
    → length after ≡ length (map new_worker hands) → AreSameCores (map new_worker hands) after → All (Rests t agree_always) after
    → AreAllCores t (map worker_core after)
all_rest t hands after all long same rest =
    all_again t hands (map worker_core after) (length-map after worker_core ∙ (long ∙ length-map hands new_worker)) each all
  where
    each : (place : ℕ) (d : FileHand) → place < length hands → IsSameCore (get_or hands place d) (get_or (map worker_core after) place d)
        × ((get_or (map worker_core after) place d).held ≡ [])
    each place d within =
        let D = new_worker d in
        let now = at_map worker_core after place D in
        let was = at_map new_worker hands place d in
        let count = length-map hands new_worker in
        let fits : place < length (map new_worker hands) = omega (arith, within, count) in
        let same_here = same place D fits in
        let rests = rest place D (omega (arith, fits, long)) in (
          subst (λ (h : FileHand). IsSameCore (get_or hands place d) h) (sym now)
              (subst (λ (w : Worker (Unit {0})). IsSameCore w.core (get_or after place D).core) was same_here),
          subst (λ (h : FileHand). h.held ≡ []) (sym now) rests.between.holds_none,
        )
