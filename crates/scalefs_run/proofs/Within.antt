-- Where no worker is without a core, each has one.
use Rattle.std.specs.List.{find, AllByRecursion}
use Rattle.std.specs.Option.{option_or}
use Rattle.std.proofs.Common.{◌≡◌, ◌<◌, ◌∷◌, ◌++◌, ◌∙◌, ℕ, suc, true, false, cond, List, [], All, Some, None, length, take, drop, option_map, append-nil, refl, sym, ap, arith, nat_le}
use Rattle.std.proofs.Math.ListN.{drop_of_length-le}
use Rattle.std.proofs.Math.Seq.{take-length}
use Rattle.std.proofs.lemmas.Bool.Decides.{nat_tests}
use Rattle.mount.specs.Phases.{HaveWorkers}
use Rattle.script.specs.declared.commands.Line.{Line}
use Rattle.scalefs_run.specs.WithoutCore.{worker_without_core, worker_without_core_in}

phase_within : (cores : ℕ) (phase : List Line) → worker_without_core_in cores phase ≡ None → HaveWorkers cores phase
phase_within cores [] none = tt
phase_within cores (line ∷ phase) none =
    elim (nat_le cores line.worker) as (λ t. nat_le cores line.worker ≡ t
    → option_map (λ (l : Line). l.worker) (cond t (Some line) (find (λ l. nat_le cores l.worker) phase)) ≡ None → HaveWorkers cores (line ∷ phase)) [
      | true ↦ λ t e. absurd (let never : Some line.worker ≡ None = e in cc)
      | false ↦ λ t e. (below (nat_le cores line.worker) t refl, phase_within cores phase e)
    ] refl none
  where
    below : (b : Rattle.std.proofs.Common.Bool) → b ≡ false → nat_le cores line.worker ≡ b → line.worker < cores
    below b is e = let f : nat_le cores line.worker ≡ false = e ∙ is in grind (arith, nat_tests)

-- each phase's workers have cores
pub within_all : (cores : ℕ) (phases : List (List Line)) → worker_without_core cores phases ≡ None → AllByRecursion (HaveWorkers cores) phases
within_all cores [] none = tt
within_all cores (phase ∷ phases) none =
    elim (worker_without_core_in cores phase) as (λ o. worker_without_core_in cores phase ≡ o → option_or o (worker_without_core cores phases) ≡ None
    → AllByRecursion (HaveWorkers cores) (phase ∷ phases)) [
      | Some worker ↦ λ o e. absurd (let never : Some worker ≡ None = e in cc)
      | None ↦ λ o e. (phase_within cores phase o, within_all cores phases e)
    ] refl none

-- what holds of each element does so by recursion
pub by_recursion : {X : Type 0} (P : X → Type 0) (xs : List X) → All P xs → AllByRecursion P xs
by_recursion P [] all = tt
by_recursion P (x ∷ xs) all = (all 0 x (omega arith), by_recursion P xs (λ k d within. all (suc k) d (omega (arith, within))))

-- what is written back over a whole list is what was written
pub written_back : {X : Type 0} (count : ℕ) (new old : List X) → length new ≡ length old → count ≡ length old
    → take count (new ++ drop (length new) old) ≡ new
written_back count new old same is =
    ap (take count) (ap (λ l. new ++ l) (drop_of_length-le old (omega (arith, same))) ∙ append-nil new)
    ∙ (ap (λ n. take n new) (is ∙ sym same) ∙ take-length new)
