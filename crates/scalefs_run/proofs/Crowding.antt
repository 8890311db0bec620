-- Which worker of a made script has no core.
use Rattle.std.proofs.Common.{◌≡◌, ◌⊎◌, inl, inr, ℕ, zero, suc, ◌+◌, ◌<◌, ◌≤◌, Bool, true, false, cond, List}
use Rattle.std.proofs.Common.{[], ◌∷◌, ◌++◌, Option, Some, None, option_map, nat_le, nat_lt, refl, sym, ap, ap₂, ◌∙◌, arith}
use Rattle.std.specs.List.{find, AllByRecursion}
use Rattle.std.specs.Option.{option_or}
use Rattle.std.proofs.lemmas.Bool.Decides.{nat_tests}
use borrow.Author.Tests.{le-ltb, lt-ltb}
use Rattle.script.specs.declared.commands.Line.{Line}
use Rattle.made_script.specs.Made.{each, flush_line, home_line, item_of, worker_lines}
use Rattle.scalefs_run.specs.Crowded.{LoadsAskForCores}
use Rattle.scalefs_run.specs.WithoutCore.{worker_without_core_in}

-- lines of one worker
abbrev AreOf : ℕ → List Line → Type 0
AreOf worker lines = AllByRecursion (λ line. line.worker ≡ worker) lines

-- the first of some lines that has no core, of which the first is known to have none
abbrev NoCore : ℕ → Line → Bool
NoCore cores line = nat_le cores line.worker

has_core : (cores worker own : ℕ) → own ≡ worker → worker < cores → nat_le cores own ≡ false
has_core cores worker own is below = grind (arith, nat_tests)

has_none : (cores own : ℕ) → own ≡ cores → nat_le cores own ≡ true
has_none cores own is = grind (arith, nat_tests)

-- lines of a worker with a core are passed over
passed : (cores worker : ℕ) (lines rest : List Line) → AreOf worker lines → worker < cores → find (NoCore cores) (lines ++ rest) ≡ find (NoCore cores) rest
passed cores worker [] rest are below = refl
passed cores worker (line ∷ lines) rest are below =
    ap (λ b. cond b (Some line) (find (NoCore cores) (lines ++ rest))) (has_core cores worker line.worker are.0 below)
    ∙ passed cores worker lines rest are.1 below

-- the first line of a worker without a core is found
met : (cores : ℕ) (line : Line) (rest : List Line) → line.worker ≡ cores → option_map (λ (l : Line). l.worker) (find (NoCore cores) (line ∷ rest)) ≡ Some cores
met cores line rest is =
    ap (λ b. option_map (λ (l : Line). l.worker) (cond b (Some line) (find (NoCore cores) rest))) (has_none cores line.worker is) ∙ ap (λ n. Some n) is

-- lines that some worker begins
record Begins (worker : ℕ) (lines : List Line) : Type 0 where
  first : Line
  rest : List Line
  is : lines ≡ first ∷ rest
  own : first.worker ≡ worker

abbrev Asked : ℕ → ℕ → Option ℕ
Asked cores workers = cond (nat_lt cores workers) (Some cores) None

lt_or_same : (a b : ℕ) → a ≤ b → (a ≡ b) ⊎ (a < b)
lt_or_same a b le = grind arith

module _ (cores : ℕ) (lines : ℕ → List Line) (own : (n : ℕ) → AreOf n (lines n)) (some : (n : ℕ) → Begins n (lines n)) where
  -- of workers in turn, the one behind the last core
  from_on : (from count : ℕ) → from ≤ cores → worker_without_core_in cores (each lines from count) ≡ Asked cores (from + count)
  from_on from zero low = sym (ap (λ b. cond b (Some cores) None) (le-ltb _ _ (omega (arith, low))))
  from_on from (suc count) low = elim (lt_or_same from cores low) [
    | inl same ↦
        let begins = some from in
        let past : cores < from + suc count = omega (arith, same) in
        ap (λ (l : List Line). worker_without_core_in cores (l ++ each lines (from + 1) count)) begins.is
        ∙ met cores begins.first (begins.rest ++ each lines (from + 1) count) (begins.own ∙ same)
        ∙ sym (ap (λ b. cond b (Some cores) None) (lt-ltb _ _ past))
    | inr below ↦
        let later = from_on (from + 1) count (omega (arith, below)) in
        let sum : from + 1 + count ≡ from + suc count = omega arith in
        ap (λ (o : Option Line). option_map (λ (l : Line). l.worker) o) (passed cores from (lines from) (each lines (from + 1) count) (own from) below)
        ∙ later ∙ ap (Asked cores) sum
  ]

-- worker 0 makes all directories
homes_pass : (cores from count : ℕ) → 0 < cores → worker_without_core_in cores (each home_line from count) ≡ None
homes_pass cores from zero some = refl
homes_pass cores from (suc count) some =
    ap (λ (o : Option Line). option_map (λ (l : Line). l.worker) o)
    (passed cores 0 (home_line from) (each home_line (from + 1) count) (refl, tt) some)
    ∙ homes_pass cores (from + 1) count some

both_own : (worker : ℕ) (first second : List Line) → AreOf worker first → AreOf worker second → AreOf worker (first ++ second)
both_own worker [] second one two = two
both_own worker (line ∷ first) second one two = (one.0, both_own worker first second one.1 two)

items_own : (seed worker from count : ℕ) → AreOf worker (each (item_of seed worker) from count)
items_own seed worker from zero = tt
items_own seed worker from (suc count) =
    both_own worker (item_of seed worker from) (each (item_of seed worker) (from + 1) count) (refl, (refl, (refl, tt))) (items_own seed worker (from + 1) count)

work_begins : (seed count worker : ℕ) → 1 ≤ count → Begins worker (worker_lines seed count worker)
work_begins seed zero worker some = absurd (omega (arith, some))
work_begins seed (suc count) worker some = record { first = _; rest = _; is = refl; own = refl }

pub loads_ask_for_cores : LoadsAskForCores
loads_ask_for_cores seed count workers cores some cored =
    let work = from_on cores (worker_lines seed count) (λ n. items_own seed n 0 count) (λ n. work_begins seed count n some) 0 workers (omega arith) in
    let flushes = from_on cores flush_line (λ n. (refl, tt)) (λ n. record { first = _; rest = _; is = refl; own = refl }) 0 workers (omega arith) in
    let homes = homes_pass cores 0 workers (omega (arith, cored)) in
    ap (λ o. option_or o (option_or (worker_without_core_in cores (each (worker_lines seed count) 0 workers))
    (option_or (worker_without_core_in cores (each flush_line 0 workers)) None))) homes
    ∙ ap₂ (λ a b. option_or a (option_or b None)) (work ∙ ap (Asked cores) zero_first) (flushes ∙ ap (Asked cores) zero_first)
    ∙ twice (nat_lt cores workers)
  where
    zero_first : 0 + workers ≡ workers
    zero_first = omega arith

    twice : (b : Bool) → option_or (cond b (Some cores) None) (option_or (cond b (Some cores) None) None) ≡ cond b (Some cores) None
    twice true = refl
    twice false = refl
