-- The free numbers of a row ascend, and are free.
use Rattle.std.proofs.Common.{◌≡◌, ◌∙◌, sym, ap, refl, ◌+◌, ◌<◌, ℕ, zero, suc, Bool, true, false, List, [], ◌∷◌, ◌++◌, length, get_or, take, Some, add-zero, length-take, length-append, arith}
use Rattle.std.proofs.Math.Seq.{take-append_seam}
use Rattle.std.specs.Prelude.{All}
use Rattle.std.specs.List.Sorted.{IsStrictlyIncreasing}
use Rattle.std.proofs.lemmas.List.{get_or-take}
use Rattle.std.proofs.lemmas.List.Elements.{All-nil, All-cons, All-take}
use Rattle.space_map.specs.declared.status.Status.{Status}
use Rattle.space_map.specs.declared.status.Status.TheVariants.{Free, Taken, Granted}
use Rattle.space_map.specs.Pool.{Pool, is_free, free_from, free_numbers, status_of, BecomeAll, Grants}
use Rattle.space_map.proofs.Changes.{status_of-here}
use Rattle.space_map.proofs.First.{free_inside}
use Rattle.space_map.proofs.Free.{front, length-free_from}

-- what holds of the number of each free place holds of all free numbers
pub All-free_from : (P : ℕ → Type 0) (first : ℕ) (statuses : List Status) → ((place : ℕ) → is_free (get_or statuses place Taken) ≡ true → P (first + place))
    → All P (free_from first statuses)
All-free_from P first [] each = All-nil P
All-free_from P first (status ∷ statuses) each =
    by_test (is_free status) refl
    (All-free_from P (first + 1) statuses (λ place free. let at : first + 1 + place ≡ first + suc place = omega arith in rw at (each (suc place) free)))
  where
    by_test : (b : Bool) → is_free status ≡ b → All P (free_from (first + 1) statuses) → All P (front first statuses b)
    by_test true free rest = All-cons P first (free_from (first + 1) statuses) (rw add-zero at (each 0 free)) rest
    by_test false free rest = rest

-- a list whose first number is below all others, which ascend
pub ascending-cons : (number : ℕ) (numbers : List ℕ) → All (λ other. number < other) numbers → IsStrictlyIncreasing numbers
    → IsStrictlyIncreasing (number ∷ numbers)
ascending-cons number numbers above up zero below = above 0 0 (omega (arith, below))
ascending-cons number numbers above up (suc k) below = let next : suc k + 1 ≡ suc (k + 1) = omega arith in rw next (up k (omega (arith, below)))

-- the free numbers ascend
pub ascending-free_from : (first : ℕ) (statuses : List Status) → IsStrictlyIncreasing (free_from first statuses)
ascending-free_from first [] = λ k below. absurd (omega (arith, below))
ascending-free_from first (status ∷ statuses) = by_test (is_free status) (ascending-free_from (first + 1) statuses)
  where
    by_test : (b : Bool) → IsStrictlyIncreasing (free_from (first + 1) statuses) → IsStrictlyIncreasing (front first statuses b)
    by_test true rest =
        ascending-cons first (free_from (first + 1) statuses) (All-free_from (λ other. first < other) (first + 1) statuses (λ place _. omega arith)) rest
    by_test false rest = rest

-- the front of a list that ascends
pub ascending-take : (count : ℕ) (numbers : List ℕ) → IsStrictlyIncreasing numbers → IsStrictlyIncreasing (take count numbers)
ascending-take count numbers up k below =
    let short = length-take count numbers in
    rw (get_or-take count numbers k 0 (omega (arith, short, below)), get_or-take count numbers (k + 1) 0 (omega (arith, short, below)))
    (up k (omega (arith, short, below)))

-- a status that tests as free is Free
is_Free : (status : Status) → is_free status ≡ true → status ≡ Free
is_Free Free test = refl
is_Free Taken test = cc
is_Free Granted test = cc

-- a list's front of a length
pub front_of_split : (count : ℕ) (numbers rest all : List ℕ) → all ≡ numbers ++ rest → length numbers ≡ count → numbers ≡ take count all
front_of_split count numbers rest all split counted = sym (rw (split, ← counted) (take-append_seam numbers rest))

-- the least free numbers make a grant
pub Grants-least : (old new : Pool) (count : ℕ) (numbers : List ℕ) → length numbers ≡ count → free_numbers old ≡ numbers ++ free_numbers new
    → BecomeAll Granted numbers old new → Grants old count numbers new
Grants-least old new count numbers counted split granted =
    let free =
    All-free_from (λ number. status_of old number ≡ Some Free) old.first old.statuses
    (λ place test. status_of-here old place Taken (free_inside old.statuses place test) ∙ ap Some (is_Free (get_or old.statuses place Taken) test)) in
    let least = front_of_split count numbers (free_numbers new) (free_numbers old) split counted in
    record {
      counted = counted;
      ascending = rw least (ascending-take count (free_numbers old) (ascending-free_from old.first old.statuses));
      free = rw least (All-take (λ number. status_of old number ≡ Some Free) count (free_numbers old) free);
      granted = granted;
      left =
          omega (
            arith,
            ap length split,
            length-append numbers (free_numbers new),
            length-free_from old.first old.statuses,
            length-free_from new.first new.statuses,
            counted,
          );
    }
