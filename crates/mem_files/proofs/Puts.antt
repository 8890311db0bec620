-- Bytes written piece by piece.
use Rattle.std.proofs.Common.{◌≡◌, ap, refl, ◌+◌, ◌-◌, ◌<◌, ◌≤◌, ℕ, true, false, cond, List, length, get_or, ltb, leb, ◌&&◌, arith}
use Rattle.std.proofs.lemmas.Bool.Decides.{nat_tests}
use Rattle.mem_files.specs.Pages.{byte_after}

-- before a write, in it and behind it
pub byte_after-before : (before : ℕ → ℕ) (at : ℕ) (from : List ℕ) (place : ℕ) → place < at → byte_after before at from place ≡ before place
byte_after-before before at from place low = let test : leb at place ≡ false = grind (arith, nat_tests) in rw test refl

pub byte_after-in : (before : ℕ → ℕ) (at : ℕ) (from : List ℕ) (place : ℕ) → at ≤ place → place < at + length from
    → byte_after before at from place ≡ get_or from (place - at) 0
byte_after-in before at from place high low =
    let first : leb at place ≡ true = grind (arith, nat_tests) in
    let second : ltb place (at + length from) ≡ true = grind (arith, nat_tests) in
    rw (first, second) refl

pub byte_after-behind : (before : ℕ → ℕ) (at : ℕ) (from : List ℕ) (place : ℕ) → at + length from ≤ place → byte_after before at from place ≡ before place
byte_after-behind before at from place past =
    let first : leb at place ≡ true = grind (arith, nat_tests) in
    let second : ltb place (at + length from) ≡ false = grind (arith, nat_tests) in
    rw (first, second) refl

-- a write over bytes that are the same at that place
pub byte_after-same : (before other : ℕ → ℕ) (at : ℕ) (from : List ℕ) (place : ℕ) → before place ≡ other place
    → byte_after before at from place ≡ byte_after other at from place
byte_after-same before other at from place same = ap (λ b. cond (leb at place && ltb place (at + length from)) (get_or from (place - at) 0) b) same
