-- Numbers and tests on them.
use Rattle.std.proofs.Common.{◌≡◌, ◌≢◌, ℕ, suc, ◌+◌, ◌-◌, ◌<◌, ◌≤◌, true, false, nat_eq, nat_lt, refl, ap, arith}
use Rattle.std.proofs.lemmas.Bool.{eq-eqb}
use Rattle.std.proofs.lemmas.Bool.Decides.{nat_tests}

pub zero_plus : (n : ℕ) → 0 + n ≡ n
zero_plus n = omega arith

pub plus_zero : (n : ℕ) → n + 0 ≡ n
plus_zero n = omega arith

pub from_plus_zero : (n : ℕ) → n ≡ n + 0
from_plus_zero n = omega arith

pub from_zero_plus : (n : ℕ) → n ≡ 0 + n
from_zero_plus n = omega arith

pub plus_suc : (a b : ℕ) → a + suc b ≡ suc a + b
plus_suc a b = omega arith

pub suc_plus : (a b : ℕ) → suc a + b ≡ a + suc b
suc_plus a b = omega arith

pub suc_is_one_more : (n : ℕ) → suc n ≡ n + 1
suc_is_one_more n = omega arith

pub suc_moves : (a b : ℕ) → a + 1 + b ≡ a + suc b
suc_moves a b = omega arith

pub suc_joins : (a b : ℕ) → suc (a + b) ≡ suc a + b
suc_joins a b = omega arith

pub suc_again : (n : ℕ) → 0 < n → n ≡ suc (n - 1)
suc_again n some = omega arith

pub suc_same : {a b : ℕ} → a ≡ b → suc a ≡ suc b
suc_same e = ap suc e

pub le_itself : (n : ℕ) → n ≤ n
le_itself n = omega arith

pub less_next : (n : ℕ) → n < suc n
less_next n = omega arith

pub less_plus : (n c : ℕ) → n < n + suc c
less_plus n c = omega arith

pub less_suc : {a b : ℕ} → a < b → a < suc b
less_suc less = omega arith

pub less_zero_plus : {a b : ℕ} → a < b → a < 0 + b
less_zero_plus less = omega arith

pub less_plus_suc : (k a c : ℕ) → k < suc a + c → k < a + suc c
less_plus_suc k a c less = omega arith

pub less_suc_plus : (a c n : ℕ) → n < a + suc c → n < suc a + c
less_suc_plus a c n less = omega arith

pub less_earlier : {a b : ℕ} → suc a < b → a < b
less_earlier less = omega arith

pub less_lower : {a b : ℕ} → suc a < suc b → a < b
less_lower less = omega arith

pub le_earlier : {a b : ℕ} → suc a ≤ b → a ≤ b
le_earlier le = omega arith

pub not_less : {a b : ℕ} → a < b → b ≤ a → ⊥
not_less less le = omega arith

pub none_below : {k : ℕ} → suc k ≤ 0 → ⊥
none_below le = omega arith

pub from_both_le : (n m : ℕ) → m ≤ n → n ≤ m → n ≡ m
from_both_le n m low high = omega arith

pub some_counted : {c : ℕ} → 0 < c → c ≢ 0
some_counted more none = omega arith

pub one_is_more : (n : ℕ) → 1 + n ≡ 0 → ⊥
one_is_more n e = omega arith

pub none_left : (a n : ℕ) → a + n ≡ 0 → n ≡ 0
none_left a n e = omega arith

pub one_left : (n : ℕ) → 0 + n ≡ 1 → n ≡ 1
one_left n e = omega arith

pub not_below : (a b : ℕ) → b ≤ a → nat_lt a b ≡ false
not_below a b le = grind (arith, nat_tests)

pub same_number : (n : ℕ) → nat_eq n n ≡ true
same_number n = eq-eqb n n refl

pub not_same : (a b : ℕ) → a ≢ b → nat_eq a b ≡ false
not_same a b apart = grind (arith, nat_tests)

pub less_not_same : (a c : ℕ) → a < c → nat_eq a c ≡ false
less_not_same a c less = grind (arith, nat_tests)

pub turned : (a b : ℕ) → nat_eq a b ≡ nat_eq b a
turned a b = grind (arith, nat_tests)
