-- How many nodes below a number are in a set.
use Rattle.std.proofs.Common.{◌≡◌, ◌≢◌, ℕ, zero, suc, ◌-◌, ◌<◌, ◌≤◌, Bool, true, false, cond, refl, sym, ap, ◌∙◌, nat_eq, arith}
use borrow.Author.Tests.{eqb-true, eqb-false}
use Rattle.flush_core.specs.NodeSets.{with_member}

-- how many numbers below this one are in
pub count_below : (ℕ → Bool) → ℕ → ℕ
count_below nodes zero = 0
count_below nodes (suc n) = cond (nodes n) (suc (count_below nodes n)) (count_below nodes n)

pub count_within : (nodes : ℕ → Bool) (n : ℕ) → count_below nodes n ≤ n
unfolding count_below
count_within nodes zero = omega arith
count_within nodes (suc n) = elim (nodes n) as (λ b. cond b (suc (count_below nodes n)) (count_below nodes n) ≤ suc n) [
  | true ↦ let h = count_within nodes n in omega arith
  | false ↦ let h = count_within nodes n in omega arith
]

same_count : (nodes others : ℕ → Bool) (n : ℕ) → ((x : ℕ) → x < n → others x ≡ nodes x) → count_below others n ≡ count_below nodes n
unfolding count_below
same_count nodes others zero same = refl
same_count nodes others (suc n) same =
    ap (λ b. cond b (suc (count_below others n)) (count_below others n)) (same n (omega arith))
    ∙ ap (λ k. cond (nodes n) (suc k) k) (same_count nodes others n (λ x lt. same x (omega arith)))

-- one more node below the number counts one more
pub count_more : (nodes others : ℕ → Bool) (node n : ℕ) → node < n → nodes node ≡ false → ((x : ℕ) → others x ≡ with_member node true nodes x)
    → count_below others n ≡ suc (count_below nodes n)
unfolding count_below
count_more nodes others node zero lt out more = absurd (omega arith)
count_more nodes others node (suc n) lt out more =
    elim (nat_eq n node) as (λ b. nat_eq n node ≡ b
    → cond (others n) (suc (count_below others n)) (count_below others n) ≡ suc (cond (nodes n) (suc (count_below nodes n)) (count_below nodes n))) [
      | true ↦ λ e.
          ap (λ b. cond b (suc (count_below others n)) (count_below others n)) (more n ∙ ap (λ b. cond b true (nodes n)) e)
          ∙ ap suc (same_count nodes others n (λ x less. more x ∙ ap (λ b. cond b true (nodes x)) (apart x (let same = eqb-true _ _ e in omega arith))))
          ∙ sym (ap (λ b. suc (cond b (suc (count_below nodes n)) (count_below nodes n))) (ap nodes (eqb-true _ _ e) ∙ out))
      | false ↦ λ e.
          ap (λ b. cond b (suc (count_below others n)) (count_below others n)) (more n ∙ ap (λ b. cond b true (nodes n)) e)
          ∙ ap (λ k. cond (nodes n) (suc k) k) (count_more nodes others node n (let differ : n ≢ node = eqb-false _ _ e in omega arith) out more)
          ∙ rest (nodes n)
    ] refl
  where
    apart : (x : ℕ) → x ≢ node → nat_eq x node ≡ false
    apart x differ = elim (nat_eq x node) as (λ t. nat_eq x node ≡ t → t ≡ false) [ true ↦ λ e. absurd (differ (eqb-true _ _ e)) | false ↦ λ _. refl ] refl

    rest : (b : Bool) → cond b (suc (suc (count_below nodes n))) (suc (count_below nodes n)) ≡ suc (cond b (suc (count_below nodes n)) (count_below nodes n))
    rest true = refl
    rest false = refl

-- so fewer are out
pub one_more_less : (nodes others : ℕ → Bool) (node n : ℕ) → node < n → nodes node ≡ false → ((x : ℕ) → others x ≡ with_member node true nodes x)
    → n - count_below others n < n - count_below nodes n
one_more_less nodes others node n lt out more =
    let counted = count_more nodes others node n lt out more in
    let within = count_within others n in
    omega arith
