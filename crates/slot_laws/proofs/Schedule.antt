-- How many pieces of a slot are written, and what is due of a commit that begins.
use Rattle.std.proofs.Common.{◌≡◌, ◌+◌, ◌<◌, ◌≤◌, ◌&&◌, ◌∙◌, ℕ, zero, suc, Bool, true, false, cond, inl, inr, refl, ap, arith}
use Rattle.journal_one.specs.Job.{fill_count}
use Rattle.cut_laws.proofs.Basics.{below_or}
use Rattle.slot_laws.specs.Schedule.{BeginningsTakeAll, all_on_disk, unwritten}

-- all of the first pieces are written
pub none_unwritten : (written : ℕ → Bool) (n : ℕ) → ((m : ℕ) → m < n → written m ≡ true) → unwritten written n ≡ 0
none_unwritten written zero each = refl
none_unwritten written (suc n) each =
    ap (λ (b : Bool). cond b (unwritten written n) (unwritten written n + 1)) (each n (omega arith))
    ∙ none_unwritten written n (λ m low. each m (omega (arith, low)))

-- so many are, and no other is
pub unwritten_rest : (written : ℕ → Bool) (done n : ℕ) → done ≤ n → ((m : ℕ) → m < done → written m ≡ true)
    → ((m : ℕ) → done ≤ m → written m ≡ false) → unwritten written n + done ≡ n
unwritten_rest written done zero few each rest = omega (arith, few)
unwritten_rest written done (suc n) few each rest = elim (below_or n done) [
  | inl low ↦
      let none = none_unwritten written (suc n) (λ m less. each m (omega (arith, low, less))) in
      omega (arith, none, low, few)
  | inr high ↦
      let next = ap (λ (b : Bool). cond b (unwritten written n) (unwritten written n + 1)) (rest n high) in
      let before = unwritten_rest written done n high each rest in
      omega (arith, next, before)
]

-- each of the first pieces is on the disk
pub each_on_disk : (left : ℕ → Bool) (n : ℕ) → ((m : ℕ) → m < n → left m ≡ true) → all_on_disk left n ≡ true
each_on_disk left zero each = refl
each_on_disk left (suc n) each =
    ap (λ (b : Bool). b && all_on_disk left n) (each n (omega arith)) ∙ each_on_disk left n (λ m low. each m (omega (arith, low)))

-- one of them is not
pub one_not_on_disk : (left : ℕ → Bool) (n m : ℕ) → m < n → left m ≡ false → all_on_disk left n ≡ false
one_not_on_disk left zero m low not = absurd (omega (arith, low))
one_not_on_disk left (suc n) m low not = elim (below_or m n) [
  | inl less ↦ both_false (left n) (all_on_disk left n) (one_not_on_disk left n m less not)
  | inr high ↦
      let same : n ≡ m = omega (arith, low, high) in
      ap (λ (b : Bool). b && all_on_disk left n) (ap left same ∙ not)
] where
  both_false : (a b : Bool) → b ≡ false → (a && b) ≡ false
  both_false true b is = is
  both_false false b is = refl

pub beginnings_take_all : BeginningsTakeAll
beginnings_take_all job commit flush =
    let none : ℕ → Bool = λ n. false in
    let count = fill_count job in
    let disk = one_not_on_disk none count 0 (omega arith) refl in
    let all = unwritten_rest none 0 count (omega arith) (λ m low. absurd (omega (arith, low))) (λ m low. refl) in
    ap (λ (b : Bool). cond b 2 (unwritten none count + 3)) disk ∙ omega (arith, all)
