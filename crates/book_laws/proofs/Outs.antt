-- Numbers that are listed, and those that are left.
use Rattle.std.specs.Prelude.{sum_by}
use Rattle.std.specs.List.{list_any}
use Rattle.std.proofs.Common.{◌≡◌, ◌≢◌, ◌+◌, ◌-◌, ◌<◌, ◌≤◌, ◌&&◌, ◌||◌, ◌∷◌, ◌∙◌, ℕ, zero, suc, Bool, true, false, cond, not, List, [], length, map, nat_eq, inl, inr, refl, sym, ap, arith}
use Rattle.std.proofs.lemmas.Bool.{cases_lt}
use Rattle.std.proofs.lemmas.List.Concat.{length-flat_map}
use Rattle.std.proofs.lemmas.List.Folds.{list_any-append}
use Rattle.std.proofs.lemmas.List.Sums.{sum_by-cons}
use Rattle.sfs_base.specs.Listed.{is_listed}
use Rattle.sfs_base.proofs.BasicNumbers.{not_same, same_number}
use Rattle.sfs_base.proofs.BasicTruth.{and_true, or_true}
use Rattle.image_laws.specs.Need.{rank}
use Rattle.image_laws.proofs.Ranks.{rank_more}
use Rattle.turn_laws.specs.Books.{Grant, reserved}
use Rattle.turn_laws.specs.LawsNeed.{AreOnce}
use Rattle.turn_laws.proofs.ListedNeeds.{rank_agrees}
use Rattle.book_laws.specs.Out.{GrantOut, grant_out, inodes_out, blocks_out}

-- a test that one number more fails counts one less
rank_without : (test other : ℕ → Bool) (one n : ℕ) → one < n → test one ≡ true → other one ≡ false → ((k : ℕ) → k ≢ one → other k ≡ test k)
    → rank other n + 1 ≡ rank test n
rank_without test other one zero low t f same = absurd (omega (arith, low))
rank_without test other one (suc n) low t f same = elim (cases_lt one n) [
  | inl less ↦
      let rest = rank_without test other one n less t f same in
      let first = rank_more other n ∙ ap (λ b. rank other n + cond b 1 0) (same n (λ e. omega (arith, less, e))) in
      let second = rank_more test n in
      omega (arith, rest, first, second)
  | inr up ↦
      let last : one ≡ n = omega (arith, low, up) in
      let below = rank_agrees other test n (λ k lt. same k (λ e. omega (arith, lt, e, last))) in
      let first = rank_more other n ∙ ap (λ b. rank other n + cond b 1 0) (ap other (sym last) ∙ f) in
      let second = rank_more test n ∙ ap (λ b. rank test n + cond b 1 0) (ap test (sym last) ∙ t) in
      omega (arith, below, first, second)
]

-- a number that a test leaves out
abbrev pub left_by : (ℕ → Bool) → List ℕ → ℕ → Bool
left_by test numbers number = test number && not (is_listed numbers number)

-- of numbers in a range that pass a test, as many are left as are not listed
pub rank_left : (test : ℕ → Bool) (first n : ℕ) (numbers : List ℕ) → AreOnce numbers
    → ((number : ℕ) → is_listed numbers number ≡ true → (first ≤ number) × (number < first + n) × (test number ≡ true))
    → rank (λ k. left_by test numbers (first + k)) n + length numbers ≡ rank (λ k. test (first + k)) n
rank_left test first n [] once each =
    let same = rank_agrees (λ k. left_by test [] (first + k)) (λ k. test (first + k)) n (λ k lt. and_true (test (first + k))) in
    omega (arith, same)
rank_left test first n (number ∷ numbers) once each =
    let rest = rank_left test first n numbers once.1 (λ other t. each other (later other t)) in
    let less = rank_without (λ k. left_by test numbers (first + k)) (λ k. left_by test (number ∷ numbers) (first + k)) (number - first) n
    (omega (arith, low, high)) passes fails others in
    omega (arith, rest, less)
  where
    own : (first ≤ number) × (number < first + n) × (test number ≡ true)
    own = each number (ap (λ b. b || is_listed numbers number) (same_number number))

    low : first ≤ number
    low = own.0

    high : number < first + n
    high = own.1

    later : (other : ℕ) → is_listed numbers other ≡ true → (nat_eq number other || is_listed numbers other) ≡ true
    later other t = ap (λ b. nat_eq number other || b) t ∙ or_true (nat_eq number other)

    here : first + (number - first) ≡ number
    here = omega (arith, low)

    passes : left_by test numbers (first + (number - first)) ≡ true
    passes = ap (left_by test numbers) here ∙ (λ i. own.2 i && not (once.0 i))

    fails : left_by test (number ∷ numbers) (first + (number - first)) ≡ false
    fails = ap (left_by test (number ∷ numbers)) here ∙ (λ i. own.2 i && not (same_number number i || is_listed numbers number))

    others : (k : ℕ) → k ≢ number - first → left_by test (number ∷ numbers) (first + k) ≡ left_by test numbers (first + k)
    others k apart = ap (λ b. test (first + k) && not (b || is_listed numbers (first + k))) (not_same number (first + k) (λ e. apart (omega (arith, e))))

-- what is reserved is what is out
pub inodes_reserved : (outs : List GrantOut) → (reserved (map grant_out outs)).inodes ≡ length (inodes_out outs)
inodes_reserved outs = summed outs ∙ sym (length-flat_map (λ out. out.numbers.inodes) outs)
  where
    summed : (outs : List GrantOut) → sum_by (λ grant. grant.need.inodes) (map grant_out outs) ≡ sum_by (λ out. length out.numbers.inodes) outs
    summed [] = refl
    summed (out ∷ outs) =
        sum_by-cons (λ (grant : Grant). grant.need.inodes) (grant_out out) (map grant_out outs) ∙ ap (λ n. length out.numbers.inodes + n) (summed outs)
        ∙ sym (sum_by-cons (λ (one : GrantOut). length one.numbers.inodes) out outs)

pub blocks_reserved : (outs : List GrantOut) → (reserved (map grant_out outs)).blocks ≡ length (blocks_out outs)
blocks_reserved outs = summed outs ∙ sym (length-flat_map (λ out. out.numbers.blocks) outs)
  where
    summed : (outs : List GrantOut) → sum_by (λ grant. grant.need.blocks) (map grant_out outs) ≡ sum_by (λ out. length out.numbers.blocks) outs
    summed [] = refl
    summed (out ∷ outs) =
        sum_by-cons (λ (grant : Grant). grant.need.blocks) (grant_out out) (map grant_out outs) ∙ ap (λ n. length out.numbers.blocks + n) (summed outs)
        ∙ sym (sum_by-cons (λ (one : GrantOut). length one.numbers.blocks) out outs)

pub listed_out : (outs : List GrantOut) (i : ℕ) → list_any (λ grant. is_listed grant.inodes i) (map grant_out outs) ≡ is_listed (inodes_out outs) i
listed_out [] i = refl
listed_out (out ∷ outs) i =
    ap (λ b. is_listed out.numbers.inodes i || b) (listed_out outs i)
    ∙ sym (list_any-append (λ listed. nat_eq listed i) out.numbers.inodes (inodes_out outs))
