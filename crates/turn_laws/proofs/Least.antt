-- A turn that reserves takes the least inodes that are free and not reserved.
use Rattle.std.proofs.Common.{◌≡◌, ℕ, zero, suc, ◌+◌, ◌<◌, ◌≤◌, Bool, true, false, cond, ◌||◌, List, [], ◌∷◌, take, inl, inr, refl, sym, ap, subst, ◌∙◌, arith, nat_eq}
use Rattle.std.specs.Prelude.{filter}
use Rattle.std.specs.List.{range_with_len}
use Rattle.std.proofs.Math.Seq.{take-nil}
use Rattle.std.proofs.lemmas.Bool.{cases_Bool, cases_lt}
use borrow.Author.Tests.{eqb-true}
use Rattle.sfs_base.proofs.BasicNumbers.{same_number}
use Rattle.sfs_base.proofs.BasicTruth.{true_not_false, or_true}
use Rattle.sfs_base.specs.Listed.{is_listed}
use Rattle.tree_laws.specs.declared.turns.TurnAct.{TurnAct}
use Rattle.turn_laws.specs.Books.{Books, Does, is_open_in, grant_for_turn, least_open}
use Rattle.turn_laws.specs.LawsTurns.{IsLeastOpen, LeastAreTaken}

-- A number is among the first of a range that pass a test: all that pass below it are taken too.
record IsAmongFirst (test : ℕ → Bool) (a n : ℕ) (taken : List ℕ) (i : ℕ) : Type 0 where
  low : a ≤ i
  high : i < a + n
  passes : test i ≡ true
  lower : (j : ℕ) → a ≤ j → j < i → test j ≡ true → is_listed taken j ≡ true

-- nothing is taken of nothing, and no first ones are nothing
of_nothing : (count i : ℕ) → is_listed (take count []) i ≡ true → ⊥
of_nothing count i t = true_not_false (sym t ∙ ap (λ l. is_listed l i) (take-nil count))

no_first : (xs : List ℕ) (i : ℕ) → is_listed (take 0 xs) i ≡ true → ⊥
no_first [] i t = true_not_false (sym t)
no_first (x ∷ xs) i t = true_not_false (sym t)

-- a number from one on is that one, or lies above it
same_or_above : (a j : ℕ) → a ≤ j → (a + 1 ≤ j → ⊥) → j ≡ a
same_or_above a j low not = elim (cases_lt a j) [
  | inl above ↦ absurd (not (omega (arith, above)))
  | inr below ↦ omega (arith, low, below)
]

among_first : (test : ℕ → Bool) (a n count i : ℕ) → is_listed (take count (filter test (range_with_len a n))) i ≡ true
    → IsAmongFirst test a n (take count (filter test (range_with_len a n))) i
among_first test a zero count i t = absurd (of_nothing count i t)
among_first test a (suc m) zero i t = absurd (no_first (filter test (range_with_len a (suc m))) i t)
among_first test a (suc m) (suc c) i t = by (test a) refl t (λ count. among_first test (a + 1) m count i)
  where
    rest : List ℕ
    rest = filter test (range_with_len (a + 1) m)

    Later : Type 0
    Later = (count : ℕ) → is_listed (take count rest) i ≡ true → IsAmongFirst test (a + 1) m (take count rest) i

    passed : test a ≡ true → (nat_eq a i ≡ true → IsAmongFirst test a (suc m) (a ∷ take c rest) i)
    passed e same =
        let i_is : a ≡ i = eqb-true a i same in
        record {
          low = omega (arith, i_is);
          high = omega (arith, i_is);
          passes = ap test (sym i_is) ∙ e;
          lower = λ j low less passes. absurd (omega (arith, i_is, low, less));
        }

    behind : IsAmongFirst test (a + 1) m (take c rest) i → IsAmongFirst test a (suc m) (a ∷ take c rest) i
    behind is = record {
      low = omega (arith, is.low);
      high = omega (arith, is.high);
      passes = is.passes;
      lower = λ j low less passes. elim (cases_lt a j) [
        | inl above ↦ ap (λ b. nat_eq a j || b) (is.lower j (omega (arith, above)) less passes) ∙ or_true (nat_eq a j)
        | inr below ↦ ap (λ b. b || is_listed (take c rest) j) (ap (nat_eq a) (same_or_above a j low (λ above. omega (arith, above, below))) ∙ same_number a)
      ];
    }

    left_out : test a ≡ false → IsAmongFirst test (a + 1) m (take (suc c) rest) i → IsAmongFirst test a (suc m) (take (suc c) rest) i
    left_out e is = record {
      low = omega (arith, is.low);
      high = omega (arith, is.high);
      passes = is.passes;
      lower = λ j low less passes. elim (cases_lt a j) [
        | inl above ↦ is.lower j (omega (arith, above)) less passes
        | inr below ↦ absurd (true_not_false (sym passes ∙ ap test (same_or_above a j low (λ above. omega (arith, above, below))) ∙ e))
      ];
    }

    by : (b : Bool) → test a ≡ b → is_listed (take (suc c) (cond b (a ∷ rest) rest)) i ≡ true → Later
        → IsAmongFirst test a (suc m) (take (suc c) (cond b (a ∷ rest) rest)) i
    by true e t later = elim (cases_Bool (nat_eq a i)) [
      | inl same ↦ passed e same
      | inr apart ↦ behind (later c (ap (λ b. b || is_listed (take c rest) i) (sym apart) ∙ t))
    ]
    by false e t later = left_out e (later (suc c) t)

least_is_open : (books : Books) (count i : ℕ) → is_listed (least_open books count) i ≡ true → IsLeastOpen books (least_open books count) i
least_is_open books count i t =
    let is = among_first (is_open_in books) 0 books.image.image.count count i t in
    let high = is.high in
    record {
      within = omega (arith, high);
      opens = is.passes;
      lower = λ j less passes. is.lower j (omega arith) less passes;
    }

pub least_are_taken : LeastAreTaken
least_are_taken before most books turn later is did =
    let does = subst (λ (a : TurnAct). Does a books turn later) did is.does in
    record {
      grant = grant_for_turn books turn does.need;
      grants = ap (λ (b : Books). b.grants) does.later_is;
      least = least_is_open books does.need.inodes;
    }
