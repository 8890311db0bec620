-- The first fault is that of the least rule that is broken, and of that the least inode.
use Rattle.std.proofs.Common.{◌≡◌, ◌≢◌, ℕ, zero, suc, ◌+◌, ◌<◌, ◌≤◌, Bool, true, false, cond, Option, Some, None, option_map, refl, sym, ap, ◌∙◌, arith, nat_eq}
use borrow.Author.Tests.{eqb-true, eqb-false}
use Rattle.std.specs.Prelude.{filter_map, slice_get}
use Rattle.std.specs.List.{range_with_len, find, cons_option}
use Rattle.image_laws.specs.Rules.{RULES, TreeFault, fault_by, first_fault, IsLeastFault, FindsFault}
use Rattle.image_laws.specs.Laws.{FirstFaultIsLeast}
use Rattle.sfs_base.proofs.BasicOptions.{none_some, some_same}
use Rattle.image_laws.proofs.Faults.{no_break, none_found, unmapped}

-- a number that is found passes, and none before it does
record IsFound (p : ℕ → Bool) (a n k : ℕ) : Type 0 where
  low : a ≤ k
  high : k < a + n
  passes : p k ≡ true
  before : (j : ℕ) → a ≤ j → j < k → p j ≡ false

found_is : (p : ℕ → Bool) (a n k : ℕ) → find p (range_with_len a n) ≡ Some k → IsFound p a n k
found_is p a zero k e = absurd (none_some e)
found_is p a (suc n) k e =
    elim (p a) as (λ b. p a ≡ b → cond b (Some a) (find p (range_with_len (a + 1) n)) ≡ Some k → IsFound p a (suc n) k) [
      | true ↦ λ t f.
          let same : a ≡ k = some_same f in
          record { low = omega arith; high = omega arith; passes = ap p (sym same) ∙ t; before = λ j le lt. absurd (omega arith) }
      | false ↦ λ t f.
          let rest = found_is p (a + 1) n k f in
          let low = rest.low in
          let high = rest.high in
          record { low = omega arith; high = omega arith; passes = rest.passes; before = λ j le lt. first t j le (rest.before j) lt }
    ] refl e
  where
    first : p a ≡ false → (j : ℕ) → a ≤ j → (a + 1 ≤ j → j < k → p j ≡ false) → j < k → p j ≡ false
    first t j le rest lt = elim (nat_eq a j) as (λ b. nat_eq a j ≡ b → p j ≡ false) [
      | true ↦ λ u. ap p (sym (eqb-true _ _ u)) ∙ t
      | false ↦ λ u. let other : a ≢ j = eqb-false _ _ u in rest (omega arith) lt
    ] refl

-- the first of what numbers in turn give
record IsFirstGiven (f : ℕ → Option TreeFault) (a n : ℕ) (x : TreeFault) : Type 0 where
  number : ℕ
  low : a ≤ number
  high : number < a + n
  gives : f number ≡ Some x
  before : (j : ℕ) → a ≤ j → j < number → f j ≡ None

given_is : (f : ℕ → Option TreeFault) (a n : ℕ) (x : TreeFault) → slice_get (filter_map f (range_with_len a n)) 0 ≡ Some x → IsFirstGiven f a n x
given_is f a zero x e = absurd (none_some e)
given_is f a (suc n) x e = by_first (f a) refl e (given_is f (a + 1) n x)
  where
    by_first : (o : Option TreeFault) → f a ≡ o → slice_get (cons_option o (filter_map f (range_with_len (a + 1) n))) 0 ≡ Some x →
        (slice_get (filter_map f (range_with_len (a + 1) n)) 0 ≡ Some x → IsFirstGiven f (a + 1) n x) → IsFirstGiven f a (suc n) x
    by_first (Some y) is e rest = record { number = a; low = omega arith; high = omega arith; gives = is ∙ e; before = λ j le lt. absurd (omega arith) }
    by_first None is e rest =
        let r = rest e in
        let low = r.low in
        let high = r.high in
        record { number = r.number; low = omega arith; high = omega arith; gives = r.gives; before = λ j le lt. first j le (r.before j) lt }
      where
        first : (j : ℕ) → a ≤ j → (a + 1 ≤ j → j < (rest e).number → f j ≡ None) → j < (rest e).number → f j ≡ None
        first j le later lt = elim (nat_eq a j) as (λ b. nat_eq a j ≡ b → f j ≡ None) [
          | true ↦ λ u. ap f (sym (eqb-true _ _ u)) ∙ is
          | false ↦ λ u. let other : a ≢ j = eqb-false _ _ u in later (omega arith) lt
        ] refl

module _ (breaks : ℕ → ℕ → Bool) (count : ℕ) where
  -- a fault of a rule is its least inode's
  record IsOfRule (rule : ℕ) (fault : TreeFault) : Type 0 where
    same : fault.rule ≡ rule
    found : find (breaks rule) (range_with_len 0 count) ≡ Some fault.inode

  of_rule : (rule : ℕ) (fault : TreeFault) → fault_by breaks count rule ≡ Some fault → IsOfRule rule fault
  of_rule rule fault e = by_found (find (breaks rule) (range_with_len 0 count)) refl e
    where
      by_found : (o : Option ℕ) → find (breaks rule) (range_with_len 0 count) ≡ o →
          option_map (λ i. record { rule = rule; inode = i }) o ≡ Some fault → IsOfRule rule fault
      by_found None is e = absurd (none_some e)
      by_found (Some i) is e =
          let made : (record { rule = rule; inode = i }) ≡ fault = some_same e in
          record { same = ap (λ (f : TreeFault). f.rule) (sym made); found = is ∙ ap (λ (f : TreeFault). Some f.inode) made }

  unbroken : (rule : ℕ) → fault_by breaks count rule ≡ None → (i : ℕ) → i < count → breaks rule i ≡ false
  unbroken rule none i lt = none_found (breaks rule) 0 count (unmapped rule (find (breaks rule) (range_with_len 0 count)) none) i (omega arith) (omega arith)

  is_first : (fault : TreeFault) → first_fault breaks count ≡ Some fault → IsLeastFault breaks count fault
  is_first fault e =
      let given = given_is (fault_by breaks count) 1 RULES fault e in
      let own = of_rule given.number fault given.gives in
      let found = found_is (breaks given.number) 0 count fault.inode own.found in
      let low = given.low in
      let high = given.high in
      let same = own.same in
      let within = found.high in
      record {
        rule_low = omega arith;
        rule_high = omega arith;
        within = omega arith;
        breaks_it = ap (λ (r : ℕ). breaks r fault.inode) own.same ∙ found.passes;
        lesser_rules = λ rule i le lt less. unbroken rule (given.before rule le (omega arith)) i less;
        lesser_inodes = λ i lt. ap (λ (r : ℕ). breaks r i) own.same ∙ found.before i (omega arith) lt;
      }

pub first_fault_is_least : FirstFaultIsLeast
first_fault_is_least breaks count = by_fault (first_fault breaks count) refl
  where
    by_fault : (o : Option TreeFault) → first_fault breaks count ≡ o → FindsFault breaks count o
    by_fault None e = λ rule i low high lt. no_break breaks count e rule i low (omega arith) lt
    by_fault (Some fault) e = is_first breaks count fault e
