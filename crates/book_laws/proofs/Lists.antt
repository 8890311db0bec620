-- Numbers that stand once in lists that are joined, and lists of granted numbers.
use Rattle.std.specs.Prelude.{◌↔◌}
use Rattle.std.specs.List.Sorted.{IsStrictlyIncreasing}
use Rattle.std.proofs.Common.{◌≡◌, ◌≢◌, ◌<◌, ◌≤◌, ◌||◌, ◌∷◌, ◌++◌, ◌∙◌, ℕ, Bool, true, false, cond, List, [], nat_eq, Some, option_map, refl, sym, ap, arith}
use Rattle.std.proofs.lemmas.Bool.{eqb-true}
use Rattle.std.proofs.lemmas.List.Folds.{list_any-append}
use Rattle.sfs_base.specs.Listed.{is_listed}
use Rattle.sfs_base.proofs.BasicNumbers.{same_number}
use Rattle.sfs_base.proofs.BasicTruth.{or_true, or_first, or_second, or_false}
use Rattle.space_map.specs.Pool.{Pool, status_of, Grants}
use Rattle.space_map.specs.declared.status.Status.TheVariants.{Free, Granted}
use Rattle.space_map.proofs.Others.{free_now}
use Rattle.turn_laws.specs.LawsNeed.{AreOnce}
use Rattle.turn_laws.proofs.Left.{tail_rises}
use Rattle.book_laws.specs.Out.{ListsGranted}

pub listed_joined : (a b : List ℕ) (n : ℕ) → is_listed (a ++ b) n ≡ (is_listed a n || is_listed b n)
listed_joined a b n = list_any-append (λ listed. nat_eq listed n) a b

listed_first : (a b : List ℕ) (n : ℕ) → is_listed a n ≡ true → is_listed (a ++ b) n ≡ true
listed_first a b n t = listed_joined a b n ∙ ap (λ c. c || is_listed b n) t

listed_second : (a b : List ℕ) (n : ℕ) → is_listed b n ≡ true → is_listed (a ++ b) n ≡ true
listed_second a b n t = listed_joined a b n ∙ ap (λ c. is_listed a n || c) t ∙ or_true (is_listed a n)

-- lists with no number in common
abbrev pub AreApart : List ℕ → List ℕ → Type 0
AreApart a b = (n : ℕ) → is_listed a n ≡ true → is_listed b n ≡ false

once_joined : (a b : List ℕ) → AreOnce a → AreOnce b → AreApart a b → AreOnce (a ++ b)
once_joined [] b first second apart = second
once_joined (number ∷ a) b first second apart = (
  listed_joined a b number ∙ (λ i. first.0 i || own i),
  once_joined a b first.1 second (λ n t. apart n (later n t)),
)
  where
    own : is_listed b number ≡ false
    own = apart number (ap (λ c. c || is_listed a number) (same_number number))

    later : (n : ℕ) → is_listed a n ≡ true → (nat_eq number n || is_listed a n) ≡ true
    later n t = listed_second (number ∷ []) a n t

-- what is known of lists that are joined and have each number once
record SplitOnce (a b : List ℕ) : Type 0 where
  first : AreOnce a
  second : AreOnce b
  apart : AreApart a b

once_split : (a b : List ℕ) → AreOnce (a ++ b) → SplitOnce a b
once_split [] b once = record { first = tt; second = once; apart = λ n t. absurd (let never : false ≡ true = t in cc) }
once_split (number ∷ a) b once =
    let none = sym (listed_joined a b number) ∙ once.0 in
    let rest = once_split a b once.1 in
    record {
      first = (or_first (is_listed a number) (is_listed b number) none, rest.first);
      second = rest.second;
      apart = λ n t. by n (or_second (is_listed a number) (is_listed b number) none) rest (nat_eq number n) refl t;
    }
  where
    by : (n : ℕ) → is_listed b number ≡ false → SplitOnce a b → (c : Bool) → nat_eq number n ≡ c → (c || is_listed a n) ≡ true → is_listed b n ≡ false
    by n own rest true same t = ap (is_listed b) (sym (eqb-true number n same)) ∙ own
    by n own rest false same t = rest.apart n t

-- numbers that ascend stand once
not_below : (x n : ℕ) (xs : List ℕ) → IsStrictlyIncreasing (x ∷ xs) → n ≤ x → is_listed xs n ≡ false
not_below x n [] up low = refl
not_below x n (y ∷ ys) up low =
    let step : x < y = up 0 (omega arith) in
    by (nat_eq y n) refl step (not_below y n ys (tail_rises x (y ∷ ys) up) (omega (arith, step, low)))
  where
    by : (c : Bool) → nat_eq y n ≡ c → x < y → is_listed ys n ≡ false → (c || is_listed ys n) ≡ false
    by true same step rest = absurd (let e = eqb-true y n same in omega (arith, step, low, e))
    by false same step rest = rest

once_rising : (xs : List ℕ) → IsStrictlyIncreasing xs → AreOnce xs
once_rising [] up = tt
once_rising (x ∷ xs) up = (not_below x x xs up (omega arith), once_rising xs (tail_rises x xs up))

free_is_not_granted : Some Free ≡ Some Granted → ⊥
free_is_not_granted e = cc

-- what is granted of a row is listed behind what was
pub granted_listed : (old new : Pool) (count : ℕ) (numbers before : List ℕ) → Grants old count numbers new → ListsGranted old before
    → ListsGranted new (before ++ numbers)
granted_listed old new count numbers before grants lists = record {
  each = λ n. (found n (is_listed numbers n) refl, back n (is_listed numbers n) refl);
  once = once_joined before numbers lists.once (once_rising numbers grants.ascending) (λ n t. apart n t (is_listed numbers n) refl);
}
  where
    apart : (n : ℕ) → is_listed before n ≡ true → (c : Bool) → is_listed numbers n ≡ c → c ≡ false
    apart n t true listed = absurd (free_is_not_granted (sym (free_now old count numbers new n grants listed) ∙ (lists.each n).1 t))
    apart n t false listed = refl

    now : (n : ℕ) (c : Bool) → is_listed numbers n ≡ c → status_of new n ≡ cond c (option_map (λ _. Granted) (status_of old n)) (status_of old n)
    now n c listed = grants.granted n ∙ ap (λ b. cond b (option_map (λ _. Granted) (status_of old n)) (status_of old n)) listed

    found : (n : ℕ) (c : Bool) → is_listed numbers n ≡ c → status_of new n ≡ Some Granted → is_listed (before ++ numbers) n ≡ true
    found n true listed has = listed_second before numbers n listed
    found n false listed has = listed_first before numbers n ((lists.each n).0 (sym (now n false listed) ∙ has))

    back : (n : ℕ) (c : Bool) → is_listed numbers n ≡ c → is_listed (before ++ numbers) n ≡ true → status_of new n ≡ Some Granted
    back n true listed has = now n true listed ∙ ap (option_map (λ _. Granted)) (free_now old count numbers new n grants listed)
    back n false listed has =
        now n false listed
        ∙ (lists.each n).1
        (sym (listed_joined before numbers n ∙ ap (λ b. is_listed before n || b) listed ∙ or_false (is_listed before n)) ∙ has)

-- Numbers of a row are granted no more, and of all others as many are granted as were.
pub record LeaveGranted (old new : Pool) (numbers : List ℕ) : Type 0 where
  pub gone : (n : ℕ) → is_listed numbers n ≡ true → status_of new n ≢ Some Granted
  pub others : (n : ℕ) → is_listed numbers n ≡ false → (status_of new n ≡ Some Granted) ↔ (status_of old n ≡ Some Granted)

-- these are then listed no more
pub left_listed : (old new : Pool) (front numbers back : List ℕ) → LeaveGranted old new numbers → ListsGranted old (front ++ (numbers ++ back))
    → ListsGranted new (front ++ back)
left_listed old new front numbers back leave lists = record {
  each = λ n. (found n (is_listed numbers n) refl, λ t. stays n t (is_listed numbers n) refl);
  once = once_joined front back outer.first inner.second (λ n t. (both n t).1);
}
  where
    outer : SplitOnce front (numbers ++ back)
    outer = once_split front (numbers ++ back) lists.once

    inner : SplitOnce numbers back
    inner = once_split numbers back outer.second

    both : (n : ℕ) → is_listed front n ≡ true → (is_listed numbers n ≡ false) × (is_listed back n ≡ false)
    both n t =
        let none = sym (listed_joined numbers back n) ∙ outer.apart n t in
        (or_first (is_listed numbers n) (is_listed back n) none, or_second (is_listed numbers n) (is_listed back n) none)

    found : (n : ℕ) (c : Bool) → is_listed numbers n ≡ c → status_of new n ≡ Some Granted → is_listed (front ++ back) n ≡ true
    found n true listed has = absurd (leave.gone n listed has)
    found n false listed has =
        listed_joined front back n ∙ ap (λ b. is_listed front n || (b || is_listed back n)) (sym listed)
        ∙ ap (λ b. is_listed front n || b) (sym (listed_joined numbers back n)) ∙ sym (listed_joined front (numbers ++ back) n)
        ∙ (lists.each n).0 ((leave.others n listed).0 has)

    whole : (n : ℕ) → is_listed (front ++ back) n ≡ true → (b : Bool) → is_listed front n ≡ b → is_listed (front ++ (numbers ++ back)) n ≡ true
    whole n t true e = listed_first front (numbers ++ back) n e
    whole n t false e =
        listed_second front (numbers ++ back) n
        (listed_second numbers back n (ap (λ b. b || is_listed back n) (sym e) ∙ sym (listed_joined front back n) ∙ t))

    -- a number of this grant is in no other
    never : (n : ℕ) → is_listed (front ++ back) n ≡ true → is_listed numbers n ≡ true → (b : Bool) → is_listed front n ≡ b → ⊥
    never n t listed true e = let two = both n e in let wrong : true ≡ false = sym listed ∙ two.0 in cc
    never n t listed false e =
        let in_back : is_listed back n ≡ true = ap (λ b. b || is_listed back n) (sym e) ∙ sym (listed_joined front back n) ∙ t in
        let wrong : true ≡ false = sym in_back ∙ inner.apart n listed in
        cc

    stays : (n : ℕ) → is_listed (front ++ back) n ≡ true → (c : Bool) → is_listed numbers n ≡ c → status_of new n ≡ Some Granted
    stays n t true listed = absurd (never n t listed (is_listed front n) refl)
    stays n t false listed = (leave.others n listed).1 ((lists.each n).1 (whole n t (is_listed front n) refl))
