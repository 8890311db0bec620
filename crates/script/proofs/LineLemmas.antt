-- The first line and the first part of some bytes.
use Rattle.std.proofs.Common.{◌≡◌, ℕ, zero, suc, ◌+◌, ◌<◌, ◌≤◌, Bool, true, false, cond, List, [], ◌∷◌, length, take, drop, get_or, Some, None, refl, sym, ap, ◌∙◌, arith, nat_eq, ltb, position}
use borrow.Author.Tests.{ltb-false}
use Rattle.std.specs.List.{position_or_len}
use Rattle.std.proofs.Common.{◌-◌}
use Rattle.std.proofs.Math.Seq.{take-length, drop-length}
use Rattle.std.proofs.lemmas.List.{take_rest}
use Rattle.std.proofs.lemmas.List.Quantifiers.{position-Some}
use Rattle.std.proofs.lemmas.List.Sums.{fails_before_first}
use Rattle.script.specs.Lines.{lines, parts, first_longer}

-- a line that ends at a place
line_at : (bytes : List ℕ) (i : ℕ) → i < length bytes → nat_eq (get_or bytes i 0) 10 ≡ true → ((k : ℕ) → k < i → nat_eq (get_or bytes k 0) 10 ≡ false)
    → lines bytes ≡ take i bytes ∷ lines (drop (suc i) bytes)
line_at [] i lt here before = absurd (omega arith)
line_at (b ∷ bs) zero lt here before = ap (λ t. cond t ([] ∷ lines bs) (first_longer b (lines bs))) here
line_at (b ∷ bs) (suc i) lt here before =
    ap (λ t. cond t ([] ∷ lines bs) (first_longer b (lines bs))) (before zero (omega arith))
    ∙ ap (first_longer b) (line_at bs i (omega arith) here (λ k below. before (suc k) (omega arith)))

-- a line that does not end
line_open : (b : ℕ) (bs : List ℕ) → ((k : ℕ) → k < length (b ∷ bs) → nat_eq (get_or (b ∷ bs) k 0) 10 ≡ false) → lines (b ∷ bs) ≡ (b ∷ bs) ∷ []
line_open b [] none = ap (λ t. cond t ([] ∷ lines []) (first_longer b (lines []))) (none zero (omega arith))
line_open b (c ∷ cs) none =
    ap (λ t. cond t ([] ∷ lines (c ∷ cs)) (first_longer b (lines (c ∷ cs)))) (none zero (omega arith))
    ∙ ap (first_longer b) (line_open c cs (λ k below. none (suc k) (omega arith)))

-- nothing passes where no first one is found
pub none_passes : (p : ℕ → Bool) (xs : List ℕ) → position p xs ≡ None → (k : ℕ) → k < length xs → p (get_or xs k 0) ≡ false
none_passes p xs e k lt =
    elim (ltb (position_or_len p xs) (length xs)) as (λ t. ltb (position_or_len p xs) (length xs) ≡ t → cond t (Some (position_or_len p xs)) None ≡ None
    → p (get_or xs k 0) ≡ false) [
      | true ↦ λ t n. cc
      | false ↦ λ t n. let past = ltb-false _ _ t in fails_before_first p xs k 0 (omega arith)
    ] refl e

pub lines-ended : (bytes : List ℕ) (i : ℕ) → position (λ byte. nat_eq byte 10) bytes ≡ Some i → lines bytes ≡ take i bytes ∷ lines (drop (suc i) bytes)
lines-ended bytes i e = let at = position-Some (λ byte. nat_eq byte 10) bytes i 0 e in line_at bytes i at.0 at.1 at.2

pub lines_open : (bytes : List ℕ) → 0 < length bytes → position (λ byte. nat_eq byte 10) bytes ≡ None → lines bytes ≡ bytes ∷ []
lines_open [] lt e = absurd (omega arith)
lines_open (b ∷ bs) lt e = line_open b bs (none_passes (λ byte. nat_eq byte 10) (b ∷ bs) e)

-- a part that ends at a place
part_at : (separator : ℕ) (bytes : List ℕ) (i : ℕ) → i < length bytes → nat_eq (get_or bytes i 0) separator ≡ true
    → ((k : ℕ) → k < i → nat_eq (get_or bytes k 0) separator ≡ false) → parts separator bytes ≡ take i bytes ∷ parts separator (drop (suc i) bytes)
part_at s [] i lt here before = absurd (omega arith)
part_at s (b ∷ bs) zero lt here before = ap (λ t. cond t ([] ∷ parts s bs) (first_longer b (parts s bs))) here
part_at s (b ∷ bs) (suc i) lt here before =
    ap (λ t. cond t ([] ∷ parts s bs) (first_longer b (parts s bs))) (before zero (omega arith))
    ∙ ap (first_longer b) (part_at s bs i (omega arith) here (λ k below. before (suc k) (omega arith)))

-- the only part
part_alone : (separator : ℕ) (bs : List ℕ) → ((k : ℕ) → k < length bs → nat_eq (get_or bs k 0) separator ≡ false) → parts separator bs ≡ bs ∷ []
part_alone s [] none = refl
part_alone s (b ∷ bs) none =
    ap (λ t. cond t ([] ∷ parts s bs) (first_longer b (parts s bs))) (none zero (omega arith))
    ∙ ap (first_longer b) (part_alone s bs (λ k below. none (suc k) (omega arith)))

pub parts-ended : (separator : ℕ) (bytes : List ℕ) (i : ℕ) → position (λ byte. nat_eq byte separator) bytes ≡ Some i
    → parts separator bytes ≡ take i bytes ∷ parts separator (drop (suc i) bytes)
parts-ended s bytes i e = let at = position-Some (λ byte. nat_eq byte s) bytes i 0 e in part_at s bytes i at.0 at.1 at.2

pub parts_alone : (separator : ℕ) (bytes : List ℕ) → position (λ byte. nat_eq byte separator) bytes ≡ None → parts separator bytes ≡ bytes ∷ []
parts_alone s bytes e = part_alone s bytes (none_passes (λ byte. nat_eq byte s) bytes e)

pub split_line : (bytes back : List ℕ) (i : ℕ) → back ≡ drop i bytes → drop (suc i) bytes ≡ take (length back - 1) (drop 1 back)
split_line bytes back i e = drop_one bytes i ∙ ap (drop 1) (sym e) ∙ sym (take_rest back 1)
  where
    drop_one : (xs : List ℕ) (i : ℕ) → drop (suc i) xs ≡ drop 1 (drop i xs)
    drop_one [] zero = refl
    drop_one [] (suc i) = refl
    drop_one (x ∷ xs) zero = refl
    drop_one (x ∷ xs) (suc i) = drop_one xs i

pub split_open : (bytes front back : List ℕ) → front ≡ take (length bytes) bytes → back ≡ drop (length bytes) bytes → bytes ∷ [] ≡ front ∷ lines back
split_open bytes front back f b = ap (λ l. l ∷ []) (sym (f ∙ take-length bytes)) ∙ ap (λ r. front ∷ lines r) (sym (b ∙ drop-length bytes))

-- there is a first part
parts_some : (separator : ℕ) (bytes : List ℕ) → 0 < length (parts separator bytes)
parts_some s [] = omega arith
parts_some s (b ∷ bs) =
    elim (nat_eq b s) as (λ t. 0 < length (cond t ([] ∷ parts s bs) (first_longer b (parts s bs)))) [ true ↦ omega arith | false ↦ longer b (parts s bs) ]
  where
    longer : (b : ℕ) (later : List (List ℕ)) → 0 < length (first_longer b later)
    longer b [] = omega arith
    longer b (l ∷ ls) = omega arith

-- how many words there are, where one stands before others
pub parts_more : (separator : ℕ) (bytes : List ℕ) (words : List (List ℕ)) (word : List ℕ) → words ≡ word ∷ parts separator bytes → 2 ≤ length words
parts_more separator bytes words word e = let some = parts_some separator bytes in omega (arith, ap length e)

-- how many bytes lists have together
abbrev pub total : List (List ℕ) → ℕ
total [] = 0
total (bytes ∷ later) = length bytes + total later

-- the parts of some bytes have these bytes but the separators
pub parts_total : (separator : ℕ) (bytes : List ℕ) → total (parts separator bytes) + length (parts separator bytes) ≡ length bytes + 1
parts_total s [] = refl
parts_total s (b ∷ bs) =
    let before = parts_total s bs in
    elim (nat_eq b s) as (λ t. total (cond t ([] ∷ parts s bs) (first_longer b (parts s bs))) + length (cond t ([] ∷ parts s bs) (first_longer b (parts s bs)))
    ≡ suc (length bs) + 1) [
      | true ↦ omega (arith, before)
      | false ↦ longer b (parts s bs) (length bs) before
    ]
  where
    longer : (b : ℕ) (later : List (List ℕ)) (n : ℕ) → total later + length later ≡ n + 1
        → total (first_longer b later) + length (first_longer b later) ≡ suc n + 1
    longer b [] n e = absurd (omega (arith, e))
    longer b (l ∷ ls) n e = omega (arith, e)
