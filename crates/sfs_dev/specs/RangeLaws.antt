-- What follows for ranges that are written and ranges that are not.
use Rattle.std.proofs.Common.{◌≡◌, ⊎_elim, ℕ, ◌+◌, ◌-◌, ◌≤◌, List, ◌++◌, length, take, drop, refl, sym, ◌∙◌, ap, arith, append_assoc, length-append, length-drop}
use Rattle.std.proofs.lemmas.List.{length-take-le, take-append-le, take_at, drop_at, take-take, drop-drop, drop-take, take-append-drop}
use Rattle.sfs_dev.specs.Ranges.{part, put, SameOutside, Apart}

-- the bytes up to the end of what was put
length_front : (at : ℕ) (new bytes : List ℕ) → at + length new ≤ length bytes → length (take at bytes ++ new) ≡ at + length new
length_front at new bytes within = omega (arith, length-append (take at bytes) new, length-take-le at bytes (omega arith))

pub length-put : (at : ℕ) (new bytes : List ℕ) → at + length new ≤ length bytes → length (put at new bytes) ≡ length bytes
length-put at new bytes within =
    omega (arith, length-append (take at bytes ++ new) (drop (at + length new) bytes), length_front at new bytes within, length-drop (at + length new) bytes)

pub take-put : (at : ℕ) (new bytes : List ℕ) → at + length new ≤ length bytes → take at (put at new bytes) ≡ take at bytes
take-put at new bytes within =
    take-append-le at (take at bytes ++ new) (drop (at + length new) bytes) (omega (arith, length_front at new bytes within))
    ∙ take_at (take at bytes) new at (length-take-le at bytes (omega arith))

pub drop-put : (at : ℕ) (new bytes : List ℕ) → at + length new ≤ length bytes → drop (at + length new) (put at new bytes) ≡ drop (at + length new) bytes
drop-put at new bytes within =
    drop_at (take at bytes ++ new) (drop (at + length new) bytes) (at + length new) (length_front at new bytes within)

pub SameOutside-put : (at : ℕ) (new bytes : List ℕ) → at + length new ≤ length bytes → SameOutside at (length new) bytes (put at new bytes)
SameOutside-put at new bytes within = record {
  before = take-put at new bytes within;
  after = drop-put at new bytes within;
  size = length-put at new bytes within;
}

pub SameOutside-refl : (at n : ℕ) (bytes : List ℕ) → SameOutside at n bytes bytes
SameOutside-refl at n bytes = record { before = refl; after = refl; size = refl }

pub SameOutside-sym : (at n : ℕ) (old new : List ℕ) → SameOutside at n old new → SameOutside at n new old
SameOutside-sym at n old new same = record { before = sym same.before; after = sym same.after; size = sym same.size }

pub SameOutside-trans : (at n : ℕ) (old mid new : List ℕ) → SameOutside at n old mid → SameOutside at n mid new → SameOutside at n old new
SameOutside-trans at n old mid new first second = record {
  before = second.before ∙ first.before;
  after = second.after ∙ first.after;
  size = second.size ∙ first.size;
}

-- the range that was put holds what was put
pub part-put : (at : ℕ) (new bytes : List ℕ) → at + length new ≤ length bytes → part at (length new) (put at new bytes) ≡ new
part-put at new bytes within =
    sym (drop-take at (length new) (put at new bytes))
    ∙ ap (λ (l : List ℕ). drop at l) (take_at (take at bytes ++ new) (drop (at + length new) bytes) (at + length new) (length_front at new bytes within))
    ∙ drop_at (take at bytes) new at (length-take-le at bytes (omega arith))

-- putting a range's own bytes back, whatever stands there now
pub put-part : (at n : ℕ) (old new : List ℕ) → at + n ≤ length old → SameOutside at n old new → put at (part at n old) new ≡ old
put-part at n old new within same =
    let size : length (part at n old) ≡ n = length-take-le n (drop at old) (omega (arith, length-drop at old)) in
    let front : take at new ≡ take at old = same.before in
    let back : drop (at + length (part at n old)) new ≡ drop n (drop at old) =
    ap (λ (k : ℕ). drop (at + k) new) size ∙ same.after ∙ sym (drop-drop n at old) in
    ap (λ (l : List ℕ). l ++ part at n old ++ drop (at + length (part at n old)) new) front
    ∙ ap (λ (l : List ℕ). take at old ++ part at n old ++ l) back
    ∙ append_assoc (take at old) (part at n old) (drop n (drop at old))
    ∙ ap (λ (l : List ℕ). take at old ++ l) (take-append-drop n (drop at old))
    ∙ take-append-drop at old

-- a range apart from the one that was written stays
pub part_apart : (at n from m : ℕ) (old new : List ℕ) → Apart from m at n → SameOutside from m old new → part at n new ≡ part at n old
part_apart at n from m old new apart same = ⊎_elim above below apart
  where
    above : from + m ≤ at → part at n new ≡ part at n old
    above le =
        let more : from + m + (at - (from + m)) ≡ at = omega arith in
        let drops : (l : List ℕ) → drop at l ≡ drop (at - (from + m)) (drop (from + m) l) =
        λ l. ap (λ (k : ℕ). drop k l) (sym more) ∙ sym (drop-drop (at - (from + m)) (from + m) l) in
        ap (λ (l : List ℕ). take n l) (drops new ∙ ap (λ (l : List ℕ). drop (at - (from + m)) l) same.after ∙ sym (drops old))

    below : at + n ≤ from → part at n new ≡ part at n old
    below le =
        let takes : (l : List ℕ) → part at n l ≡ drop at (take (at + n) (take from l)) =
        λ l. sym (drop-take at n l) ∙ ap (λ (k : List ℕ). drop at k) (sym (take-take (at + n) from l le)) in
        takes new ∙ ap (λ (l : List ℕ). drop at (take (at + n) l)) same.before ∙ sym (takes old)
