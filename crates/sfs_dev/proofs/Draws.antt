-- What a disk in memory leaves by draws is what a crash may leave.
use Rattle.std.proofs.Common.{◌≡◌, ℕ, ◌+◌, ◌-◌, ◌/◌, ◌%◌, ◌≤◌, Bool, true, false, ◌&&◌, leb, List, ◌∷◌, ◌++◌, length, take, drop, reverse, replicate, refl, sym, ◌∙◌, ap, arith, append_assoc, length-append, ◌≢◌, eqb, cond}
use Rattle.std.proofs.lemmas.List.{length-take-le, take_at, drop_at, drop-drop, length-replicate}
use Rattle.std.proofs.lemmas.Bool.{and_parts}
use Rattle.std.proofs.lemmas.Bool.Decides.{nat_tests}
use Rattle.sfs_dev.specs.Ranges.{part, put}
use Rattle.sfs_dev.specs.RangeLaws.{SameOutside-refl, put-part}
use Rattle.sfs_dev.specs.Log.{acts_of, fits}
use Rattle.sfs_dev.specs.Left.{Past, Drawn, undone, torn_by, half_written, draw_writes}
use Rattle.sfs_dev.specs.declared.call.Act.{Act}
use Rattle.sfs_dev.specs.declared.call.Act.TheVariants.{Write}
use Rattle.sfs_dev.specs.declared.call.Call.{Call}
use Rattle.sfs_dev.specs.declared.left.TheConstants.{SPOILT}

-- a range's own bytes put back change nothing
pub put_own : (at n : ℕ) (bytes : List ℕ) → at + n ≤ length bytes → put at (part at n bytes) bytes ≡ bytes
put_own at n bytes within = put-part at n bytes bytes within (SameOutside-refl at n bytes)

-- bytes put behind those that were put
pub put_next : (at : ℕ) (front back bytes : List ℕ) → at + length front + length back ≤ length bytes
    → put (at + length front) back (put at front bytes) ≡ put at (front ++ back) bytes
put_next at front back bytes within =
    let start : length (take at bytes ++ front) ≡ at + length front =
    omega (arith, length-append (take at bytes) front, length-take-le at bytes (omega arith)) in
    let cut : take (at + length front) (put at front bytes) ≡ take at bytes ++ front =
    take_at (take at bytes ++ front) (drop (at + length front) bytes) (at + length front) start in
    let rest : drop (at + length front + length back) (put at front bytes) ≡ drop (at + length (front ++ back)) bytes =
    sym (drop-drop (length back) (at + length front) (put at front bytes))
    ∙ ap (λ (l : List ℕ). drop (length back) l) (drop_at (take at bytes ++ front) (drop (at + length front) bytes) (at + length front) start)
    ∙ drop-drop (length back) (at + length front) bytes
    ∙ ap (λ (k : ℕ). drop k bytes) (omega (arith, length-append front back)) in
    ap (λ (l : List ℕ). l ++ back ++ drop (at + length front + length back) (put at front bytes)) cut
    ∙ ap (λ (l : List ℕ). take at bytes ++ front ++ back ++ l) rest
    ∙ ap (λ (l : List ℕ). l ++ drop (at + length (front ++ back)) bytes) (append_assoc (take at bytes) front back)

-- what is torn is as long as what was to be written
pub length-torn : (x : ℕ) (old new : List ℕ) → length old ≡ length new → length (torn_by x old new) ≡ length new
length-torn x old new same = by (eqb (x / 65536 % 3) 0) (eqb (x / 65536 % 3) 1)
  where
    half : length (half_written new) ≡ length new
    half =
        omega (
          arith,
          length-append (take (length new / 2) new) (replicate (length new - length new / 2) 165),
          length-take-le (length new / 2) new (omega arith),
          length-replicate {A = ℕ} (length new - length new / 2) 165,
        )

    by : (a b : Bool) → length (cond a old (cond b new (half_written new))) ≡ length new
    by true b = same
    by false true = refl
    by false false = half

-- what the test says of a write
pub some_fits : (size at count kept : ℕ) (earlier : List Act) → fits size (Write at count ∷ earlier) kept ≡ true
    → (at + count ≤ size) × (count ≤ kept) × (fits size earlier (kept - count) ≡ true)
some_fits size at count kept earlier is =
    let both = and_parts (leb (at + count) size && leb count kept) _ is in
    let first = and_parts (leb (at + count) size) _ both.0 in
    (grind (arith, nat_tests, first.0), grind (arith, nat_tests, first.1), both.1)

-- and the other way
pub fits_again : (size at count kept : ℕ) (earlier : List Act) → at + count ≤ size → count ≤ kept → fits size earlier (kept - count) ≡ true
    → fits size (Write at count ∷ earlier) kept ≡ true
fits_again size at count kept earlier within there others =
    let a : leb (at + count) size ≡ true = grind (arith, nat_tests) in
    let b : leb count kept ≡ true = grind (arith, nat_tests) in
    ap (λ (x : Bool). (x && leb count kept) && fits size earlier (kept - count)) a
    ∙ ap (λ (x : Bool). x && fits size earlier (kept - count)) b
    ∙ others

-- How far the undoing has come: of `calls` those of `rest` are to be undone yet.
pub record Undoing (size : ℕ) (rest : List Call) (now : Past) (calls : List Call) (was : Past) : Type 0 where
  pub fit : fits size (acts_of (reverse rest)) (length now.replaced) ≡ true
  pub same : undone (acts_of (reverse rest)) now ≡ undone (acts_of (reverse calls)) was

-- How far the drawing has come: of `all` those of `acts` are to be drawn for yet.
pub record Drawing (size : ℕ) (acts : List Act) (written : List ℕ) (now : Drawn) (all : List Act) (first : List ℕ) (was : Drawn) : Type 0 where
  pub fit : fits size acts (length written) ≡ true
  pub same : draw_writes acts written now ≡ draw_writes all first was

-- nothing of a write came to the disk
pub torn_nothing : (x at : ℕ) (new bytes : List ℕ) → x / 65536 % 3 ≡ 0 → at + length new ≤ length bytes
    → bytes ≡ put at (torn_by x (part at (length new) bytes) new) bytes
torn_nothing x at new bytes is within =
    let old : torn_by x (part at (length new) bytes) new ≡ part at (length new) bytes =
    ap (λ (n : ℕ). cond (eqb n 0) (part at (length new) bytes) (cond (eqb n 1) new (half_written new))) is in
    sym (ap (λ (l : List ℕ). put at l bytes) old ∙ put_own at (length new) bytes within)

-- half of a write came to the disk
pub torn_half : (x at : ℕ) (new bytes : List ℕ) → x / 65536 % 3 ≢ 0 → x / 65536 % 3 ≢ 1 → at + length new ≤ length bytes
    → put (at + length new / 2) (replicate (length new - length new / 2) SPOILT) (put at (take (length new / 2) new) bytes)
    ≡ put at (torn_by x (part at (length new) bytes) new) bytes
torn_half x at new bytes some not_one within =
    let front = take (length new / 2) new in
    let back = replicate (length new - length new / 2) SPOILT in
    let half : torn_by x (part at (length new) bytes) new ≡ half_written new = grind (arith, nat_tests, some, not_one) in
    let long : length front ≡ length new / 2 = length-take-le (length new / 2) new (omega arith) in
    let rest : length back ≡ length new - length new / 2 = length-replicate {A = ℕ} (length new - length new / 2) SPOILT in
    ap (λ (n : ℕ). put (at + n) back (put at front bytes)) (sym long)
    ∙ put_next at front back bytes (omega arith)
    ∙ ap (λ (l : List ℕ). put at l bytes) (sym half)
