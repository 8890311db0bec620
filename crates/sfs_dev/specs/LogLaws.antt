-- What the list of calls of a disk in memory says after one more of them.
use Rattle.std.proofs.Common.{◌≡◌, ℕ, ◌+◌, ◌-◌, ◌<◌, ◌≤◌, Bool, true, false, ◌&&◌, leb, List, [], ◌∷◌, length, MatchBool, refl, ◌∙◌, ap, subst, arith, length-drop}
use Rattle.std.proofs.lemmas.List.{length-take-le}
use Rattle.std.proofs.lemmas.Bool.{and_parts}
use Rattle.std.proofs.lemmas.Bool.Decides.{nat_tests}
use Rattle.sfs_dev.specs.Ranges.{put, SameOutside}
use Rattle.sfs_dev.specs.RangeLaws.{SameOutside-put, SameOutside-sym, length-put}
use Rattle.sfs_dev.specs.Log.{last_bytes, all_but_last, content_before, replaced_before, left_after, left_at, acts_of, newest_moment, fits}
use Rattle.sfs_dev.specs.declared.call.Act.{Act}
use Rattle.sfs_dev.specs.declared.call.Act.TheVariants.{Read, Write, Sync}
use Rattle.sfs_dev.specs.declared.call.Call.{Call}

-- where each write lies within the disk
record Fit (size : ℕ) (at count kept : ℕ) (earlier : List Act) : Type 0 where
  within : at + count ≤ size
  there : count ≤ kept
  others : fits size earlier (kept - count) ≡ true

fit : (size at count kept : ℕ) (earlier : List Act) → fits size (Write at count ∷ earlier) kept ≡ true → Fit size at count kept earlier
fit size at count kept earlier is =
    let both = and_parts (leb (at + count) size && leb count kept) _ is in
    let first = and_parts (leb (at + count) size) _ both.0 in
    record {
      within = grind (arith, nat_tests, first.0);
      there = grind (arith, nat_tests, first.1);
      others = both.1;
    }

-- what a read gives is one of the images
pub content_is_left : (size : ℕ) (acts : List Act) (content replaced : List ℕ) → length content ≡ size → fits size acts (length replaced) ≡ true
    → left_after acts content replaced content
content_is_left size [] content replaced whole is = refl
content_is_left size (Read at count ∷ earlier) content replaced whole is = content_is_left size earlier content replaced whole is
content_is_left size (Write at count ∷ earlier) content replaced whole is =
    let f = fit size at count (length replaced) earlier is in
    let kept : length (last_bytes count replaced) ≡ count = omega (arith, length-drop (length replaced - count) replaced, f.there) in
    let within : at + length (last_bytes count replaced) ≤ length content = omega (arith, kept, f.within, whole) in
    let was = put at (last_bytes count replaced) content in
    let rest : length (all_but_last count replaced) ≡ length replaced - count = length-take-le (length replaced - count) replaced (omega arith) in
    let old =
    content_is_left size earlier was (all_but_last count replaced) (length-put at (last_bytes count replaced) content within ∙ whole)
    (ap (λ (n : ℕ). fits size earlier n) rest ∙ f.others) in
    let same = subst (λ (n : ℕ). SameOutside at n content was) kept (SameOutside-put at (last_bytes count replaced) content within) in
    (was, old, SameOutside-sym at count content was same)
content_is_left size (Sync ∷ earlier) content replaced whole is = refl

-- at a moment not before the newest call nothing is undone
pub left_now : (k : ℕ) (calls : List Call) (content replaced image : List ℕ) → newest_moment calls ≤ k
    → left_at k calls content replaced image ≡ left_after (acts_of calls) content replaced image
left_now k [] content replaced image le = refl
left_now k (call ∷ earlier) content replaced image le =
    let is : leb call.moment k ≡ true = grind (arith, nat_tests) in
    ap (λ (b : Bool). MatchBool b (left_after (acts_of (call ∷ earlier)) content replaced image)
    (left_at k earlier (content_before call.act content replaced) (replaced_before call.act replaced) image))
    is

-- at an earlier moment the newest call is undone
pub left_before : (k : ℕ) (call : Call) (earlier : List Call) (content replaced image : List ℕ) → k < call.moment
    → left_at k (call ∷ earlier) content replaced image ≡ left_at k earlier (content_before call.act content replaced) (replaced_before call.act replaced) image
left_before k call earlier content replaced image lt =
    let is : leb call.moment k ≡ false = grind (arith, nat_tests) in
    ap (λ (b : Bool). MatchBool b (left_after (acts_of (call ∷ earlier)) content replaced image)
    (left_at k earlier (content_before call.act content replaced) (replaced_before call.act replaced) image))
    is
