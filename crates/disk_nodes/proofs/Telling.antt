-- What buckets tell, once one of them is changed.
use Rattle.std.proofs.Common.{◌≡◌, ◌≢◌, ℕ, zero, suc, ◌+◌, ◌<◌, Bool, true, false, ◌||◌, List, [], ◌∷◌, length, get_or, take, replicate, Option, Some, None, inl, inr, ◌⊎◌, refl, sym, ap, subst, ◌∙◌, arith, nat_eq}
use Rattle.std.specs.List.{list_any}
use Rattle.std.proofs.Math.ListN.{set}
use Rattle.std.proofs.lemmas.Bool.{cases_Bool, eqb-true, eqb-false}
use Rattle.std.proofs.lemmas.Grind.{get_or-set_at}
use Rattle.std.proofs.lemmas.List.{length-set, get_or-set_other, get_or-set_same, get_or_default}
use Rattle.std.proofs.lemmas.List.Folds.{list_any_at, list_any_none, Any-from_list_any}
use Rattle.sfs_base.proofs.BasicNumbers.{same_number, not_same}
use Rattle.sfs_base.proofs.BasicLists.{bytes_same}
use Rattle.sfs_base.proofs.BasicTruth.{false_not_true, true_not_false}
use Rattle.sfs_image.specs.Slot.{Row}
use Rattle.disk_nodes.specs.Indexed.{has_name, slot_has_name}
use Rattle.disk_nodes.specs.Names.{TellOf, bucket_place, bucket_with, crowded, is_noted, tells}
use Rattle.disk_nodes.specs.declared.bucket.Bucket.{Bucket}

either : (a b : Bool) → b ≡ true → (a || b) ≡ true
either true b e = refl
either false b e = e

-- what is put where a test fails keeps its answer elsewhere
pub noted_kept : (p : ℕ → Bool) (notes : List ℕ) (k v : ℕ) → p (get_or notes k 0) ≡ false → list_any p notes ≡ true → list_any p (set notes k v) ≡ true
noted_kept p [] k v free some = some
noted_kept p (x ∷ xs) zero v free some = either (p v) (list_any p xs) ((λ i. sym free i || list_any p xs) ∙ some)
noted_kept p (x ∷ xs) (suc k) v free some = by (p x) (noted_kept p xs k v free) some
  where
    by : (b : Bool) → (list_any p xs ≡ true → list_any p (set xs k v) ≡ true) → (b || list_any p xs) ≡ true → (b || list_any p (set xs k v)) ≡ true
    by true rest e = refl
    by false rest e = rest e

-- a bucket that notes one more
module _ (bucket : Bucket) (k place : ℕ) (free : get_or bucket.notes k 0 ≡ 0) where
  pub note_told : k < length bucket.notes → tells (record bucket { notes = set bucket.notes k (place + 1) }) place ≡ true
  note_told within =
      either bucket.is_crowded _
      (list_any_at (λ note. nat_eq note (place + 1)) (set bucket.notes k (place + 1)) k 0 (omega (arith, within, length-set bucket.notes k (place + 1)))
      (ap (λ n. nat_eq n (place + 1)) (get_or-set_same bucket.notes k (place + 1) 0 within) ∙ same_number (place + 1)))

  pub note_keeps : (other : ℕ) → tells bucket other ≡ true → tells (record bucket { notes = set bucket.notes k (place + 1) }) other ≡ true
  note_keeps other e = by bucket.is_crowded e
    where
      by : (b : Bool) → (b || is_noted bucket other) ≡ true → (b || is_noted (record bucket { notes = set bucket.notes k (place + 1) }) other) ≡ true
      by true e = refl
      by false e =
          noted_kept (λ note. nat_eq note (other + 1)) bucket.notes k (place + 1)
          (ap (λ n. nat_eq n (other + 1)) free ∙ not_same 0 (other + 1) (λ same. omega (arith, same))) e

-- a bucket in which 0 stands for the note of a place
module _ (bucket : Bucket) (left : List ℕ) (place : ℕ) where
  pub note_gone : ((k : ℕ) → k < length left → get_or left k 0 ≢ place + 1) → is_noted (record bucket { notes = left }) place ≡ false
  note_gone gone =
      list_any_none (λ note. nat_eq note (place + 1)) left
      (λ k d within. not_same (get_or left k d) (place + 1) (λ e. gone k within (get_or_default left k 0 d within ∙ e)))

  pub forget_keeps : length left ≡ length bucket.notes
      → ((k : ℕ) → k < length bucket.notes → get_or bucket.notes k 0 ≢ place + 1 → get_or left k 0 ≡ get_or bucket.notes k 0)
      → (other : ℕ) → other ≢ place → tells bucket other ≡ true → tells (record bucket { notes = left }) other ≡ true
  forget_keeps long same other apart e = by bucket.is_crowded e
    where
      still : is_noted bucket other ≡ true → is_noted (record bucket { notes = left }) other ≡ true
      still noted =
          let any = Any-from_list_any (λ note. nat_eq note (other + 1)) bucket.notes noted in
          let is : get_or bucket.notes any.0 0 ≡ other + 1 = get_or_default bucket.notes any.0 0 any.1 any.2 ∙ any.3 ∙ eqb-true any.1 (other + 1) any.4 in
          list_any_at (λ note. nat_eq note (other + 1)) left any.0 0 (omega (arith, any.2, long))
          (ap (λ n. nat_eq n (other + 1)) (same any.0 any.2 (λ e. omega (arith, e, is, apart)) ∙ is) ∙ same_number (other + 1))

      by : (b : Bool) → (b || is_noted bucket other) ≡ true → (b || is_noted (record bucket { notes = left }) other) ≡ true
      by true e = refl
      by false e = still e

-- where some notes are 0 and the others stay, nothing more is noted
pub forget_less : (bucket : Bucket) (left : List ℕ) → length left ≡ length bucket.notes
    → ((k : ℕ) → k < length left → (get_or left k 0 ≡ 0) ⊎ (get_or left k 0 ≡ get_or bucket.notes k 0))
    → (other : ℕ) → is_noted bucket other ≡ false → is_noted (record bucket { notes = left }) other ≡ false
forget_less bucket left long less other none =
    list_any_none (λ note. nat_eq note (other + 1)) left
    (λ k d within. ap (λ n. nat_eq n (other + 1)) (get_or_default left k d 0 within) ∙ by k within (less k within))
  where
    own : (k : ℕ) → k < length left → nat_eq (get_or bucket.notes k 0) (other + 1) ≡ false
    own k within = elim (cases_Bool (nat_eq (get_or bucket.notes k 0) (other + 1))) [
      | inl is ↦
          absurd
          (true_not_false
          (sym (list_any_at (λ note. nat_eq note (other + 1)) bucket.notes k 0 (omega (arith, within, long)) is) ∙ none))
      | inr unlike ↦ unlike
    ]

    by : (k : ℕ) → k < length left → (get_or left k 0 ≡ 0) ⊎ (get_or left k 0 ≡ get_or bucket.notes k 0) → nat_eq (get_or left k 0) (other + 1) ≡ false
    by k within (inl nothing) = ap (λ n. nat_eq n (other + 1)) nothing ∙ not_same 0 (other + 1) (λ e. omega (arith, e))
    by k within (inr same) = ap (λ n. nat_eq n (other + 1)) same ∙ own k within

-- a bucket that tells nothing notes nothing
pub none_noted : (buckets : List Bucket) (name : List ℕ) (n : ℕ) → length buckets ≡ 0 → is_noted (bucket_with buckets name) n ≡ false
none_noted [] name n e =
    list_any_none (λ note. nat_eq note (n + 1)) (replicate 16 0)
    (λ k d within. ap (λ m. nat_eq m (n + 1)) (same_each 0 16 k d within) ∙ not_same 0 (n + 1) (λ same. omega (arith, same)))
  where
    same_each : (x count k d : ℕ) → k < length (replicate count x) → get_or (replicate count x) k d ≡ x
    same_each x zero k d low = absurd (omega (arith, low))
    same_each x (suc count) zero d low = refl
    same_each x (suc count) (suc k) d low = same_each x count k d (omega (arith, low))
none_noted (bucket ∷ buckets) name n e = absurd (omega (arith, e))

-- one of several buckets is changed
module _ (buckets : List Bucket) (at : ℕ) (bucket : Bucket) (within : at < length buckets) (name : List ℕ) where
  place_stays : bucket_place (length (set buckets at bucket)) name ≡ bucket_place (length buckets) name
  place_stays = ap (λ n. bucket_place n name) (length-set buckets at bucket)

  pub told_own : at ≡ bucket_place (length buckets) name → bucket_with (set buckets at bucket) name ≡ bucket
  told_own same = get_or-set_at buckets at (bucket_place (length (set buckets at bucket)) name) bucket crowded (place_stays ∙ sym same) within

  pub told_apart : (at ≢ bucket_place (length buckets) name) → bucket_with (set buckets at bucket) name ≡ bucket_with buckets name
  told_apart apart =
      ap (λ k. get_or (set buckets at bucket) k crowded) place_stays
      ∙ get_or-set_other buckets at (bucket_place (length buckets) name) bucket crowded (λ e. apart (sym e))

  -- and what is noted no more by it is noted no more
  pub less_by : (n : ℕ) → (is_noted (get_or buckets at crowded) n ≡ false → is_noted bucket n ≡ false) → is_noted (bucket_with buckets name) n ≡ false
      → is_noted (bucket_with (set buckets at bucket) name) n ≡ false
  less_by n less none = by (cases_Bool (nat_eq at (bucket_place (length buckets) name)))
    where
      by : (nat_eq at (bucket_place (length buckets) name) ≡ true) ⊎ (nat_eq at (bucket_place (length buckets) name) ≡ false)
          → is_noted (bucket_with (set buckets at bucket) name) n ≡ false
      by (inl is) =
          let same = eqb-true at (bucket_place (length buckets) name) is in
          ap (λ b. is_noted b n) (told_own same) ∙ less (ap (λ k. is_noted (get_or buckets k crowded) n) same ∙ none)
      by (inr other) = ap (λ b. is_noted b n) (told_apart (eqb-false at (bucket_place (length buckets) name) other)) ∙ none

  pub told_by : (n : ℕ) → (tells (get_or buckets at crowded) n ≡ true → tells bucket n ≡ true) → tells (bucket_with buckets name) n ≡ true
      → tells (bucket_with (set buckets at bucket) name) n ≡ true
  told_by n keeps told = by (cases_Bool (nat_eq (bucket_place (length buckets) name) at))
    where
      by : (nat_eq (bucket_place (length buckets) name) at ≡ true) ⊎ (nat_eq (bucket_place (length buckets) name) at ≡ false)
          → tells (bucket_with (set buckets at bucket) name) n ≡ true
      by (inl is) =
          let same : at ≡ bucket_place (length buckets) name = sym (eqb-true _ at is) in
          ap (λ b. tells b n) (told_own same) ∙ keeps (ap (λ k. tells (get_or buckets k crowded) n) same ∙ told)
      by (inr other) =
          ap (λ k. tells (get_or (set buckets at bucket) k crowded) n) place_stays
          ∙ ap (λ b. tells b n)
          (get_or-set_other buckets at (bucket_place (length buckets) name) bucket crowded (eqb-false (bucket_place (length buckets) name) at other))
          ∙ told

-- where there are no buckets, each tells of all
pub told_of_none : (buckets : List Bucket) (name : List ℕ) (n : ℕ) → length buckets ≡ 0 → tells (bucket_with buckets name) n ≡ true
told_of_none [] name n e = refl
told_of_none (bucket ∷ buckets) name n e = absurd (omega (arith, e))

-- what stands among the first stands there
pub front_of : {X : Type 0} (xs : List X) (count n : ℕ) (d : X) → n < count → get_or (take count xs) n d ≡ get_or xs n d
front_of xs zero n d low = absurd (omega (arith, low))
front_of [] (suc count) n d low = refl
front_of (x ∷ xs) (suc count) zero d low = refl
front_of (x ∷ xs) (suc count) (suc n) d low = front_of xs count n d (omega (arith, low))

-- a bucket that is not crowded notes what it tells
pub noted_of : (bucket : Bucket) (n : ℕ) → bucket.is_crowded ≡ false → tells bucket n ≡ true → is_noted bucket n ≡ true
noted_of bucket n few e = (λ i. sym few i || is_noted bucket n) ∙ e

-- a slot that has a name has a row with it
row_named : (name : List ℕ) (slot : Option Row) → slot_has_name name slot ≡ true → (row : Row) × (slot ≡ Some row) × (row.name ≡ name)
row_named name None e = absurd (false_not_true e)
row_named name (Some row) e = (row, refl, bytes_same row.name name e)

-- buckets tell of a block that has a name
pub told_of_name : (buckets : List Bucket) (place : ℕ) (block : List (Option Row)) (name : List ℕ) → TellOf buckets place block → has_name name block ≡ true
    → tells (bucket_with buckets name) place ≡ true
told_of_name buckets place block name told has =
    let any = Any-from_list_any (slot_has_name name) block has in
    let row = row_named name any.1 any.4 in
    subst (λ own. tells (bucket_with buckets own) place ≡ true) row.2
    (told any.0 row.0 (get_or_default block any.0 None any.1 any.2 ∙ any.3 ∙ row.1))
