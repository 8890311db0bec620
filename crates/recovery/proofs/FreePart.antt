-- The part of a free inode, and the inodes that a transaction frees.
use Rattle.std.proofs.Common.{◌≡◌, ◌≢◌, ◌⊎◌, ℕ, zero, suc, ◌<◌, Bool, true, false, cond, eqb, List, [], ◌∷◌, length, map, get_or, Option, None, Some, refl, sym, ◌∙◌, ap, subst, arith, inl, inr}
use Rattle.std.specs.Prelude.{option_map, slice_index, unwrap_or}
use Rattle.std.specs.List.{range_with_len, filter, find}
use Rattle.std.proofs.lemmas.Bool.{cases_Bool, cases_eq, eqb-true, eq-eqb, ne_eqb}
use Rattle.std.proofs.lemmas.List.FromFn.{length-range_with_len, get_or-range_with_len}
use Rattle.sfs_base.proofs.BasicNumbers.{zero_plus}
use Rattle.sfs_image.specs.Bytes.{zeros}
use Rattle.sfs_image.specs.ImageOf.{InodePart, Transaction, FreshBlock, TurnsInto, PointsToData, part_given, given, with_opened, with_slot}
use Rattle.sfs_image.specs.Part.{Part, part_of, IsGathered, pointer_at, is_free_part, seen_of}
use Rattle.sfs_image.specs.Settled.{Stamped, slot_count}
use Rattle.sfs_image.specs.Super.{Layout}
use Rattle.sfs_image.proofs.AcceptedLaws.{raw_of}
use Rattle.sfs_image.proofs.Basics.{find_made}
use Rattle.sfs_image.proofs.BytesLaws.{length-zeros, zeros-byte}
use Rattle.sfs_image.proofs.JustMadeLaws.{zeros_are_sound}
use Rattle.sfs_image.proofs.GivenLaws.{with_slot-same, with_slot-other}
use Rattle.sfs_image.proofs.NewestLaws.{none_newest, newest_greatest}
use Rattle.sfs_image.proofs.PartLaws.{free_has_none, gather_same}
use Rattle.image_laws.specs.Stands.{IsUnused}
use Rattle.commit_one.specs.Change.{nothing_open}
use Rattle.recovery.specs.Freed.{free_part, freed_part}

pub free_raw : free_part.raw ≡ zeros 512
unfolding free_part
free_raw = raw_of (λ _. []) (zeros 512)

pub no_pointer : (place : ℕ) → pointer_at free_part place ≡ 0
unfolding free_part
no_pointer place = free_has_none (λ _. []) (zeros 512) (length-zeros 512) zeros_are_sound (zeros-byte 512 0) place

pub free_is_free : is_free_part free_part ≡ true
free_is_free = eq-eqb _ 0 (ap (λ (raw : List ℕ). slice_index raw 0) free_raw ∙ zeros-byte 512 0)

pub free_is_unused : IsUnused (seen_of free_part)
free_is_unused = record { kind = eqb-true _ 0 free_is_free; blocks = λ place low. no_pointer place }

-- each store gathers it
pub free_is_gathered : (store : ℕ → List ℕ) → IsGathered store free_part
unfolding free_part
free_is_gathered store =
    ap (part_of store) (raw_of (λ _. []) (zeros 512))
    ∙ gather_same (λ _. []) store (zeros 512)
    (λ place there. absurd (there (free_has_none (λ _. []) (zeros 512) (length-zeros 512) zeros_are_sound (zeros-byte 512 0) place)))

pub turns_free : (fresh : List FreshBlock) (old : Part) → TurnsInto fresh old free_part
turns_free fresh old store stand gathered = free_is_gathered store

pub free_points_to_data : (layout : Layout) → PointsToData layout free_part
free_points_to_data layout place there = absurd (there (no_pointer place))

-- an inode is found in a list of numbers where it passes and is in the list
found_passing : (test : ℕ → Bool) (numbers : List ℕ) (i : ℕ) → find (λ n. eqb n i) (filter test numbers) ≡ cond (test i) (find (λ n. eqb n i) numbers) None
found_passing test [] i = by (test i)
  where
    by : (b : Bool) → ◌≡◌ {A = Option ℕ} None (cond b None None)
    by true = refl
    by false = refl
found_passing test (n ∷ rest) i = go (found_passing test rest i)
  where
    kept : test n ≡ true → find (λ n. eqb n i) (filter test (n ∷ rest)) ≡ find (λ n. eqb n i) (n ∷ filter test rest)
    kept passes = ap (λ b. find (λ n. eqb n i) (cond b (n ∷ filter test rest) (filter test rest))) passes

    left_out : test n ≡ false → find (λ n. eqb n i) (filter test (n ∷ rest)) ≡ find (λ n. eqb n i) (filter test rest)
    left_out fails = ap (λ b. find (λ n. eqb n i) (cond b (n ∷ filter test rest) (filter test rest))) fails

    others : n ≢ i → (numbers : List ℕ) → find (λ n. eqb n i) (n ∷ numbers) ≡ find (λ n. eqb n i) numbers
    others apart numbers = ap (λ b. cond b (Some n) (find (λ n. eqb n i) numbers)) (ne_eqb n i apart)

    same : n ≡ i → (numbers : List ℕ) → find (λ n. eqb n i) (n ∷ numbers) ≡ Some n
    same is numbers = ap (λ b. cond b (Some n) (find (λ n. eqb n i) numbers)) (eq-eqb n i is)

    go : find (λ n. eqb n i) (filter test rest) ≡ cond (test i) (find (λ n. eqb n i) rest) None
        → find (λ n. eqb n i) (filter test (n ∷ rest)) ≡ cond (test i) (find (λ n. eqb n i) (n ∷ rest)) None
    go before = elim (cases_eq n i) [
      | inr apart ↦ elim (cases_Bool (test n)) [
        | inl passes ↦ kept passes ∙ others apart (filter test rest) ∙ before ∙ ap (λ (o : Option ℕ). cond (test i) o None) (sym (others apart rest))
        | inr fails ↦ left_out fails ∙ before ∙ ap (λ (o : Option ℕ). cond (test i) o None) (sym (others apart rest))
      ]
      | inl is ↦ elim (cases_Bool (test n)) [
        | inl passes ↦
            kept passes ∙ same is (filter test rest) ∙ sym (ap (λ b. cond b (find (λ n. eqb n i) (n ∷ rest)) None) (ap test (sym is) ∙ passes) ∙ same is rest)
        | inr fails ↦ left_out fails ∙ before ∙ ap (λ b. cond {A = Option ℕ} b (find (λ n. eqb n i) rest) None) (ap test (sym is) ∙ fails)
            ∙ sym (ap (λ b. cond {A = Option ℕ} b (find (λ n. eqb n i) (n ∷ rest)) None) (ap test (sym is) ∙ fails))
      ]
    ]

-- what is in a list is found in it
found_there : (numbers : List ℕ) (m i : ℕ) → m < length numbers → get_or numbers m 0 ≡ i → find (λ k. eqb k i) numbers ≡ Some i
found_there [] m i low is = absurd (omega arith)
found_there (n ∷ rest) m i low is = go (cases_eq n i) (found_there rest)
  where
    go : (n ≡ i) ⊎ (n ≢ i) → ((m i : ℕ) → m < length rest → get_or rest m 0 ≡ i → find (λ k. eqb k i) rest ≡ Some i) → find (λ k. eqb k i) (n ∷ rest) ≡ Some i
    go (inl same) others = ap (λ b. cond b (Some n) (find (λ k. eqb k i) rest)) (eq-eqb n i same) ∙ ap Some same
    go (inr apart) others = ap (λ b. cond b (Some n) (find (λ k. eqb k i) rest)) (ne_eqb n i apart) ∙ later m low is
      where
        later : (m : ℕ) → m < length (n ∷ rest) → get_or (n ∷ rest) m 0 ≡ i → find (λ k. eqb k i) rest ≡ Some i
        later zero low is = absurd (apart is)
        later (suc m) low is = others m i (omega arith) is

found_in_range : (n i : ℕ) → i < n → find (λ k. eqb k i) (range_with_len 0 n) ≡ Some i
found_in_range n i low =
    found_there (range_with_len 0 n) i i (subst (λ m. i < m) (sym (length-range_with_len 0 n)) low) (get_or-range_with_len 0 n i 0 low ∙ zero_plus i)

-- the one open slot gives what its transaction gives
given_single : (layout : Layout) (k : ℕ) (one : Transaction) (i : ℕ) → k < slot_count layout
    → given layout (with_slot nothing_open k (Some one)) i ≡ option_map (λ (s : Stamped Part). s.value) (part_given i (Some one))
given_single layout k one i low = by (part_given i (Some one)) refl
  where
    at : ℕ → Option (Stamped Part)
    at j = part_given i (with_slot nothing_open k (Some one) j)

    elsewhere : (j : ℕ) → j ≢ k → at j ≡ None
    elsewhere j apart = ap (part_given i) (with_slot-other nothing_open k (Some one) j apart)

    by : (o : Option (Stamped Part)) → part_given i (Some one) ≡ o
        → given layout (with_slot nothing_open k (Some one)) i ≡ option_map (λ (s : Stamped Part). s.value) (part_given i (Some one))
    by None none =
        ap (option_map (λ (s : Stamped Part). s.value)) (none_newest at 0 (slot_count layout) (λ j low high. elim (cases_eq j k) [
          | inl here ↦ ap at here ∙ ap (part_given i) (with_slot-same nothing_open k (Some one)) ∙ none
          | inr apart ↦ elsewhere j apart
        ]))
        ∙ sym (ap (option_map (λ (s : Stamped Part). s.value)) none)
    by (Some s) some =
        ap (option_map (λ (s : Stamped Part). s.value)) (newest_greatest at 0 (slot_count layout) k s (record {
          low = omega arith;
          high = omega arith;
          here = ap (part_given i) (with_slot-same nothing_open k (Some one)) ∙ some;
          others = λ j other low high apart there. absurd (let never : None ≡ Some other = sym (elsewhere j apart) ∙ there in cc);
        }))
        ∙ sym (ap (option_map (λ (s : Stamped Part). s.value)) some)

abbrev pub numbers_passing : ℕ → (ℕ → Bool) → List ℕ
numbers_passing n test = filter test (range_with_len 0 n)

abbrev stamped_part : ℕ → InodePart → Stamped Part
stamped_part stamp own = record { stamp = stamp; value = own.part }

freed_found : (n : ℕ) (test : ℕ → Bool) (i : ℕ) → i < n
    → find (λ (own : InodePart). eqb own.inode i) (map freed_part (numbers_passing n test)) ≡ cond (test i) (Some (freed_part i)) None
freed_found n test i within =
    find_made freed_part (λ (own : InodePart). eqb own.inode i) (numbers_passing n test)
    ∙ ap (option_map freed_part) (found_passing test (range_with_len 0 n) i ∙ ap (λ (o : Option ℕ). cond (test i) o None) (found_in_range n i within))
    ∙ mapped (test i)
  where
    mapped : (b : Bool) → option_map freed_part (cond b (Some i) None) ≡ cond b (Some (freed_part i)) None
    mapped true = refl
    mapped false = refl

-- the parts once a slot has freed those of the first inodes that pass a test
pub freed_by_slot : (layout : Layout) (k stamp n : ℕ) (test : ℕ → Bool) (parts : ℕ → Part) (i : ℕ) → k < slot_count layout → i < n
    → with_opened layout (with_slot nothing_open k (Some (record { stamp = stamp; parts = map freed_part (numbers_passing n test) }))) parts i
    ≡ cond (test i) free_part (parts i)
freed_by_slot layout k stamp n test parts i low within =
    ap (λ (o : Option Part). unwrap_or o (parts i))
    (given_single layout k (record { stamp = stamp; parts = map freed_part (numbers_passing n test) }) i low
    ∙ ap (λ (o : Option InodePart). option_map (λ (s : Stamped Part). s.value) (option_map (stamped_part stamp) o)) (freed_found n test i within) ∙ by (test i))
    ∙ unwrapped (test i)
  where
    by : (b : Bool)
        → option_map (λ (s : Stamped Part). s.value) (option_map (stamped_part stamp) (cond b (Some (freed_part i)) None)) ≡ cond b (Some free_part) None
    by true = refl
    by false = refl

    unwrapped : (b : Bool) → unwrap_or (cond b (Some free_part) None) (parts i) ≡ cond b free_part (parts i)
    unwrapped true = refl
    unwrapped false = refl
