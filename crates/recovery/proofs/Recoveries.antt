-- A disk that was settled, and whose orphans are freed.
use Rattle.std.proofs.Common.{◌≡◌, ◌⊎◌, ℕ, ◌<◌, Bool, cond, List, [], length, map, get_or, slice_index_or, Result, refl, sym, ◌∙◌, ap, subst, arith, inl, inr}
use Rattle.std.specs.Prelude.{All}
use Rattle.std.specs.List.{range_with_len, filter}
use Rattle.std.specs.Result.{IsErr}
use Rattle.std.proofs.lemmas.Bool.{cases_Bool}
use Rattle.std.proofs.lemmas.List.{length-map, get_or-map}
use Rattle.std.proofs.lemmas.List.FromFn.{length-range_with_len, get_or-range_with_len}
use Rattle.std.proofs.lemmas.List.Elements.{All-filter, All-get_or, All-from_get_or}
use Rattle.sfs_base.proofs.BasicNumbers.{zero_plus}
use Rattle.sfs_image.specs.Journal.{Entry}
use Rattle.sfs_image.specs.Part.{Part}
use Rattle.sfs_image.specs.Settled.{slot_count}
use Rattle.sfs_image.specs.Super.{Layout}
use Rattle.sfs_dev.specs.Disk.{View}
use Rattle.sfs_dev.specs.Run.{Advances}
use Rattle.sfs_dev.proofs.ReadRuns.{answered}
use Rattle.journal_one.specs.Packed.{Contents}
use Rattle.commit_one.proofs.Moments.{telling_trans, later_trans, later_more}
use Rattle.recovery.specs.Freed.{is_unlinked, unlinked_below, free_part, free_entry, freeing, without_unlinked, AreUnlinkedFree, freed_by, FreesUnlinked, RecoversTo}
use Rattle.recovery.specs.Recovering.{SettlesAs, ClosesAll}
use Rattle.recovery.proofs.BegunFrom.{passing_is_there}
use Rattle.recovery.proofs.ClosedOnDisk.{no_answer}
use Rattle.recovery.proofs.FreePart.{freed_by_slot}

-- whether the record of an inode is unlinked
abbrev is_unlinked_at : List (List ℕ) → ℕ → Bool
is_unlinked_at records i = is_unlinked (slice_index_or records i [])

-- parts without those whose records are unlinked
abbrev freed_for : Layout → List (List ℕ) → (ℕ → Part) → ℕ → Part
freed_for layout records parts = freed_by layout (is_unlinked_at records) (length records) parts

-- the inodes that are unlinked are those that pass the test
pub unlinked_is : (records : List (List ℕ)) (n : ℕ) → unlinked_below records n ≡ filter (is_unlinked_at records) (range_with_len 0 n)
unfolding unlinked_below
unlinked_is records n = refl

-- they are below the count
pub frees_below : (records : List (List ℕ)) (n : ℕ) (packed : Contents) → packed ≡ freeing (unlinked_below records n)
    → All (λ (entry : Entry). entry.inode < n) packed.entries
frees_below records n packed is = subst (λ (c : Contents). All (λ (entry : Entry). entry.inode < n) c.entries) (sym is)
    (All-from_get_or (λ (entry : Entry). entry.inode < n) (map free_entry (unlinked_below records n)) (free_entry 0) (λ k low.
    let within : k < length (unlinked_below records n) = subst (λ m. k < m) (length-map (unlinked_below records n) free_entry) low in
    subst (λ (entry : Entry). entry.inode < n) (sym (get_or-map free_entry (unlinked_below records n) k 0 (free_entry 0) within))
    (All-get_or (λ i. i < n) (unlinked_below records n) k 0 within below)))
  where
    below : All (λ i. i < n) (unlinked_below records n)
    below = subst (All (λ i. i < n)) (sym (unlinked_is records n)) (All-filter (is_unlinked_at records) (λ i. i < n) (range_with_len 0 n)
        (All-from_get_or (λ i. i < n) (range_with_len 0 n) 0 (λ k low.
        let within : k < n = subst (λ m. k < m) (length-range_with_len 0 n) low in
        subst (λ i. i < n) (sym (get_or-range_with_len 0 n k 0 within ∙ zero_plus k)) within)))

module _ (layout : Layout) (parts : ℕ → Part) (records : List (List ℕ)) (count : length records ≡ layout.inodes)
    (each : (i : ℕ) → i < layout.inodes → slice_index_or records i [] ≡ (parts i).raw) where
  tested : (i : ℕ) → i < layout.inodes → cond (is_unlinked_at records i) free_part (parts i) ≡ without_unlinked parts i
  tested i low = ap (λ (raw : List ℕ). cond (is_unlinked raw) free_part (parts i)) (each i low)

  freed_without : 0 < slot_count layout → AreUnlinkedFree layout parts (freed_for layout records parts)
  freed_without some i low = freed_by_slot layout 0 1 (length records) (is_unlinked_at records) parts i some (subst (λ n. i < n) (sym count) low) ∙ tested i low

  none_freed : unlinked_below records (length records) ≡ [] → AreUnlinkedFree layout parts parts
  none_freed none i low = elim (cases_Bool (is_unlinked_at records i)) [
    | inr linked ↦ sym (ap (λ b. cond b free_part (parts i)) linked) ∙ tested i low
    | inl unlinked ↦ absurd (
        let within : i < length records = subst (λ n. i < n) (sym count) low in
        let numbered : get_or (range_with_len 0 (length records)) i 0 ≡ i = get_or-range_with_len 0 (length records) i 0 within ∙ zero_plus i in
        let there =
        passing_is_there (is_unlinked_at records) (range_with_len 0 (length records)) i
        (subst (λ n. i < n) (sym (length-range_with_len 0 (length records))) within) (ap (is_unlinked_at records) numbered ∙ unlinked) in
        let low_there = subst (λ (l : List ℕ). there.0 < length l) (sym (unlinked_is records (length records)) ∙ none) there.1 in
        omega (arith, low_there))
  ]

  module _ (old mid : View) where
    -- the slots were not settled
    pub settling_failed : {V E W F : Type 0} (result : Result V E) (answer : Result W F) → 0 < slot_count layout → IsErr answer
        → ClosesAll layout parts old mid result → RecoversTo layout parts old mid answer
    settling_failed result answer some failed closes = record {
      freed = freed_for layout records parts;
      without = freed_without some;
      told = closes.told;
      later =
          later_more (λ _ now. SettlesAs layout parts now) (λ _ now. SettlesAs layout parts now ⊎ SettlesAs layout (freed_for layout records parts) now) old mid
          (λ k now from up settles. inl settles) closes.later;
      ended = no_answer _ answer failed;
    }

    -- there is no orphan
    pub nothing_to_free : {V E : Type 0} (value : V) → unlinked_below records (length records) ≡ []
        → ClosesAll layout parts old mid (answered {V = V} {F = E} value) → RecoversTo layout parts old mid (answered {V = V} {F = E} value)
    nothing_to_free value none closes = record {
      freed = parts;
      without = none_freed none;
      told = closes.told;
      later =
          later_more (λ _ now. SettlesAs layout parts now) (λ _ now. SettlesAs layout parts now ⊎ SettlesAs layout parts now) old mid
          (λ k now from up settles. inl settles) closes.later;
      ended = closes.closed;
    }

    -- orphans are freed
    pub then_freed : {V E W F : Type 0} (value : V) (new : View) (answer : Result W F) → 0 < slot_count layout → Advances mid new
        → ClosesAll layout parts old mid (answered {V = V} {F = E} value)
        → FreesUnlinked layout parts (freed_for layout records parts) mid new answer → RecoversTo layout parts old new answer
    then_freed value new answer some goes closes frees = record {
      freed = freed_for layout records parts;
      without = freed_without some;
      told = telling_trans old mid new closes.told frees.told;
      later = later_trans (λ _ now. SettlesAs layout parts now ⊎ SettlesAs layout (freed_for layout records parts) now) old mid new closes.told goes
          (later_more (λ _ now. SettlesAs layout parts now)
          (λ _ now. SettlesAs layout parts now ⊎ SettlesAs layout (freed_for layout records parts) now) old mid
          (λ k now from up settles. inl settles) closes.later)
          frees.later;
      ended = frees.ended;
    }
