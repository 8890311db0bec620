-- The records of a body, one after another.
use Rattle.std.proofs.Common.{◌≡◌, ◌≢◌, ℕ, zero, suc, ◌+◌, ◌*◌, ◌-◌, ◌<◌, ◌≤◌, Bool, true, false, cond, not, ◌||◌, List, [], ◌∷◌, ◌++◌, length, map, Option, None, Some, option_map, slice_index, refl, sym, ap, subst, ◌∙◌, arith, nat_lt, nat_eq, inl, inr, add-one, unwrap_or}
use Rattle.std.specs.Option.{option_or}
use Rattle.std.specs.List.{range_with_len, find}
use Rattle.std.proofs.lemmas.Bool.{ltb-true, cases_order}
use Rattle.std.proofs.lemmas.List.{map-append}
use Rattle.std.proofs.lemmas.List.Folds.{find-append}
use borrow.Author.Tests.{eqb-true}
use Rattle.sfs_base.proofs.BasicNumbers.{none_below, zero_plus, not_same, le_itself, less_earlier, le_earlier}
use Rattle.sfs_base.proofs.BasicTruth.{and_first, and_second, not_false}
use Rattle.sfs_base.proofs.BasicOptions.{or_none}
use Rattle.sfs_image.specs.Bytes.{part}
use Rattle.sfs_image.specs.Journal.{Entry, numbers_fault, is_next}
use Rattle.sfs_image.specs.Settled.{Stamped, newer}
use Rattle.sfs_image.proofs.BytesLaws.{false_from_fault}
use Rattle.sfs_image.proofs.PiecesLaws.{first_of-None}
use Rattle.block_map.proofs.Places.{range_more}
use Rattle.recovery.specs.Settling.{with_record, with_body, packed_entry, packed_entries, AreSettled}
use Rattle.recovery.specs.declared.newest.Newest.{Newest}

more_entries : (numbers bytes : List ℕ) (n : ℕ) → packed_entries numbers bytes (n + 1) ≡ packed_entries numbers bytes n ++ packed_entry numbers bytes n ∷ []
more_entries numbers bytes n =
    ap (map (packed_entry numbers bytes)) (range_more 0 n ∙ ap (λ m. range_with_len 0 n ++ m ∷ []) (zero_plus n))
    ∙ map-append (packed_entry numbers bytes) (range_with_len 0 n) (n ∷ [])

module _ (inodes : ℕ) (numbers : List ℕ) (sound : numbers_fault inodes numbers ≡ None) where
  next_there : (k : ℕ) → k < length numbers → is_next inodes numbers k ≡ true
  next_there k less = not_false (is_next inodes numbers k) (false_from_fault (not (is_next inodes numbers k)) _ (first_of-None (length numbers) _ sound k less))

  -- each number is below the number of inodes
  pub number_small : (k : ℕ) → k < length numbers → slice_index numbers k < inodes
  number_small k less = ltb-true (slice_index numbers k) inodes (and_first _ _ (next_there k less))

  one_more : (k : ℕ) → suc k < length numbers → slice_index numbers k < slice_index numbers (suc k)
  one_more k less =
      subst (λ j. slice_index numbers j < slice_index numbers (suc k)) (before k)
      (ltb-true (slice_index numbers (suc k - 1)) (slice_index numbers (suc k))
      (other (nat_eq (suc k) 0) (nat_lt (slice_index numbers (suc k - 1)) (slice_index numbers (suc k))) (not_same (suc k) 0 (not_zero k))
      (and_second (nat_lt (slice_index numbers (suc k)) inodes) _ (next_there (suc k) less))))
    where
      before : (k : ℕ) → suc k - 1 ≡ k
      before k = omega arith

      not_zero : (k : ℕ) → suc k ≢ 0
      not_zero k same = omega arith

      other : (a b : Bool) → a ≡ false → (a || b) ≡ true → b ≡ true
      other a b none some = ap (λ t. t || b) (sym none) ∙ some

  -- and above each one before it
  pub number_above : (j k : ℕ) → j < k → k < length numbers → slice_index numbers j < slice_index numbers k
  number_above j zero less within = absurd (none_below less)
  number_above j (suc k) less within = elim (cases_order j k) [
    | inl same ↦ subst (λ i. slice_index numbers i < slice_index numbers (suc k)) (sym same) (one_more k within)
    | inr (inl lt) ↦ further (number_above j k lt (less_earlier within)) (one_more k within)
    | inr (inr gt) ↦ absurd (between less gt)
  ]
    where
      further : {a b c : ℕ} → a < b → b < c → a < c
      further x y = omega arith

      between : {j k : ℕ} → j < suc k → k < j → ⊥
      between x y = omega arith

  -- the first entries have none of a later number
  none_before : (bytes : List ℕ) (i k n : ℕ) → n ≤ k → k < length numbers → slice_index numbers k ≡ i
      → find (λ (e : Entry). nat_eq e.inode i) (packed_entries numbers bytes n) ≡ None
  none_before bytes i k zero le less is = refl
  none_before bytes i k (suc n) le less is =
      ap (λ m. find (λ (e : Entry). nat_eq e.inode i) (packed_entries numbers bytes m)) (sym (add-one n))
      ∙ ap (find (λ (e : Entry). nat_eq e.inode i)) (more_entries numbers bytes n)
      ∙ find-append (λ (e : Entry). nat_eq e.inode i) (packed_entries numbers bytes n) (packed_entry numbers bytes n ∷ [])
      ∙ ap (λ o. option_or o (find (λ (e : Entry). nat_eq e.inode i) (packed_entry numbers bytes n ∷ []))) (none_before bytes i k n (le_earlier le) less is)
      ∙ ap (λ b. cond b (Some (packed_entry numbers bytes n)) None)
      (not_same (slice_index numbers n) i (other (slice_index numbers n) i (slice_index numbers k) is (number_above n k le less)))
    where
      other : (a i b : ℕ) → b ≡ i → a < b → a ≢ i
      other a i b is lt same = omega arith

  -- one record more of a body
  pub record_more : (stamp : ℕ) (bytes : List ℕ) (best : ℕ → Option (Stamped (List ℕ))) (k : ℕ) → k < length numbers → (i : ℕ)
      → with_record (slice_index numbers k) stamp (part (512 * k) 512 bytes)
      (with_body (record { stamp = stamp; entries = packed_entries numbers bytes k }) best) i
      ≡ with_body (record { stamp = stamp; entries = packed_entries numbers bytes (k + 1) }) best i
  record_more stamp bytes best k less i =
      elim (nat_eq (slice_index numbers k) i) as (λ b. nat_eq (slice_index numbers k) i ≡ b
      → cond b (newer (Some here) (newer (own before) (best i))) (newer (own before) (best i))
      ≡ newer (own (option_or before (cond b (Some entry) None))) (best i)) [
        | true ↦
            λ same. ap (λ o. newer (Some here) (newer (own o) (best i))) (none same)
            ∙ ap (λ o. newer (own (option_or o (Some entry))) (best i)) (sym (none same))
        | false ↦ λ other. ap (λ o. newer (own o) (best i)) (sym (or_none before))
      ] refl
      ∙ ap (λ o. newer (own o) (best i)) (sym (ap (find test) (more_entries numbers bytes k) ∙ find-append test (packed_entries numbers bytes k) (entry ∷ [])))
    where
      test : Entry → Bool
      test e = nat_eq e.inode i

      entry : Entry
      entry = packed_entry numbers bytes k

      here : Stamped (List ℕ)
      here = record { stamp = stamp; value = part (512 * k) 512 bytes }

      own : Option Entry → Option (Stamped (List ℕ))
      own o = option_map (λ (e : Entry). record { stamp = stamp; value = e.bytes }) o

      before : Option Entry
      before = find test (packed_entries numbers bytes k)

      none : nat_eq (slice_index numbers k) i ≡ true → before ≡ None
      none same = none_before bytes i k k (le_itself k) less (eqb-true _ _ same)

-- what is kept is the same for bests that are the same
pub settled_same : (inodes : ℕ) (table : ℕ → List ℕ) (best other : ℕ → Option (Stamped (List ℕ))) (kept : Newest) → ((i : ℕ) → best i ≡ other i)
    → AreSettled inodes table best kept → AreSettled inodes table other kept
settled_same inodes table best other kept same are = record {
  stamp_count = are.stamp_count;
  record_count = are.record_count;
  stamps = λ i less. are.stamps i less ∙ ap (option_map (λ (s : Stamped (List ℕ)). s.stamp)) (same i);
  records = λ i less. are.records i less ∙ ap (λ o. unwrap_or (option_map (λ (s : Stamped (List ℕ)). s.value) o) (table i)) (same i);
}
