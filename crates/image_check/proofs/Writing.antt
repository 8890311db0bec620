-- How a value comes to the places that targets name.
use Rattle.std.proofs.Common.{◌≡◌, ℕ, ◌+◌, ◌-◌, ◌*◌, ◌<◌, eqb, List, length, Option, None, Some, refl, sym, ap, subst, ◌∙◌, arith, inl, inr}
use Rattle.std.specs.Prelude.{slice_index, slice_index_or}
use Rattle.std.specs.List.{find}
use Rattle.std.proofs.lemmas.Bool.{cases_Bool, cases_lt, eqb-true, eqb-false}
use Rattle.sfs_base.proofs.BasicOptions.{none_some, some_same}
use Rattle.sfs_image.specs.Inode.{Inode, Table}
use Rattle.sfs_image.specs.Seen.{FILE_BLOCKS, PLACES}
use Rattle.block_map.specs.Kept.{pointer_kept}
use Rattle.disk_tree.specs.Apart.{entry_kept}
use Rattle.disk_tree.proofs.MarksSet.{kept_direct, kept_entry, kept_indirect}
use Rattle.image_check.specs.Gathered.{pointed}
use Rattle.image_check.specs.Writes.{Writes}

module _ {X : Type 0} (none value : X) where
  -- nothing was written
  pub writes_none : (old : List X) (targets : ℕ → Option ℕ) → Writes old old none value targets 0
  writes_none old targets = record { size = refl; has = λ k x less _. absurd (omega arith); rest = λ x. inl refl }

  -- targets that are the same
  pub writes_same : (old new : List X) (targets others : ℕ → Option ℕ) → ((k : ℕ) → targets k ≡ others k) → (n : ℕ)
      → Writes old new none value targets n → Writes old new none value others n
  writes_same old new targets others same n is =
      (let P : (ℕ → Option ℕ) → Type 0 = λ f. Writes old new none value f n in subst P (λ i k. same k i) is)

  -- writes that come after writes: targets from n on, as others from 0 on
  module _ (old mid new : List X) (targets more : ℕ → Option ℕ) (n len : ℕ) (same : (k : ℕ) → k < len → targets (n + k) ≡ more k)
      (first : Writes old mid none value targets n) (second : Writes mid new none value more len) where
    keeps : (x : ℕ) → slice_index_or mid x none ≡ value → slice_index_or new x none ≡ value
    keeps x was = elim (second.rest x) [ inl e ↦ e ∙ was | inr one ↦ one.stands ]

    pub writes_more : Writes old new none value targets (n + len)
    writes_more = record {
      size = second.size ∙ first.size;
      has = λ k x less target. elim (cases_lt k n) [
        | inl below ↦ keeps x (first.has k x below target)
        | inr behind ↦
            (let e : n + (k - n) ≡ k = omega arith in
            second.has (k - n) x (omega arith) (sym (same (k - n) (omega arith)) ∙ ap targets e ∙ target))
      ];
      rest = λ x. elim (second.rest x) [
        | inr one ↦ inr (record { k = n + one.k; low = (let h = one.low in omega arith); target = same one.k one.low ∙ one.target; stands = one.stands })
        | inl e ↦ elim (first.rest x) [
          | inl old_is ↦ inl (e ∙ old_is)
          | inr one ↦ inr (record { k = one.k; low = (let h = one.low in omega arith); target = one.target; stands = e ∙ one.stands })
        ]
      ];
    }

  -- one more target
  module _ (old mid new : List X) (targets : ℕ → Option ℕ) (n : ℕ) (first : Writes old mid none value targets n) where
    pub writes_past : targets n ≡ None → new ≡ mid → Writes old new none value targets (n + 1)
    writes_past past same =
        writes_more old mid new targets (λ k. targets (n + k)) n 1 (λ k _. refl) first (record {
          size = ap length same;
          has = λ k x less target.
              (let e : n + k ≡ n = omega arith in absurd (none_some (sym past ∙ sym (ap targets e) ∙ target)));
          rest = λ x. inl (ap (λ (xs : List X). slice_index_or xs x none) same);
        })

    pub writes_at : (x : ℕ) → targets n ≡ Some x → length new ≡ length mid → slice_index_or new x none ≡ value
        → ((y : ℕ) → (x ≡ y → ⊥) → slice_index_or new y none ≡ slice_index_or mid y none) → Writes old new none value targets (n + 1)
    writes_at x at size stands others =
        writes_more old mid new targets (λ k. targets (n + k)) n 1 (λ k _. refl) first (record {
          size = size;
          has = λ k y less target.
              (let e : n + k ≡ n = omega arith in
              let same : x ≡ y = some_same (sym at ∙ sym (ap targets e) ∙ target) in
              subst (λ (z : ℕ). slice_index_or new z none ≡ value) same stands);
          rest = λ y. elim (cases_Bool (eqb x y)) [
            | inr other ↦ inl (others y (eqb-false _ _ other))
            | inl is ↦
                (let same = eqb-true _ _ is in
                let here : n + 0 ≡ n = omega arith in
                inr (record { k = 0; low = omega arith; target = ap targets here ∙ at ∙ ap Some same; stands = subst (λ (z : ℕ). slice_index_or new z none ≡ value) same stands }))
          ];
        })

-- the pointers of an inode, by where they are kept
module _ (value : Option ℕ) (inode : Inode) (tables : List Table) where
  abbrev kept : ℕ → Option ℕ
  kept place = pointed (pointer_kept inode tables place)

  pub direct_written : (old new : List (Option ℕ)) → length inode.direct ≡ 108
      → Writes old new None value (λ k. pointed (slice_index inode.direct k)) (length inode.direct)
      → Writes old new None value kept (108 + 1024 * 0)
  direct_written old new long is =
      writes_more None value old old new kept (λ k. pointed (slice_index inode.direct k)) 0 108 (λ k near. ap pointed (kept_direct inode tables k near))
      (writes_none None value old kept)
      (subst (Writes old new None value (λ k. pointed (slice_index inode.direct k))) long is)

  pub table_written : (old mid new : List (Option ℕ)) (place : ℕ) → place < 16 → Writes old mid None value kept (108 + 1024 * place)
      → Writes mid new None value (λ k. pointed (entry_kept k (find (λ table. eqb table.place place) tables))) 1024
      → Writes old new None value kept (108 + 1024 * (place + 1))
  table_written old mid new place small first is =
      let e : 108 + 1024 * place + 1024 ≡ 108 + 1024 * (place + 1) = omega arith in
      subst (Writes old new None value kept) e
      (writes_more None value old mid new kept (λ k. pointed (entry_kept k (find (λ table. eqb table.place place) tables))) (108 + 1024 * place) 1024
      (λ k tiny. ap pointed (kept_entry inode tables place k small tiny)) first is)

  pub indirect_written : (old mid new : List (Option ℕ)) → Writes old mid None value kept (108 + 1024 * 16) → length inode.indirect ≡ 16
      → Writes mid new None value (λ k. pointed (slice_index inode.indirect k)) (length inode.indirect) → Writes old new None value kept PLACES
  indirect_written old mid new first long is =
      writes_more None value old mid new kept (λ k. pointed (slice_index inode.indirect k)) FILE_BLOCKS 16
      (λ k _. ap pointed (kept_indirect inode tables k)) first
      (subst (Writes mid new None value (λ k. pointed (slice_index inode.indirect k))) long is)
