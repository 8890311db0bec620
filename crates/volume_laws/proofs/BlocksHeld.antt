-- A store of the blocks that stand at places, where no two places hold one block.
use Rattle.std.proofs.Common.{◌≡◌, ℕ, zero, suc, ◌<◌, Bool, true, false, cond, List, [], ◌∷◌, length, map, get_or, Option, Some, None, inl, inr, refl, sym, ap, subst, ◌∙◌, arith, nat_eq, Contains}
use Rattle.std.specs.List.{range_with_len, find, flat_map}
use Rattle.std.specs.Option.{option_map_or}
use borrow.Author.Tests.{eqb-true}
use Rattle.std.proofs.lemmas.Bool.{cond-true, cases_eq}
use Rattle.std.proofs.lemmas.List.Elements.{Contains-get_or}
use Rattle.std.proofs.lemmas.List.FromFn.{length-range_with_len, get_or-range_with_len}
use Rattle.sfs_base.proofs.BasicNumbers.{same_number, zero_plus}
use Rattle.sfs_base.proofs.BasicOptions.{none_some}
use Rattle.sfs_image.specs.Bytes.{zeros}
use Rattle.sfs_image.specs.ImageOf.{FreshBlock, StandIn}
use Rattle.sfs_image.proofs.Basics.{found_passes}
use Rattle.sfs_image.proofs.BytesLaws.{length-zeros}
use Rattle.commit_laws.proofs.OwnInodes.{mapped_is_in}
use Rattle.commit_laws.proofs.PartsMade.{in_flat}
use Rattle.commit_laws.proofs.SeatsOfPlan.{in_mapped}
use Rattle.commit_laws.proofs.Shown.{found_is_in}
use Rattle.space_laws.proofs.Used.{in_some}
use Rattle.mark_laws.proofs.Made.{in_range}
use Rattle.commit_laws.proofs.Granted.{low_place}
use Rattle.commit_laws.proofs.GrantWritten.{none_found}

module _ (count places : ℕ) (pointer : ℕ → ℕ → ℕ) (content : ℕ → ℕ → List ℕ) where
  abbrev pub block_at : ℕ → ℕ → FreshBlock
  block_at i place = record { block = pointer i place; bytes = content i place }

  pub all_blocks : List FreshBlock
  all_blocks = flat_map (λ i. map (block_at i) (range_with_len 0 places)) (range_with_len 0 count)

  pub store_of : ℕ → List ℕ
  store_of n = option_map_or (λ (one : FreshBlock). one.bytes) (find (λ (one : FreshBlock). nat_eq one.block n) all_blocks) (zeros 4096)

  -- A block that stands at a place.
  record StandsAt (one : FreshBlock) : Type 0 where
    i : ℕ
    place : ℕ
    low : i < count
    within : place < places
    same : block_at i place ≡ one

  pub in_all : (i place : ℕ) → i < count → place < places → Contains all_blocks (block_at i place)
  unfolding all_blocks
  in_all i place low within =
      in_flat (λ i. map (block_at i) (range_with_len 0 places)) (range_with_len 0 count) i (block_at i place) (in_range count i low)
      (in_mapped (block_at i) (range_with_len 0 places) place (in_range places place within))

  of_all : (one : FreshBlock) → Contains all_blocks one → StandsAt one
  unfolding all_blocks
  of_all one there =
      let i = in_some (λ i. map (block_at i) (range_with_len 0 places)) (range_with_len 0 count) one there in
      let place = mapped_is_in (block_at i.0) (range_with_len 0 places) one i.2 in
      record { i = i.0; place = place.0; low = low_place count i.0 i.1; within = low_place places place.0 place.1; same = place.2 }

  module _ (apart : (i place j other : ℕ) → i < count → j < count → place < places → other < places → (pointer i place ≡ 0 → ⊥)
      → pointer i place ≡ pointer j other → (i ≡ j) × (place ≡ other))
      (holes : (i place : ℕ) → i < count → place < places → pointer i place ≡ 0 → content i place ≡ zeros 4096) where
    -- what is found in the store at a pointer is what stands at its place
    reads : (i place : ℕ) → i < count → place < places → store_of (pointer i place) ≡ content i place
    unfolding store_of
    reads i place low within = by (find (λ (one : FreshBlock). nat_eq one.block (pointer i place)) all_blocks) refl
      where
        by : (o : Option FreshBlock) → find (λ (one : FreshBlock). nat_eq one.block (pointer i place)) all_blocks ≡ o
            → option_map_or (λ (one : FreshBlock). one.bytes) o (zeros 4096) ≡ content i place
        by None e = absurd
            (none_found (λ (one : FreshBlock). nat_eq one.block (pointer i place)) all_blocks (block_at i place) (in_all i place low within)
            (same_number (pointer i place)) e)
        by (Some one) e =
            let at = of_all one (found_is_in (λ (one : FreshBlock). nat_eq one.block (pointer i place)) all_blocks one e) in
            let here : one.block ≡ pointer i place =
            eqb-true one.block (pointer i place) (found_passes (λ (one : FreshBlock). nat_eq one.block (pointer i place)) all_blocks one e) in
            let there : pointer at.i at.place ≡ pointer i place = ap (λ (b : FreshBlock). b.block) at.same ∙ here in
            sym (ap (λ (b : FreshBlock). b.bytes) at.same) ∙ elim (cases_eq (pointer i place) 0) [
              | inl hole ↦ holes at.i at.place at.low at.within (there ∙ hole) ∙ sym (holes i place low within hole)
              | inr some ↦ (let one_place = apart i place at.i at.place low at.low within at.within some (sym there) in
                  λ k. content (sym one_place.0 k) (sym one_place.1 k))
            ]

    pub all_stand : StandIn store_of all_blocks
    all_stand = λ k d low.
        let at = of_all (get_or all_blocks k d) (Contains-get_or all_blocks k d low) in
        ap store_of (sym (ap (λ (b : FreshBlock). b.block) at.same)) ∙ reads at.i at.place at.low at.within ∙ ap (λ (b : FreshBlock). b.bytes) at.same

  pub all_long : ((i place : ℕ) → i < count → place < places → length (content i place) ≡ 4096) → (n : ℕ) → length (store_of n) ≡ 4096
  unfolding store_of
  all_long long n = by (find (λ (one : FreshBlock). nat_eq one.block n) all_blocks) refl
    where
      by : (o : Option FreshBlock) → find (λ (one : FreshBlock). nat_eq one.block n) all_blocks ≡ o
          → length (option_map_or (λ (one : FreshBlock). one.bytes) o (zeros 4096)) ≡ 4096
      by None e = length-zeros 4096
      by (Some one) e =
          let at = of_all one (found_is_in (λ (one : FreshBlock). nat_eq one.block n) all_blocks one e) in
          ap (λ (b : FreshBlock). length b.bytes) (sym at.same) ∙ long at.i at.place at.low at.within
