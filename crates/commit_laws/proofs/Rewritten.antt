-- Rewritings that say the same take the same, and need as many blocks.
use Rattle.std.proofs.Common.{◌≡◌, ℕ, zero, suc, ◌+◌, ◌-◌, ◌*◌, ◌/◌, ◌%◌, ◌<◌, ◌≤◌, Bool, false, cond, not, ◌&&◌, ◌||◌, List, length, map, Option, Some, None, option_map, inl, inr, refl, sym, ap, ◌∙◌, arith, nat_eq, Contains}
use Rattle.std.specs.Prelude.{slice_get, nat_le}
use Rattle.std.specs.List.{list_any, range_with_len}
use Rattle.std.specs.Option.{option_map_or}
use Rattle.std.proofs.lemmas.Bool.{cases_Bool, cases_lt, lt-ltb, le-ltb}
use Rattle.std.proofs.lemmas.List.{length-map}
use Rattle.std.proofs.lemmas.Option.{slice_get-map}
use Rattle.sfs_image.specs.Seen.{FILE_BLOCKS, PLACES}
use Rattle.image_laws.specs.Need.{Rewrite, takes_data, changes_pointer, has_pointer, first_block, table_blocks, rewrites_table, table_has_pointer, takes_place, takes_in_row, rank, blocks_needed, pointer_after}
use Rattle.image_laws.proofs.Ranks.{rank_more}
use Rattle.block_map.proofs.Counts.{rank_first}
use Rattle.commit_laws.specs.Rewritten.{SayTheSame, TakeTheSame, SameRewritesTakeTheSame}
use Rattle.commit_laws.proofs.SeatsOfPlan.{there_is_in}

-- tests that agree on a range find one there or not
any_in_range : (p q : ℕ → Bool) (a n : ℕ) → ((k : ℕ) → a ≤ k → k < a + n → p k ≡ q k) → list_any p (range_with_len a n) ≡ list_any q (range_with_len a n)
any_in_range p q a zero same = refl
any_in_range p q a (suc n) same = λ i. same a (omega arith) (omega arith) i || any_in_range p q (a + 1) n (λ k low high. same k (omega arith) (omega arith)) i

module _ (rewrite other : Rewrite) (same : SayTheSame rewrite other) where
  -- of a block what is said of its pointer is the same
  by_block : (Said : Bool → Bool → ℕ → Bool) → ((a b : Bool) (pointer : ℕ) → Said false a pointer ≡ Said false b pointer) → (n : ℕ) → n < FILE_BLOCKS
      → Said (rewrite.is_rewritten n) (rewrite.is_zero n) (rewrite.pointers n) ≡ Said (other.is_rewritten n) (other.is_zero n) (other.pointers n)
  by_block Said apart n low = elim (cases_Bool (other.is_rewritten n)) [
    | inl t ↦ λ i. Said (same.rewritten n low i) (same.zero n low t i) (same.pointers n (omega arith) i)
    | inr f ↦
        ap (λ b. Said b (rewrite.is_zero n) (rewrite.pointers n)) (same.rewritten n low ∙ f) ∙ apart (rewrite.is_zero n) (other.is_zero n) (rewrite.pointers n)
        ∙ ap (Said false (other.is_zero n)) (same.pointers n (omega arith)) ∙ ap (λ b. Said b (other.is_zero n) (other.pointers n)) (sym f)
  ]

  changes_same : (n : ℕ) → n < FILE_BLOCKS → changes_pointer rewrite n ≡ changes_pointer other n
  changes_same n low = by_block (λ rewritten empty pointer. rewritten && (not empty || not (nat_eq pointer 0))) (λ a b pointer. refl) n low

  has_same : (n : ℕ) → n < FILE_BLOCKS → has_pointer rewrite n ≡ has_pointer other n
  has_same n low = by_block (λ rewritten empty pointer. cond rewritten (not empty) (not (nat_eq pointer 0))) (λ a b pointer. refl) n low

  takes_same : (n : ℕ) → n < FILE_BLOCKS → takes_data rewrite n ≡ takes_data other n
  takes_same n low = by_block (λ rewritten empty pointer. rewritten && not empty) (λ a b pointer. refl) n low

  in_table : (p q : ℕ → Bool) → ((n : ℕ) → n < FILE_BLOCKS → p n ≡ q n) → (k : ℕ) → k < 16 → list_any p (table_blocks k) ≡ list_any q (table_blocks k)
  unfolding table_blocks
  in_table p q agree k low = any_in_range p q (first_block k) 1024 (λ n at below. agree n (omega arith))

  table_same : (k : ℕ) → k < 16 → rewrites_table rewrite k ≡ rewrites_table other k
  table_same k low =
      λ i. in_table (changes_pointer rewrite) (changes_pointer other) changes_same k low i
      || (not (nat_eq (same.pointers (FILE_BLOCKS + k) (omega arith) i) 0) && nat_le (same.blocks i) (first_block k))

  some_same : (k : ℕ) → k < 16 → table_has_pointer rewrite k ≡ table_has_pointer other k
  some_same k low = in_table (has_pointer rewrite) (has_pointer other) has_same k low

  pub take_same : TakeTheSame rewrite other
  take_same = record {
    takes = λ place within. elim (cases_lt place FILE_BLOCKS) [
      | inl low ↦
          ap (λ b. cond b (takes_data rewrite place) (rewrites_table rewrite (place - FILE_BLOCKS) && table_has_pointer rewrite (place - FILE_BLOCKS)))
          (lt-ltb place FILE_BLOCKS low)
          ∙ takes_same place low
          ∙ sym
          (ap (λ b. cond b (takes_data other place) (rewrites_table other (place - FILE_BLOCKS) && table_has_pointer other (place - FILE_BLOCKS)))
          (lt-ltb place FILE_BLOCKS low))
      | inr high ↦
          ap (λ b. cond b (takes_data rewrite place) (rewrites_table rewrite (place - FILE_BLOCKS) && table_has_pointer rewrite (place - FILE_BLOCKS)))
          (le-ltb place FILE_BLOCKS high)
          ∙ (λ i. table_same (place - FILE_BLOCKS) (omega arith) i && some_same (place - FILE_BLOCKS) (omega arith) i)
          ∙ sym
          (ap (λ b. cond b (takes_data other place) (rewrites_table other (place - FILE_BLOCKS) && table_has_pointer other (place - FILE_BLOCKS)))
          (le-ltb place FILE_BLOCKS high))
    ];
    after = λ fresh place within. elim (cases_lt place FILE_BLOCKS) [
      | inl low ↦
          low_is rewrite fresh place low
          ∙ by_pointer fresh place low
          ∙ sym (low_is other fresh place low)
      | inr high ↦
          high_is rewrite fresh place high
          ∙ (λ i. cond (table_same (place - FILE_BLOCKS) (omega arith) i) (cond (some_same (place - FILE_BLOCKS) (omega arith) i) (fresh place) 0)
          (same.pointers place within i))
          ∙ sym (high_is other fresh place high)
    ];
  }
    where
      low_is : (r : Rewrite) (fresh : ℕ → ℕ) (place : ℕ) → place < FILE_BLOCKS
          → pointer_after r fresh place ≡ cond (r.is_rewritten place) (cond (r.is_zero place) 0 (fresh place)) (r.pointers place)
      low_is r fresh place low = ap (λ b. cond b (cond (r.is_rewritten place) (cond (r.is_zero place) 0 (fresh place)) (r.pointers place))
          (cond (rewrites_table r (place - FILE_BLOCKS)) (cond (table_has_pointer r (place - FILE_BLOCKS)) (fresh place) 0) (r.pointers place)))
          (lt-ltb place FILE_BLOCKS low)

      high_is : (r : Rewrite) (fresh : ℕ → ℕ) (place : ℕ) → FILE_BLOCKS ≤ place
          → pointer_after r fresh place
          ≡ cond (rewrites_table r (place - FILE_BLOCKS)) (cond (table_has_pointer r (place - FILE_BLOCKS)) (fresh place) 0) (r.pointers place)
      high_is r fresh place high = ap (λ b. cond b (cond (r.is_rewritten place) (cond (r.is_zero place) 0 (fresh place)) (r.pointers place))
          (cond (rewrites_table r (place - FILE_BLOCKS)) (cond (table_has_pointer r (place - FILE_BLOCKS)) (fresh place) 0) (r.pointers place)))
          (le-ltb place FILE_BLOCKS high)

      by_pointer : (fresh : ℕ → ℕ) (place : ℕ) → place < FILE_BLOCKS
          → cond (rewrite.is_rewritten place) (cond (rewrite.is_zero place) 0 (fresh place)) (rewrite.pointers place)
          ≡ cond (other.is_rewritten place) (cond (other.is_zero place) 0 (fresh place)) (other.pointers place)
      by_pointer fresh place low = elim (cases_Bool (other.is_rewritten place)) [
        | inl t ↦ λ i. cond (same.rewritten place low i) (cond (same.zero place low t i) 0 (fresh place)) (same.pointers place (omega arith) i)
        | inr f ↦
            ap (λ b. cond b (cond (rewrite.is_zero place) 0 (fresh place)) (rewrite.pointers place)) (same.rewritten place low ∙ f)
            ∙ same.pointers place (omega arith)
            ∙ sym (ap (λ b. cond b (cond (other.is_zero place) 0 (fresh place)) (other.pointers place)) f)
      ]

pub same_rewrites_take_the_same : SameRewritesTakeTheSame
same_rewrites_take_the_same = take_same

-- ranks by tests that agree are the same
rank_same : (p q : ℕ → Bool) → ((k : ℕ) → p k ≡ q k) → (n : ℕ) → rank p n ≡ rank q n
rank_same p q same zero = rank_first p ∙ sym (rank_first q)
rank_same p q same (suc n) = rank_more p n ∙ (λ i. rank_same p q same n i + cond (same n i) 1 0) ∙ sym (rank_more q n)

-- so rewritings that take the same need as many blocks
pub needs_same : {X : Type 0} (f g : X → Rewrite) (xs : List X) → ((x : X) → Contains xs x → TakeTheSame (f x) (g x))
    → blocks_needed (map f xs) ≡ blocks_needed (map g xs)
needs_same f g xs same =
    ap (λ n. rank (takes_in_row (map f xs)) (PLACES * n)) (length-map xs f ∙ sym (length-map xs g))
    ∙ rank_same (takes_in_row (map f xs)) (takes_in_row (map g xs)) in_row (PLACES * length (map g xs))
  where
    in_row : (p : ℕ) → takes_in_row (map f xs) p ≡ takes_in_row (map g xs) p
    in_row p =
        ap (λ (o : Option Rewrite). option_map_or (λ r. takes_place r (p % PLACES)) o false) (slice_get-map f xs (p / PLACES))
        ∙ by (slice_get xs (p / PLACES)) refl
        ∙ sym (ap (λ (o : Option Rewrite). option_map_or (λ r. takes_place r (p % PLACES)) o false) (slice_get-map g xs (p / PLACES)))
      where
        by : (o : Option _) → slice_get xs (p / PLACES) ≡ o
            → option_map_or (λ r. takes_place r (p % PLACES)) (option_map f o) false ≡ option_map_or (λ r. takes_place r (p % PLACES)) (option_map g o) false
        by None e = refl
        by (Some x) e = (same x (there_is_in xs (p / PLACES) x e)).takes (p % PLACES) (omega arith)
