-- Which blocks have rows, and which are rewritten.
use Rattle.std.proofs.Common.{◌≡◌, ℕ, zero, suc, ◌+◌, ◌<◌, Bool, true, false, cond, ◌&&◌, List, [], ◌∷◌, ◌++◌, length, get_or, take, map, Option, Some, None, is_none, refl, sym, ap, ◌∙◌, arith, nat_eq, All}
use Rattle.std.proofs.lemmas.Bool.{cond-false}
use Rattle.std.proofs.lemmas.List.{take_more, length-take}
use Rattle.sfs_image.specs.Slot.{Row}
use Rattle.sfs_base.proofs.BasicNumbers.{not_same}
use Rattle.std.specs.Prelude.{nat_le, not, ◌||◌}
use Rattle.sfs_base.proofs.BasicOptions.{none_some, some_same}
use Rattle.std.proofs.lemmas.List.Elements.{All-push, All-cons}
use Rattle.disk_change.specs.declared.pages.Page.{Page}
use Rattle.keyed_list.specs.Ascending.{AscendBy}
use Rattle.disk_change.specs.Pages.{page_block}
use Rattle.keyed_list.proofs.Searched.{ascends_behind}
use Rattle.disk_change.specs.Seat.{has_no_row, blocks_to_last_row, block_said, page_said}
use Rattle.block_map.specs.declared.changed.ChangedBlock.{ChangedBlock}
use Rattle.sfs_base.proofs.BasicTruth.{and_false}

-- all slots are empty where each is
pub all_empty : (block : List (Option Row)) → ((k : ℕ) → k < length block → is_none (get_or block k None) ≡ true) → true ≡ has_no_row block
all_empty [] each = refl
all_empty (slot ∷ block) each = λ i. sym (each 0 (omega arith)) i && all_empty block (λ k within. each (suc k) (omega arith)) i

-- and not where one has a row
pub one_taken : (block : List (Option Row)) (k : ℕ) → k < length block → is_none (get_or block k None) ≡ false → false ≡ has_no_row block
one_taken [] k within taken = absurd (omega arith)
one_taken (slot ∷ block) zero within taken = λ i. sym taken i && has_no_row block
one_taken (slot ∷ block) (suc k) within taken = sym (and_false (is_none slot)) ∙ ap (λ b. is_none slot && b) (one_taken block k (omega arith) taken)

-- a block without rows moves no end
end_empty : (blocks : List (List (Option Row))) (block : List (Option Row)) → has_no_row block ≡ true
    → blocks_to_last_row (blocks ++ block ∷ []) ≡ blocks_to_last_row blocks
end_empty [] block none = ap (λ b. cond (b && true) 0 1) none
end_empty (first ∷ blocks) block none = ap (λ n. cond (has_no_row first && nat_eq n 0) 0 (suc n)) (end_empty blocks block none)

-- and one with a row is the last
end_row : (blocks : List (List (Option Row))) (block : List (Option Row)) → has_no_row block ≡ false
    → blocks_to_last_row (blocks ++ block ∷ []) ≡ suc (length blocks)
end_row [] block some = ap (λ b. cond (b && true) 0 1) some
end_row (first ∷ blocks) block some =
    ap (λ n. cond (has_no_row first && nat_eq n 0) 0 (suc n)) (end_row blocks block some) ∙ by_test (has_no_row first) (length blocks)
  where
    by_test : (b : Bool) (n : ℕ) → cond (b && nat_eq (suc n) 0) 0 (suc (suc n)) ≡ suc (suc n)
    by_test true n = cond-false (nat_eq (suc n) 0) 0 (suc (suc n)) (not_same (suc n) 0 (λ e. omega arith))
    by_test false n = refl

module _ (blocks : List (List (Option Row))) (n : ℕ) (within : n < length blocks) where
  pub end_stays : has_no_row (get_or blocks n []) ≡ true → blocks_to_last_row (take (n + 1) blocks) ≡ blocks_to_last_row (take n blocks)
  end_stays none = ap blocks_to_last_row (take_more blocks n [] within) ∙ end_empty (take n blocks) (get_or blocks n []) none

  pub end_moves : has_no_row (get_or blocks n []) ≡ false → blocks_to_last_row (take (n + 1) blocks) ≡ n + 1
  end_moves some = ap blocks_to_last_row (take_more blocks n [] within) ∙ end_row (take n blocks) (get_or blocks n []) some ∙ last
    where
      last : suc (length (take n blocks)) ≡ n + 1
      last = omega (arith, length-take n blocks)

-- what is said of a block is of that block
pub said_at : (pointers : ℕ → ℕ) (blocks : List (List (Option Row))) (touched : List Bool) (n : ℕ) (one : ChangedBlock)
    → block_said pointers blocks touched n ≡ Some one → one.block ≡ n
said_at pointers blocks touched n one e = by_test (get_or touched n false || (nat_le (blocks_to_last_row blocks) n && not (nat_eq (pointers n) 0))) e
  where
    by_test : (b : Bool) → cond b (Some (record { block = n; is_zero = has_no_row (get_or blocks n []) })) None ≡ Some one → one.block ≡ n
    by_test true e = sym (ap (λ o. o.block) (some_same e))
    by_test false e = absurd (none_some e)

-- rewritten blocks below a place are below the next one, also with that of the place
pub all_below_next : (changed : List ChangedBlock) (n : ℕ) → All (λ one. one.block < n) changed → All (λ one. one.block < n + 1) changed
all_below_next changed n below = λ i d within. let less = below i d within in omega arith

pub all_below_more : (changed : List ChangedBlock) (n : ℕ) (one : ChangedBlock) → All (λ one. one.block < n) changed → one.block ≡ n
    → All (λ one. one.block < n + 1) (changed ++ one ∷ [])
all_below_more changed n one below at = All-push (λ one. one.block < n + 1) changed one (all_below_next changed n below) (omega arith)

-- the pages before one are below it
pub pages_below : (pages : List Page) → AscendBy page_block pages → (i : ℕ) (d : Page) → i < length pages
    → All (λ one. one.block < page_block (get_or pages i d)) (map page_said (take i pages))
pages_below [] up i d within = absurd (omega arith)
pages_below (page ∷ pages) up zero d within = λ k e in_. absurd (omega arith)
pages_below (page ∷ pages) up (suc i) d within =
    All-cons (λ one. one.block < page_block (get_or pages i d)) (page_said page) (map page_said (take i pages)) (up 0 (suc i) d (omega arith) (omega arith))
    (pages_below pages (ascends_behind page_block page pages up) i d (omega arith))

-- what is said of a block, by whether it changes and whether it is behind the end
module _ (pointers : ℕ → ℕ) (blocks : List (List (Option Row))) (touched : List Bool) (n : ℕ) where
  pub said_by : get_or touched n false ≡ true
      → block_said pointers blocks touched n ≡ Some (record { block = n; is_zero = has_no_row (get_or blocks n []) })
  said_by is =
      ap (λ b. cond (b || (nat_le (blocks_to_last_row blocks) n && not (nat_eq (pointers n) 0)))
      (Some (record { block = n; is_zero = has_no_row (get_or blocks n []) })) None)
      is

  pub behind_by : (end : ℕ) → end ≡ blocks_to_last_row blocks → {b : Bool} → get_or touched n false ≡ false
      → (nat_le end n && not (nat_eq (pointers n) 0)) ≡ b
      → block_said pointers blocks touched n ≡ cond b (Some (record { block = n; is_zero = has_no_row (get_or blocks n []) })) None
  behind_by end at none behind =
      (λ i. cond (none i || (nat_le (sym at i) n && not (nat_eq (pointers n) 0)))
      (Some (record { block = n; is_zero = has_no_row (get_or blocks n []) })) None)
      ∙ ap (λ b. cond b (Some (record { block = n; is_zero = has_no_row (get_or blocks n []) })) None) behind
