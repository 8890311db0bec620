-- How the indirect blocks of an inode are read one after another.
use Rattle.std.proofs.Common.{◌-◌, ◌≡◌, ◌≢◌, ◌*◌, eqb, ℕ, zero, suc, ◌+◌, ◌<◌, ◌≤◌, List, [], ◌∷◌, ◌++◌, Option, None, Some, All, length, filter_map, get_or, refl, ◌∙◌, sym, ap, subst, arith, inl, inr}
use Rattle.std.specs.Prelude.{slice_index, slice_index_or}
use Rattle.std.specs.List.{range_with_len, cons_option}
use Rattle.std.specs.Option.{option_to_list}
use Rattle.std.proofs.lemmas.Bool.{cases_lt, cond-true, cond-false, eq-eqb, ne_eqb}
use Rattle.std.proofs.lemmas.List.{length-append, append-nil, get_or_append_left, get_or-append_right}
use Rattle.std.proofs.lemmas.List.Elements.{filter_map-append, All-nil, All-cons}
use Rattle.sfs_dev.specs.Disk.{Gives}
use Rattle.sfs_image.specs.Bytes.{part, zeros}
use Rattle.sfs_image.specs.Settled.{image_block}
use Rattle.sfs_image.proofs.BytesLaws.{length-zeros}
use Rattle.sfs_image.proofs.PartLaws.{hole_is_read, block_behind}
use Rattle.block_map.proofs.KeptPointers.{kept_at_place}
use Rattle.sfs_image.specs.Inode.{Inode, Table, pointers_of}
use Rattle.block_map.specs.Kept.{table_kept, tables_kept}
use Rattle.block_map.proofs.Places.{as_list, range_more}
use Rattle.disk_tree.specs.Reading.{IsReadBlock, table_in, HasTables, IsNextTable}

-- functions that agree on the numbers from a on give the same of them
pub filter_map_same : {X : Type 0} (f g : ℕ → Option X) (a n : ℕ) → ((k : ℕ) → a ≤ k → k < a + n → f k ≡ g k)
    → filter_map f (range_with_len a n) ≡ filter_map g (range_with_len a n)
filter_map_same f g a zero same = refl
filter_map_same f g a (suc n) same =
    ap (λ o. cons_option o (filter_map f (range_with_len (a + 1) n))) (same a (omega arith) (omega arith))
    ∙ ap (cons_option (g a)) (filter_map_same f g (a + 1) n (λ k low high. same k (omega arith) (omega arith)))

-- What is kept of the first k indirect blocks is what reads gave.
pub record TablesSoFar (told : Option (List ℕ)) (inode : Inode) (k : ℕ) (tables : List Table) : Type 0 where
  pub blocks : List (List ℕ)
  pub count : length blocks ≡ k
  pub each : (j : ℕ) → j < k → IsReadBlock told (slice_index inode.indirect j) (slice_index_or blocks j [])
  pub kept : tables ≡ filter_map (table_kept inode blocks) (range_with_len 0 k)

pub no_tables : (told : Option (List ℕ)) (inode : Inode) → TablesSoFar told inode 0 []
no_tables told inode = record { blocks = []; count = refl; each = λ j below. absurd (omega arith); kept = refl }

module _ (told : Option (List ℕ)) (inode : Inode) (k : ℕ) (old new : List Table) (before : TablesSoFar told inode k old)
    (next : IsNextTable told inode k old new) where
  more_blocks : List (List ℕ)
  more_blocks = before.blocks ++ next.block ∷ []

  earlier : (j : ℕ) → j < k → slice_index_or more_blocks j [] ≡ slice_index_or before.blocks j []
  unfolding more_blocks
  earlier j below = get_or_append_left before.blocks (next.block ∷ []) [] j (omega (arith, before.count))

  last : slice_index_or more_blocks k [] ≡ next.block
  unfolding more_blocks
  last =
      get_or-append_right before.blocks (next.block ∷ []) k k [] before.count (omega arith)
      ∙ (let e : k - k ≡ 0 = omega arith in ap (λ (n : ℕ). get_or (next.block ∷ []) n []) e)

  pub next_table : TablesSoFar told inode (k + 1) new
  unfolding more_blocks
  next_table = record {
    blocks = more_blocks;
    count = length-append before.blocks (next.block ∷ []) ∙ (let e = before.count in omega arith);
    each = λ j below. elim (cases_lt j k) [
      | inl less ↦ subst (IsReadBlock told (slice_index inode.indirect j)) (sym (earlier j less)) (before.each j less)
      | inr here ↦
          (let same : k ≡ j = omega arith in
          subst (λ (m : ℕ). IsReadBlock told (slice_index inode.indirect m) (slice_index_or more_blocks m [])) same
          (subst (IsReadBlock told (slice_index inode.indirect k)) (sym last) next.read))
    ];
    kept =
        next.kept
        ∙ ap (λ (xs : List Table). xs ++ option_to_list (table_in inode k next.block))
        (before.kept ∙ filter_map_same (table_kept inode before.blocks) (table_kept inode more_blocks) 0 k
        (λ j low high. ap (table_in inode j) (sym (earlier j (omega arith)))))
        ∙ ap (λ (block : List ℕ). filter_map (table_kept inode more_blocks) (range_with_len 0 k) ++ option_to_list (table_in inode k block)) (sym last)
        ∙ ap (λ (xs : List Table). filter_map (table_kept inode more_blocks) (range_with_len 0 k) ++ xs) (sym (as_list (table_kept inode more_blocks k)))
        ∙ sym (filter_map-append (table_kept inode more_blocks) (range_with_len 0 k) (k ∷ []))
        ∙ ap (filter_map (table_kept inode more_blocks))
        (sym (range_more 0 k ∙ (let e : 0 + k ≡ k = omega arith in ap (λ (m : ℕ). range_with_len 0 k ++ m ∷ []) e)));
  }

-- all 16 of them
pub all_tables : (told : Option (List ℕ)) (inode : Inode) (tables : List Table) → TablesSoFar told inode 16 tables → HasTables told inode tables
unfolding tables_kept
all_tables told inode tables so = record { blocks = so.blocks; read = record { count = so.count; each = so.each }; kept = so.kept }

-- what is given for a number, and what for those behind it
all_cons_option : {X : Type 0} (P : X → Type 0) (o : Option X) (xs : List X) → ((x : X) → o ≡ Some x → P x) → All P xs → All P (cons_option o xs)
all_cons_option P None xs here rest = rest
all_cons_option P (Some x) xs here rest = All-cons P x xs (here x refl) rest

-- each place that is kept is below a limit
places_below : (inode : Inode) (blocks : List (List ℕ)) (limit a n : ℕ) → a + n ≤ limit
    → All (λ (t : Table). t.place < limit) (filter_map (table_kept inode blocks) (range_with_len a n))
places_below inode blocks limit a zero le = All-nil (λ (t : Table). t.place < limit)
places_below inode blocks limit a (suc n) le =
    all_cons_option (λ (t : Table). t.place < limit) (table_kept inode blocks a) (filter_map (table_kept inode blocks) (range_with_len (a + 1) n))
    (λ table is. let here = kept_at_place inode blocks a table is in omega arith)
    (places_below inode blocks limit (a + 1) n (omega arith))

pub all_below : (told : Option (List ℕ)) (inode : Inode) (k : ℕ) (tables : List Table) → TablesSoFar told inode k tables
    → All (λ (t : Table). t.place < k) tables
all_below told inode k tables so = subst (All (λ (t : Table). t.place < k)) (sym so.kept) (places_below inode so.blocks k 0 k (omega arith))

-- a place without a pointer adds nothing
pub next_hole : (told : Option (List ℕ)) (inode : Inode) (place : ℕ) (tables : List Table) → slice_index inode.indirect place ≡ 0
    → IsNextTable told inode place tables tables
next_hole told inode place tables hole = record {
  block = zeros 4096;
  read = record {
    hole = λ _. refl;
    gives = λ content _. sym (hole_is_read (image_block content) (slice_index inode.indirect place) hole);
    long = λ _. length-zeros 4096;
  };
  kept = sym (append-nil tables) ∙ ap (λ o. tables ++ option_to_list o) (sym (cond-true (eqb (slice_index inode.indirect place) 0) _ _ (eq-eqb _ _ hole)));
}

-- a place with a pointer adds what the block has
pub next_there : (told : Option (List ℕ)) (inode : Inode) (place : ℕ) (old new : List Table) (block : List ℕ) → slice_index inode.indirect place ≢ 0 →
    IsReadBlock told (slice_index inode.indirect place) block → new ≡ old ++ record { place = place; pointers = pointers_of block } ∷ []
    → IsNextTable told inode place old new
next_there told inode place old new block there read kept = record {
  block = block;
  read = read;
  kept = kept ∙ ap (λ o. old ++ option_to_list o) (sym (cond-false (eqb (slice_index inode.indirect place) 0) _ _ (ne_eqb _ _ there)));
}

-- the block that a device call gave
pub block_given : (told : Option (List ℕ)) (pointer at : ℕ) (block : List ℕ) → at ≡ 4096 * pointer → length block ≡ 4096 → pointer ≢ 0 → Gives told at block
    → IsReadBlock told pointer block
block_given told pointer at block is long there gives = record {
  hole = λ none. absurd (there none);
  gives = λ content same.
      let given : Gives (Some content) at block = subst (λ (t : Option (List ℕ)). Gives t at block) same gives in
      given ∙ ap (λ (n : ℕ). part at n content) long ∙ ap (λ (n : ℕ). part n 4096 content) is ∙ sym (block_behind (image_block content) pointer there);
  long = λ _. long;
}

-- what was read where a disk tells the same
pub told_same : (told other : Option (List ℕ)) (inode : Inode) (k : ℕ) (old new : List Table) → told ≡ other → IsNextTable told inode k old new
    → IsNextTable other inode k old new
told_same told other inode k old new same next = subst (λ (t : Option (List ℕ)). IsNextTable t inode k old new) same next
