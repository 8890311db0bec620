-- The pointers, the record and the indirect blocks of an inode whose blocks are rewritten.
use Rattle.std.proofs.Common.{add-one, ◌++◌, ◌≡◌, ℕ, zero, suc, ◌+◌, ◌-◌, ◌<◌, Bool, true, false, cond, List, [], ◌∷◌, get_or, take, Option, Some, None, is_some, refl, sym, ap, ◌∙◌, arith, count_by, nat_lt, nat_eq, filter_map}
use Rattle.std.specs.Prelude.{slice_index}
use Rattle.std.specs.List.{range_with_len, cons_option, All}
use Rattle.std.proofs.lemmas.List.{append-nil}
use Rattle.std.proofs.lemmas.List.Elements.{filter_map-append, All-push}
use Rattle.sfs_base.proofs.BasicNumbers.{from_plus_zero, zero_plus, suc_moves}
use Rattle.std.specs.Option.{option_map_or, option_to_list}
use Rattle.std.proofs.lemmas.Bool.{cond-true, cond-false, lt-ltb, le-ltb, eqb-true}
use Rattle.sfs_base.proofs.BasicOptions.{none_some, some_same}
use Rattle.sfs_image.specs.Inode.{Inode, Table}
use Rattle.sfs_image.specs.Seen.{FILE_BLOCKS}
use Rattle.sfs_image.proofs.Basics.{found_passes}
use Rattle.image_laws.specs.Need.{Rewrite, rewrites_table, table_has_pointer, takes_place, rank}
use Rattle.block_map.specs.declared.changed.ChangedBlock.{ChangedBlock}
use Rattle.block_map.specs.declared.rewrite.TableFate.{TableFate}
use Rattle.block_map.specs.declared.rewrite.TableFate.TheVariants.{Stays, Goes, IsWritten}
use Rattle.block_map.specs.Changed.{IsChangeAt, AscendByBlock}
use Rattle.block_map.specs.Kept.{pointer_kept}
use Rattle.block_map.specs.Remap.{rewrite_of, takes_fresh, fresh_for, pointer_remapped, pointer_given, table_fate, table_by_fate, table_remapped, own_pointer}
use Rattle.block_map.proofs.Changes.{change_at_place}
use Rattle.block_map.proofs.Counts.{rank_of_change}

-- a rewritten block has the pointer that it was given
pub given_pointer : (inode : Inode) (tables : List Table) (changed : List ChangedBlock) → AscendByBlock changed → (fresh : List ℕ) (n at : ℕ) (d : ChangedBlock)
    → IsChangeAt changed n at → n < FILE_BLOCKS
    → pointer_given fresh (get_or changed at d) (count_by takes_fresh (take at changed)) ≡ pointer_remapped (rewrite_of inode tables changed) fresh n
given_pointer inode tables changed up fresh n at d is small =
    let rewrite = rewrite_of inode tables changed in
    let one = get_or changed at d in
    let same : one.block ≡ n = is.block d in
    let counted = rank_of_change inode tables changed up at d is.within (omega arith) ∙ ap (rank (takes_place rewrite)) same in
    let said = change_at_place changed up n at d is in
    ap (λ taken. cond one.is_zero 0 (slice_index fresh taken)) counted
    ∙ ap (λ (o : Option ChangedBlock). cond (is_some o) (cond (option_map_or (λ one. one.is_zero) o false) 0 (fresh_for rewrite fresh n))
    (pointer_kept inode tables n))
    (sym said)
    ∙ sym (cond-true (nat_lt n FILE_BLOCKS) _ _ (lt-ltb n FILE_BLOCKS small))

-- behind the places of blocks stand the record's pointers to indirect blocks
pub own_place : (inode : Inode) (tables : List Table) (k : ℕ) → pointer_kept inode tables (FILE_BLOCKS + k) ≡ slice_index inode.indirect k
own_place inode tables k =
    let back : FILE_BLOCKS + k - FILE_BLOCKS ≡ k = omega arith in
    cond-false (nat_lt (FILE_BLOCKS + k) FILE_BLOCKS) _ _ (le-ltb (FILE_BLOCKS + k) FILE_BLOCKS (omega arith)) ∙ ap (slice_index inode.indirect) back

-- an indirect block's own pointer is that of its fate
pub own_pointer_is : (inode : Inode) (tables : List Table) (changed : List ChangedBlock) (fresh : List ℕ) (k : ℕ)
    → own_pointer (table_fate (rewrite_of inode tables changed) k) (slice_index inode.indirect k)
    (slice_index fresh (rank (takes_place (rewrite_of inode tables changed)) (FILE_BLOCKS + k)))
    ≡ pointer_remapped (rewrite_of inode tables changed) fresh (FILE_BLOCKS + k)
own_pointer_is inode tables changed fresh k =
    let rewrite = rewrite_of inode tables changed in
    let back : FILE_BLOCKS + k - FILE_BLOCKS ≡ k = omega arith in
    let behind : nat_lt (FILE_BLOCKS + k) FILE_BLOCKS ≡ false = le-ltb (FILE_BLOCKS + k) FILE_BLOCKS (omega arith) in
    let own = own_place inode tables k in
    let after : pointer_remapped rewrite fresh (FILE_BLOCKS + k)
    ≡ cond (rewrites_table rewrite k) (cond (table_has_pointer rewrite k) (fresh_for rewrite fresh (FILE_BLOCKS + k)) 0)
    (pointer_kept inode tables (FILE_BLOCKS + k)) =
    cond-false (nat_lt (FILE_BLOCKS + k) FILE_BLOCKS) _ _ behind
    ∙ ap (λ t. cond (rewrites_table rewrite t) (cond (table_has_pointer rewrite t) (fresh_for rewrite fresh (FILE_BLOCKS + k)) 0)
    (pointer_kept inode tables (FILE_BLOCKS + k)))
    back in
    by_tests (rewrites_table rewrite k) (table_has_pointer rewrite k) _ _ ∙ ap (cond (rewrites_table rewrite k) _) (sym own) ∙ sym after
  where
    by_tests : (rewritten some : Bool) (block free : ℕ)
        → own_pointer (cond rewritten (cond some IsWritten Goes) Stays) block free ≡ cond rewritten (cond some free 0) block
    by_tests true true block free = refl
    by_tests true false block free = refl
    by_tests false some block free = refl

-- an indirect block afterwards has its place
pub remapped_at_place : (rewrite : Rewrite) (fresh : List ℕ) (tables : List Table) (k : ℕ) (table : Table) → table_remapped rewrite fresh tables k ≡ Some table
    → table.place ≡ k
remapped_at_place rewrite fresh tables k table e = by_fate (table_fate rewrite k) e
  where
    by_fate : (fate : TableFate) → table_by_fate fate rewrite fresh tables k ≡ Some table → table.place ≡ k
    by_fate Stays e = eqb-true table.place k (found_passes (λ t. nat_eq t.place k) tables table e)
    by_fate Goes e = absurd (none_some e)
    by_fate IsWritten e = sym (ap (λ t. t.place) (some_same e))

-- a range with one number more
pub range_more : (a n : ℕ) → range_with_len a (n + 1) ≡ range_with_len a n ++ (a + n) ∷ []
range_more a n = rw add-one (go a n)
  where
    go : (a n : ℕ) → range_with_len a (suc n) ≡ range_with_len a n ++ (a + n) ∷ []
    go a zero = ap (λ m. m ∷ []) (from_plus_zero a)
    go a (suc n) = ap (λ rest. a ∷ rest) (go (a + 1) n) ∙ ap (λ m. a ∷ (range_with_len (a + 1) n ++ m ∷ [])) (suc_moves a n)

-- what may be there, before nothing
pub as_list : {X : Type 0} (o : Option X) → cons_option o [] ≡ option_to_list o
as_list None = refl
as_list (Some x) = refl

-- what a function gives of one number more comes last
pub one_more_given : {A : Type 0} (f : ℕ → Option A) (k : ℕ) (x : A) → f k ≡ Some x
    → filter_map f (range_with_len 0 (k + 1)) ≡ filter_map f (range_with_len 0 k) ++ x ∷ []
one_more_given f k x e =
    ap (filter_map f) (range_more 0 k ∙ ap (λ m. range_with_len 0 k ++ m ∷ []) (zero_plus k)) ∙ filter_map-append f (range_with_len 0 k) (k ∷ [])
    ∙ ap (λ o. filter_map f (range_with_len 0 k) ++ cons_option o []) e

pub one_more_none : {A : Type 0} (f : ℕ → Option A) (k : ℕ) → f k ≡ None → filter_map f (range_with_len 0 (k + 1)) ≡ filter_map f (range_with_len 0 k)
one_more_none f k e =
    ap (filter_map f) (range_more 0 k ∙ ap (λ m. range_with_len 0 k ++ m ∷ []) (zero_plus k)) ∙ filter_map-append f (range_with_len 0 k) (k ∷ [])
    ∙ ap (λ o. filter_map f (range_with_len 0 k) ++ cons_option o []) e ∙ append-nil _

-- indirect blocks below a place are below the next one, also with that of the place
pub all_below_next : (tables : List Table) (k : ℕ) → All (λ t. t.place < k) tables → All (λ t. t.place < k + 1) tables
all_below_next tables k below = λ i d within. let less = below i d within in omega arith

pub all_below_more : (tables : List Table) (k : ℕ) (table : Table) → All (λ t. t.place < k) tables → table.place ≡ k
    → All (λ t. t.place < k + 1) (tables ++ table ∷ [])
all_below_more tables k table below place = All-push (λ t. t.place < k + 1) tables table (all_below_next tables k below) (omega arith)
