-- What rewriting some of its blocks makes of an inode and of its indirect blocks, and which blocks it gives up.
use Rattle.std.specs.Prelude.{◌≡◌, ℕ, ◌+◌, ◌-◌, ◌/◌, ◌<◌, ◌==◌, ◌&&◌, ◌||◌, not, nat_lt, nat_le, Bool, true, false, is_some, List, [], ◌∷◌, length, take, count_by, filter_map, slice_index, slice_index_or, Option, Some, None, if◌then◌else◌, Contains, ◌↔◌}
use Rattle.std.specs.List.{range_with_len, find}
use Rattle.std.specs.List.Sorted.{IsStrictlyIncreasing}
use Rattle.std.specs.Option.{option_map_or}
use Rattle.sfs_image.specs.Inode.{Inode, Table}
use Rattle.sfs_image.specs.Part.{tabulate}
use Rattle.sfs_image.specs.Seen.{FILE_BLOCKS, PLACES}
use Rattle.image_laws.specs.Need.{Rewrite, first_block, rewrites_table, table_has_pointer, takes_place, pointer_after, rank}
use Rattle.image_laws.specs.Stands.{BLOCK_BYTES}
use Rattle.block_map.specs.declared.changed.ChangedBlock.{ChangedBlock}
use Rattle.block_map.specs.declared.rewrite.TableFate.{TableFate}
use Rattle.block_map.specs.declared.rewrite.TableFate.TheVariants.{Stays, Goes, IsWritten}
use Rattle.block_map.specs.Changed.{change_of}
use Rattle.block_map.specs.Kept.{pointer_kept}

-- what is rewritten of an inode that has its new size already
abbrev pub rewrite_of : Inode → List Table → List ChangedBlock → Rewrite
rewrite_of inode tables changed = record {
  blocks = (inode.size + (BLOCK_BYTES - 1)) / BLOCK_BYTES;
  is_rewritten = λ n. is_some (change_of changed n);
  is_zero = λ n. option_map_or (λ one. one.is_zero) (change_of changed n) false;
  pointers = pointer_kept inode tables;
}

-- whether a rewritten block takes a fresh one: it is one of a file's, and not all zeros
abbrev pub takes_fresh : ChangedBlock → Bool
takes_fresh one = not one.is_zero && nat_lt one.block FILE_BLOCKS

-- whether a rewritten block changes a pointer of an indirect block: its pointer stands there, and it takes a fresh block or had one
abbrev pub touches_table : (ℕ → ℕ) → ℕ → ChangedBlock → Bool
touches_table pointers table one =
    (nat_le (first_block table) one.block && nat_lt one.block (first_block table + 1024)) && (not one.is_zero || not (pointers one.block == 0))

-- the fresh block of a place: the places that take one have the fresh blocks in their order
abbrev pub fresh_for : Rewrite → List ℕ → ℕ → ℕ
fresh_for rewrite fresh place = slice_index fresh (rank (takes_place rewrite) place)

-- the pointer at a place afterwards
abbrev pub pointer_remapped : Rewrite → List ℕ → ℕ → ℕ
pointer_remapped rewrite fresh place = pointer_after rewrite (fresh_for rewrite fresh) place

-- how many indirect blocks an inode has at most
abbrev pub TABLES : ℕ
TABLES = 16

-- what becomes of an indirect block: it stays as it is, or is rewritten; then it goes where it has no pointer left, and else it is
-- written into a fresh block
abbrev pub table_fate : Rewrite → ℕ → TableFate
table_fate rewrite k = if rewrites_table rewrite k then (if table_has_pointer rewrite k then IsWritten else Goes) else Stays

-- how many fresh blocks an indirect block takes by its fate
abbrev pub fresh_by_fate : TableFate → ℕ
fresh_by_fate Stays = 0
fresh_by_fate Goes = 0
fresh_by_fate IsWritten = 1

-- an indirect block with the pointers that it has afterwards
abbrev pub table_written : Rewrite → List ℕ → ℕ → Table
table_written rewrite fresh k = record { place = k; pointers = tabulate 1024 (λ entry. pointer_remapped rewrite fresh (first_block k + entry)) }

-- an indirect block afterwards, by its fate
abbrev pub table_by_fate : TableFate → Rewrite → List ℕ → List Table → ℕ → Option Table
table_by_fate Stays rewrite fresh tables k = find (λ table. table.place == k) tables
table_by_fate Goes rewrite fresh tables k = None
table_by_fate IsWritten rewrite fresh tables k = Some (table_written rewrite fresh k)

-- the indirect block of a place afterwards
abbrev pub table_remapped : Rewrite → List ℕ → List Table → ℕ → Option Table
table_remapped rewrite fresh tables k = table_by_fate (table_fate rewrite k) rewrite fresh tables k

-- the indirect blocks afterwards
abbrev pub tables_remapped : Rewrite → List ℕ → List Table → List Table
tables_remapped rewrite fresh tables = filter_map (table_remapped rewrite fresh tables) (range_with_len 0 TABLES)

-- the inode afterwards
abbrev pub inode_remapped : Rewrite → List ℕ → Inode → Inode
inode_remapped rewrite fresh inode = record inode {
  direct = tabulate 108 (pointer_remapped rewrite fresh);
  indirect = tabulate TABLES (λ k. pointer_remapped rewrite fresh (FILE_BLOCKS + k));
}

-- whether the block that stands at a place is given up: it is there, and its place is rewritten
abbrev pub gives_up : Rewrite → ℕ → Bool
gives_up rewrite place =
    (if nat_lt place FILE_BLOCKS then rewrite.is_rewritten place else rewrites_table rewrite (place - FILE_BLOCKS)) && not (rewrite.pointers place == 0)

-- a block is given up at a place
pub record IsGivenUp (rewrite : Rewrite) (block place : ℕ) : Type 0 where
  pub within : place < PLACES
  pub given_up : gives_up rewrite place ≡ true
  pub stands : rewrite.pointers place ≡ block

-- These are the blocks that are given up, ascending.
pub record AreFreed (rewrite : Rewrite) (freed : List ℕ) : Type 0 where
  pub ascending : IsStrictlyIncreasing freed
  pub each : (block : ℕ) → Contains freed block ↔ ((place : ℕ) × IsGivenUp rewrite block place)

-- the pointer of a rewritten block, where so many fresh ones are taken already
abbrev pub pointer_given : List ℕ → ChangedBlock → ℕ → ℕ
pointer_given fresh one taken = if one.is_zero then 0 else slice_index fresh taken

-- These are the new pointers of the rewritten blocks, in their order: the fresh blocks go to those that take one.
pub record HavePointers (fresh : List ℕ) (changed : List ChangedBlock) (pointers : List ℕ) : Type 0 where
  pub count : length pointers ≡ length changed
  pub each : (k : ℕ) (d : ChangedBlock) → k < length changed
      → slice_index pointers k ≡ pointer_given fresh (slice_index_or changed k d) (count_by takes_fresh (take k changed))

-- a block in a list of its own, and none for a hole
abbrev pub there : ℕ → List ℕ
there block = if block == 0 then [] else block ∷ []

-- the block that a rewritten one gives up, or 0
abbrev pub data_left : (ℕ → ℕ) → ChangedBlock → ℕ
data_left pointers one = if nat_lt one.block FILE_BLOCKS then pointers one.block else 0

-- the block that an indirect block gives up by its fate, or 0
abbrev pub table_left : TableFate → ℕ → ℕ
table_left Stays block = 0
table_left Goes block = block
table_left IsWritten block = block

-- an indirect block's own pointer afterwards, by its fate
abbrev pub own_pointer : TableFate → ℕ → ℕ → ℕ
own_pointer Stays block fresh = block
own_pointer Goes block fresh = 0
own_pointer IsWritten block fresh = fresh
