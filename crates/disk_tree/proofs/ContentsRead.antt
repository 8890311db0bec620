-- How the bytes of all inodes are gathered, and the parts that have them.
use Rattle.std.proofs.Common.{◌≡◌, ℕ, ◌+◌, ◌-◌, ◌*◌, ◌<◌, ◌≤◌, cond, ltb, List, [], ◌∷◌, ◌++◌, length, get_or, Option, refl, sym, ap, subst, ◌∙◌, arith, inl, inr}
use Rattle.std.specs.Prelude.{slice_index_or}
use Rattle.std.proofs.lemmas.Bool.{cases_lt, cond-true, cond-false, lt-ltb, le-ltb}
use Rattle.std.proofs.lemmas.List.{length-append, get_or_append_left, get_or-append_right, get_or_read}
use Rattle.sfs_base.specs.Lists.{Roomy}
use Rattle.sfs_image.specs.Bytes.{part}
use Rattle.sfs_image.specs.Inode.{Inode, Table, inode_of}
use Rattle.sfs_image.specs.Part.{Part, block_pointer, read_block, tabulate}
use Rattle.sfs_image.specs.Seen.{FILE_BLOCKS}
use Rattle.sfs_image.specs.Super.{Layout}
use Rattle.sfs_image.proofs.Basics.{length-tabulate, get_or-tabulate}
use Rattle.block_map.specs.Kept.{kept_tables, block_kept}
use Rattle.block_map.proofs.KeptPointers.{HaveHoles, kept_block}
use Rattle.disk_tree.specs.Contents.{blocks_of_size, bytes_of_inode, AreReadContents, HoldContents}
use Rattle.disk_tree.specs.Gathered.{HaveTables, tables_at}
use Rattle.disk_tree.specs.Inodes.{AreDecoded, inode_at}
use Rattle.disk_tree.specs.Judged.{IsReadPart}
use Rattle.disk_tree.specs.Reading.{IsReadBlock, HasTables, HasContent}
use Rattle.disk_tree.proofs.PartsMade.{parts_made, made_within}
use Rattle.disk_tree.proofs.Refusals.{store_of, store_reads}

pub no_contents : (told : Option (List ℕ)) (inodes : List Inode) (tables : List (Roomy Table)) → AreReadContents told inodes tables 0 []
no_contents told inodes tables = record { count = refl; each = λ i less. absurd (omega arith) }

module _ (told : Option (List ℕ)) (inodes : List Inode) (tables : List (Roomy Table)) (n : ℕ) (old new : List (Roomy ℕ))
    (before : AreReadContents told inodes tables n old) where
  pub more_contents : (bytes : Roomy ℕ) → new ≡ old ++ bytes ∷ []
      → HasContent told (inode_at inodes n) (tables_at tables n) (blocks_of_size (inode_at inodes n).size) bytes.items
      → AreReadContents told inodes tables (n + 1) new
  more_contents bytes put has = record {
    count = ap length put ∙ length-append old (bytes ∷ []) ∙ (let c = before.count in omega arith);
    each = λ i less. elim (cases_lt i n) [
      | inl below ↦
          (let same : bytes_of_inode new i ≡ bytes_of_inode old i = ap (λ (xs : List (Roomy ℕ)). bytes_of_inode xs i) put
          ∙ ap (λ (b : Roomy ℕ). b.items)
          (get_or_append_left old (bytes ∷ []) (record { items = []; spare = 0 }) i (let c = before.count in omega arith)) in
          subst (HasContent told (inode_at inodes i) (tables_at tables i) (blocks_of_size (inode_at inodes i).size)) (sym same) (before.each i below))
      | inr last ↦ (let here : n ≡ i = omega arith in
          let first : n - n ≡ 0 = omega arith in
          let same : bytes_of_inode new n ≡ bytes.items =
          ap (λ (xs : List (Roomy ℕ)). bytes_of_inode xs n) put
          ∙ ap (λ (b : Roomy ℕ). b.items)
          (get_or-append_right old (bytes ∷ []) n n (record { items = []; spare = 0 }) before.count (omega arith)
          ∙ ap (λ (k : ℕ). get_or (bytes ∷ []) k (record { items = []; spare = 0 })) first) in
          subst (λ (j : ℕ). HasContent told (inode_at inodes j) (tables_at tables j) (blocks_of_size (inode_at inodes j).size) (bytes_of_inode new j)) here
          (subst (HasContent told (inode_at inodes n) (tables_at tables n) (blocks_of_size (inode_at inodes n).size)) (sym same) has))
    ];
  }

-- what was read of the elements of two lists, where the disk tells the same
pub content_of_number : (now told : Option (List ℕ)) (inodes : List Inode) (tables : List (Roomy Table)) (place : ℕ) (inode : Inode) (own : Roomy Table)
    (bytes : List ℕ)
    → now ≡ told →
    place < length inodes → place < length tables → inode ≡ get_or inodes place inode → own ≡ get_or tables place own
    → HasContent now inode own.items (blocks_of_size inode.size) bytes →
    HasContent told (inode_at inodes place) (tables_at tables place) (blocks_of_size (inode_at inodes place).size) bytes
content_of_number now told inodes tables place inode own bytes same within there is own_is has =
    subst (λ (t : Option (List ℕ)). HasContent t (inode_at inodes place) (tables_at tables place) (blocks_of_size (inode_at inodes place).size) bytes) same
    (subst (λ (i : Inode). HasContent now i (tables_at tables place) (blocks_of_size i.size) bytes) (get_or_read inodes place inode within is (inode_of []))
    (subst (λ (t : Roomy Table). HasContent now inode t.items (blocks_of_size inode.size) bytes)
    (get_or_read tables place own there own_is (record { items = []; spare = 0 })) has))

-- the part of a record whose indirect blocks and bytes were read
module _ (told : Option (List ℕ)) (raw : List ℕ) (own : List Table) (bytes : List ℕ) (has : HasTables told (inode_of raw) own)
    (content : HasContent told (inode_of raw) own (blocks_of_size (inode_of raw).size) bytes) (fits : blocks_of_size (inode_of raw).size ≤ FILE_BLOCKS) where
  abbrev count : ℕ
  count = blocks_of_size (inode_of raw).size

  abbrev block_of : ℕ → List ℕ
  block_of n = cond (ltb n count) (part (4096 * n) 4096 bytes) (read_block (store_of told) (block_pointer (inode_of raw) has.blocks n))

  pub content_part : Part
  content_part = record { raw = raw; tables = has.blocks; blocks = tabulate FILE_BLOCKS block_of }

  holes : HaveHoles (inode_of raw) has.blocks
  holes k small hole = (has.read.each k small).hole hole

  same_pointer : (n : ℕ) → n < FILE_BLOCKS → block_kept (inode_of raw) own n ≡ block_pointer (inode_of raw) has.blocks n
  same_pointer n below = ap (λ (t : List Table). block_kept (inode_of raw) t n) has.kept ∙ kept_block (inode_of raw) has.blocks holes n below

  block_read : (n : ℕ) → n < FILE_BLOCKS → IsReadBlock told (block_pointer (inode_of raw) has.blocks n) (block_of n)
  block_read n below = elim (cases_lt n count) [
    | inl inside ↦
        subst (IsReadBlock told (block_pointer (inode_of raw) has.blocks n)) (sym (cond-true (ltb n count) _ _ (lt-ltb n count inside)))
        (subst (λ (p : ℕ). IsReadBlock told p (part (4096 * n) 4096 bytes)) (same_pointer n below) (content.each n inside))
    | inr past ↦
        subst (IsReadBlock told (block_pointer (inode_of raw) has.blocks n)) (sym (cond-false (ltb n count) _ _ (le-ltb n count past)))
        (store_reads told (block_pointer (inode_of raw) has.blocks n))
  ]

  pub content_part_read : IsReadPart told raw content_part
  unfolding content_part
  content_part_read = record {
    raw_is = refl;
    tables = has.read;
    count = length-tabulate FILE_BLOCKS block_of;
    each =
        λ n below. subst (IsReadBlock told (block_pointer (inode_of raw) has.blocks n)) (sym (get_or-tabulate FILE_BLOCKS block_of n [] below))
        (block_read n below);
  }

  pub content_part_kept : kept_tables content_part ≡ own
  unfolding content_part
  content_part_kept = sym has.kept

  pub content_part_blocks : (n : ℕ) → n < count → slice_index_or content_part.blocks n [] ≡ part (4096 * n) 4096 bytes
  unfolding content_part
  content_part_blocks n inside = get_or-tabulate FILE_BLOCKS block_of n [] (omega arith) ∙ cond-true (ltb n count) _ _ (lt-ltb n count inside)

-- the parts of all inodes
module _ (told : Option (List ℕ)) (layout : Layout) (records : List (List ℕ)) (inodes : List Inode) (tables : List (Roomy Table)) (contents : List (Roomy ℕ))
    (same : AreDecoded layout records inodes)
    (has : HaveTables told layout records tables) (all : AreReadContents told inodes tables layout.inodes contents)
    (fits : (i : ℕ) → i < layout.inodes → blocks_of_size (inode_of (slice_index_or records i [])).size ≤ FILE_BLOCKS) where
  content_at : (i : ℕ) → i < layout.inodes
      → HasContent told (inode_of (slice_index_or records i [])) (tables_at tables i) (blocks_of_size (inode_of (slice_index_or records i [])).size)
      (bytes_of_inode contents i)
  content_at i within =
      subst (λ (inode : Inode). HasContent told inode (tables_at tables i) (blocks_of_size inode.size) (bytes_of_inode contents i)) (same i within)
      (all.each i within)

  pub own_part : (i : ℕ) → i < layout.inodes → Part
  own_part i within =
      content_part told (slice_index_or records i []) (tables_at tables i) (bytes_of_inode contents i) (has i within) (content_at i within) (fits i within)

  pub hold_contents : HoldContents told layout records tables contents (parts_made layout.inodes own_part)
  unfolding own_part
  hold_contents = record {
    read = made_within layout.inodes own_part (λ i part. IsReadPart told (slice_index_or records i []) part)
        (λ i within. content_part_read told (slice_index_or records i []) (tables_at tables i) (bytes_of_inode contents i) (has i within) (content_at i within)
        (fits i within));
    kept = made_within layout.inodes own_part (λ i part. kept_tables part ≡ tables_at tables i)
        (λ i within. content_part_kept told (slice_index_or records i []) (tables_at tables i) (bytes_of_inode contents i) (has i within) (content_at i within)
        (fits i within));
    blocks = λ i n within inside.
        made_within layout.inodes own_part
        (λ i part. (n : ℕ) → n < blocks_of_size (inode_of (slice_index_or records i [])).size
        → slice_index_or part.blocks n [] ≡ Rattle.sfs_image.specs.Bytes.part (4096 * n) 4096 (bytes_of_inode contents i))
        (λ i within n inside. content_part_blocks told (slice_index_or records i []) (tables_at tables i) (bytes_of_inode contents i) (has i within)
        (content_at i within) (fits i within) n inside)
        i within n inside;
    size = λ i within. (content_at i within).size;
  }
