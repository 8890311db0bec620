-- A part that is made of fresh blocks and of an old part is gathered wherever both are.
use Rattle.std.proofs.Common.{◌≡◌, ℕ, ◌+◌, ◌-◌, ◌<◌, ltb, List, [], map, length, get_or, refl, sym, ap, ◌∙◌, subst, arith, inl, inr}
use Rattle.std.specs.Prelude.{slice_index_or}
use Rattle.std.proofs.lemmas.Bool.{cases_lt, cond-true, cond-false, lt-ltb, le-ltb}
use Rattle.std.proofs.lemmas.List.{same_lists, get_or-map, length-map, get_or_default}
use Rattle.sfs_image.specs.ImageOf.{FreshBlock, StandIn, TurnsInto, ComesFrom, IsMadeOf}
use Rattle.sfs_image.specs.ImageOf.ComesFrom.{hole, written, kept}
use Rattle.sfs_image.specs.Part.{Part, inode_in, read_block, block_pointer, part_of, pointer_at, content_at, tabulate, IsGathered}
use Rattle.sfs_image.specs.Seen.{FILE_BLOCKS, PLACES}
use Rattle.sfs_image.proofs.Basics.{length-tabulate, get_or-tabulate}
use Rattle.sfs_image.proofs.PartLaws.{pointer_of_block, pointer_of_table, block_is_read, table_is_read, hole_is_read, block_behind}
use Rattle.sfs_image.proofs.PiecesLaws.{length-u32s_at}

-- what stands at a place of a block, and of an indirect block
content_of_block : (part : Part) (n : ℕ) → n < FILE_BLOCKS → content_at part n ≡ slice_index_or part.blocks n []
content_of_block part n below = cond-true (ltb n FILE_BLOCKS) _ _ (lt-ltb n FILE_BLOCKS below)

content_of_table : (part : Part) (k : ℕ) → content_at part (FILE_BLOCKS + k) ≡ slice_index_or part.tables k []
content_of_table part k =
    let back : FILE_BLOCKS + k - FILE_BLOCKS ≡ k = omega arith in
    cond-false (ltb (FILE_BLOCKS + k) FILE_BLOCKS) _ _ (le-ltb (FILE_BLOCKS + k) FILE_BLOCKS (omega arith))
    ∙ ap (λ (j : ℕ). slice_index_or part.tables j []) back

-- what stands at a place of a gathered part is what its pointer reads
content_is_read : (store : ℕ → List ℕ) (raw : List ℕ) (place : ℕ) → place < PLACES
    → content_at (part_of store raw) place ≡ read_block store (pointer_at (part_of store raw) place)
content_is_read store raw place within =
    elim (cases_lt place FILE_BLOCKS) [
      | inl below ↦ content_of_block (part_of store raw) place below ∙ block_is_read store raw place below
      | inr behind ↦ (let back : FILE_BLOCKS + (place - FILE_BLOCKS) ≡ place = omega arith in
          subst (λ (p : ℕ). content_at (part_of store raw) p ≡ read_block store (pointer_at (part_of store raw) p)) back
          (content_of_table (part_of store raw) (place - FILE_BLOCKS) ∙ table_is_read store raw (place - FILE_BLOCKS) (omega arith)))
    ]

pub gathered_is_read : (store : ℕ → List ℕ) (part : Part) (place : ℕ) → IsGathered store part → place < PLACES
    → content_at part place ≡ read_block store (pointer_at part place)
gathered_is_read store part place is within =
    subst (λ (p : Part). content_at p place ≡ read_block store (pointer_at p place)) is (content_is_read store part.raw place within)

-- what comes from fresh blocks and an old part is read where they stand
comes_is_read : (fresh : List FreshBlock) (old : Part) (store : ℕ → List ℕ) → StandIn store fresh → IsGathered store old → (pointer : ℕ) (bytes : List ℕ)
    → ComesFrom fresh old pointer bytes →
    read_block store pointer ≡ bytes
comes_is_read fresh old store stand is pointer bytes hole = hole_is_read store 0 refl
comes_is_read fresh old store stand is pointer bytes (written one among there) =
    let here : get_or fresh among.0 one ≡ one = among.2 in
    block_behind store one.block there ∙ subst (λ (f : FreshBlock). store f.block ≡ f.bytes) here (stand among.0 one among.1)
comes_is_read fresh old store stand is pointer bytes (kept place within there) = sym (gathered_is_read store old place is within)

-- a part of which each place reads what stands there is gathered
gathered_by_places : (store : ℕ → List ℕ) (new : Part) → length new.tables ≡ 16 → length new.blocks ≡ FILE_BLOCKS →
    ((place : ℕ) → place < PLACES → read_block store (pointer_at new place) ≡ content_at new place) → IsGathered store new
unfolding part_of
gathered_by_places store new many all reads =
    let inode = inode_in new in
    let tables : map (read_block store) inode.indirect ≡ new.tables =
    same_lists (map (read_block store) inode.indirect) new.tables (length-map inode.indirect (read_block store) ∙ length-u32s_at 448 16 new.raw ∙ sym many)
    (λ k d h.
    let within : k < 16 = omega (arith, length-map inode.indirect (read_block store), length-u32s_at 448 16 new.raw) in
    get_or-map (read_block store) inode.indirect k 0 d (omega (arith, length-u32s_at 448 16 new.raw))
    ∙ ap (read_block store) (sym (pointer_of_table new k)) ∙ reads (FILE_BLOCKS + k) (omega arith) ∙ content_of_table new k
    ∙ get_or_default new.tables k [] d (omega arith)) in
    let blocks : tabulate FILE_BLOCKS (λ n. read_block store (block_pointer inode (map (read_block store) inode.indirect) n)) ≡ new.blocks =
    same_lists (tabulate FILE_BLOCKS _) new.blocks (length-tabulate FILE_BLOCKS _ ∙ sym all)
    (λ n d h.
    let within : n < FILE_BLOCKS =
    omega (arith, length-tabulate FILE_BLOCKS (λ n. read_block store (block_pointer inode (map (read_block store) inode.indirect) n))) in
    get_or-tabulate FILE_BLOCKS _ n d within
    ∙ ap (λ (those : List (List ℕ)). read_block store (block_pointer inode those n)) tables
    ∙ ap (read_block store) (sym (pointer_of_block new n within)) ∙ reads n (omega arith) ∙ content_of_block new n within
    ∙ get_or_default new.blocks n [] d (omega arith)) in
    λ i. record { raw = new.raw; tables = tables i; blocks = blocks i }

pub made_turns : (fresh : List FreshBlock) (old new : Part) → IsMadeOf fresh old new → TurnsInto fresh old new
made_turns fresh old new made store stand is =
    gathered_by_places store new made.tables made.blocks
    (λ place within. comes_is_read fresh old store stand is (pointer_at new place) (content_at new place) (made.comes place within))
