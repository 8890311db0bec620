-- The rules on bytes and slots, by what was read.
use Rattle.std.proofs.Common.{◌≡◌, ◌≢◌, ℕ, ◌-◌, ◌*◌, ◌/◌, ◌%◌, ◌<◌, Bool, true, false, not, ◌&&◌, eqb, List, [], length, map, take, is_some, Option, All, refl, sym, ap, subst, ◌∙◌, arith, inl, inr}
use Rattle.std.specs.Prelude.{slice_index_or}
use Rattle.std.specs.List.{list_any, range_with_len}
use Rattle.std.proofs.lemmas.Bool.{cases_Bool, eq-eqb, eqb-true, eqb-false, and_left}
use Rattle.std.proofs.lemmas.List.{same_lists, length-take-le, get_or-take, get_or_default}
use Rattle.std.proofs.lemmas.List.FromFn.{length-map-range_with_len, get_or-map-range_with_len}
use Rattle.sfs_base.specs.Lists.{Roomy}
use Rattle.sfs_image.specs.Bytes.{part, nonzero_in}
use Rattle.sfs_image.specs.Inode.{Inode, IsInode, inode_of, Table}
use Rattle.sfs_image.specs.LawsOfParts.{FitsSize}
use Rattle.sfs_image.specs.Part.{Part, inode_in, directory_blocks, is_directory_part}
use Rattle.sfs_image.specs.Rules.{breaks_tail, breaks_slots}
use Rattle.sfs_image.specs.Super.{Layout}
use Rattle.sfs_image.proofs.RuleFacts.{sizes_say}
use Rattle.disk_tree.specs.Blocks.{blocks_in, is_malformed, tail_badly, slots_badly}
use Rattle.disk_tree.specs.Contents.{blocks_of_size, bytes_of_inode, HoldContents}
use Rattle.disk_tree.specs.Gathered.{KeepPointerRules}
use Rattle.disk_tree.specs.Inodes.{inode_at}
use Rattle.disk_tree.proofs.PartsRead.{read_inode, own_inode}

module _ (told : Option (List ℕ)) (layout : Layout) (records : List (List ℕ)) (count : length records ≡ layout.inodes) (inodes : List Inode)
    (are : inodes ≡ map inode_of records) (fit : All IsInode inodes)
    (tables : List (Roomy Table)) (keep : KeepPointerRules told layout records tables) (contents : List (Roomy ℕ)) (parts : ℕ → Part)
    (hold : HoldContents told layout records tables contents parts) where
  abbrev inode_here : ℕ → Inode
  inode_here i = inode_at inodes i

  pub part_inode : (i : ℕ) → i < layout.inodes → inode_in (parts i) ≡ inode_at inodes i
  part_inode i within =
      read_inode told (slice_index_or records i []) (parts i) (hold.read i within) ∙ sym (own_inode told layout records count inodes are fit i within)

  pub fits_size : (i : ℕ) → i < layout.inodes → FitsSize (parts i)
  fits_size i within = (sizes_say (parts i)).0 (keep.keep parts hold.read hold.kept 3 i (omega arith) (omega arith) within)

  record_inode : (i : ℕ) → i < layout.inodes → inode_of (slice_index_or records i []) ≡ inode_at inodes i
  record_inode i within = sym (own_inode told layout records count inodes are fit i within)

  pub block_is : (i n : ℕ) → i < layout.inodes → n < blocks_of_size (inode_at inodes i).size
      → slice_index_or (parts i).blocks n [] ≡ part (4096 * n) 4096 (bytes_of_inode contents i)
  block_is i n within inside = hold.blocks i n within (subst (λ (inode : Inode). n < blocks_of_size inode.size) (sym (record_inode i within)) inside)

  pub sixth_rule : (i : ℕ) → i < layout.inodes → breaks_tail (parts i) ≡ tail_badly (inode_at inodes i) (bytes_of_inode contents i)
  sixth_rule i within =
      ap (λ (inode : Inode). eqb inode.kind 1 && not (eqb (inode.size % 4096) 0)
      && is_some (nonzero_in (inode.size % 4096) (4096 - inode.size % 4096) (slice_index_or (parts i).blocks (inode.size / 4096) [])))
      (part_inode i within)
      ∙ elim (cases_Bool (eqb ((inode_at inodes i).size % 4096) 0)) [
        | inr rest ↦ (let some : (inode_at inodes i).size % 4096 ≢ 0 = eqb-false _ _ rest in
            ap (λ (block : List ℕ). eqb (inode_at inodes i).kind 1 && not (eqb ((inode_at inodes i).size % 4096) 0)
            && is_some (nonzero_in ((inode_at inodes i).size % 4096) (4096 - (inode_at inodes i).size % 4096) block))
            (block_is i ((inode_at inodes i).size / 4096) within (omega arith)))
        | inl whole ↦ even (eqb (inode_at inodes i).kind 1) _ _ _ whole
      ]
    where
      even : (a b c d : Bool) → b ≡ true → (a && not b && c) ≡ (a && not b && d)
      even a true c d e = by a
        where
          by : (a : Bool) → (a && false && c) ≡ (a && false && d)
          by true = refl
          by false = refl
      even a false c d e = absurd cc

  pub blocks_are : (i : ℕ) → i < layout.inodes → (inode_at inodes i).kind ≡ 2
      → directory_blocks (parts i) ≡ blocks_in ((inode_at inodes i).size / 4096) (bytes_of_inode contents i)
  unfolding blocks_in
  blocks_are i within kind =
      let fits = fits_size i within in
      let directory : is_directory_part (parts i) ≡ true = eq-eqb _ _ (ap (λ (inode : Inode). inode.kind) (part_inode i within) ∙ kind) in
      let few = fits.few directory in
      let whole = fits.whole directory in
      let size : (inode_in (parts i)).size ≡ (inode_at inodes i).size = ap (λ (inode : Inode). inode.size) (part_inode i within) in
      let long = (hold.read i within).count in
      let taken : length (take ((inode_at inodes i).size / 4096) (parts i).blocks) ≡ (inode_at inodes i).size / 4096 =
      length-take-le ((inode_at inodes i).size / 4096) (parts i).blocks (omega arith) in
      ap (λ (n : ℕ). take (n / 4096) (parts i).blocks) size
      ∙ same_lists (take ((inode_at inodes i).size / 4096) (parts i).blocks)
      (map (λ n. part (4096 * n) 4096 (bytes_of_inode contents i)) (range_with_len 0 ((inode_at inodes i).size / 4096)))
      (taken ∙ sym (length-map-range_with_len (λ n. part (4096 * n) 4096 (bytes_of_inode contents i)) 0 ((inode_at inodes i).size / 4096)))
      (λ k d h.
      let below : k < (inode_at inodes i).size / 4096 = omega arith in
      get_or_default (take ((inode_at inodes i).size / 4096) (parts i).blocks) k d [] h
      ∙ get_or-take ((inode_at inodes i).size / 4096) (parts i).blocks k [] below
      ∙ block_is i k within (omega arith)
      ∙ sym (get_or-map-range_with_len (λ n. part (4096 * n) 4096 (bytes_of_inode contents i)) 0 ((inode_at inodes i).size / 4096) k k d below (omega arith)))

  pub seventh_rule : (i : ℕ) → i < layout.inodes → breaks_slots (parts i) ≡ slots_badly (inode_at inodes i) (bytes_of_inode contents i)
  seventh_rule i within =
      ap (λ (inode : Inode). eqb inode.kind 2 && list_any is_malformed (directory_blocks (parts i))) (part_inode i within)
      ∙ elim (cases_Bool (eqb (inode_at inodes i).kind 2)) [
        | inl directory ↦
            ap (λ (blocks : List (List ℕ)). eqb (inode_at inodes i).kind 2 && list_any is_malformed blocks) (blocks_are i within (eqb-true _ _ directory))
        | inr other ↦ and_left (eqb (inode_at inodes i).kind 2) _ other ∙ sym (and_left (eqb (inode_at inodes i).kind 2) _ other)
      ]
