-- What parts that were read show of their rows.
use Rattle.std.proofs.Common.{◌≡◌, ◌≢◌, ℕ, ◌/◌, ◌<◌, eqb, List, [], ◌∷◌, ◌++◌, map, Option, refl, sym, ap, ◌∙◌}
use Rattle.std.specs.List.{flat_map}
use Rattle.std.proofs.lemmas.Bool.{cond-true, cond-false, eq-eqb, ne_eqb}
use Rattle.sfs_image.specs.Inode.{Inode}
use Rattle.sfs_image.specs.Part.{directory_blocks, is_directory_part}
use Rattle.sfs_image.specs.Slot.{Row}
use Rattle.sfs_image.specs.SlotBlock.{slots_of}
use Rattle.disk_tree.specs.Blocks.{blocks_in, slots_at}
use Rattle.disk_tree.specs.Contents.{bytes_of_inode}
use Rattle.disk_tree.specs.Inodes.{inode_at}
use Rattle.disk_tree.specs.Rows.{rows_in_slots, slots_together}
use Rattle.disk_tree.specs.Shown.{ReadPartsShowRows}
use Rattle.disk_tree.proofs.BytesJudged.{part_inode, blocks_are}
use Rattle.disk_tree.proofs.InodesRead.{length_inodes}

-- lists made of elements, put together
together : (f : List ℕ → List (Option Row)) (xs : List (List ℕ)) → slots_together (map f xs) ≡ flat_map f xs
together f [] = refl
together f (x ∷ xs) = ap (λ (ys : List (Option Row)). f x ++ ys) (together f xs)

pub read_parts_show_rows : ReadPartsShowRows
read_parts_show_rows told layout records inodes tables contents slots rows count are fit keep well lists =
    let part = part_inode told layout records count inodes are fit tables keep contents well.parts well.hold in
    record {
      count = sym (length_inodes layout records inodes count are);
      kind = λ i within. ap (λ (inode : Inode). inode.kind) (part i within);
      links = λ i within. ap (λ (inode : Inode). inode.links) (part i within);
      slots = λ i within kind.
          lists.each i within
          ∙ ap rows_in_slots
          (ap slots_together (of_directory i within (sym (ap (λ (inode : Inode). inode.kind) (part i within)) ∙ kind))
          ∙ together slots_of (blocks_in ((inode_at inodes i).size / 4096) (bytes_of_inode contents i))
          ∙ ap (flat_map slots_of)
          (sym
          (blocks_are told layout records count inodes are fit tables keep contents well.parts well.hold i within
          (sym (ap (λ (inode : Inode). inode.kind) (part i within)) ∙ kind)))
          ∙ sym (cond-true (is_directory_part (well.parts i)) (flat_map slots_of (directory_blocks (well.parts i))) [] (eq-eqb _ _ kind)));
      others = λ i within other.
          lists.each i within
          ∙ ap (λ (blocks : List (List (Option Row))). rows_in_slots (slots_together blocks))
          (of_other i within (λ kind. other (ap (λ (inode : Inode). inode.kind) (part i within) ∙ kind)));
    }
  where
    of_directory : (i : ℕ) → i < layout.inodes → (inode_at inodes i).kind ≡ 2
        → slots_at slots i ≡ map slots_of (blocks_in ((inode_at inodes i).size / 4096) (bytes_of_inode contents i))
    of_directory i within kind = well.slots_are.each i within ∙ cond-true (eqb (inode_at inodes i).kind 2) _ _ (eq-eqb _ _ kind)

    of_other : (i : ℕ) → i < layout.inodes → (inode_at inodes i).kind ≢ 2 → slots_at slots i ≡ []
    of_other i within other = well.slots_are.each i within ∙ cond-false (eqb (inode_at inodes i).kind 2) _ _ (ne_eqb _ _ other)
