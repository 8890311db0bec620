-- No file of the tree of an image has more bytes than a file may have.
use Rattle.std.proofs.Common.{◌≡◌, ℕ, ◌*◌, ◌<◌, ◌≤◌, Bool, true, false, cond, List, [], length, Option, Some, None, inl, inr, refl, sym, subst, arith}
use Rattle.std.specs.Prelude.{is_none}
use Rattle.std.specs.Option.{option_map_or}
use Rattle.std.proofs.lemmas.Bool.{cases_lt}
use Rattle.sfs_base.proofs.BasicOptions.{none_some, some_same}
use Rattle.sfs_image.specs.Part.{Part, inode_in, is_file_part, file_byte, tabulate}
use Rattle.sfs_image.specs.Seen.{SeenInodes, FILE_BLOCKS}
use Rattle.sfs_image.specs.Settled.{SlotFault, layout_of, parts_of, super_fault_of, journal_fault_of}
use Rattle.sfs_image.proofs.Basics.{length-tabulate}
use Rattle.sfs_image.proofs.RuleFacts.{sizes_say}
use Rattle.tree_laws.specs.Tree.{Node}
use Rattle.image_laws.specs.Image.{image_inodes, breaks_bytes_of, ImageFault, first_of_faults, fault_of, making_at_mount}
use Rattle.image_laws.specs.ImageTree.{is_node, node_shown, image_tree}
use Rattle.image_laws.specs.Rules.{TreeFault, tree_fault, breaks_rule}
use Rattle.image_laws.proofs.Faults.{no_break}
use Rattle.image_laws.proofs.Images.{get_node, no_node_outside}
use Rattle.mark_laws.specs.Changed.{HasShortFiles}
use Rattle.mark_laws.specs.Laws.{ImagesHaveShortFiles}

module _ (image : List ℕ) where
  abbrev inodes : SeenInodes
  inodes = image_inodes image

  -- no inode of an image without a fault breaks the rule on sizes
  sizes_good : fault_of image ≡ None → (i : ℕ) → i < inodes.count → breaks_bytes_of image 3 i ≡ false
  sizes_good e i low =
      no_break (breaks_rule (breaks_bytes_of image) inodes) inodes.count
      (by (super_fault_of image) (journal_fault_of (layout_of image) image) (tree_fault (breaks_bytes_of image) inodes) e) 3 i (omega arith)
      (omega arith) low
    where
      by : (super : Option ℕ) (journal : Option SlotFault) (tree : Option TreeFault) → first_of_faults super journal tree ≡ None → tree ≡ None
      by None None None e = refl
      by (Some at) journal tree e = absurd (none_some (sym e))
      by None (Some slot) tree e = absurd (none_some (sym e))
      by None None (Some fault) e = absurd (none_some (sym e))

  shown_short : fault_of image ≡ None → (i : ℕ) → i < inodes.count → length (inodes.seen i).bytes ≤ 4096 * FILE_BLOCKS
  shown_short e i low = by (is_file_part part) refl
    where
      part : Part
      part = parts_of (layout_of image) image i

      by : (b : Bool) → is_file_part part ≡ b → length (cond b (tabulate (inode_in part).size (file_byte part)) []) ≤ 4096 * FILE_BLOCKS
      by true file =
          let short = ((sizes_say part).0 (sizes_good e i low)).file file in
          subst (λ n. n ≤ 4096 * FILE_BLOCKS) (sym (length-tabulate (inode_in part).size (file_byte part))) short
      by false none = omega arith

  -- so no node of its tree has more
  node_short : (share : ℕ) → fault_of image ≡ None → HasShortFiles (image_tree inodes (making_at_mount image share))
  node_short share e node = elim (cases_lt node inodes.count) [
    | inl low ↦
        subst (λ (o : Option Node). length (option_map_or (λ (n : Node). n.bytes) o []) ≤ 4096 * FILE_BLOCKS) (sym (get_node inodes (is_node inodes) node low))
        (chosen (is_node inodes node) (shown_short e node low))
    | inr past ↦
        subst (λ (o : Option Node). length (option_map_or (λ (n : Node). n.bytes) o []) ≤ 4096 * FILE_BLOCKS)
        (sym (no_node_outside inodes (is_node inodes) node past)) (omega arith)
  ]
    where
      chosen : (b : Bool) → length (inodes.seen node).bytes ≤ 4096 * FILE_BLOCKS
          → length (option_map_or (λ (n : Node). n.bytes) (cond b (Some (node_shown (inodes.seen node))) None) []) ≤ 4096 * FILE_BLOCKS
      chosen true short = short
      chosen false short = omega arith

pub images_have_short_files : ImagesHaveShortFiles
images_have_short_files image share tree is = by (fault_of image) refl is
  where
    by : (o : Option ImageFault) → fault_of image ≡ o → cond (is_none o) (Some (image_tree (image_inodes image) (making_at_mount image share))) None ≡ Some tree
        → HasShortFiles tree
    by None none same = subst HasShortFiles (some_same same) (node_short image share none)
    by (Some fault) some never = absurd (none_some never)
