-- An image that is just made shows the root alone.
use Rattle.std.proofs.Common.{◌≡◌, ◌≢◌, ℕ, ◌/◌, ◌<◌, take, Bool, true, false, eqb, ◌&&◌, List, length, slice_index, None, option_map, is_some, refl, sym, ap, ◌∙◌, arith, inl, inr}
use Rattle.std.specs.List.{list_any}
use Rattle.std.proofs.lemmas.Bool.{cases_eq, cond_both, cond-false, ne_eqb, eq-eqb, and_left, and_right, not_from_true}
use Rattle.std.proofs.lemmas.List.{length-replicate}
use Rattle.sfs_base.specs.declared.numbers.Kind.TheVariants.{Directory}
use Rattle.sfs_image.specs.Bytes.{part, zeros}
use Rattle.sfs_image.specs.ImageOf.{IsAccepted, IsJustMade, empty_directory}
use Rattle.sfs_image.specs.Inode.{Inode, IsInode, inode_of, inode_fault}
use Rattle.sfs_image.specs.Journal.{head_of}
use Rattle.sfs_image.specs.Laws.{ShowsRootAlone}
use Rattle.sfs_image.specs.Part.{Part, inode_in, part_of, pointer_at, is_free_part, is_file_part, is_directory_part}
use Rattle.sfs_image.specs.Rules.{breaks_record, breaks_size, breaks_pointers, breaks_apart, breaks_slots, breaks_bytes_rule}
use Rattle.sfs_image.specs.Settled.{image_block, journal_slot, slot_count, table_record, settled, parts_of, slot_fault_of}
use Rattle.sfs_image.specs.Slot.{kind_byte}
use Rattle.sfs_image.specs.SlotBlock.{slots_fault}
use Rattle.sfs_image.specs.Super.{Layout, super_of, super_fault}
use Rattle.sfs_image.proofs.AcceptedLaws.{raw_of}
use Rattle.sfs_image.proofs.BytesLaws.{zeros-byte, length-zeros}
use Rattle.sfs_image.proofs.InodeLaws.{inode_fault-inode_bytes, inode_of-inode_bytes}
use Rattle.sfs_base.proofs.BasicLists.{zeros_read}
use Rattle.sfs_image.proofs.PartLaws.{holes_have_none, free_has_none}
use Rattle.sfs_image.proofs.PiecesLaws.{first_of-from}
use Rattle.sfs_image.proofs.RuleFacts.{sizes_say}
use Rattle.sfs_image.proofs.RuleLaws.{free_breaks_none, rule_from_good, rule_from_apart}
use Rattle.sfs_image.proofs.SettledLaws.{settled_tables}
use Rattle.sfs_image.proofs.SuperLaws.{super_fault-super_bytes, super_of-super_bytes}

-- an empty directory can stand in a record
empty_is_inode : IsInode empty_directory
empty_is_inode = record {
  kind = omega arith;
  links = omega arith;
  size = omega arith;
  direct_count = length-replicate {A = ℕ} 108 0;
  direct = λ k. let e = zeros_read 108 k in omega arith;
  indirect_count = length-replicate {A = ℕ} 16 0;
  indirect = λ k. let e = zeros_read 16 k in omega arith;
  free = λ none. absurd (let two : 2 ≡ 0 = none in omega arith);
}

-- nothing is wrong in a record of zeros
pub zeros_are_sound : inode_fault (zeros 512) ≡ None
unfolding zeros
zeros_are_sound = refl

module _ (layout : Layout) (image : List ℕ) (is : IsJustMade layout image) where
  -- the settled record of each inode is the table's
  settles : (i : ℕ) → settled layout image i ≡ table_record layout image i
  settles i = settled_tables layout image i (λ k h. cond-false (head_of (part 0 4096 (journal_slot layout image k))).gate _ _ (is.shut k h))

  part_is : (i : ℕ) → parts_of layout image i ≡ part_of (image_block image) (table_record layout image i)
  part_is i = ap (part_of (image_block image)) (settles i)

  -- the root
  root_reads : inode_of (table_record layout image 0) ≡ empty_directory
  root_reads = ap inode_of is.root ∙ inode_of-inode_bytes empty_directory empty_is_inode

  root_raw : (parts_of layout image 0).raw ≡ table_record layout image 0
  root_raw = ap (λ (own : Part). own.raw) (part_is 0) ∙ raw_of (image_block image) (table_record layout image 0)

  root_is : inode_in (parts_of layout image 0) ≡ empty_directory
  root_is = ap inode_of root_raw ∙ root_reads

  root_has_none : (place : ℕ) → pointer_at (parts_of layout image 0) place ≡ 0
  root_has_none place =
      ap (λ (own : Part). pointer_at own place) (part_is 0)
      ∙ holes_have_none (image_block image) (table_record layout image 0) (ap (λ (inode : Inode). inode.direct) root_reads)
      (ap (λ (inode : Inode). inode.indirect) root_reads) place

  -- the others
  other_raw : (i : ℕ) → i < layout.inodes → i ≢ 0 → (parts_of layout image i).raw ≡ zeros 512
  other_raw i h other = ap (λ (own : Part). own.raw) (part_is i) ∙ raw_of (image_block image) (table_record layout image i) ∙ is.free i h other

  other_is_free : (i : ℕ) → i < layout.inodes → i ≢ 0 → is_free_part (parts_of layout image i) ≡ true
  other_is_free i h other = eq-eqb _ 0 (ap (λ (raw : List ℕ). slice_index raw 0) (other_raw i h other) ∙ zeros-byte 512 0)

  other_has_none : (i : ℕ) → i < layout.inodes → i ≢ 0 → (place : ℕ) → pointer_at (parts_of layout image i) place ≡ 0
  other_has_none i h other place =
      let record_is = is.free i h other in
      ap (λ (own : Part). pointer_at own place) (part_is i)
      ∙ free_has_none (image_block image) (table_record layout image i) (ap length record_is ∙ length-zeros 512) (ap inode_fault record_is ∙ zeros_are_sound)
      (ap (λ (raw : List ℕ). slice_index raw 0) record_is ∙ zeros-byte 512 0) place

  -- no part has a pointer
  pub has_none : (i : ℕ) → i < layout.inodes → (place : ℕ) → pointer_at (parts_of layout image i) place ≡ 0
  has_none i h place =
      elim (cases_eq i 0) [
        | inl root ↦ ap (λ (j : ℕ). pointer_at (parts_of layout image j) place) root ∙ root_has_none place
        | inr other ↦ other_has_none i h other place
      ]

  -- nothing is wrong with the root
  root_size : (inode_in (parts_of layout image 0)).size ≡ 0
  root_size = ap (λ (inode : Inode). inode.size) root_is

  root_is_directory : is_directory_part (parts_of layout image 0) ≡ true
  root_is_directory = eq-eqb _ (kind_byte Directory) (ap (λ (inode : Inode). inode.kind) root_is)

  root_is_no_file : is_file_part (parts_of layout image 0) ≡ false
  root_is_no_file = ne_eqb _ 1 (λ one. let two : 2 ≡ 1 = sym (ap (λ (inode : Inode). inode.kind) root_is) ∙ one in omega arith)

  root_record : breaks_record (parts_of layout image 0) ≡ false
  root_record = ap (λ (raw : List ℕ). is_some (inode_fault raw)) (root_raw ∙ is.root) ∙ ap is_some (inode_fault-inode_bytes empty_directory empty_is_inode)

  root_fits : breaks_size (parts_of layout image 0) ≡ false
  root_fits = (sizes_say (parts_of layout image 0)).1 (record {
    file = λ file. let none = root_size in omega arith;
    whole = λ directory. let none = root_size in omega arith;
    few = λ directory. let none = root_size in omega arith;
  })

  root_points : breaks_pointers layout (parts_of layout image 0) ≡ false
  root_points = rule_from_good layout (parts_of layout image 0) (λ place within there. absurd (there (root_has_none place)))

  root_apart : breaks_apart (parts_of layout image) 0 ≡ false
  root_apart = rule_from_apart (parts_of layout image) 0 (λ j p q low within inside there same. absurd (there (root_has_none p)))

  root_slots : breaks_slots (parts_of layout image 0) ≡ false
  root_slots =
      and_right (is_directory_part (parts_of layout image 0)) _
      (ap (λ (size : ℕ). list_any (λ block. is_some (slots_fault block)) (take (size / 4096) (parts_of layout image 0).blocks)) root_size)

  root_rules : (rule : ℕ) → breaks_bytes_rule rule layout (parts_of layout image) 0 ≡ false
  root_rules rule =
      let Holds : Bool → Type 0 = λ b. b ≡ false in
      let own = parts_of layout image 0 in
      cond_both (eqb rule 1) _ _ Holds (λ _. root_record)
      (λ _. cond_both (eqb rule 2) _ _ Holds (λ _. and_right (eqb 0 0) _ (not_from_true (is_directory_part own) root_is_directory))
      (λ _. cond_both (eqb rule 3) _ _ Holds (λ _. root_fits)
      (λ _. cond_both (eqb rule 4) _ _ Holds (λ _. root_points)
      (λ _. cond_both (eqb rule 5) _ _ Holds (λ _. root_apart)
      (λ _. cond_both (eqb rule 6) _ _ Holds (λ _. and_left (is_file_part own && _) _ (and_left (is_file_part own) _ root_is_no_file))
      (λ _. and_right (eqb rule 7) _ root_slots))))))

  rules_kept : (rule i : ℕ) → i < layout.inodes → breaks_bytes_rule rule layout (parts_of layout image) i ≡ false
  rules_kept rule i h =
      elim (cases_eq i 0) [
        | inl root ↦ ap (breaks_bytes_rule rule layout (parts_of layout image)) root ∙ root_rules rule
        | inr other ↦ elim (cases_eq rule 1) [
          | inl first ↦ ap (λ (r : ℕ). breaks_bytes_rule r layout (parts_of layout image) i) first
              ∙ ap (λ (raw : List ℕ). is_some (inode_fault raw)) (other_raw i h other) ∙ ap is_some zeros_are_sound
          | inr later ↦ free_breaks_none rule layout (parts_of layout image) i later other (other_is_free i h other)
        ]
      ]

  is_accepted : IsAccepted layout image
  is_accepted = record {
    super = ap (super_fault (length image / 4096)) is.super ∙ super_fault-super_bytes (length image / 4096) layout is.fits;
    divided = ap super_of is.super ∙ super_of-super_bytes layout (length image / 4096) is.fits;
    journals = first_of-from (slot_count layout) (slot_fault_of layout image)
        (λ k h. ap (option_map _) (cond-false (head_of (part 0 4096 (journal_slot layout image k))).gate _ _ (is.shut k h)));
    pointers = λ i h place there. absurd (there (has_none i h place));
  }

pub just_made_shows : (layout : Layout) (image : List ℕ) → IsJustMade layout image → ShowsRootAlone layout image
just_made_shows layout image is = record {
  accepted = is_accepted layout image is;
  settles = settles layout image is;
  root = root_is layout image is;
  free = other_is_free layout image is;
  rules = rules_kept layout image is;
}
