-- What reads gave of a disk that tells its content is the settled part of its image.
use Rattle.std.proofs.Common.{◌≡◌, ℕ, zero, suc, ◌<◌, Bool, cond, not, ◌||◌, ◌&&◌, eqb, List, [], Option, None, Some, refl, sym, ap, ◌∙◌, arith, inl, inr}
use Rattle.std.specs.Prelude.{is_none, slice_index_or}
use Rattle.std.proofs.lemmas.Bool.{cases_lt, cases_Bool, eqb-true, eqb-false}
use Rattle.std.proofs.lemmas.List.{same_lists, get_or_default}
use Rattle.sfs_image.specs.Inode.{inode_of}
use Rattle.sfs_image.specs.Part.{Part, block_pointer, is_free_part, part_of, pointer_at, read_block, seen_of}
use Rattle.sfs_image.specs.Rules.{any_below, breaks_apart, breaks_bytes_rule, is_held_before, stands_below}
use Rattle.sfs_image.specs.Seen.{FILE_BLOCKS, PLACES}
use Rattle.sfs_image.specs.Settled.{SlotFault, image_block, journal_fault_of, layout_of, parts_of, super_fault_of}
use Rattle.sfs_image.specs.Super.{Layout}
use Rattle.image_laws.specs.Image.{ImageFault, breaks_bytes_of, fault_of, first_of_faults, image_inodes, inodes_shown, making_at_mount}
use Rattle.image_laws.specs.ImageTree.{image_tree}
use Rattle.image_laws.specs.Rules.{TreeFault, tree_fault}
use Rattle.image_laws.proofs.Alike.{tree_alike, tree_rule_alike}
use Rattle.image_laws.proofs.WholeImages.{rule_alike}
use Rattle.disk_tree.specs.Found.{making_when_read}
use Rattle.disk_tree.specs.Judged.{AreReadParts, IsReadPart, fault_of_parts}
use Rattle.disk_tree.specs.KeptParts.{kept_if_used, kept_in_use}
use Rattle.disk_tree.specs.Told.{SettlesRecords, FoundIsTheImages, FaultsAreTheImages}
use Rattle.disk_tree.proofs.Refusals.{breaks_of, byte_rule, tree_rule, faults_alike, unread_is_read}
use Rattle.disk_tree.proofs.TablesRead.{filter_map_same}

-- parts of one record that reads of one content gave are one
module _ (content : List ℕ) (raw : List ℕ) (part other : Part) (read : IsReadPart (Some content) raw part) (again : IsReadPart (Some content) raw other) where
  tables_same : part.tables ≡ other.tables
  tables_same = same_lists part.tables other.tables (read.tables.count ∙ sym again.tables.count) (λ k d less.
      let within : k < 16 = (let c = read.tables.count in omega arith) in
      get_or_default part.tables k d [] less
      ∙ (read.tables.each k within).gives content refl ∙ sym ((again.tables.each k within).gives content refl)
      ∙ sym (get_or_default other.tables k d [] (let c = again.tables.count in omega arith)))

  blocks_same : part.blocks ≡ other.blocks
  blocks_same = same_lists part.blocks other.blocks (read.count ∙ sym again.count) (λ k d less.
      let within : k < FILE_BLOCKS = (let c = read.count in omega arith) in
      get_or_default part.blocks k d [] less
      ∙ (read.each k within).gives content refl
      ∙ ap (λ (tables : List (List ℕ)). read_block (image_block content) (block_pointer (inode_of raw) tables k)) tables_same
      ∙ sym ((again.each k within).gives content refl)
      ∙ sym (get_or_default other.blocks k d [] (let c = again.count in omega arith)))

  pub one_part : part ≡ other
  one_part =
      let same = read.raw_is ∙ sym again.raw_is in
      let tables = tables_same in
      let blocks = blocks_same in
      λ j. record { raw = same j; tables = tables j; blocks = blocks j }

any_same : (n : ℕ) (p q : ℕ → Bool) → ((k : ℕ) → k < n → p k ≡ q k) → any_below n p ≡ any_below n q
unfolding any_below
any_same zero p q same = refl
any_same (suc n) p q same = ap (λ b. b || p n) (any_same n p q (λ k less. same k (omega arith))) ∙ ap (λ b. any_below n q || b) (same n (omega arith))

-- parts that are the same up to the number of inodes
module _ (layout : Layout) (parts others : ℕ → Part) (same : (i : ℕ) → i < layout.inodes → parts i ≡ others i) where
  apart_alike : (i : ℕ) → i < layout.inodes → breaks_apart parts i ≡ breaks_apart others i
  apart_alike i within =
      ap (λ b. not (is_free_part (parts i)) && b) (any_same PLACES (is_held_before parts i) (is_held_before others i) (λ place inside. held place))
      ∙ ap (λ (part : Part). not (is_free_part part) && any_below PLACES (is_held_before others i)) (same i within)
    where
      held : (place : ℕ) → is_held_before parts i place ≡ is_held_before others i place
      held place =
          ap (λ b. not (eqb (pointer_at (parts i) place) 0) && (b || stands_below place (parts i) (pointer_at (parts i) place)))
          (any_same i (λ j. stands_below PLACES (parts j) (pointer_at (parts i) place)) (λ j. stands_below PLACES (others j) (pointer_at (parts i) place))
          (λ j less. ap (λ (part : Part). stands_below PLACES part (pointer_at (parts i) place)) (same j (omega arith))))
          ∙ ap (λ (part : Part). not (eqb (pointer_at part place) 0)
          && (any_below i (λ j. stands_below PLACES (others j) (pointer_at part place)) || stands_below place part (pointer_at part place)))
          (same i within)

  bytes_alike : (rule i : ℕ) → i < layout.inodes → breaks_bytes_rule rule layout parts i ≡ breaks_bytes_rule rule layout others i
  bytes_alike rule i within = elim (cases_Bool (eqb rule 5)) [
    | inr other ↦ rule_alike layout parts others i (same i within) rule (eqb-false _ _ other)
    | inl fifth ↦ (let five = eqb-true _ _ fifth in
        ap (λ (r : ℕ). breaks_bytes_rule r layout parts i) five ∙ apart_alike i within ∙ sym (ap (λ (r : ℕ). breaks_bytes_rule r layout others i) five))
  ]

  breaks_alike : (rule i : ℕ) → i < layout.inodes → breaks_of layout parts rule i ≡ breaks_of layout others rule i
  breaks_alike rule i within = elim (cases_lt 7 rule) [
    | inl tree ↦
        tree_rule layout parts rule i tree
        ∙ tree_rule_alike layout.inodes (λ k. seen_of (parts k)) (λ k. seen_of (others k)) (λ k less. ap seen_of (same k less)) rule i within
        ∙ sym (tree_rule layout others rule i tree)
    | inr byte ↦ byte_rule layout parts rule i byte ∙ bytes_alike rule i within ∙ sym (byte_rule layout others rule i byte)
  ]

  pub fault_alike : fault_of_parts layout parts ≡ fault_of_parts layout others
  fault_alike = faults_alike (breaks_of layout parts) (breaks_of layout others) layout.inodes (λ rule i within. breaks_alike rule i within)

  kept_alike : kept_in_use layout.inodes parts ≡ kept_in_use layout.inodes others
  unfolding kept_in_use
  kept_alike =
      filter_map_same (kept_if_used parts) (kept_if_used others) 0 layout.inodes
      (λ i low high. let within : i < layout.inodes = omega arith in λ j. kept_if_used (λ _. same i within j) i)

module _ (image : List ℕ) (layout : Layout) (records : List (List ℕ)) (settles : SettlesRecords image layout records) where
  pub parts_are : (parts : ℕ → Part) → AreReadParts (Some image) layout records parts → (i : ℕ) → i < layout.inodes → parts i ≡ parts_of layout image i
  parts_are parts read i within =
      one_part image (slice_index_or records i []) (parts i) (part_of (image_block image) (slice_index_or records i [])) (read i within)
      (unread_is_read (Some image) (slice_index_or records i []))
      ∙ ap (part_of (image_block image)) (settles.each i within)

  no_faults_before : (tree : Option TreeFault)
      → first_of_faults (super_fault_of image) (journal_fault_of (layout_of image) image) tree ≡ first_of_faults None None tree
  no_faults_before tree =
      ap (λ (super : Option ℕ). first_of_faults super (journal_fault_of (layout_of image) image) tree) settles.super
      ∙ ap (λ (l : Layout). first_of_faults None (journal_fault_of l image) tree) (sym settles.layout_is)
      ∙ ap (λ (journal : Option SlotFault). first_of_faults None journal tree) settles.journals

  fault_is : (parts : ℕ → Part) → AreReadParts (Some image) layout records parts → fault_of image ≡ first_of_faults None None (fault_of_parts layout parts)
  fault_is parts read =
      no_faults_before (tree_fault (breaks_bytes_of image) (image_inodes image))
      ∙ ap (λ (l : Layout). first_of_faults None None (fault_of_parts l (parts_of l image))) (sym settles.layout_is)
      ∙ ap (first_of_faults None None) (sym (fault_alike layout parts (parts_of layout image) (parts_are parts read)))

pub found_is_the_images : FoundIsTheImages
found_is_the_images image layout records found settles is =
    let none : fault_of image ≡ None = fault_is image layout records settles is.parts is.read ∙ ap (first_of_faults None None) is.faultless in
    record {
      tree =
          ap (λ (o : Option ImageFault). cond (is_none o) (Some (image_tree (image_inodes image) (making_at_mount image 0))) None) none
          ∙ ap Some
          (sym
          (is.tree
          ∙ tree_alike layout.inodes (λ k. seen_of (is.parts k)) (λ k. seen_of (parts_of layout image k))
          (λ k less. ap seen_of (parts_are image layout records settles is.parts is.read k less)) (making_when_read layout)
          ∙ ap (λ (l : Layout). image_tree (inodes_shown l (parts_of l image)) (making_when_read l)) settles.layout_is));
      kept = is.kept ∙ kept_alike layout is.parts (parts_of layout image) (parts_are image layout records settles is.parts is.read);
    }

pub faults_are_the_images : FaultsAreTheImages
faults_are_the_images image layout records inode rule settles is =
    fault_is image layout records settles is.parts is.read ∙ ap (first_of_faults None None) is.fault
