-- An image whose orphans are freed has no fault, and the very same tree.
use Rattle.std.proofs.Common.{◌≡◌, ◌≢◌, ℕ, ◌+◌, ◌<◌, ◌≤◌, Bool, true, false, cond, eqb, ◌&&◌, List, Option, None, Some, refl, sym, ◌∙◌, ap, subst, arith, inl, inr}
use Rattle.std.specs.Prelude.{count_by}
use Rattle.std.specs.FinMap.{entries}
use Rattle.std.specs.Option.{is_some, is_none}
use Rattle.std.proofs.lemmas.Bool.{cases_Bool, cases_eq, eqb-true, ne_eqb}
use Rattle.sfs_base.specs.declared.numbers.Kind.TheVariants.{File}
use Rattle.sfs_base.proofs.BasicTruth.{and_first}
use Rattle.tree_laws.specs.Tree.{TreeState, count_of, holds_directory}
use Rattle.sfs_image.specs.Part.{Part, seen_of}
use Rattle.sfs_image.specs.Rules.{breaks_bytes_rule}
use Rattle.sfs_image.specs.Seen.{SeenInodes}
use Rattle.sfs_image.specs.Settled.{parts_of}
use Rattle.sfs_image.specs.Slot.{kind_byte}
use Rattle.sfs_image.specs.Super.{Layout}
use Rattle.sfs_image.specs.Inode.{inode_fault}
use Rattle.sfs_image.proofs.RuleLaws.{free_breaks_none}
use Rattle.sfs_image.proofs.JustMadeLaws.{zeros_are_sound}
use Rattle.image_laws.specs.Image.{ImageFault, inodes_shown, image_inodes, fault_of, tree_of, making_at_mount, HaveGoodBytes, HasGoodBytes}
use Rattle.image_laws.specs.ImageTree.{Making, NOTHING_MADE, image_rows, image_tree, shows_directory, tree_with_orphans}
use Rattle.image_laws.specs.Keeps.{ruled_tree}
use Rattle.image_laws.specs.Mount.{StandsByItself, own_numbers}
use Rattle.image_laws.specs.Orphans.{is_orphan, FreesOrphans, IsFreed}
use Rattle.image_laws.specs.Stands.{IsUnused, StandsForSoundTree}
use Rattle.image_laws.proofs.Alike.{tree_alike}
use Rattle.image_laws.proofs.Images.{directory_shown}
use Rattle.image_laws.proofs.Mounted.{file_is_no_directory, rules_make_standing}
use Rattle.image_laws.proofs.Orphans.{freed_orphans_keep_the_tree}
use Rattle.image_laws.proofs.WholeImages.{rule_alike, standing_images_are_read}
use Rattle.disk_tree.specs.Judged.{fault_of_parts}
use Rattle.disk_tree.specs.Shown.{AreRuled}
use Rattle.disk_tree.proofs.PartsSound.{byte_rules_kept}
use Rattle.recovery.specs.Freed.{is_unlinked, free_part, without_unlinked, AreUnlinkedFree}
use Rattle.recovery.specs.Recovered.{ShowsTheSame}
use Rattle.recovery.proofs.FreePart.{free_raw, free_is_free, free_is_unused}
use Rattle.recovery.proofs.ShownAlike.{IsReadable, making_of}

-- Parts that have no fault, and so are ruled.
pub record AreFaultless (layout : Layout) (parts : ℕ → Part) : Type 0 where
  pub ruled : AreRuled (inodes_shown layout parts)
  pub none : fault_of_parts layout parts ≡ None

module _ (layout : Layout) (parts : ℕ → Part) (are : AreFaultless layout parts) where
  abbrev shown : SeenInodes
  shown = inodes_shown layout parts

  -- an orphan is a file of link count 0
  pub orphan_is_unlinked : (i : ℕ) → i < layout.inodes → is_orphan shown i ≡ is_unlinked (parts i).raw
  orphan_is_unlinked i low = elim (cases_Bool (eqb (shown.seen i).kind (kind_byte File))) [
    | inr other ↦ ap (λ b. b && eqb (count_of (image_rows shown) i) 0) other ∙ sym (ap (λ b. b && eqb (shown.seen i).links 0) other)
    | inl file ↦
        let kind : (shown.seen i).kind ≡ kind_byte File = eqb-true _ _ file in
        let no_directory : shows_directory (shown.seen i) ≡ false = ne_eqb _ _ (λ two. file_is_no_directory (sym kind ∙ two)) in
        let in_tree = directory_shown shown NOTHING_MADE i low ∙ no_directory in
        let links : (shown.seen i).links ≡ count_of (image_rows shown) i =
        are.ruled.rules.links i low (λ none. file_used (sym kind ∙ none))
        ∙ ap (λ b. cond b (2 + count_by (holds_directory (ruled_tree shown) i) (entries (ruled_tree shown).rows)) (count_of (ruled_tree shown).rows i))
        in_tree in
        ap (λ n. eqb (shown.seen i).kind (kind_byte File) && eqb n 0) (sym links)
  ]
    where
      file_used : kind_byte File ≡ 0 → ⊥
      file_used e = omega (arith, e)

  -- the parts without orphans, in an image that settles as them
  module _ (freed : ℕ → Part) (without : AreUnlinkedFree layout parts freed) (image : List ℕ) (is : IsReadable layout image)
      (settles : (i : ℕ) → i < layout.inodes → parts_of layout image i ≡ freed i) where
    abbrev next : SeenInodes
    next = inodes_shown layout (parts_of layout image)

    cases_of : (i : ℕ) → (b : Bool) → is_unlinked (parts i).raw ≡ b → without_unlinked parts i ≡ cond b free_part (parts i)
    cases_of i b is = ap (λ b. cond b free_part (parts i)) is

    part_free : (i : ℕ) → i < layout.inodes → is_unlinked (parts i).raw ≡ true → parts_of layout image i ≡ free_part
    part_free i low unlinked = settles i low ∙ without i low ∙ cases_of i true unlinked

    part_kept : (i : ℕ) → i < layout.inodes → is_unlinked (parts i).raw ≡ false → parts_of layout image i ≡ parts i
    part_kept i low linked = settles i low ∙ without i low ∙ cases_of i false linked

    frees : FreesOrphans shown next
    frees = record {
      count = refl;
      freed = λ i low orphan. subst (λ (p : Part). IsUnused (seen_of p)) (sym (part_free i low (sym (orphan_is_unlinked i low) ∙ orphan))) free_is_unused;
      others = λ i low other. ap seen_of (part_kept i low (sym (orphan_is_unlinked i low) ∙ other));
    }

    is_freed : (making : Making) → IsFreed shown next making
    is_freed making = freed_orphans_keep_the_tree shown next making are.ruled.rules are.ruled.kinds frees

    itself : (making : Making) → StandsByItself next making
    itself making = rules_make_standing next making (is_freed making).rules (is_freed making).kinds

    no_root : is_unlinked (parts 0).raw ≡ true → ⊥
    no_root unlinked =
        let file : (shown.seen 0).kind ≡ kind_byte File =
        eqb-true _ _ (and_first (eqb (shown.seen 0).kind (kind_byte File)) (eqb (shown.seen 0).links 0) unlinked) in
        let directory = are.ruled.rules.root.1 in
        file_is_no_directory (sym file ∙ directory)

    good : (rule i : ℕ) → 1 ≤ rule → rule ≤ 7 → rule ≢ 2 → rule ≢ 5 → i < layout.inodes → breaks_bytes_rule rule layout (parts_of layout image) i ≡ false
    good rule i low high no_second no_fifth within = elim (cases_Bool (is_unlinked (parts i).raw)) [
      | inr linked ↦
          rule_alike layout (parts_of layout image) parts i (part_kept i within linked) rule no_fifth
          ∙ byte_rules_kept layout parts are.none rule i low high within
      | inl unlinked ↦ rule_alike layout (parts_of layout image) (λ _. free_part) i (part_free i within unlinked) rule no_fifth
          ∙ free_good rule (λ root. no_root (subst (λ (n : ℕ). is_unlinked (parts n).raw ≡ true) root unlinked))
    ]
      where
        free_good : (rule : ℕ) → (i ≡ 0 → ⊥) → breaks_bytes_rule rule layout (λ _. free_part) i ≡ false
        free_good rule inner = elim (cases_eq rule 1) [
          | inr later ↦ free_breaks_none rule layout (λ _. free_part) i later inner free_is_free
          | inl first ↦
              ap (λ (r : ℕ). breaks_bytes_rule r layout (λ _. free_part) i) first ∙ ap (λ (raw : List ℕ). is_some (inode_fault raw)) free_raw
              ∙ ap is_some zeros_are_sound
        ]

    stands_itself : (share : ℕ) → StandsForSoundTree (own_numbers next) (tree_with_orphans next (making_of layout share)) next
    stands_itself share = let own = itself (making_of layout share) in record { sound = own.sound; storable = own.storable; stands = own.stands }

    good_bytes : HasGoodBytes image
    good_bytes = record {
      super = is.start.super;
      journals = is.start.journals;
      parts = subst (λ (l : Layout). HaveGoodBytes l (parts_of l image)) (sym is.divided) good;
    }

    pub freed_is_faultless : fault_of image ≡ None
    freed_is_faultless =
        (standing_images_are_read image 0 (own_numbers next) (tree_with_orphans next (making_of layout 0)) good_bytes
        (subst (λ (l : Layout). StandsForSoundTree (own_numbers next) (tree_with_orphans next (making_of layout 0)) (inodes_shown l (parts_of l image)))
        (sym is.divided) (stands_itself 0))).faultless

    pub freed_tree_same : (share : ℕ) → image_tree (image_inodes image) (making_at_mount image share) ≡ image_tree shown (making_of layout share)
    freed_tree_same share =
        ap (λ (l : Layout). image_tree (inodes_shown l (parts_of l image)) (making_of l share)) is.divided
        ∙ (is_freed (making_of layout share)).tree

  -- it shows what an image shows that settles as the parts with their orphans
  pub freed_shows_the_same : (freed : ℕ → Part) → AreUnlinkedFree layout parts freed → (image other : List ℕ) → IsReadable layout image
      → IsReadable layout other
      → ((i : ℕ) → i < layout.inodes → parts_of layout image i ≡ freed i) → ((i : ℕ) → i < layout.inodes → parts_of layout other i ≡ parts i)
      → fault_of other ≡ None
      → ShowsTheSame image other
  freed_shows_the_same freed without image other one two settles was none =
      let faultless = freed_is_faultless freed without image one settles in
      record {
        fault = faultless ∙ sym none;
        tree = λ share.
            tree_there image faultless share
            ∙ ap (λ (tree : TreeState). Some tree) (freed_tree_same freed without image one settles share ∙ sym (old_tree share))
            ∙ sym (tree_there other none share);
      }
    where
      tree_there : (image : List ℕ) → fault_of image ≡ None → (share : ℕ)
          → tree_of image share ≡ Some (image_tree (image_inodes image) (making_at_mount image share))
      tree_there image none share =
          ap (λ (fault : Option ImageFault). cond (is_none fault) (Some (image_tree (image_inodes image) (making_at_mount image share))) None) none

      old_tree : (share : ℕ) → image_tree (image_inodes other) (making_at_mount other share) ≡ image_tree shown (making_of layout share)
      old_tree share =
          ap (λ (l : Layout). image_tree (inodes_shown l (parts_of l other)) (making_of l share)) two.divided
          ∙ tree_alike layout.inodes (λ i. seen_of (parts_of layout other i)) (λ i. seen_of (parts i)) (λ i low. ap seen_of (was i low))
          (making_of layout share)
