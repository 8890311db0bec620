-- Parts without fault that stand in a store, once their orphans are freed: they show their tree, each node under its own number.
use Rattle.std.proofs.Common.{◌≡◌, ℕ, ◌<◌, Bool, true, false, cond, List, length, None, is_some, inl, inr, refl, sym, ap, subst, ◌∙◌, arith, eqb}
use Rattle.std.proofs.lemmas.Bool.{cases_Bool, cases_eq, eqb-true}
use Rattle.sfs_base.proofs.BasicTruth.{and_first}
use Rattle.sfs_base.specs.declared.numbers.Kind.TheVariants.{File}
use Rattle.sfs_image.specs.Inode.{inode_bytes, inode_fault}
use Rattle.sfs_image.specs.Part.{Part, inode_in, seen_of, IsGathered}
use Rattle.sfs_image.specs.Rules.{breaks_bytes_rule}
use Rattle.sfs_image.specs.Seen.{SeenInodes}
use Rattle.sfs_image.specs.Slot.{kind_byte}
use Rattle.sfs_image.specs.Super.{Layout}
use Rattle.sfs_image.proofs.BytesLaws.{length-zeros, zeros-byte}
use Rattle.sfs_image.proofs.InodeLaws.{inode_bytes-inode_of}
use Rattle.sfs_image.proofs.JustMadeLaws.{zeros_are_sound}
use Rattle.sfs_image.proofs.RuleLaws.{free_breaks_none}
use Rattle.image_laws.specs.Image.{inodes_shown, HaveGoodBytes}
use Rattle.image_laws.specs.ImageTree.{Making, image_tree, tree_with_orphans}
use Rattle.image_laws.specs.Mount.{ShowsByKind, StandsByItself}
use Rattle.image_laws.specs.Orphans.{FreesOrphans, IsFreed}
use Rattle.image_laws.specs.Rules.{KeepsByteRules}
use Rattle.image_laws.specs.Stands.{IsUnused}
use Rattle.image_laws.proofs.Faults.{no_fault_is_rules_kept}
use Rattle.image_laws.proofs.Mounted.{file_is_no_directory, rules_make_standing}
use Rattle.image_laws.proofs.Orphans.{freed_orphans_keep_the_tree}
use Rattle.image_laws.proofs.Parts.{IsWholePart, gathered_whole, shows_by_kind, holds_apart, root_shown}
use Rattle.image_laws.proofs.WholeImages.{rule_alike}
use Rattle.disk_tree.specs.Judged.{fault_of_parts}
use Rattle.disk_tree.specs.Shown.{AreRuled}
use Rattle.disk_tree.proofs.PartsSound.{byte_rules_kept}
use Rattle.recovery.specs.Freed.{is_unlinked, free_part, without_unlinked}
use Rattle.recovery.proofs.FreePart.{free_raw, free_is_free, free_is_unused, free_is_gathered}
use Rattle.recovery.proofs.FreedShown.{AreFaultless, orphan_is_unlinked}
use Rattle.volume_laws.specs.Begun.{StandInBlocks}

module _ (layout : Layout) (parts : ℕ → Part) (store : ℕ → List ℕ) (some : 0 < layout.inodes) (none : fault_of_parts layout parts ≡ None)
    (stand : StandInBlocks store layout parts) where
  abbrev shown : SeenInodes
  shown = inodes_shown layout parts

  abbrev linked : ℕ → Part
  linked = without_unlinked parts

  abbrev next : SeenInodes
  next = inodes_shown layout linked

  whole : (i : ℕ) → i < layout.inodes → IsWholePart (parts i)
  whole i low = subst IsWholePart (stand.gathered i low) (gathered_whole store (parts i).raw)

  kinds_shown : ShowsByKind shown
  kinds_shown = shows_by_kind parts layout.inodes whole (λ i within. byte_rules_kept layout parts none 1 i (omega arith) (omega arith) within)
      (λ i within. byte_rules_kept layout parts none 3 i (omega arith) (omega arith) within)

  start : KeepsByteRules shown
  start = record {
    root = (some, root_shown (parts 0) (byte_rules_kept layout parts none 2 0 (omega arith) (omega arith) some));
    apart = holds_apart parts layout.inodes whole (λ i within. byte_rules_kept layout parts none 1 i (omega arith) (omega arith) within)
        (λ i within. byte_rules_kept layout parts none 5 i (omega arith) (omega arith) within);
  }

  ruled : AreRuled shown
  ruled = record {
    rules =
        (no_fault_is_rules_kept shown (λ rule i. breaks_bytes_rule rule layout parts i) start (byte_rules_kept layout parts none)).0 none;
    kinds = kinds_shown;
  }

  are : AreFaultless layout parts
  are = record { ruled = ruled; none = none }

  of_test : (i : ℕ) (b : Bool) → is_unlinked (parts i).raw ≡ b → linked i ≡ cond b free_part (parts i)
  of_test i b is = ap (λ b. cond b free_part (parts i)) is

  -- what holds of the free part and of all parts holds of those without orphans
  pub each_linked : (P : Part → Type 0) → P free_part → ((i : ℕ) → i < layout.inodes → P (parts i))
      → (i : ℕ) → i < layout.inodes → P (linked i)
  each_linked P of_free of_each i low = elim (cases_Bool (is_unlinked (parts i).raw)) [
    | inl unlinked ↦ subst P (sym (of_test i true unlinked)) of_free
    | inr in_use ↦ subst P (sym (of_test i false in_use)) (of_each i low)
  ]

  frees : FreesOrphans shown next
  frees = record {
    count = refl;
    freed = λ i low orphan. subst (λ (p : Part). IsUnused (seen_of p))
        (sym (of_test i true (sym (orphan_is_unlinked layout parts are i low) ∙ orphan))) free_is_unused;
    others = λ i low other. ap seen_of (of_test i false (sym (orphan_is_unlinked layout parts are i low) ∙ other));
  }

  pub freed : (making : Making) → IsFreed shown next making
  freed making = freed_orphans_keep_the_tree shown next making ruled.rules ruled.kinds frees

  pub itself : (making : Making) → StandsByItself next making
  itself making = rules_make_standing next making (freed making).rules (freed making).kinds

  -- the tree with orphans is the tree that was shown, since no orphan is left
  pub tree_is : (making : Making) → tree_with_orphans next making ≡ image_tree shown making
  tree_is making = (itself making).shown (freed making).none_left ∙ (freed making).tree

  no_root : is_unlinked (parts 0).raw ≡ true → ⊥
  no_root unlinked =
      let file : (shown.seen 0).kind ≡ kind_byte File =
      eqb-true _ _ (and_first (eqb (shown.seen 0).kind (kind_byte File)) (eqb (shown.seen 0).links 0) unlinked) in
      file_is_no_directory (sym file ∙ ruled.rules.root.1)

  pub good : HaveGoodBytes layout linked
  good rule i low high no_second no_fifth within = elim (cases_Bool (is_unlinked (parts i).raw)) [
    | inr in_use ↦ rule_alike layout linked parts i (of_test i false in_use) rule no_fifth ∙ byte_rules_kept layout parts none rule i low high within
    | inl unlinked ↦ rule_alike layout linked (λ _. free_part) i (of_test i true unlinked) rule no_fifth
        ∙ free_good rule (λ root. no_root (subst (λ (n : ℕ). is_unlinked (parts n).raw ≡ true) root unlinked))
  ]
    where
      free_good : (rule : ℕ) → (i ≡ 0 → ⊥) → breaks_bytes_rule rule layout (λ _. free_part) i ≡ false
      free_good rule inner = elim (cases_eq rule 1) [
        | inr later ↦ free_breaks_none rule layout (λ _. free_part) i later inner free_is_free
        | inl first ↦ ap (λ (r : ℕ). breaks_bytes_rule r layout (λ _. free_part) i) first ∙ ap (λ (raw : List ℕ). is_some (inode_fault raw)) free_raw
            ∙ ap is_some zeros_are_sound
      ]

  pub stand_linked : StandInBlocks store layout linked
  stand_linked = record {
    gathered = each_linked (λ part. IsGathered store part) (free_is_gathered store) stand.gathered;
    records = each_linked (λ part. length part.raw ≡ 512) (ap length free_raw ∙ length-zeros 512) stand.records;
    spelled = each_linked (λ part. inode_bytes (inode_in part) ≡ part.raw) free_spelled stand.spelled;
    whole = stand.whole;
  }
    where
      free_spelled : inode_bytes (inode_in free_part) ≡ free_part.raw
      free_spelled =
          ap (λ (raw : List ℕ). inode_bytes (Rattle.sfs_image.specs.Inode.inode_of raw)) free_raw
          ∙ inode_bytes-inode_of (Rattle.sfs_image.specs.Bytes.zeros 512) (length-zeros 512)
          (λ k. let zero = zeros-byte 512 k in omega (arith, zero)) zeros_are_sound ∙ sym free_raw
