-- Parts that were read whole stand in blocks.
use Rattle.std.proofs.Common.{◌≡◌, ℕ, ◌+◌, ◌-◌, ◌<◌, false, List, [], Option, Some, None, is_some, inl, inr, refl, sym, ap, subst, ◌∙◌, arith, nat_lt}
use Rattle.std.specs.Prelude.{slice_index, slice_index_or}
use Rattle.std.proofs.lemmas.Bool.{cases_eq, cond-false, le-ltb}
use Rattle.sfs_base.proofs.BasicTruth.{true_not_false}
use Rattle.sfs_image.specs.ImageOf.{StandIn, ComesFrom, IsMadeOf}
use Rattle.sfs_image.specs.ImageOf.ComesFrom.{hole, written}
use Rattle.sfs_image.specs.Inode.{inode_fault, pointers_of}
use Rattle.sfs_image.specs.Part.{Part, pointer_at, content_at}
use Rattle.sfs_image.specs.Seen.{FILE_BLOCKS, PLACES}
use Rattle.sfs_image.specs.Super.{Layout}
use Rattle.sfs_image.proofs.InodeLaws.{inode_bytes-inode_of, pointers_of-zeros}
use Rattle.sfs_image.proofs.MadeLaws.{made_turns}
use Rattle.sfs_image.proofs.PartLaws.{pointer_of_table}
use Rattle.image_laws.specs.Image.{inodes_shown}
use Rattle.image_laws.specs.Stands.{HoldsApart}
use Rattle.image_laws.proofs.Parts.{IsWholePart, holds_apart}
use Rattle.disk_tree.specs.Judged.{fault_of_parts}
use Rattle.disk_tree.specs.Whole.{IsReadWhole}
use Rattle.disk_tree.proofs.PartsSound.{byte_rules_kept}
use Rattle.recovery.specs.Freed.{free_part}
use Rattle.recovery.proofs.FreePart.{free_is_gathered}
use Rattle.volume_laws.specs.Begun.{StandInBlocks}
use Rattle.volume_laws.specs.Read.{ReadPartsStand}
use Rattle.volume_laws.proofs.BlocksHeld.{block_at, all_blocks, store_of, in_all, all_stand, all_long}

-- what stands at the place of an indirect block is that
content_of_table : (part : Part) (k : ℕ) → content_at part (FILE_BLOCKS + k) ≡ slice_index_or part.tables k []
content_of_table part k =
    let back : FILE_BLOCKS + k - FILE_BLOCKS ≡ k = omega arith in
    cond-false (nat_lt (FILE_BLOCKS + k) FILE_BLOCKS) _ _ (le-ltb (FILE_BLOCKS + k) FILE_BLOCKS (omega arith))
    ∙ ap (λ (j : ℕ). slice_index_or part.tables j []) back

module _ (layout : Layout) (parts : ℕ → Part) (some : 0 < layout.inodes) (none : fault_of_parts layout parts ≡ None)
    (read : (i : ℕ) → i < layout.inodes → IsReadWhole (parts i)) where
  whole : (i : ℕ) → i < layout.inodes → IsWholePart (parts i)
  whole i low = record {
    blocks = (read i low).blocks;
    holes = λ k few empty entry.
        ap (λ (block : List ℕ). slice_index (pointers_of block) entry)
        (sym (content_of_table (parts i) k) ∙ (read i low).holes (FILE_BLOCKS + k) (omega arith) (pointer_of_table (parts i) k ∙ empty))
        ∙ pointers_of-zeros entry;
  }

  apart : HoldsApart (inodes_shown layout parts)
  apart = holds_apart parts layout.inodes whole (λ i within. byte_rules_kept layout parts none 1 i (omega arith) (omega arith) within)
      (λ i within. byte_rules_kept layout parts none 5 i (omega arith) (omega arith) within)

  abbrev pointer : ℕ → ℕ → ℕ
  pointer i place = pointer_at (parts i) place

  abbrev content : ℕ → ℕ → List ℕ
  content i place = content_at (parts i) place

  abbrev store : ℕ → List ℕ
  store = store_of layout.inodes PLACES pointer content

  stand : StandIn store (all_blocks layout.inodes PLACES pointer content)
  stand = all_stand layout.inodes PLACES pointer content
      (λ i place j other low less within inside there same. apart i place j other low less within inside there same)
      (λ i place low within empty. (read i low).holes place within empty)

  made_of : (i : ℕ) → i < layout.inodes → IsMadeOf (all_blocks layout.inodes PLACES pointer content) free_part (parts i)
  made_of i low = record {
    tables = (read i low).tables;
    blocks = (read i low).blocks;
    comes = λ place within. elim (cases_eq (pointer i place) 0) [
      | inl empty ↦
          subst (λ p. ComesFrom (all_blocks layout.inodes PLACES pointer content) free_part p (content i place)) (sym empty)
          (subst (λ bytes. ComesFrom (all_blocks layout.inodes PLACES pointer content) free_part 0 bytes) (sym ((read i low).holes place within empty)) hole)
      | inr there ↦ written (block_at layout.inodes PLACES pointer content i place) (in_all layout.inodes PLACES pointer content i place low within) there
    ];
  }

  pub stand_in_blocks : StandInBlocks store layout parts
  stand_in_blocks = record {
    gathered = λ i low. made_turns (all_blocks layout.inodes PLACES pointer content) free_part (parts i) (made_of i low) store stand (free_is_gathered store);
    records = λ i low. (read i low).record_long;
    spelled = λ i low. inode_bytes-inode_of (parts i).raw (read i low).record_long (read i low).record_bytes
        (none_of (inode_fault (parts i).raw) (byte_rules_kept layout parts none 1 i (omega arith) (omega arith) low));
    whole = λ block low high. all_long layout.inodes PLACES pointer content (λ i place less within. (read i less).long place within) block;
  }
    where
      none_of : (o : Option ℕ) → is_some o ≡ false → o ≡ None
      none_of None e = refl
      none_of (Some x) e = absurd (true_not_false e)

pub read_parts_stand : ReadPartsStand
read_parts_stand layout parts some none read = (_, stand_in_blocks layout parts some none read)
