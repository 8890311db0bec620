-- How the first fault of parts is found: rule by rule.
use Rattle.std.proofs.Common.{arith, ◌⊎◌, ◌≡◌, ℕ, ◌+◌, ◌*◌, ◌<◌, ◌≤◌, Bool, false, length, ltb, List, Option, None, Some, refl, sym, ap, subst, ◌∙◌, inl, inr}
use Rattle.std.specs.Prelude.{slice_index}
use Rattle.std.proofs.lemmas.Bool.{cases_eq, cases_order, cond-true, cond-false, lt-ltb, le-ltb}
use Rattle.sfs_base.proofs.BasicTruth.{not_both_of}
use Rattle.sfs_dev.specs.Steps.{IfTold}
use Rattle.sfs_image.specs.Bytes.{zeros}
use Rattle.sfs_image.specs.Inode.{inode_of}
use Rattle.sfs_image.specs.Part.{Part, part_of, block_pointer, read_block}
use Rattle.sfs_image.specs.Rules.{breaks_bytes_rule}
use Rattle.sfs_image.specs.Settled.{image_block}
use Rattle.sfs_image.specs.Seen.{FILE_BLOCKS}
use Rattle.sfs_image.specs.Super.{Layout}
use Rattle.sfs_image.proofs.Basics.{length-tabulate}
use Rattle.sfs_image.proofs.BytesLaws.{length-part, length-zeros}
use Rattle.sfs_image.proofs.PartLaws.{block_behind, block_is_read, table_is_read, pointer_of_block, pointer_of_table, hole_is_read}
use Rattle.sfs_image.proofs.PiecesLaws.{length-u32s_at}
use Rattle.std.proofs.lemmas.List.{length-map}
use Rattle.image_laws.specs.Image.{inodes_shown}
use Rattle.image_laws.specs.Rules.{TreeFault, BYTE_RULES, RULES, breaks_tree_rule, breaks_rule, first_fault, FindsFault, IsLeastFault}
use Rattle.image_laws.proofs.FirstFault.{first_fault_is_least}
use Rattle.disk_tree.specs.First.{IsFirst}
use Rattle.disk_tree.specs.Reading.{IsReadBlock}
use Rattle.disk_tree.specs.Judged.{IsReadPart, AreReadParts, fault_of_parts, Refused}

-- a fault that is the least is found
module _ (breaks : ℕ → ℕ → Bool) (count : ℕ) (fault : TreeFault) (least : IsLeastFault breaks count fault) where
  same_fault : (other : TreeFault) → IsLeastFault breaks count other → other ≡ fault
  same_fault other found = by_rule (cases_order other.rule fault.rule)
    where
      by_inode : other.rule ≡ fault.rule → (other.inode ≡ fault.inode) ⊎ ((other.inode < fault.inode) ⊎ (fault.inode < other.inode)) → other ≡ fault
      by_inode rule (inl inode) = λ i. record { rule = rule i; inode = inode i }
      by_inode rule (inr (inl less)) =
          absurd
          (not_both_of (breaks fault.rule other.inode) (sym (ap (λ r. breaks r other.inode) rule) ∙ found.breaks_it) (least.lesser_inodes other.inode less))
      by_inode rule (inr (inr more)) =
          absurd (not_both_of (breaks other.rule fault.inode) (ap (λ r. breaks r fault.inode) rule ∙ least.breaks_it) (found.lesser_inodes fault.inode more))

      by_rule : (other.rule ≡ fault.rule) ⊎ ((other.rule < fault.rule) ⊎ (fault.rule < other.rule)) → other ≡ fault
      by_rule (inl rule) = by_inode rule (cases_order other.inode fault.inode)
      by_rule (inr (inl less)) =
          absurd (not_both_of (breaks other.rule other.inode) found.breaks_it (least.lesser_rules other.rule other.inode found.rule_low less found.within))
      by_rule (inr (inr more)) =
          absurd (not_both_of (breaks fault.rule fault.inode) least.breaks_it (found.lesser_rules fault.rule fault.inode least.rule_low more least.within))

  least_is_found : first_fault breaks count ≡ Some fault
  least_is_found = by (first_fault breaks count) (first_fault_is_least breaks count)
    where
      by : (o : Option TreeFault) → FindsFault breaks count o → o ≡ Some fault
      by None none =
          absurd (not_both_of (breaks fault.rule fault.inode) least.breaks_it (none fault.rule fault.inode least.rule_low least.rule_high least.within))
      by (Some other) found = ap Some (same_fault other found)

-- where no rule is broken nothing is found
none_is_found : (breaks : ℕ → ℕ → Bool) (count : ℕ) → ((rule i : ℕ) → 1 ≤ rule → rule ≤ RULES → i < count → breaks rule i ≡ false)
    → first_fault breaks count ≡ None
none_is_found breaks count keep = by (first_fault breaks count) (first_fault_is_least breaks count)
  where
    by : (o : Option TreeFault) → FindsFault breaks count o → o ≡ None
    by None none = refl
    by (Some fault) found =
        absurd (not_both_of (breaks fault.rule fault.inode) found.breaks_it (keep fault.rule fault.inode found.rule_low found.rule_high found.within))

-- where the same rules are broken the same fault is found
pub faults_alike : (breaks others : ℕ → ℕ → Bool) (count : ℕ) → ((rule i : ℕ) → i < count → breaks rule i ≡ others rule i)
    → first_fault breaks count ≡ first_fault others count
faults_alike breaks others count same = by (first_fault breaks count) (first_fault_is_least breaks count)
  where
    by : (o : Option TreeFault) → FindsFault breaks count o → o ≡ first_fault others count
    by None none = sym (none_is_found others count (λ rule i low high within. sym (same rule i within) ∙ none rule i low high within))
    by (Some fault) found = sym (least_is_found others count fault (record {
      rule_low = found.rule_low;
      rule_high = found.rule_high;
      within = found.within;
      breaks_it = sym (same fault.rule fault.inode found.within) ∙ found.breaks_it;
      lesser_rules = λ rule i low less within. sym (same rule i within) ∙ found.lesser_rules rule i low less within;
      lesser_inodes = λ i less. sym (same fault.rule i (let w = found.within in omega arith)) ∙ found.lesser_inodes i less;
    }))

-- whether an inode of parts breaks a rule
abbrev pub breaks_of : Layout → (ℕ → Part) → ℕ → ℕ → Bool
breaks_of layout parts = breaks_rule (λ rule i. breaks_bytes_rule rule layout parts i) (inodes_shown layout parts)

pub byte_rule : (layout : Layout) (parts : ℕ → Part) (rule i : ℕ) → rule ≤ 7 → breaks_of layout parts rule i ≡ breaks_bytes_rule rule layout parts i
byte_rule layout parts rule i le = cond-false (ltb BYTE_RULES rule) _ _ (le-ltb BYTE_RULES rule le)

pub tree_rule : (layout : Layout) (parts : ℕ → Part) (rule i : ℕ) → 7 < rule
    → breaks_of layout parts rule i ≡ breaks_tree_rule (inodes_shown layout parts) rule i
tree_rule layout parts rule i more = cond-true (ltb BYTE_RULES rule) _ _ (lt-ltb BYTE_RULES rule more)

-- the first inode that breaks a rule, where no inode breaks a lesser one, is the first fault
pub refused_at : (told : Option (List ℕ)) (layout : Layout) (records : List (List ℕ)) (parts : ℕ → Part) (rule i : ℕ) → AreReadParts told layout records parts →
    1 ≤ rule → rule ≤ 14 → ((lesser j : ℕ) → 1 ≤ lesser → lesser < rule → j < layout.inodes → breaks_of layout parts lesser j ≡ false) →
    IsFirst layout.inodes (breaks_of layout parts rule) i → Refused told layout records i rule
refused_at told layout records parts rule i read low high lesser first = record {
  parts = parts;
  read = read;
  fault = least_is_found (breaks_of layout parts) layout.inodes (record { rule = rule; inode = i }) (record {
    rule_low = low;
    rule_high = high;
    within = first.within;
    breaks_it = first.passes;
    lesser_rules = λ r j some less within. lesser r j some less within;
    lesser_inodes = first.before;
  });
}

-- where no inode breaks a rule there is no fault
pub kept_all : (layout : Layout) (parts : ℕ → Part) → ((rule j : ℕ) → 1 ≤ rule → rule ≤ 14 → j < layout.inodes → breaks_of layout parts rule j ≡ false) →
    fault_of_parts layout parts ≡ None
kept_all layout parts keep = none_is_found (breaks_of layout parts) layout.inodes keep

-- what a disk that tells nothing may have: zeros
abbrev pub store_of : Option (List ℕ) → ℕ → List ℕ
store_of None = λ _. zeros 4096
store_of (Some content) = image_block content

-- a block of such a disk, or of one whose content goes on behind it, has 4,096 bytes
stored_long : (told : Option (List ℕ)) (pointer : ℕ) → IfTold told (λ content. 4096 * (pointer + 1) ≤ length content) → length (store_of told pointer) ≡ 4096
stored_long None pointer lies = length-zeros 4096
stored_long (Some content) pointer lies = let within = lies content refl in length-part (4096 * pointer) 4096 content (omega arith)

pub store_reads : (told : Option (List ℕ)) (pointer : ℕ) → IsReadBlock told pointer (read_block (store_of told) pointer)
store_reads told pointer = record {
  hole = λ none. hole_is_read (store_of told) pointer none;
  gives = λ content same. ap (λ (t : Option (List ℕ)). read_block (store_of t) pointer) same;
  long = λ lies. elim (cases_eq pointer 0) [
    | inl none ↦ ap length (hole_is_read (store_of told) pointer none) ∙ length-zeros 4096
    | inr there ↦ ap length (block_behind (store_of told) pointer there) ∙ stored_long told pointer lies
  ];
}

-- the part of a record of which nothing was read
pub unread_is_read : (told : Option (List ℕ)) (raw : List ℕ) → IsReadPart told raw (part_of (store_of told) raw)
unfolding part_of
unread_is_read told raw =
    let store = store_of told in
    record {
      raw_is = refl;
      tables = record {
        count = length-map (inode_of raw).indirect (read_block store) ∙ length-u32s_at 448 16 raw;
        each = λ k small. subst (IsReadBlock told (slice_index (inode_of raw).indirect k))
            (sym (table_is_read store raw k small ∙ ap (read_block store) (pointer_of_table (part_of store raw) k)))
            (store_reads told (slice_index (inode_of raw).indirect k));
      };
      count = length-tabulate FILE_BLOCKS _;
      each = λ n below. subst (IsReadBlock told (block_pointer (inode_of raw) (part_of store raw).tables n))
          (sym (block_is_read store raw n below ∙ ap (read_block store) (pointer_of_block (part_of store raw) n below)))
          (store_reads told (block_pointer (inode_of raw) (part_of store raw).tables n));
    }
