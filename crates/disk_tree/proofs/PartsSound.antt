-- Parts that reads gave, and that have no fault, keep the rules.
use Rattle.std.proofs.Common.{◌≡◌, ℕ, ◌<◌, ◌≤◌, false, List, [], Option, None, sym, ◌∙◌, arith}
use Rattle.std.specs.Prelude.{slice_index_or}
use Rattle.sfs_image.specs.Part.{Part}
use Rattle.sfs_image.specs.Rules.{breaks_bytes_rule}
use Rattle.sfs_image.specs.Seen.{SeenInodes}
use Rattle.sfs_image.specs.Super.{Layout}
use Rattle.image_laws.specs.Image.{inodes_shown}
use Rattle.image_laws.specs.Keeps.{KeepsRules}
use Rattle.image_laws.specs.Mount.{ShowsByKind}
use Rattle.image_laws.specs.Rules.{KeepsByteRules}
use Rattle.image_laws.proofs.Faults.{no_break, no_fault_is_rules_kept}
use Rattle.image_laws.proofs.Parts.{IsWholePart, shows_by_kind, holds_apart, root_shown}
use Rattle.disk_tree.specs.Judged.{AreReadParts, fault_of_parts}
use Rattle.disk_tree.specs.Shown.{FaultlessPartsAreRuled}
use Rattle.disk_tree.proofs.PartsRead.{entry_holes}
use Rattle.disk_tree.proofs.Refusals.{breaks_of, byte_rule}

-- parts without a fault break no rule on bytes
pub byte_rules_kept : (layout : Layout) (parts : ℕ → Part) → fault_of_parts layout parts ≡ None → (rule i : ℕ) → 1 ≤ rule → rule ≤ 7 → i < layout.inodes
    → breaks_bytes_rule rule layout parts i ≡ false
byte_rules_kept layout parts none rule i low high within =
    sym (byte_rule layout parts rule i high) ∙ no_break (breaks_of layout parts) layout.inodes none rule i low (omega arith) within

module _ (told : Option (List ℕ)) (layout : Layout) (records : List (List ℕ)) (parts : ℕ → Part) (some : 0 < layout.inodes)
    (read : AreReadParts told layout records parts) (none : fault_of_parts layout parts ≡ None) where
  abbrev image : SeenInodes
  image = inodes_shown layout parts

  whole : (i : ℕ) → i < layout.inodes → IsWholePart (parts i)
  whole i within = record { blocks = (read i within).count; holes = entry_holes told (slice_index_or records i []) (parts i) (read i within) }

  kinds_shown : ShowsByKind image
  kinds_shown =
      shows_by_kind parts layout.inodes whole (λ i within. byte_rules_kept layout parts none 1 i (omega arith) (omega arith) within)
      (λ i within. byte_rules_kept layout parts none 3 i (omega arith) (omega arith) within)

  start : KeepsByteRules image
  start = record {
    root = (some, root_shown (parts 0) (byte_rules_kept layout parts none 2 0 (omega arith) (omega arith) some));
    apart =
        holds_apart parts layout.inodes whole (λ i within. byte_rules_kept layout parts none 1 i (omega arith) (omega arith) within)
        (λ i within. byte_rules_kept layout parts none 5 i (omega arith) (omega arith) within);
  }

  rules_kept : KeepsRules image
  rules_kept = (no_fault_is_rules_kept image (λ rule i. breaks_bytes_rule rule layout parts i) start (byte_rules_kept layout parts none)).0 none

pub faultless_parts_are_ruled : FaultlessPartsAreRuled
faultless_parts_are_ruled told layout records parts some read none = record {
  rules = rules_kept told layout records parts some read none;
  kinds = kinds_shown told layout records parts some read none;
}
