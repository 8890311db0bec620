-- When a certificate is valid for an image.
use Rattle.std.specs.Prelude.{◌≡◌, ℕ, ◌<◌, ◌≤◌, ◌==◌, ◌||◌, ◌&&◌, not, Bool, false, List, None, count_by}
use Rattle.std.specs.List.{range_with_len}
use Rattle.tree_laws.specs.Tree.{count_of}
use Rattle.sfs_image.specs.Seen.{SeenInodes}
use Rattle.sfs_image.specs.Settled.{layout_of, super_fault_of, journal_fault_of}
use Rattle.image_laws.specs.Image.{breaks_bytes_of, image_inodes}
use Rattle.image_laws.specs.ImageTree.{image_rows, shows_file}
use Rattle.image_laws.specs.Rules.{RULES, breaks_rule}
use Rattle.image_check.specs.Holders.{AreHolders}
use Rattle.image_check.specs.Owners.{AreOwners}
use Rattle.image_check.specs.declared.certificate.Certificate.{Certificate}

-- the rule that no block is held twice
abbrev pub APART_RULE : ℕ
APART_RULE = 5

-- the rule that one row at most names a directory
abbrev pub NAMED_ONCE_RULE : ℕ
NAMED_ONCE_RULE = 12

-- the rule that a walk from the root reaches each directory
abbrev pub REACHED_RULE : ℕ
REACHED_RULE = 14

-- whether a rule is one that the entries of a certificate stand for
abbrev pub is_certified_rule : ℕ → Bool
is_certified_rule rule = rule == APART_RULE || rule == NAMED_ONCE_RULE || rule == REACHED_RULE

-- whether an inode is a file that a row names
abbrev pub is_named_file : SeenInodes → ℕ → Bool
is_named_file image i = shows_file (image.seen i) && not (count_of (image_rows image) i == 0)

-- how many files a row names
abbrev pub named_files : SeenInodes → ℕ
named_files image = count_by (is_named_file image) (range_with_len 0 image.count)

-- A certificate is valid for an image: no byte of the superblock or of a journal is wrong, no inode breaks a rule but one that the
-- entries stand for, the entries tell the places of all directories and the owners of all blocks, and the number is that of the files
-- that a row names.
pub record IsValid (image : List ℕ) (cert : Certificate) : Type 0 where
  pub super : super_fault_of image ≡ None
  pub journals : journal_fault_of (layout_of image) image ≡ None
  pub rules : (rule i : ℕ) → 1 ≤ rule → rule ≤ RULES → is_certified_rule rule ≡ false → i < (layout_of image).inodes
      → breaks_rule (breaks_bytes_of image) (image_inodes image) rule i ≡ false
  pub holders : AreHolders (image_inodes image) cert.holders.items
  pub owners : AreOwners (image_inodes image) cert.owners.items
  pub files : cert.files ≡ named_files (image_inodes image)
