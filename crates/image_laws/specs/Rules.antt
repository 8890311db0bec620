-- The rules across inodes as tests, by their numbers, and the first fault of an image's inodes.
use Rattle.std.specs.Prelude.{ℕ, ◌==◌, ◌||◌, ◌&&◌, Bool, not, false, nat_lt, Option, option_map, filter_map, slice_get, if◌then◌else◌, ◌≡◌, ◌<◌, ◌≤◌, true, Some, None}
use Rattle.std.specs.List.{range_with_len, list_any, find}
use Rattle.std.specs.Option.{option_map_or}
use Rattle.std.specs.FinMap.{len}
use Rattle.tree_laws.specs.Tree.{BUCKET_ROWS, count_of, links_of, bucket_rows, lies_below}
use Rattle.sfs_image.specs.Slot.{Row, kind_byte}
use Rattle.sfs_image.specs.Seen.{SeenInodes}
use Rattle.image_laws.specs.Slots.{name_count}
use Rattle.image_laws.specs.ImageTree.{shows_directory, is_used, image_rows}
use Rattle.image_laws.specs.Stands.{HoldsApart}
use Rattle.image_laws.specs.Keeps.{ruled_tree, IsDirectoryInode}

-- whether a row in a slot of an inode passes a test
abbrev pub some_row : SeenInodes → ℕ → (Row → Bool) → Bool
some_row image i test = list_any (λ slot. option_map_or test slot false) (image.seen i).slots

-- whether a directory has one name twice
abbrev pub has_name_twice : SeenInodes → ℕ → Bool
has_name_twice image i = some_row image i (λ row. nat_lt 1 (name_count row.name (image.seen i).slots))

-- whether it has more rows in a bucket than a bucket may have
abbrev pub has_overfull_bucket : SeenInodes → ℕ → Bool
has_overfull_bucket image i = list_any (λ number. nat_lt BUCKET_ROWS (len (bucket_rows i number (image_rows image)))) (range_with_len 0 8)

-- whether a row's inode is beyond the last one, free, or of another kind than the row
abbrev pub is_misplaced : SeenInodes → Row → Bool
is_misplaced image row = not (nat_lt row.inode image.count) || not ((image.seen row.inode).kind == kind_byte row.kind)

-- whether a directory has a row whose inode is beyond the last one, free, or of another kind
abbrev pub has_misplaced_row : SeenInodes → ℕ → Bool
has_misplaced_row image i = some_row image i (is_misplaced image)

-- whether it has a row that names the root
abbrev pub names_root : SeenInodes → ℕ → Bool
names_root image i = some_row image i (λ row. row.inode == 0)

-- whether more than one row names an inode
abbrev pub is_named_twice : SeenInodes → ℕ → Bool
is_named_twice image i = nat_lt 1 (count_of (image_rows image) i)

-- whether an inode's link count is another than in the tree
abbrev pub has_wrong_links : SeenInodes → ℕ → Bool
has_wrong_links image i = not ((image.seen i).links == links_of (ruled_tree image) i)

-- whether no walk from the root reaches a directory
abbrev pub is_unreached : SeenInodes → ℕ → Bool
is_unreached image i = not (i == 0 || lies_below (ruled_tree image) i 0)

-- whether an inode breaks a rule from the eighth on; the rules on directories speak of directories alone, and that on link counts of
-- inodes in use
abbrev pub breaks_tree_rule : SeenInodes → ℕ → ℕ → Bool
breaks_tree_rule image rule i =
    if rule == 8 then shows_directory (image.seen i) && has_name_twice image i else
    if rule == 9 then shows_directory (image.seen i) && has_overfull_bucket image i else
    if rule == 10 then shows_directory (image.seen i) && has_misplaced_row image i else
    if rule == 11 then shows_directory (image.seen i) && names_root image i else
    if rule == 12 then shows_directory (image.seen i) && is_named_twice image i else
    if rule == 13 then is_used image i && has_wrong_links image i else
    if rule == 14 then shows_directory (image.seen i) && is_unreached image i else false

-- how many rules there are
abbrev pub RULES : ℕ
RULES = 14

-- how many of them, the first ones, speak of the bytes of an inode and of the blocks that it holds
abbrev pub BYTE_RULES : ℕ
BYTE_RULES = 7

-- a fault among inodes: the rule that is broken, from 1 on, and the inode that breaks it
pub record TreeFault : Type 0 where
  pub rule : ℕ
  pub inode : ℕ

-- the least inode that breaks a rule, as a fault
abbrev pub fault_by : (ℕ → ℕ → Bool) → ℕ → ℕ → Option TreeFault
fault_by breaks count rule = option_map (λ i. record { rule = rule; inode = i }) (find (breaks rule) (range_with_len 0 count))

-- the first fault: of the least rule that an inode breaks, and of that the least inode
abbrev pub first_fault : (ℕ → ℕ → Bool) → ℕ → Option TreeFault
first_fault breaks count = slice_get (filter_map (fault_by breaks count) (range_with_len 1 RULES)) 0

-- A fault is the first: its inode breaks its rule, no inode breaks a lesser rule, and no lesser inode breaks its own.
pub record IsLeastFault (breaks : ℕ → ℕ → Bool) (count : ℕ) (fault : TreeFault) : Type 0 where
  pub rule_low : 1 ≤ fault.rule
  pub rule_high : fault.rule ≤ RULES
  pub within : fault.inode < count
  pub breaks_it : breaks fault.rule fault.inode ≡ true
  pub lesser_rules : (rule i : ℕ) → 1 ≤ rule → rule < fault.rule → i < count → breaks rule i ≡ false
  pub lesser_inodes : (i : ℕ) → i < fault.inode → breaks fault.rule i ≡ false

-- what a search for a fault finds: the first one, or none where no inode breaks a rule
abbrev pub FindsFault : (ℕ → ℕ → Bool) → ℕ → Option TreeFault → Type 0
FindsFault breaks count None = (rule i : ℕ) → 1 ≤ rule → rule ≤ RULES → i < count → breaks rule i ≡ false
FindsFault breaks count (Some fault) = IsLeastFault breaks count fault

-- whether an inode breaks a rule, where the rules on bytes are given
abbrev pub breaks_rule : (ℕ → ℕ → Bool) → SeenInodes → ℕ → ℕ → Bool
breaks_rule breaks_byte_rule image rule i = if nat_lt BYTE_RULES rule then breaks_tree_rule image rule i else breaks_byte_rule rule i

-- the first fault of an image's inodes
abbrev pub tree_fault : (ℕ → ℕ → Bool) → SeenInodes → Option TreeFault
tree_fault breaks_byte_rule image = first_fault (breaks_rule breaks_byte_rule image) image.count

-- What the rules on bytes say that the rules across inodes build on: the root is a directory, and no block is held twice.
pub record KeepsByteRules (image : SeenInodes) : Type 0 where
  pub root : IsDirectoryInode image 0
  pub apart : HoldsApart image
