-- The places of directories as tests, by the inodes, the rows, and the entries of a certificate.
use Rattle.std.specs.Prelude.{ℕ, suc, ◌==◌, ◌&&◌, ◌||◌, not, nat_lt, is_some, Bool, false, List, length}
use Rattle.std.specs.List.{list_any}
use Rattle.std.specs.Option.{option_map_or}
use Rattle.sfs_base.specs.Lists.{Roomy}
use Rattle.sfs_image.specs.Inode.{Inode}
use Rattle.sfs_image.specs.Rules.{any_below}
use Rattle.sfs_image.specs.Slot.{Row}
use Rattle.keyed_list.specs.Ascending.{item_with}
use Rattle.tree_laws.specs.Tree.{is_directory_kind}
use Rattle.disk_tree.specs.Inodes.{inode_at}
use Rattle.disk_tree.specs.Rows.{naming_below, rows_of_inode}
use Rattle.image_check.specs.Entries.{holder_inode}
use Rattle.image_check.specs.Holders.{depth_by}
use Rattle.image_check.specs.declared.certificate.Holder.{Holder}

-- whether an inode is a directory and not the root
abbrev pub is_below_root : List Inode → ℕ → Bool
is_below_root inodes i = nat_lt i (length inodes) && ((inode_at inodes i).kind == 2 && not (i == 0))

-- whether an entry lies one deeper than its holder
abbrev pub lies_one_deeper : List Holder → Holder → Bool
lies_one_deeper holders h = option_map_or (λ depth. suc depth == h.depth) (depth_by holders h.holder) false

-- whether an entry is of no directory below the root, or does not lie one deeper than its holder
abbrev pub is_off : List Inode → List Holder → Holder → Bool
is_off inodes holders h = not (is_below_root inodes h.inode) || not (lies_one_deeper holders h)

-- whether a directory below the root has no entry, or is not named by one row
abbrev pub is_unplaced : List Inode → List (Roomy Row) → List Holder → ℕ → Bool
is_unplaced inodes rows holders i =
    is_below_root inodes i && (not (is_some (item_with holder_inode i holders)) || not (naming_below rows (length inodes) i == 1))

-- whether a row of a directory names a directory and stands in another one than its holder
abbrev pub is_elsewhere : List Holder → ℕ → Row → Bool
is_elsewhere holders directory row =
    is_directory_kind row.kind && not (option_map_or (λ h. h.holder == directory) (item_with holder_inode row.inode holders) false)

-- whether entries tell the places of all directories
abbrev pub are_places : List Inode → List (Roomy Row) → List Holder → Bool
are_places inodes rows holders =
    not (list_any (is_off inodes holders) holders)
    && (not (any_below (length inodes) (is_unplaced inodes rows holders))
    && not (any_below (length rows) (λ directory. list_any (is_elsewhere holders directory) (rows_of_inode rows directory))))
