-- The rules across inodes as tests, by the inodes, the rows and what was counted.
use Rattle.std.specs.Prelude.{ℕ, ◌+◌, ◌==◌, ◌&&◌, nat_lt, not, bytes_eq, Bool, List, count_by, if◌then◌else◌}
use Rattle.std.specs.List.{list_any}
use Rattle.sfs_base.specs.Lists.{Roomy}
use Rattle.sfs_image.specs.Inode.{Inode}
use Rattle.sfs_image.specs.Slot.{Row}
use Rattle.disk_tree.specs.Apart.{is_marked}
use Rattle.disk_tree.specs.Inodes.{inode_at}
use Rattle.disk_tree.specs.Rows.{rows_of_inode, has_full_bucket, is_misplaced_by, naming_below, directory_row_count}

-- how many of some rows have a name
abbrev pub rows_named : List ℕ → List Row → ℕ
rows_named name rows = count_by (λ row. bytes_eq name row.name) rows

-- whether two rows have one name
abbrev pub has_twice : List Row → Bool
has_twice rows = list_any (λ row. nat_lt 1 (rows_named row.name rows)) rows

-- rule 8: two rows have one name
abbrev pub breaks_eighth : List (Roomy Row) → ℕ → Bool
breaks_eighth rows i = has_twice (rows_of_inode rows i)

-- rule 9: a bucket is too full
abbrev pub breaks_ninth : List (Roomy Row) → ℕ → Bool
breaks_ninth rows i = has_full_bucket (rows_of_inode rows i)

-- rule 10: a row's inode is beyond the last one, free, or of another kind
abbrev pub breaks_tenth : List Inode → List (Roomy Row) → ℕ → Bool
breaks_tenth inodes rows i = list_any (is_misplaced_by inodes) (rows_of_inode rows i)

-- rule 11: a row names the root
abbrev pub breaks_eleventh : List (Roomy Row) → ℕ → Bool
breaks_eleventh rows i = list_any (λ row. row.inode == 0) (rows_of_inode rows i)

-- rule 12: two rows name a directory, of the rows of the first n inodes
abbrev pub breaks_twelfth : List Inode → List (Roomy Row) → ℕ → ℕ → Bool
breaks_twelfth inodes rows n i = (inode_at inodes i).kind == 2 && nat_lt 1 (naming_below rows n i)

-- the link count of an inode is another than by its own rows and the number of rows that name it
abbrev pub wrong_links : Inode → List Row → ℕ → Bool
wrong_links inode rows named = not (inode.kind == 0) && not (inode.links == (if inode.kind == 2 then 2 + directory_row_count rows else named))

-- rule 13: an inode in use has a wrong link count
abbrev pub breaks_thirteenth : List Inode → List (Roomy Row) → ℕ → ℕ → Bool
breaks_thirteenth inodes rows n i = wrong_links (inode_at inodes i) (rows_of_inode rows i) (naming_below rows n i)

-- rule 14: no walk from the root reaches a directory
abbrev pub breaks_fourteenth : List Inode → List Bool → ℕ → Bool
breaks_fourteenth inodes reached i = (inode_at inodes i).kind == 2 && not (is_marked reached i)
