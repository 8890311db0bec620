-- The rules across inodes in their order, by their numbers.
use Rattle.std.specs.Prelude.{◌≡◌, ℕ, ◌*◌, ◌<◌, ◌≤◌, ◌==◌, Bool, false, List, length, if◌then◌else◌}
use Rattle.sfs_base.specs.Lists.{Roomy}
use Rattle.sfs_image.specs.Inode.{Inode}
use Rattle.sfs_image.specs.Rules.{DIRECTORY_BLOCKS}
use Rattle.sfs_image.specs.Slot.{Row}
use Rattle.image_laws.specs.Slots.{BLOCK_SLOTS}
use Rattle.disk_tree.specs.First.{IsFirst}
use Rattle.disk_tree.specs.Reached.{MarksReached}
use Rattle.disk_tree.specs.Rows.{rows_of_inode}
use Rattle.disk_tree.specs.Tests.{breaks_eighth, breaks_ninth, breaks_tenth, breaks_eleventh, breaks_twelfth, breaks_thirteenth, breaks_fourteenth}

-- whether an inode breaks the rule of a number, from 8 to 14, by the inodes, the rows, and the marks of what a walk reaches
abbrev pub breaks_numbered : List Inode → List (Roomy Row) → List Bool → ℕ → ℕ → Bool
breaks_numbered inodes rows reached rule i =
    if rule == 8 then breaks_eighth rows i else
    if rule == 9 then breaks_ninth rows i else
    if rule == 10 then breaks_tenth inodes rows i else
    if rule == 11 then breaks_eleventh rows i else
    if rule == 12 then breaks_twelfth inodes rows (length inodes) i else
    if rule == 13 then breaks_thirteenth inodes rows (length inodes) i else breaks_fourteenth inodes reached i

-- no inode breaks a rule across inodes that comes before this one
abbrev pub KeepEarlier : List Inode → List (Roomy Row) → List Bool → ℕ → Type 0
KeepEarlier inodes rows reached rule =
    (earlier i : ℕ) → 8 ≤ earlier → earlier < rule → i < length inodes → breaks_numbered inodes rows reached earlier i ≡ false

-- An inode is the first that breaks a rule across inodes, and no inode breaks one that comes before it.
pub record BreaksFirst (inodes : List Inode) (rows : List (Roomy Row)) (inode rule : ℕ) : Type 0 where
  pub low : 8 ≤ rule
  pub high : rule ≤ 14
  pub reached : List Bool
  pub marks : rule ≡ 14 → MarksReached rows (length rows) reached
  pub earlier : KeepEarlier inodes rows reached rule
  pub first : IsFirst (length inodes) (breaks_numbered inodes rows reached rule) inode

-- No inode breaks a rule across inodes.
pub record KeepTreeRules (inodes : List Inode) (rows : List (Roomy Row)) : Type 0 where
  pub reached : List Bool
  pub marks : MarksReached rows (length rows) reached
  pub keep : KeepEarlier inodes rows reached 15

-- no directory has more rows than its blocks have slots
abbrev pub AreFewRows : List (Roomy Row) → Type 0
AreFewRows rows = (i : ℕ) → length (rows_of_inode rows i) ≤ BLOCK_SLOTS * DIRECTORY_BLOCKS
