-- What the inodes of an image show, by what was read of them, and which tests the rules across inodes are then.
use Rattle.std.specs.Prelude.{◌≡◌, ◌≢◌, ℕ, ◌<◌, Bool, List, [], length, map, All, Option, None}
use Rattle.sfs_base.specs.Lists.{Roomy}
use Rattle.sfs_image.specs.Inode.{Inode, IsInode, Table, inode_of}
use Rattle.sfs_image.specs.Super.{Layout}
use Rattle.image_laws.specs.Image.{inodes_shown}
use Rattle.disk_tree.specs.Blocks.{ReadWell}
use Rattle.disk_tree.specs.Gathered.{KeepPointerRules}
use Rattle.sfs_image.specs.Seen.{SeenInodes}
use Rattle.sfs_image.specs.Slot.{Row}
use Rattle.image_laws.specs.Keeps.{KeepsRules}
use Rattle.image_laws.specs.Mount.{ShowsByKind}
use Rattle.image_laws.specs.Rules.{breaks_tree_rule}
use Rattle.disk_tree.specs.Inodes.{inode_at}
use Rattle.sfs_image.specs.Part.{Part}
use Rattle.disk_tree.specs.Judged.{AreReadParts, fault_of_parts}
use Rattle.disk_tree.specs.Rows.{AreRowLists, rows_of_inode, rows_in_slots}
use Rattle.disk_tree.specs.Tests.{breaks_eighth, breaks_ninth, breaks_tenth, breaks_eleventh, breaks_twelfth, breaks_thirteenth, breaks_fourteenth}
use Rattle.disk_tree.specs.Reached.{MarksReached}
use Rattle.disk_tree.specs.First.{NonePasses}

-- The inodes of an image are these, and the rows in their slots are these; what is no directory has none.
pub record ShowsRows (image : SeenInodes) (inodes : List Inode) (rows : List (Roomy Row)) : Type 0 where
  pub count : image.count ≡ length inodes
  pub kind : (i : ℕ) → i < image.count → (image.seen i).kind ≡ (inode_at inodes i).kind
  pub links : (i : ℕ) → i < image.count → (image.seen i).links ≡ (inode_at inodes i).links
  pub slots : (i : ℕ) → i < image.count → (image.seen i).kind ≡ 2 → rows_of_inode rows i ≡ rows_in_slots (image.seen i).slots
  pub others : (i : ℕ) → i < image.count → (image.seen i).kind ≢ 2 → rows_of_inode rows i ≡ []

-- The rules on the rows of one directory are tests on its rows; that on buckets where no directory has a name twice.
pub record AreRowTests (image : SeenInodes) (inodes : List Inode) (rows : List (Roomy Row)) : Type 0 where
  pub eighth : (i : ℕ) → i < image.count → breaks_tree_rule image 8 i ≡ breaks_eighth rows i
  pub tenth : (i : ℕ) → i < image.count → breaks_tree_rule image 10 i ≡ breaks_tenth inodes rows i
  pub eleventh : (i : ℕ) → i < image.count → breaks_tree_rule image 11 i ≡ breaks_eleventh rows i

-- What a walk over the rows finds is what the rules ask.
abbrev pub RowTestsAreRules : Type 0
RowTestsAreRules = (image : SeenInodes) (inodes : List Inode) (rows : List (Roomy Row)) → ShowsRows image inodes rows → AreRowTests image inodes rows

-- The rules that count rows are tests by the numbers that were counted, where no directory has a name twice; and that on link counts
-- where no row is misplaced.
pub record AreCountTests (image : SeenInodes) (inodes : List Inode) (rows : List (Roomy Row)) : Type 0 where
  pub ninth : (i : ℕ) → i < image.count → breaks_tree_rule image 9 i ≡ breaks_ninth rows i
  pub twelfth : (i : ℕ) → i < image.count → breaks_tree_rule image 12 i ≡ breaks_twelfth inodes rows (length inodes) i
  pub thirteenth : NonePasses image.count (breaks_tenth inodes rows) → (i : ℕ) → i < image.count
      → breaks_tree_rule image 13 i ≡ breaks_thirteenth inodes rows (length inodes) i

-- What was counted over the rows is what the rules ask.
abbrev pub CountTestsAreRules : Type 0
CountTestsAreRules = (image : SeenInodes) (inodes : List Inode) (rows : List (Roomy Row)) → ShowsRows image inodes rows → length rows ≡ length inodes
    → NonePasses image.count (breaks_eighth rows) → AreCountTests image inodes rows

-- The rule on walks from the root is a test by the marks of what a walk reaches, where the rules before it on rows hold.
abbrev pub ReachedTestIsRule : Type 0
ReachedTestIsRule =
    (image : SeenInodes) (inodes : List Inode) (rows : List (Roomy Row)) (reached : List Bool) → ShowsRows image inodes rows → length rows ≡ length inodes
    → NonePasses image.count (breaks_eighth rows) → NonePasses image.count (breaks_tenth inodes rows) → NonePasses image.count (breaks_eleventh rows)
    → NonePasses image.count (breaks_twelfth inodes rows (length inodes)) → MarksReached rows (length rows) reached → 0 < image.count → (image.seen 0).kind ≡ 2
    → (i : ℕ) → i < image.count → breaks_tree_rule image 14 i ≡ breaks_fourteenth inodes reached i

-- What was read of an image shows its rows: the parts that were read, with the rows in their slots.
abbrev pub ReadPartsShowRows : Type 0
ReadPartsShowRows =
    (told : Option (List ℕ)) (layout : Layout) (records : List (List ℕ)) (inodes : List Inode) (tables : List (Roomy Table)) (contents : List (Roomy ℕ))
    (slots : List (Roomy (List (Option Row)))) (rows : List (Roomy Row)) → length records ≡ layout.inodes → inodes ≡ map inode_of records → All IsInode inodes
    → KeepPointerRules told layout records tables → (well : ReadWell told layout records inodes tables contents slots) → AreRowLists slots layout.inodes rows
    → ShowsRows (inodes_shown layout well.parts) inodes rows

-- Inodes keep the rules, and each shows what its kind has.
pub record AreRuled (image : SeenInodes) : Type 0 where
  pub rules : KeepsRules image
  pub kinds : ShowsByKind image

-- Parts that reads gave, and that have no fault, show inodes that keep the rules.
abbrev pub FaultlessPartsAreRuled : Type 0
FaultlessPartsAreRuled =
    (told : Option (List ℕ)) (layout : Layout) (records : List (List ℕ)) (parts : ℕ → Part) → 0 < layout.inodes → AreReadParts told layout records parts
    → fault_of_parts layout parts ≡ None → AreRuled (inodes_shown layout parts)
