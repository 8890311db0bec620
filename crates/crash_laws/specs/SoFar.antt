-- What a crash leaves of a run so far.
use Rattle.std.specs.Prelude.{ℕ, ◌≤◌, Bool, List}
use Rattle.sfs_dev.specs.Disk.{View, images}
use Rattle.sfs_dev.specs.Steps.{IfTold}
use Rattle.tree_laws.specs.declared.history.Entry.{Entry}
use Rattle.tree_laws.specs.Tree.{TreeState}
use Rattle.cut_laws.specs.Closure.{every_entry, Flush, AreFlushed}
use Rattle.cut_laws.specs.Covers.{IsAcknowledged}
use Rattle.cut_laws.specs.Cut.{Cut, tree_at_cut}
use Rattle.cut_laws.specs.Rules.{IsOneOf}
use Rattle.image_laws.specs.Image.{IsReadAsTree}
use Rattle.crash_laws.specs.Listed.{AreListed, IsAcknowledgedBy}

-- An image that a crash at a moment may leave is read as the tree at a cut that listed fsyncs of the history have raised.
pub record IsAtACut (share : ℕ) (first : TreeState) (history : List Entry) (moment : ℕ) (image : List ℕ) : Type 0 where
  pub flushes : List Flush
  pub cut : Cut
  pub inodes : ℕ → Bool
  pub listed : AreListed history moment flushes
  pub flushed : AreFlushed first history every_entry flushes cut inodes
  pub read : IsReadAsTree image share (tree_at_cut first history cut)

-- Every image that a crash at a moment since `from` may leave is at a cut.
abbrev pub SoFar : ℕ → ℕ → TreeState → List Entry → View → Type 0
SoFar share from first history disk =
    (k : ℕ) (image : List ℕ) → from ≤ k → k ≤ disk.now → disk.crash_images k image → IsAtACut share first history k image

-- A disk holds a tree: it is what is read of each image that a crash now may leave, and what a read gives, where the disk tells it.
pub record HoldsTree (share : ℕ) (tree : TreeState) (disk : View) : Type 0 where
  pub left : (image : List ℕ) → images disk image → IsReadAsTree image share tree
  pub told : IfTold disk.content (λ content. IsReadAsTree content share tree)

-- What is known while no commit has failed: the fsyncs of a list have raised the cut, whatever moment is looked at they are listed, they
-- and no others were acknowledged by now, and the disk holds the tree at the cut.
pub record Stands (share : ℕ) (first : TreeState) (history : List Entry) (flushes : List Flush) (cut : Cut)
    (inodes : ℕ → Bool) (disk : View) : Type 0 where
  pub flushed : AreFlushed first history every_entry flushes cut inodes
  pub listed : (moment : ℕ) → AreListed history moment flushes
  pub each_acked : (flush : Flush) → IsOneOf flushes flush → IsAcknowledgedBy history disk.now flush
  pub acked_by_now : (flush : Flush) (ack : ℕ) → IsAcknowledged history flush ack → ack ≤ disk.now
  pub holds : HoldsTree share (tree_at_cut first history cut) disk

-- Both: what a crash may have left so far, and what stands now.
pub record StandsSoFar (share from : ℕ) (first : TreeState) (history : List Entry) (flushes : List Flush) (cut : Cut)
    (inodes : ℕ → Bool) (disk : View) : Type 0 where
  pub so_far : SoFar share from first history disk
  pub stands : Stands share first history flushes cut inodes disk
