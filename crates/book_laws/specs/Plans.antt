-- That a plan stays one while others become durable.
use Rattle.std.specs.Prelude.{◌≡◌, ℕ, ◌*◌, ◌<◌, ◌≤◌, Bool, true, false, List, length, Contains}
use Rattle.sfs_image.specs.Seen.{FILE_BLOCKS}
use Rattle.tree_laws.specs.declared.history.Entry.{Entry}
use Rattle.tree_laws.specs.Tree.{TreeState, bytes_of, is_directory}
use Rattle.image_laws.specs.Stands.{BLOCK_BYTES}
use Rattle.disk_change.specs.Directory.{is_among}
use Rattle.disk_change.specs.declared.files.FileChange.{FileChange}
use Rattle.commit_laws.specs.CommitOfPlan.{CommitPlan, has_inode_then}
use Rattle.commit_laws.specs.Rewritten.{has_page}
use Rattle.cut_laws.specs.Closure.{Flush}
use Rattle.cut_laws.specs.Cut.{Cut, cut_of, tree_at_cut}
use Rattle.flush_laws.specs.Planned.{HasNets, HasMoves, HasFiles}
use Rattle.turn_laws.specs.Touched.{is_touched_between}
use Rattle.book_laws.specs.BringingLaws.{TwoFsyncs, AreBeside, MadeOver, MadeBefore, MadeBehind, MakesTheSame}

-- A plan leads from the tree at a cut to that at the cut which an fsync raises: it has the nets of its directories, the nodes that get and lose an
-- inode, and what becomes of files; it changes only files that the fsync concerns, and of each that then has an inode it has a page of each block that a
-- change touches between the two cuts, and of no other.
pub record LeadsOver {first : TreeState} {history : List Entry} {cut : Cut} {inodes : ℕ → Bool} {flush : Flush}
    (made : MadeOver first history cut inodes flush) (plan : CommitPlan) : Type 0 where
  pub nets : HasNets (tree_at_cut first history cut) (tree_at_cut first history made.raised) plan.nets
  pub moves : HasMoves (tree_at_cut first history made.raised) inodes made.after plan
  pub files : HasFiles made.nodes (tree_at_cut first history cut) (tree_at_cut first history made.raised) plan
  pub touched : (node n : ℕ) → is_among made.nodes node ≡ true → has_inode_then plan node ≡ true
      → is_directory (tree_at_cut first history made.raised) node ≡ false → n < FILE_BLOCKS
      → has_page plan.files node n ≡ is_touched_between first history node (cut_of cut node) (cut_of made.raised node) n
  pub own : (change : FileChange) → Contains plan.files change → is_among made.nodes change.node.0 ≡ true

-- no file at a cut has more bytes than a file on the disk may have
abbrev pub AreShortAt : TreeState → List Entry → Cut → Type 0
AreShortAt first history cut = (node : ℕ) → length (bytes_of (tree_at_cut first history cut) node) ≤ BLOCK_BYTES * FILE_BLOCKS

-- The plan of an fsync leads from the tree that another one left to the one that it makes of it, where the two concern no node in common.
abbrev pub PlansStay : Type 0
PlansStay = (two : TwoFsyncs) → AreBeside two → AreShortAt two.first two.history two.raised → (once : MadeBefore two) (again : MadeBehind two)
    → MakesTheSame once again → (plan : CommitPlan) → LeadsOver once plan → LeadsOver again plan
