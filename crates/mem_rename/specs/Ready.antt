-- A core that holds all that a rename asks for.
use Rattle.std.specs.Prelude.{◌≡◌, ℕ, ◌<◌, ◌==◌, ◌||◌, Bool, true, false, List, [], ◌∷◌, Option, Some, None, is_some}
use Rattle.std.specs.FinMap.{empty, len}
use Rattle.std.specs.List.{list_any}
use Rattle.sfs_base.specs.Name.{bucket as name_bucket}
use Rattle.sfs_base.specs.declared.numbers.NodeId.{NodeId}
use Rattle.disk_nodes.specs.OldKept.{OldKept}
use Rattle.tree_laws.specs.Tree.{TreeState}
use Rattle.tree_laws.specs.Lock.{EndsAtRoot, AreHolders}
use Rattle.stamp_table.specs.declared.held.HeldCell.{HeldCell}
use Rattle.mem_values.specs.Start.{FileHand, FileState}
use Rattle.mem_values.specs.declared.cell.Cell.{Cell}
use Rattle.mem_values.specs.declared.cell.FileCell.{FileCell}
use Rattle.mem_values.specs.declared.cell_id.CellId.TheVariants as id
use Rattle.mem_values.specs.declared.bucket.Bucket.{Bucket}
use Rattle.mem_values.specs.Laws.{MayMeet}
use Rattle.mem_calls.specs.Held.{bucket_held, file_held, HoldsPart}
use Rattle.mem_calls.specs.Working.{IsWorking}
use Rattle.mem_rename.specs.declared.sides.Move.{Move}
use Rattle.mem_rename.specs.declared.plans.Plan.{Plan}
use Rattle.mem_rename.specs.Sights.{Sight}
use Rattle.mem_rename.specs.Decisions.{look_seen}
use Rattle.mem_rename.specs.Plans.{asked_cells, plan_by}
use Rattle.mem_rename.specs.Holding.{HoldsCell, HoldsCells}
use Rattle.mem_rename.specs.Ways.{HasRead}

-- a bucket that is held, and an empty one where none is
abbrev pub bucket_or : Option Bucket → Bucket
bucket_or (Some bucket) = bucket
bucket_or None = record { rows = empty; directories = empty; stands = None }

-- how many rows name a file that is asked for and held
abbrev pub links_if : Bool → Option FileCell → ℕ
links_if true (Some file) = file.links
links_if _ _ = 0

-- the buckets of a directory that are held
abbrev pub buckets_held : ℕ → List (HeldCell Cell) → Option NodeId → List Bucket
buckets_held nodes held None = []
buckets_held nodes held (Some node) =
    bucket_or (bucket_held nodes held node 0)
    ∷ bucket_or (bucket_held nodes held node 1)
    ∷ bucket_or (bucket_held nodes held node 2)
    ∷ bucket_or (bucket_held nodes held node 3)
    ∷ bucket_or (bucket_held nodes held node 4)
    ∷ bucket_or (bucket_held nodes held node 5)
    ∷ bucket_or (bucket_held nodes held node 6)
    ∷ bucket_or (bucket_held nodes held node 7)
    ∷ []

-- what a rename reads of what is held
abbrev pub sight_of : ℕ → List (HeldCell Cell) → Move → Plan → List ℕ → Sight
sight_of nodes held move plan above = record {
  old = bucket_or (bucket_held nodes held move.directory (name_bucket move.name));
  new = bucket_or (bucket_held nodes held move.to_directory (name_bucket move.to_name));
  old_links = links_if plan.old_file (file_held nodes held move.directory);
  new_links = links_if plan.new_file (file_held nodes held move.to_directory);
  target = buckets_held nodes held plan.directory;
  above = above;
}

-- both directories have numbers of the table
pub record AreSidesWithin (nodes : ℕ) (move : Move) : Type 0 where
  pub old : move.directory.0 < nodes
  pub new : move.to_directory.0 < nodes

-- A core, no fsync of which waits for its answer, holds what a rename asks for by what it holds: both buckets, its plan's cells and its
-- log; and under the lock, where it needs that, it has read the directories above the new one up to the root.
pub record HoldsRename (given : ℕ → Option OldKept) (t : FileState) (nodes : ℕ) (move : Move) (plan : Plan) (above : List ℕ)
    (hand : FileHand) : Type 0 where
  pub work : IsWorking given t hand
  pub answered : hand.waiting ≡ None
  pub part : HoldsPart nodes hand
  pub cells : HoldsCells nodes hand.held (asked_cells move plan)
  pub lock : is_some plan.comes ≡ true → HoldsCell nodes hand.held id.Lock
  pub read : is_some plan.comes ≡ true → HasRead given hand.view move.to_directory.0 above
  pub ends : is_some plan.comes ≡ true → EndsAtRoot move.to_directory.0 above
  pub asked : plan ≡ plan_by (look_seen (sight_of nodes hand.held move plan above) move) move

-- A tree that a core may meet which has read a way where it needs one: its values show it, and the way is the holders.
pub record MayMeetOn (plan : Plan) (node : ℕ) (above : List ℕ) (hand : FileHand) (tree : TreeState) : Type 0 where
  pub meets : MayMeet hand.view hand.held tree
  pub holders : is_some plan.comes ≡ true → AreHolders tree node above

-- whether a bucket that is held has no row
abbrev pub is_empty_held : ℕ → List (HeldCell Cell) → NodeId → ℕ → Bool
is_empty_held nodes held node number = len (bucket_or (bucket_held nodes held node number)).rows == 0

-- whether a node is one of some
abbrev pub is_among_nodes : ℕ → List ℕ → Bool
is_among_nodes node nodes = list_any (λ other. other == node) nodes

-- whether a child is a directory or one of some
abbrev pub is_at_or_in : Option NodeId → ℕ → List ℕ → Bool
is_at_or_in None directory above = false
is_at_or_in (Some child) directory above = directory == child.0 || is_among_nodes child.0 above
