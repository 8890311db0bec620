-- What a rename does to what its core holds, step by step.
use Rattle.std.specs.Prelude.{◌≡◌, ℕ, ◌-◌, ◌<◌, ◌≤◌, ◌==◌, Bool, true, false, ◌&&◌, List, Option, Some, None, IsSome, MatchOption, if◌then◌else◌, is_some, option_map}
use Rattle.std.specs.FinMap.{FinMap, get, insert, remove}
use Rattle.sfs_base.specs.declared.numbers.NodeId.{NodeId}
use Rattle.sfs_base.specs.declared.numbers.Stamp.{Stamp}
use Rattle.sfs_base.specs.Name.{bucket as name_bucket}
use Rattle.tree_laws.specs.NameRow.{number_of}
use Rattle.tree_laws.specs.Order.{name_cmp}
use Rattle.mem_cells.specs.Part.{IsSamePart, room_kept}
use Rattle.stamp_table.specs.declared.held.HeldCell.{HeldCell}
use Rattle.stamp_table.specs.Hand.{places_of}
use Rattle.mem_values.specs.Start.{FileHand}
use Rattle.mem_values.specs.declared.cell.Cell.{Cell}
use Rattle.mem_values.specs.declared.cell.Cell.TheVariants as cell
use Rattle.mem_values.specs.declared.cell.FileCell.{FileCell}
use Rattle.mem_values.specs.declared.cell.PartCell.{PartCell}
use Rattle.mem_values.specs.declared.bucket.Bucket.{Bucket}
use Rattle.mem_values.specs.declared.cell_id.CellId.{CellId}
use Rattle.mem_values.specs.declared.cell_id.CellId.TheVariants as id
use Rattle.mem_calls.specs.Held.{value_held, as_part, bucket_held, file_held, part_held}
use Rattle.mem_calls.specs.Changes.{PutsValue, ReplacesBucket, ReplacesFile}
use Rattle.mem_rename.specs.declared.sides.Move.{Move}
use Rattle.mem_rename.specs.declared.plans.Plan.{Plan}
use Rattle.mem_rename.specs.declared.shifts.Shift.{Shift}
use Rattle.mem_rename.specs.declared.shifts.Noted.{Noted}
use Rattle.mem_rename.specs.Shifts.{IsNotedMove}

-- rows in which a name's row is as it was: it names this child, or is not there
abbrev pub row_again : List ℕ → Option NodeId → FinMap name_cmp ℕ → FinMap name_cmp ℕ
row_again name None rows = remove rows name
row_again name (Some child) rows = insert rows name child.0

-- a bucket in which the row of a name names this child, which is a directory or not
abbrev pub with_row : Bool → List ℕ → ℕ → Bucket → Bucket
with_row directory name child bucket = record {
  rows = insert bucket.rows name child;
  directories = if directory then insert bucket.directories name child else bucket.directories;
  stands = bucket.stands;
}

-- What the move of a child has of the row of a name, a bucket has: what the row names, and whether that is a directory.
pub record ShowsThere (name : List ℕ) (shift : Shift) (bucket : Bucket) : Type 0 where
  pub rows : number_of shift.there ≡ get bucket.rows name
  pub directories : shift.there_is_directory ≡ is_some (get bucket.directories name)

-- a bucket without the row of a name
abbrev pub without_row : List ℕ → Bucket → Bucket
without_row name bucket = record {
  rows = remove bucket.rows name;
  directories = remove bucket.directories name;
  stands = bucket.stands;
}

-- a bucket of a directory that stands here
abbrev pub standing : Option NodeId → Bucket → Bucket
standing stands bucket = record {
  rows = bucket.rows;
  directories = bucket.directories;
  stands = stands;
}

-- a file with one name less
abbrev pub less_one : FileCell → FileCell
less_one file = record {
  links = file.links - 1;
  file = file.file;
}

-- nothing changes of a bucket, and of a file
abbrev pub same_bucket : NodeId → ℕ → Bucket → Bucket
same_bucket at n bucket = bucket

abbrev pub same_file : NodeId → FileCell → FileCell
same_file at file = file

-- one bucket changes, and the buckets below a number of one directory
abbrev pub at_bucket : NodeId → ℕ → (Bucket → Bucket) → NodeId → ℕ → Bucket → Bucket
at_bucket node number change at n bucket = if node.0 == at.0 && number == n then change bucket else bucket

-- the buckets of a directory that may be there change
abbrev pub in_buckets_of : Option NodeId → (Bucket → Bucket) → NodeId → ℕ → Bucket → Bucket
in_buckets_of None change at n bucket = bucket
in_buckets_of (Some node) change at n bucket = if node.0 == at.0 then change bucket else bucket

-- a file that may be there changes
abbrev pub at_file : Option NodeId → (FileCell → FileCell) → NodeId → FileCell → FileCell
at_file None change at file = file
at_file (Some node) change at file = if node.0 == at.0 then change file else file

-- A bucket that is held changes so.
pub record PutsBucket (nodes : ℕ) (node : NodeId) (number : ℕ) (by : Bucket → Bucket) (before after : FileHand) : Type 0 where
  pub change : ReplacesBucket nodes node number before after
  pub is : change.new ≡ by change.old

-- A file that is held changes so.
pub record PutsFile (nodes : ℕ) (node : NodeId) (by : FileCell → FileCell) (before after : FileHand) : Type 0 where
  pub change : ReplacesFile nodes node before after
  pub is : change.new ≡ by change.old

-- neither a bucket nor a file
abbrev pub IsOther : ℕ → CellId → Type 0
IsOther nodes (id.Bucket node number) = ⊥
IsOther nodes (id.File node) = ⊥
IsOther nodes (id.Pending node) = node.0 < nodes
IsOther nodes _ = Unit {0}

-- The buckets and files that a core holds change so, and nothing else does.
pub record ChangesHeld (nodes : ℕ) (bucket : NodeId → ℕ → Bucket → Bucket) (file : NodeId → FileCell → FileCell) (before after : FileHand) : Type 0 where
  pub frame : after ≡ record before { held = after.held }
  pub places : places_of after.held ≡ places_of before.held
  pub buckets : (at : NodeId) (n : ℕ) → at.0 < nodes → n < 8 → bucket_held nodes after.held at n ≡ option_map (bucket at n) (bucket_held nodes before.held at n)
  pub files : (at : NodeId) → at.0 < nodes → file_held nodes after.held at ≡ option_map (file at) (file_held nodes before.held at)
  pub others : (which : CellId) → IsOther nodes which → value_held nodes after.held which ≡ value_held nodes before.held which

-- what a rename changes of each bucket besides the new row: the old row goes, what is replaced stands nowhere, and what comes to another
-- directory stands there
abbrev pub bucket_moved : Move → Plan → NodeId → ℕ → Bucket → Bucket
bucket_moved move plan at n bucket =
    in_buckets_of plan.comes (standing (Some move.to_directory)) at n
    (in_buckets_of plan.directory (standing None) at n
    (at_bucket move.directory (name_bucket move.name) (without_row move.name) at n bucket))

-- The own log that is held has the same changes, and where that is not refused room for three more of either directory.
pub record KeepsPart (nodes : ℕ) (before after : FileHand) : Type 0 where
  pub part : PartCell
  pub was : part_held nodes before.held before.view.core ≡ Some part
  pub value : Cell
  pub next : PartCell
  pub is : as_part value ≡ Some next
  pub puts : PutsValue nodes (id.Part (record { 0 = before.view.core })) value before after
  pub same : IsSamePart part.log next.log
  pub made : next.made ≡ part.made

-- The same, and there is room for three more changes of either directory.
pub record MakesRoom (nodes : ℕ) (move : Move) (before after : FileHand) : Type 0 where
  pub keeps : KeepsPart nodes before after
  pub old : 3 ≤ room_kept keeps.next.log move.directory.0
  pub new : 3 ≤ room_kept keeps.next.log move.to_directory.0

-- What a rename changes is held: the old row's bucket, the buckets of its directories, and the file that is replaced.
pub record CanChange (nodes : ℕ) (move : Move) (plan : Plan) (held : List (HeldCell Cell)) : Type 0 where
  pub old : IsSome (bucket_held nodes held move.directory (name_bucket move.name))
  pub comes : MatchOption plan.comes Unit (λ node. (number : ℕ) → number < 8 → IsSome (bucket_held nodes held node number))
  pub directory : MatchOption plan.directory Unit (λ node. (number : ℕ) → number < 8 → IsSome (bucket_held nodes held node number))
  pub file : MatchOption plan.file Unit (λ node. IsSome (file_held nodes held node))

-- A core has made ready for a child to move: its log has room, and the new row is in its bucket.
pub record IsPrepared (nodes : ℕ) (move : Move) (shift : Shift) (before : FileHand) (noted : Noted) (after : FileHand) : Type 0 where
  pub noted_is : IsNotedMove move shift noted
  pub mid : FileHand
  pub room : MakesRoom nodes move before mid
  pub row : PutsBucket nodes move.to_directory (name_bucket move.to_name) (with_row shift.child_is_directory move.to_name shift.child.0) mid after

-- the lock has this stamp, where a directory came to another one
abbrev pub SetsLock : ℕ → Bool → Stamp → FileHand → FileHand → Type 0
SetsLock nodes true stamp before after = PutsValue nodes id.Lock (cell.Lock (record { moved = Some stamp })) before after
SetsLock nodes false stamp before after = after ≡ before
