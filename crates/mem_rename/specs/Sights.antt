-- What a rename answers and does, by the values of the cells that it reads.
use Rattle.std.specs.Prelude.{◌≡◌, ℕ, ◌+◌, ◌==◌, Bool, true, false, not, ◌||◌, ◌&&◌, List, [], ◌∷◌, Option, Some, None, is_some, nat_le, if◌then◌else◌}
use Rattle.std.specs.List.{list_any}
use Rattle.std.specs.Option.{option_or}
use Rattle.std.specs.FinMap.{get, len}
use Rattle.sfs_base.specs.Name.{bucket as name_bucket}
use Rattle.tree_laws.specs.declared.call.Call.{Call}
use Rattle.tree_laws.specs.declared.call.Call.TheVariants as call
use Rattle.tree_laws.specs.declared.reply.Reply.TheVariants as reply
use Rattle.tree_laws.specs.declared.reply.Code.{Code}
use Rattle.tree_laws.specs.declared.reply.Code.TheVariants.{NoEntry, NotDir, IsDir, NotEmpty, Invalid, DirFull}
use Rattle.tree_laws.specs.Tree.{BUCKET_ROWS, TreeState}
use Rattle.tree_laws.specs.Effect.{Moves}
use Rattle.tree_laws.specs.Lock.{AreHolders, EndsAtRoot}
use Rattle.tree_laws.specs.Verdict.{Verdict, refused, answered, done, or_else, names_child}
use Rattle.mem_values.specs.declared.bucket.Bucket.{Bucket}
use Rattle.mem_rename.specs.declared.sides.Move.{Move}
use Rattle.mem_values.specs.Stands.{ShowsBucket, file_links}

-- the call that it is
abbrev pub rename_call : Move → Call
rename_call move = call.Rename move.directory move.name move.to_directory move.to_name

-- What a rename reads: the buckets in which the old row and the new one lie; of each of the two directories how many rows name it as a
-- file; the buckets of a directory that another one replaces; and the directories above the new one.
pub record Sight : Type 0 where
  pub old : Bucket
  pub new : Bucket
  pub old_links : ℕ
  pub new_links : ℕ
  pub target : List Bucket
  pub above : List ℕ

-- whether a directory stands, by a bucket of it: it is the root, or the bucket says where
abbrev pub stands_by : ℕ → Bucket → Bool
stands_by directory bucket = directory == 0 || is_some bucket.stands

-- why a directory can't be used: it does not stand, and no row names it, or rows name it as a file
abbrev pub fault_seen : ℕ → Bucket → ℕ → Option Code
fault_seen directory bucket links =
    if stands_by directory bucket then None else
    if links == 0 then Some NoEntry else
    Some NotDir

-- the child of the old row, and what stands at the new one
abbrev pub child_seen : Sight → Move → Option ℕ
child_seen seen move = get seen.old.rows move.name

abbrev pub there_seen : Sight → Move → Option ℕ
there_seen seen move = get seen.new.rows move.to_name

-- whether the old row names a directory, and whether the new one does
abbrev pub moves_directory : Sight → Move → Bool
moves_directory seen move = is_some (get seen.old.directories move.name)

abbrev pub meets_directory : Sight → Move → Bool
meets_directory seen move = is_some (get seen.new.directories move.to_name)

-- whether a directory would come to another directory
abbrev pub goes_between : Sight → Move → Bool
goes_between seen move = not (move.directory.0 == move.to_directory.0) && moves_directory seen move

-- whether a directory would come to itself or below itself; within one directory it never does
abbrev pub goes_below : Sight → Move → ℕ → Bool
goes_below seen move child = goes_between seen move && (move.to_directory.0 == child || list_any (λ above. above == child) seen.above)

-- whether no bucket of these has a row
abbrev pub are_bare : List Bucket → Bool
are_bare [] = true
are_bare (bucket ∷ buckets) = (len bucket.rows == 0) && are_bare buckets

-- Of what stands at the new row already: a directory can't take a file's place, nor a file a directory's, nor anything that of a
-- directory with rows; where nothing stands there, the row's bucket may be full.
abbrev pub place_fault_by : Sight → Move → Option ℕ → Option Code
place_fault_by seen move (Some there) =
    if moves_directory seen move && not (meets_directory seen move) then Some NotDir else
    if not (moves_directory seen move) && meets_directory seen move then Some IsDir else
    if meets_directory seen move && not (are_bare seen.target) then Some NotEmpty else
    None
place_fault_by seen move None = if nat_le BUCKET_ROWS (len seen.new.rows) then Some DirFull else None

-- of a child: a directory can't move to itself or below itself; then what stands at the new row
abbrev pub move_fault_by : Sight → Move → ℕ → Option Code
move_fault_by seen move child =
    if goes_below seen move child then Some Invalid else
    place_fault_by seen move (there_seen seen move)

-- no such row; the new row names the child already, and all stays; the child's and the new row's faults; otherwise the child moves
abbrev pub move_by : Sight → Move → Option ℕ → Verdict
move_by seen move None = refused NoEntry
move_by seen move (Some child) =
    if names_child (there_seen seen move) child then answered reply.Ok else
    or_else (move_fault_by seen move child) (done (Moves move.directory.0 move.name move.to_directory.0 move.to_name child))

-- What a rename answers and does: the old directory's faults; the new one's; then as its row says.
abbrev pub rename_by : Sight → Move → Verdict
rename_by seen move =
    or_else (option_or (fault_seen move.directory.0 seen.old seen.old_links) (fault_seen move.to_directory.0 seen.new seen.new_links))
    (move_by seen move (child_seen seen move))

-- buckets show those of a directory from a number on
abbrev pub ShowBucketsFrom : TreeState → ℕ → ℕ → List Bucket → Type 0
ShowBucketsFrom tree directory number [] = number ≡ 8
ShowBucketsFrom tree directory number (bucket ∷ buckets) = ShowsBucket tree directory number bucket × ShowBucketsFrom tree directory (number + 1) buckets

-- the directory that another one would replace
abbrev pub replaced_directory : Sight → Move → Option ℕ → Option ℕ
replaced_directory seen move None = None
replaced_directory seen move (Some child) =
    if moves_directory seen move && meets_directory seen move && not (names_child (there_seen seen move) child) then there_seen seen move else None

-- the directories of a list are the holders above a directory, up to the root
pub record IsWay (tree : TreeState) (directory : ℕ) (above : List ℕ) : Type 0 where
  pub holders : AreHolders tree directory above
  pub ends : EndsAtRoot directory above

-- What a rename reads shows a tree. It reads how many rows name a directory as a file where that does not stand, the buckets of a
-- directory where another one would replace it, and the way up from the new directory where that stands and a directory would come to it
-- from another one.
pub record ShowsMove (tree : TreeState) (move : Move) (seen : Sight) : Type 0 where
  pub old : ShowsBucket tree move.directory.0 (name_bucket move.name) seen.old
  pub new : ShowsBucket tree move.to_directory.0 (name_bucket move.to_name) seen.new
  pub old_links : stands_by move.directory.0 seen.old ≡ false → seen.old_links ≡ file_links tree move.directory.0
  pub new_links : stands_by move.directory.0 seen.old ≡ true → stands_by move.to_directory.0 seen.new ≡ false
      → seen.new_links ≡ file_links tree move.to_directory.0
  pub target : (there : ℕ) → replaced_directory seen move (child_seen seen move) ≡ Some there → ShowBucketsFrom tree there 0 seen.target
  pub above : stands_by move.to_directory.0 seen.new ≡ true → goes_between seen move ≡ true → IsWay tree move.to_directory.0 seen.above
