-- What each call answers and does: the table of the calls, the first condition that holds.
use Rattle.std.specs.Prelude.{ℕ, ◌+◌, ◌==◌, Bool, false, not, ◌||◌, ◌&&◌, List, length, take, drop, Option, Some, None, is_some, nat_le, nat_lt, if◌then◌else◌}
use Rattle.std.specs.Option.{option_map_or, option_or}
use Rattle.std.specs.FinMap.{len}
use Rattle.sfs_base.specs.declared.numbers.Kind.{Kind}
use Rattle.sfs_base.specs.Name.{bucket}
use Rattle.tree_laws.specs.declared.call.Call.{Call}
use Rattle.tree_laws.specs.declared.call.Call.TheVariants as call
use Rattle.tree_laws.specs.declared.reply.Reply.{Reply}
use Rattle.tree_laws.specs.declared.reply.Reply.TheVariants as reply
use Rattle.tree_laws.specs.declared.reply.Code.{Code}
use Rattle.tree_laws.specs.declared.reply.Code.TheVariants.{NoEntry, Exists, NotDir, IsDir, NotEmpty, Invalid, NotPermitted, TooManyLinks, FileTooBig, DirFull, NoNodes}
use Rattle.tree_laws.specs.Tree.{BUCKET_ROWS, TreeState, row_of, is_alive, is_directory, kind_of, bytes_of, count_of, row_count, links_of, lies_below, names_of, bucket_rows, made_by, next_number}
use Rattle.tree_laws.specs.Names.{with_kinds}
use Rattle.tree_laws.specs.Effect.{Effect, Stays, Adds, Removes, Moves, Edits, Puts, Resizes, tree_with}

-- up to how many links a further one may bring a file
abbrev pub MOST_LINKS : ℕ
MOST_LINKS = 65535

-- how many bytes a file has at most
abbrev pub LARGEST_FILE : ℕ
LARGEST_FILE = 67551232

-- a call's reply, what it does to the tree, and the kind of the node that it makes
pub record Verdict : Type 0 where
  pub reply : Reply
  pub effect : Effect
  pub makes : Option Kind

-- an error, which changes nothing
abbrev pub refused : Code → Verdict
refused code = record { reply = reply.Error code; effect = Stays; makes = None }

-- an answer that changes nothing
abbrev pub answered : Reply → Verdict
answered reply = record { reply = reply; effect = Stays; makes = None }

-- Ok, with this effect
abbrev pub done : Effect → Verdict
done effect = record { reply = reply.Ok; effect = effect; makes = None }

-- the error where there is one, else this
abbrev pub or_else : Option Code → Verdict → Verdict
or_else (Some code) verdict = refused code
or_else None verdict = verdict

-- why a directory can't be used: it is not alive, or no directory
abbrev pub directory_fault : TreeState → ℕ → Option Code
directory_fault tree directory =
    if not (is_alive tree directory) then Some NoEntry else
    if not (is_directory tree directory) then Some NotDir else
    None

-- why a file's bytes can't be used: it is not alive, or a directory
abbrev pub file_fault : TreeState → ℕ → Option Code
file_fault tree file =
    if not (is_alive tree file) then Some NoEntry else
    if is_directory tree file then Some IsDir else
    None

-- whether the name's bucket of a directory has as many rows as it may have
abbrev pub is_full : TreeState → ℕ → List ℕ → Bool
is_full tree directory name = nat_le BUCKET_ROWS (len (bucket_rows directory (bucket name) tree.rows))

-- Look: the directory's faults; no such row; otherwise the child
abbrev pub look_row : TreeState → Option ℕ → Verdict
look_row tree None = refused NoEntry
look_row tree (Some child) = answered (reply.Node (record { 0 = child }) (kind_of tree child))

-- Make: the directory's faults; the row exists; its bucket is full; the core has made its share
abbrev pub make_fault : TreeState → ℕ → ℕ → List ℕ → Option Code
make_fault tree core directory name =
    option_or (directory_fault tree directory) (
    if is_some (row_of tree directory name) then Some Exists else
    if is_full tree directory name then Some DirFull else
    if nat_le tree.share (made_by tree core) then Some NoNodes else
    None)

-- otherwise the row and an empty node come, and the reply is the node
abbrev pub make_node : TreeState → ℕ → ℕ → List ℕ → Kind → Verdict
make_node tree core directory name kind = record {
  reply = reply.Node (record { 0 = next_number tree core }) kind;
  effect = Adds directory name (next_number tree core);
  makes = Some kind;
}

-- Link: the file is not alive, or a directory; the directory's faults; the row exists; the file has as many links as it may have;
-- the row's bucket is full; otherwise the row comes
abbrev pub link_fault : TreeState → ℕ → ℕ → List ℕ → Option Code
link_fault tree file directory name =
    if not (is_alive tree file) then Some NoEntry else
    if is_directory tree file then Some NotPermitted else
    option_or (directory_fault tree directory) (
    if is_some (row_of tree directory name) then Some Exists else
    if nat_le MOST_LINKS (count_of tree.rows file) then Some TooManyLinks else
    if is_full tree directory name then Some DirFull else
    None)

-- Unlink: the directory's faults; no such row; the child is a directory; otherwise the row goes
abbrev pub unlink_row : TreeState → ℕ → List ℕ → Option ℕ → Verdict
unlink_row tree directory name None = refused NoEntry
unlink_row tree directory name (Some child) =
    if is_directory tree child then refused NotPermitted else
    done (Removes directory name child)

-- Rmdir: the directory's faults; no such row; the child is no directory; it has rows; otherwise the row goes
abbrev pub rmdir_row : TreeState → ℕ → List ℕ → Option ℕ → Verdict
rmdir_row tree directory name None = refused NoEntry
rmdir_row tree directory name (Some child) =
    if not (is_directory tree child) then refused NotDir else
    if not (row_count tree child == 0) then refused NotEmpty else
    done (Removes directory name child)

-- Rename, of what stands at the new row already: a directory can't take a file's place, nor a file a directory's, nor anything
-- that of a directory with rows; where nothing stands there, the row's bucket may be full
abbrev pub place_fault : TreeState → ℕ → ℕ → List ℕ → Option ℕ → Option Code
place_fault tree child to_directory to_name (Some there) =
    if is_directory tree child && not (is_directory tree there) then Some NotDir else
    if not (is_directory tree child) && is_directory tree there then Some IsDir else
    if is_directory tree there && not (row_count tree there == 0) then Some NotEmpty else
    None
place_fault tree child to_directory to_name None = if is_full tree to_directory to_name then Some DirFull else None

-- Rename, of a child: a directory can't move to itself or below itself; then what stands at the new row
abbrev pub move_fault : TreeState → ℕ → ℕ → List ℕ → Option Code
move_fault tree child to_directory to_name =
    if is_directory tree child && (to_directory == child || lies_below tree to_directory child) then Some Invalid else
    place_fault tree child to_directory to_name (row_of tree to_directory to_name)

-- whether a row is there and names this child
abbrev pub names_child : Option ℕ → ℕ → Bool
names_child row child = option_map_or (λ there. there == child) row false

-- Rename: the old directory's faults; the new one's; no such row; the new row names the child already, and all stays; the child's
-- and the new row's faults; otherwise the new row's old child goes, the old row goes, and the new row comes
abbrev pub move_row : TreeState → ℕ → List ℕ → ℕ → List ℕ → Option ℕ → Verdict
move_row tree directory name to_directory to_name None = refused NoEntry
move_row tree directory name to_directory to_name (Some child) =
    if names_child (row_of tree to_directory to_name) child then answered reply.Ok else
    or_else (move_fault tree child to_directory to_name) (done (Moves directory name to_directory to_name child))

-- Write: the file's faults; the bytes, where there are any, end past the largest file; otherwise they are put, and no bytes change nothing
abbrev pub write_bytes : ℕ → ℕ → List ℕ → Verdict
write_bytes file at bytes =
    if length bytes == 0 then answered reply.Ok else
    if nat_lt LARGEST_FILE (at + length bytes) then refused FileTooBig else
    done (Edits file (Puts at bytes))

-- Read: the file's faults; otherwise the bytes from `at` on, `count` of them or up to the end
abbrev pub read_bytes : TreeState → ℕ → ℕ → ℕ → Verdict
read_bytes tree file at count = answered (reply.Bytes (take count (drop at (bytes_of tree file))))

-- Trunc: the file's faults; the size is past the largest file; otherwise the file gets this size
abbrev pub trunc_file : ℕ → ℕ → Verdict
trunc_file file size =
    if nat_lt LARGEST_FILE size then refused FileTooBig else
    done (Edits file (Resizes size))

-- why a node can't be asked for: it is not alive
abbrev pub node_fault : TreeState → ℕ → Option Code
node_fault tree node = if not (is_alive tree node) then Some NoEntry else None

-- a node's size: of a file its bytes, of a directory its rows
abbrev pub size_of : TreeState → ℕ → ℕ
size_of tree node = if is_directory tree node then row_count tree node else length (bytes_of tree node)

-- what a core's call answers and does
abbrev pub verdict : TreeState → ℕ → Call → Verdict
verdict tree core (call.Look directory name) =
    or_else (directory_fault tree directory.0) (look_row tree (row_of tree directory.0 name))
verdict tree core (call.Make directory name kind) =
    or_else (make_fault tree core directory.0 name) (make_node tree core directory.0 name kind)
verdict tree core (call.Link file directory name) =
    or_else (link_fault tree file.0 directory.0 name) (done (Adds directory.0 name file.0))
verdict tree core (call.Unlink directory name) =
    or_else (directory_fault tree directory.0) (unlink_row tree directory.0 name (row_of tree directory.0 name))
verdict tree core (call.Rmdir directory name) =
    or_else (directory_fault tree directory.0) (rmdir_row tree directory.0 name (row_of tree directory.0 name))
verdict tree core (call.Rename directory name to_directory to_name) =
    or_else (option_or (directory_fault tree directory.0) (directory_fault tree to_directory.0))
    (move_row tree directory.0 name to_directory.0 to_name (row_of tree directory.0 name))
verdict tree core (call.Write file at bytes) = or_else (file_fault tree file.0) (write_bytes file.0 at bytes)
verdict tree core (call.Read file at count) = or_else (file_fault tree file.0) (read_bytes tree file.0 at count)
verdict tree core (call.Trunc file size) = or_else (file_fault tree file.0) (trunc_file file.0 size)
verdict tree core (call.Stat node) =
    or_else (node_fault tree node.0) (answered (reply.Stat (kind_of tree node.0) (links_of tree node.0) (size_of tree node.0)))
verdict tree core (call.List directory) =
    or_else (directory_fault tree directory.0) (answered (reply.Names (with_kinds tree (names_of directory.0 tree.rows))))
verdict tree core (call.Fsync node) = or_else (node_fault tree node.0) (answered reply.Ok)

-- the tree after a core's call
abbrev pub tree_after_call : TreeState → ℕ → Call → TreeState
tree_after_call tree core call = tree_with tree core (verdict tree core call).effect (verdict tree core call).makes
