-- The laws of marks, each of which a function of the module laws proves.
use Rattle.std.specs.Prelude.{◌≡◌, ◌≢◌, ℕ, suc, ◌*◌, ◌≤◌, List, [], ◌∷◌, ◌++◌, length, None, Some}
use Rattle.sfs_base.specs.declared.numbers.Kind.{Kind}
use Rattle.sfs_base.specs.declared.numbers.NodeId.{NodeId}
use Rattle.mem_files.specs.File.{File, mark_of}
use Rattle.sfs_image.specs.Seen.{FILE_BLOCKS}
use Rattle.tree_laws.specs.declared.history.Entry.{Entry}
use Rattle.tree_laws.specs.Changes.{bytes_at}
use Rattle.tree_laws.specs.Effect.{Adds, Edits, Edit}
use Rattle.tree_laws.specs.History.{tree_after}
use Rattle.tree_laws.specs.Tree.{TreeState, bytes_of}
use Rattle.tree_laws.specs.Verdict.{Verdict, verdict}
use Rattle.image_laws.specs.Image.{tree_of}
use Rattle.image_laws.specs.Stands.{BLOCK_BYTES}
use Rattle.disk_change.specs.declared.files.FileChange.{FileChange}
use Rattle.flush_plan.specs.Touched.{IsFileChange}
use Rattle.raise_laws.specs.Next.{IsMountedHistory}
use Rattle.mark_laws.specs.Changed.{HasShortFiles, ChangesFile}
use Rattle.mark_laws.specs.FileAt.{IsFileAt, IsMarkedEdit}

-- What is written of a file by its marks from a stamp on leads from its bytes at that stamp to those that it has.
abbrev pub MarksMakeFiles : Type 0
MarksMakeFiles = (first : TreeState) (history : List Entry) (node : NodeId) (from stamp : ℕ) (file : File) (change : FileChange)
    → IsMountedHistory first history → HasShortFiles first → from ≤ stamp → IsFileAt first history node.0 stamp file → IsFileChange node from file change
    → ChangesFile (bytes_at first history node.0 from) (bytes_at first history node.0 stamp) change

-- Along a history no file comes to have more bytes than a file may have.
abbrev pub FilesStayShort : Type 0
FilesStayShort = (first : TreeState) (history : List Entry) → IsMountedHistory first history → HasShortFiles first
    → (node stamp : ℕ) → length (bytes_at first history node stamp) ≤ BLOCK_BYTES * FILE_BLOCKS

-- No file of the tree of an image has more.
abbrev pub ImagesHaveShortFiles : Type 0
ImagesHaveShortFiles = (image : List ℕ) (share : ℕ) (tree : TreeState) → tree_of image share ≡ Some tree → HasShortFiles tree

-- a file in memory without marks
abbrev pub IsUnmarked : File → Type 0
IsUnmarked file = (block : ℕ) → mark_of file block ≡ None

-- what an entry behind a history answers and does
abbrev pub verdict_behind : TreeState → List Entry → Entry → Verdict
verdict_behind first history entry = verdict (tree_after first history) entry.core.0 entry.call

-- A file without marks, with the bytes of the first tree, is that of the history's begin.
abbrev pub FilesBegin : Type 0
FilesBegin = (first : TreeState) (node : ℕ) (file : File) → file.bytes ≡ bytes_of first node → IsUnmarked file → IsFileAt first [] node 0 file

-- A file without bytes and marks is that of a node that an entry makes, at the stamp behind it.
abbrev pub NewFilesBegin : Type 0
NewFilesBegin = (first : TreeState) (history : List Entry) (entry : Entry) (rest : List Entry) (directory : ℕ) (name : List ℕ) (node : ℕ) (kind : Kind)
    (file : File)
    → IsMountedHistory first (history ++ entry ∷ rest) → (verdict_behind first history entry).effect ≡ Adds directory name node
    → (verdict_behind first history entry).makes ≡ Some kind → file.bytes ≡ [] → IsUnmarked file
    → IsFileAt first (history ++ entry ∷ rest) node (suc (length history)) file

-- A file is in a longer history what it is in its begin.
abbrev pub LongerHistoriesKeepFiles : Type 0
LongerHistoriesKeepFiles = (first : TreeState) (history rest : List Entry) (node stamp : ℕ) (file : File)
    → IsMountedHistory first (history ++ rest) → stamp ≤ length history → IsFileAt first history node stamp file
    → IsFileAt first (history ++ rest) node stamp file

-- Where an entry edits a file, the file with the edit made and marked is that of the history with the entry.
abbrev pub EditsKeepFiles : Type 0
EditsKeepFiles = (first : TreeState) (history : List Entry) (entry : Entry) (node : ℕ) (edit : Edit) (file after : File)
    → IsMountedHistory first (history ++ entry ∷ []) → (verdict_behind first history entry).effect ≡ Edits node edit
    → IsFileAt first history node (length history) file → IsMarkedEdit edit entry.stamp file after
    → IsFileAt first (history ++ entry ∷ []) node (suc (length history)) after

-- Where it does not, the same file is.
abbrev pub OthersKeepFiles : Type 0
OthersKeepFiles = (first : TreeState) (history : List Entry) (entry : Entry) (node : ℕ) (file : File)
    → IsMountedHistory first (history ++ entry ∷ []) → ((edit : Edit) → (verdict_behind first history entry).effect ≢ Edits node edit)
    → IsFileAt first history node (length history) file → IsFileAt first (history ++ entry ∷ []) node (suc (length history)) file
