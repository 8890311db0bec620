-- What a call's and a reply's numbers, names and bytes may be.
use Rattle.std.specs.Prelude.{◌≡◌, ℕ, ◌^◌, ◌<◌, ◌≤◌, List, length, None}
use Rattle.hex.specs.Hex.{IsBytes}
use Rattle.sfs_base.specs.declared.numbers.NodeId.{NodeId}
use Rattle.sfs_base.specs.declared.chunk.TheConstants.{LONGEST_CHUNK}
use Rattle.sfs_base.specs.Name.{name_fault}
use Rattle.tree_laws.specs.declared.call.Call.{Call}
use Rattle.tree_laws.specs.declared.call.Call.TheVariants as call
use Rattle.tree_laws.specs.declared.reply.Reply.{Reply}
use Rattle.tree_laws.specs.declared.reply.Reply.TheVariants as reply

-- a node's number
abbrev pub IsNode : NodeId → Type 0
IsNode node = node.0 < 2 ^ 32

-- a name: bytes without a fault
pub record IsName (name : List ℕ) : Type 0 where
  pub bytes : IsBytes name
  pub grammar : name_fault name ≡ None

-- the bytes of one write
pub record IsChunk (chunk : List ℕ) : Type 0 where
  pub bytes : IsBytes chunk
  pub short : length chunk ≤ LONGEST_CHUNK

-- a row: its directory's number and its name
pub record IsRow (directory : NodeId) (name : List ℕ) : Type 0 where
  pub node : IsNode directory
  pub named : IsName name

-- a place in a file: the file's number, and a number of bytes
pub record IsFilePlace (file : NodeId) (at : ℕ) : Type 0 where
  pub node : IsNode file
  pub within : at < 2 ^ 64

-- A call as it can be made: its nodes, names, numbers and bytes are such, and a read asks for at most 65,536 bytes.
abbrev pub IsCall : Call → Type 0
IsCall (call.Look directory name) = IsRow directory name
IsCall (call.Make directory name kind) = IsRow directory name
IsCall (call.Link file directory name) = IsNode file × IsRow directory name
IsCall (call.Unlink directory name) = IsRow directory name
IsCall (call.Rmdir directory name) = IsRow directory name
IsCall (call.Rename directory name to_directory to_name) = IsRow directory name × IsRow to_directory to_name
IsCall (call.Write file at bytes) = IsFilePlace file at × IsChunk bytes
IsCall (call.Read file at count) = IsFilePlace file at × (count ≤ LONGEST_CHUNK)
IsCall (call.Trunc file size) = IsFilePlace file size
IsCall (call.Stat node) = IsNode node
IsCall (call.List directory) = IsNode directory
IsCall (call.Fsync node) = IsNode node

-- The numbers of a reply that an fsync alone has are such as it can have.
abbrev pub HasNumbers : Reply → Type 0
HasNumbers (reply.NoSpace kind need free) = (need < 2 ^ 32) × (free < 2 ^ 32)
HasNumbers (reply.Stopped faults) = faults < 2 ^ 64
HasNumbers _ = Unit {0}
