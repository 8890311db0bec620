-- The text of a history.
use Rattle.std.specs.Prelude.{ℕ, ◌/◌, ◌%◌, ◌==◌, ◌&&◌, not, true, Bool, List, [], ◌∷◌, ◌++◌, codes, decimal, flat_map, nat_le, if◌then◌else◌}
use Rattle.std.specs.Fmt.{digit_glyph}
use Rattle.hex.specs.Hex.{encode_lower}
use Rattle.sfs_base.specs.declared.numbers.Kind.{Kind}
use Rattle.sfs_base.specs.declared.numbers.Kind.TheVariants.{File, Directory}
use Rattle.sfs_base.specs.declared.numbers.SpaceKind.{SpaceKind}
use Rattle.sfs_base.specs.declared.numbers.SpaceKind.TheVariants.{Inodes, Blocks}
use Rattle.tree_laws.specs.declared.call.Call.{Call}
use Rattle.tree_laws.specs.declared.call.Call.TheVariants as call
use Rattle.tree_laws.specs.declared.reply.Code.{Code}
use Rattle.tree_laws.specs.declared.reply.Code.TheVariants.{NoEntry, Exists, NotDir, IsDir, NotEmpty, Invalid, NotPermitted, TooManyLinks, FileTooBig, DirFull, NoNodes}
use Rattle.tree_laws.specs.declared.reply.Reply.{Reply}
use Rattle.tree_laws.specs.declared.reply.Reply.TheVariants as reply
use Rattle.tree_laws.specs.declared.history.Entry.{Entry}

-- a byte that stands for itself: from 33 to 126, but not `%`
abbrev pub is_shown : ℕ → Bool
is_shown byte = nat_le 33 byte && nat_le byte 126 && not (byte == 37)

-- a byte of a name: itself, or `%` and its two upper-case hex digits
abbrev pub byte_text : ℕ → List ℕ
byte_text byte = if is_shown byte then byte ∷ [] else 37 ∷ digit_glyph true (byte / 16 % 16) ∷ digit_glyph true (byte % 16) ∷ []

-- a name
abbrev pub name_text : List ℕ → List ℕ
name_text name = flat_map byte_text name

-- bytes in lower-case hex, and `-` for none
abbrev pub bytes_text : List ℕ → List ℕ
bytes_text [] = codes "-"
bytes_text (byte ∷ bytes) = encode_lower (byte ∷ bytes)

-- the word of a kind of node
abbrev pub kind_text : Kind → List ℕ
kind_text File = codes "file"
kind_text Directory = codes "dir"

-- the word of the call that makes such a node
abbrev pub make_text : Kind → List ℕ
make_text File = codes "create"
make_text Directory = codes "mkdir"

-- a number behind a space
abbrev pub number_text : ℕ → List ℕ
number_text number = codes " " ++ decimal number

-- a row: the numbers of its directory and its name, each behind a space
abbrev pub row_text : ℕ → List ℕ → List ℕ
row_text directory name = number_text directory ++ codes " " ++ name_text name

-- a call: its word, and its arguments behind a space each
abbrev pub call_text : Call → List ℕ
call_text (call.Look directory name) = codes "look" ++ row_text directory.0 name
call_text (call.Make directory name kind) = make_text kind ++ row_text directory.0 name
call_text (call.Link file directory name) = codes "link" ++ number_text file.0 ++ row_text directory.0 name
call_text (call.Unlink directory name) = codes "unlink" ++ row_text directory.0 name
call_text (call.Rmdir directory name) = codes "rmdir" ++ row_text directory.0 name
call_text (call.Rename directory name to_directory to_name) = codes "rename" ++ row_text directory.0 name ++ row_text to_directory.0 to_name
call_text (call.Write file at bytes) = codes "write" ++ number_text file.0 ++ number_text at ++ codes " " ++ bytes_text bytes
call_text (call.Read file at count) = codes "read" ++ number_text file.0 ++ number_text at ++ number_text count
call_text (call.Trunc file size) = codes "trunc" ++ number_text file.0 ++ number_text size
call_text (call.Stat node) = codes "stat" ++ number_text node.0
call_text (call.List directory) = codes "list" ++ number_text directory.0
call_text (call.Fsync node) = codes "fsync" ++ number_text node.0

-- the word of an error
abbrev pub code_text : Code → List ℕ
code_text NoEntry = codes "NoEntry"
code_text Exists = codes "Exists"
code_text NotDir = codes "NotDir"
code_text IsDir = codes "IsDir"
code_text NotEmpty = codes "NotEmpty"
code_text Invalid = codes "Invalid"
code_text NotPermitted = codes "NotPermitted"
code_text TooManyLinks = codes "TooManyLinks"
code_text FileTooBig = codes "FileTooBig"
code_text DirFull = codes "DirFull"
code_text NoNodes = codes "NoNodes"

-- the word of what a disk has too few of
abbrev pub space_text : SpaceKind → List ℕ
space_text Inodes = codes "inodes"
space_text Blocks = codes "blocks"

-- what stands behind a listed name: `/` for a directory
abbrev pub mark_text : Kind → List ℕ
mark_text File = []
mark_text Directory = codes "/"

-- a listed row: a space, the name and its mark
abbrev pub listed_text : List ℕ × Kind → List ℕ
listed_text row = codes " " ++ name_text row.0 ++ mark_text row.1

-- a reply
abbrev pub reply_text : Reply → List ℕ
reply_text reply.Ok = codes "ok"
reply_text (reply.Node node kind) = codes "node " ++ decimal node.0 ++ codes " " ++ kind_text kind
reply_text (reply.Bytes bytes) = codes "bytes " ++ bytes_text bytes
reply_text (reply.Stat kind links size) = codes "stat " ++ kind_text kind ++ codes " " ++ decimal links ++ codes " " ++ decimal size
reply_text (reply.Names rows) = codes "list" ++ flat_map listed_text rows
reply_text (reply.Error code) = codes "error " ++ code_text code
reply_text reply.DiskFailed = codes "failed"
reply_text (reply.NoSpace kind need free) =
    codes "nospace " ++ space_text kind ++ codes " need " ++ decimal need ++ codes " free " ++ decimal free
reply_text (reply.Stopped faults) = codes "stopped " ++ decimal faults
reply_text reply.NoMemory = codes "nomemory"

-- an entry: `STAMP CORE CALL = REPLY` and byte 10
abbrev pub entry_text : Entry → List ℕ
entry_text entry =
    decimal entry.stamp.0 ++ codes " " ++ decimal entry.core.0 ++ codes " " ++ call_text entry.call ++ codes " = " ++ reply_text entry.reply ++ 10 ∷ []

-- The text of a history: a line for each entry, in stamp order.
abbrev pub history_text : List Entry → List ℕ
history_text history = flat_map entry_text history
