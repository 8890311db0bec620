-- What a line's words spell: a core, a call, and the reply to an fsync.
use Rattle.std.specs.Prelude.{ℕ, ◌-◌, ◌^◌, ◌==◌, Bool, List, length, codes, bytes_eq, nat_le, option_map, Option, Some, None, is_none, if◌then◌else◌}
use Rattle.std.specs.List.{before_first, after_first}
use Rattle.std.specs.Option.{option_zip}
use Rattle.percent_encoding.specs.Percent.{percent_decode}
use Rattle.sfs_base.specs.declared.numbers.NodeId.{NodeId}
use Rattle.sfs_base.specs.declared.numbers.Kind.TheVariants.{File, Directory}
use Rattle.sfs_base.specs.declared.numbers.SpaceKind.{SpaceKind}
use Rattle.sfs_base.specs.declared.numbers.SpaceKind.TheVariants.{Inodes, Blocks}
use Rattle.sfs_base.specs.Name.{name_fault}
use Rattle.tree_laws.specs.declared.call.Call.{Call}
use Rattle.tree_laws.specs.declared.call.Call.TheVariants as call
use Rattle.tree_laws.specs.declared.reply.Reply.{Reply}
use Rattle.tree_laws.specs.declared.reply.Reply.TheVariants as reply
use Rattle.script.specs.Words.{number_up_to, hex_bytes}
use Rattle.history_check.specs.declared.verbs.Verb.{Verb}
use Rattle.history_check.specs.declared.verbs.Verb.TheVariants as verb

-- whether a byte is the space that parts words
abbrev pub is_space : ℕ → Bool
is_space byte = byte == 32

-- the first word of some bytes
abbrev pub word : List ℕ → List ℕ
word bytes = before_first is_space bytes

-- what stands behind the first word and its space
abbrev pub behind : List ℕ → List ℕ
behind bytes = after_first is_space bytes

-- a number of 32 bits
abbrev pub short_number : List ℕ → Option ℕ
short_number bytes = number_up_to (2 ^ 32 - 1) (word bytes)

-- a number of 64 bits
abbrev pub long_number : List ℕ → Option ℕ
long_number bytes = number_up_to (2 ^ 64 - 1) (word bytes)

-- a node of this number
abbrev pub node_numbered : ℕ → NodeId
node_numbered number = record { 0 = number }

-- a node
abbrev pub spelled_node : List ℕ → Option NodeId
spelled_node bytes = option_map node_numbered (short_number bytes)

-- whether a byte ends a line
abbrev pub is_line_end : ℕ → Bool
is_line_end byte = byte == 10

-- how many bytes the text of a name has at most: three for each of 255
abbrev pub LONGEST_NAME_TEXT : ℕ
LONGEST_NAME_TEXT = 765

-- these bytes, where they are a name
abbrev pub if_name : List ℕ → Option (List ℕ)
if_name bytes = if is_none (name_fault bytes) then Some bytes else None

-- the name that a word spells by its escapes
abbrev pub spelled_name : List ℕ → Option (List ℕ)
spelled_name word = if nat_le (length word) LONGEST_NAME_TEXT then if_name (percent_decode word) else None

-- a row: its directory and its name
abbrev pub spelled_row : List ℕ → Option (NodeId × List ℕ)
spelled_row bytes = option_zip (spelled_node bytes) (spelled_name (word (behind bytes)))

-- a place in a file: its node and a number
abbrev pub spelled_place : List ℕ → Option (NodeId × ℕ)
spelled_place bytes = option_zip (spelled_node bytes) (long_number (behind bytes))

-- the word of a call
abbrev pub spelled_verb : List ℕ → Option Verb
spelled_verb word =
    if bytes_eq word (codes "look") then Some verb.Look else
    if bytes_eq word (codes "create") then Some (verb.Make File) else
    if bytes_eq word (codes "mkdir") then Some (verb.Make Directory) else
    if bytes_eq word (codes "link") then Some verb.Link else
    if bytes_eq word (codes "unlink") then Some verb.Unlink else
    if bytes_eq word (codes "rmdir") then Some verb.Rmdir else
    if bytes_eq word (codes "rename") then Some verb.Rename else
    if bytes_eq word (codes "write") then Some verb.Write else
    if bytes_eq word (codes "read") then Some verb.Read else
    if bytes_eq word (codes "trunc") then Some verb.Trunc else
    if bytes_eq word (codes "stat") then Some verb.Stat else
    if bytes_eq word (codes "list") then Some verb.List else
    if bytes_eq word (codes "fsync") then Some verb.Fsync else
    None

-- the call of a verb, by what stands behind it
abbrev pub spelled_call : Verb → List ℕ → Option Call
spelled_call verb.Look bytes = option_map (λ row. call.Look row.0 row.1) (spelled_row bytes)
spelled_call (verb.Make kind) bytes = option_map (λ row. call.Make row.0 row.1 kind) (spelled_row bytes)
spelled_call verb.Link bytes = option_map (λ both. call.Link both.0 both.1.0 both.1.1) (option_zip (spelled_node bytes) (spelled_row (behind bytes)))
spelled_call verb.Unlink bytes = option_map (λ row. call.Unlink row.0 row.1) (spelled_row bytes)
spelled_call verb.Rmdir bytes = option_map (λ row. call.Rmdir row.0 row.1) (spelled_row bytes)
spelled_call verb.Rename bytes =
    option_map (λ both. call.Rename both.0.0 both.0.1 both.1.0 both.1.1) (option_zip (spelled_row bytes) (spelled_row (behind (behind bytes))))
spelled_call verb.Write bytes =
    option_map (λ both. call.Write both.0.0 both.0.1 both.1) (option_zip (spelled_place bytes) (hex_bytes (word (behind (behind bytes)))))
spelled_call verb.Read bytes =
    option_map (λ both. call.Read both.0.0 both.0.1 both.1) (option_zip (spelled_place bytes) (number_up_to 65536 (word (behind (behind bytes)))))
spelled_call verb.Trunc bytes = option_map (λ place. call.Trunc place.0 place.1) (spelled_place bytes)
spelled_call verb.Stat bytes = option_map call.Stat (spelled_node bytes)
spelled_call verb.List bytes = option_map call.List (spelled_node bytes)
spelled_call verb.Fsync bytes = option_map call.Fsync (spelled_node bytes)

-- the call of a verb that may be there
abbrev pub spelled_call_with : Option Verb → List ℕ → Option Call
spelled_call_with (Some verb) bytes = spelled_call verb bytes
spelled_call_with None bytes = None

-- the call that some bytes begin with
abbrev pub spelled_call_in : List ℕ → Option Call
spelled_call_in bytes = spelled_call_with (spelled_verb (word bytes)) (behind bytes)

-- what a disk has too few of
abbrev pub spelled_space : List ℕ → Option SpaceKind
spelled_space word =
    if bytes_eq word (codes "inodes") then Some Inodes else
    if bytes_eq word (codes "blocks") then Some Blocks else
    None

-- the numbers of a disk that has too little: KIND need NEED free FREE
abbrev pub spelled_no_space : List ℕ → Option Reply
spelled_no_space bytes =
    option_map (λ told. reply.NoSpace told.0 told.1.0 told.1.1)
    (option_zip (spelled_space (word bytes)) (option_zip (short_number (behind (behind bytes))) (short_number (behind (behind (behind (behind bytes)))))))

-- the reply to an fsync, by its first word and what stands behind that
abbrev pub flush_reply_of : List ℕ → List ℕ → Option Reply
flush_reply_of word bytes =
    if bytes_eq word (codes "ok") then Some reply.Ok else
    if bytes_eq word (codes "failed") then Some reply.DiskFailed else
    if bytes_eq word (codes "nospace") then spelled_no_space bytes else
    if bytes_eq word (codes "stopped") then option_map reply.Stopped (long_number bytes) else
    if bytes_eq word (codes "nomemory") then Some reply.NoMemory else
    None

-- the reply to an fsync that some bytes begin with
abbrev pub flush_reply_in : List ℕ → Option Reply
flush_reply_in bytes = flush_reply_of (word bytes) (behind bytes)

-- the core of a line: the second word
abbrev pub line_core : List ℕ → Option ℕ
line_core line = number_up_to 255 (word (behind line))

-- the call of a line: from the third word on
abbrev pub line_call : List ℕ → Option Call
line_call line = spelled_call_in (behind (behind line))

-- the reply of an fsync's line: from the sixth word on, behind its node and `=`
abbrev pub line_flush_reply : List ℕ → Option Reply
line_flush_reply line = flush_reply_in (behind (behind (behind (behind (behind line)))))
