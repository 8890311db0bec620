-- How a worker walks: the calls of its commands, one by one, each after the replies to those before it.
use Rattle.std.specs.Prelude.{ℕ, ◌==◌, List, [], ◌∷◌, fold, map, filter, Option, Some, None}
use Rattle.sfs_base.specs.declared.numbers.Kind.TheVariants.{File, Directory}
use Rattle.sfs_base.specs.declared.numbers.NodeId.{NodeId}
use Rattle.tree_laws.specs.declared.call.Call.{Call}
use Rattle.tree_laws.specs.declared.call.Call.TheVariants as call
use Rattle.tree_laws.specs.declared.reply.Reply.{Reply}
use Rattle.tree_laws.specs.declared.reply.Reply.TheVariants as reply
use Rattle.script.specs.declared.commands.Command.{Command}
use Rattle.script.specs.declared.commands.Command.TheVariants.{Create, Mkdir, Link, Unlink, Rmdir, Rename, Write, Read, Trunc, Stat, List as Lists, Fsync}
use Rattle.script.specs.declared.commands.Line.{Line}
use Rattle.script.specs.Places.{parent, last_name}

-- the names that a command walks first, from the root on: of a path all, of a place those of its directory
abbrev pub first_walk : Command → List (List ℕ)
first_walk (Create path) = parent path
first_walk (Mkdir path) = parent path
first_walk (Link from to) = from
first_walk (Unlink path) = parent path
first_walk (Rmdir path) = parent path
first_walk (Rename from to) = parent from
first_walk (Write path at bytes) = path
first_walk (Read path at count) = path
first_walk (Trunc path size) = path
first_walk (Stat path) = path
first_walk (Lists path) = path
first_walk (Fsync path) = path

-- the names that a command walks then, from the root on: a link and a rename have a second place
abbrev pub second_walk : Command → List (List ℕ)
second_walk (Link from to) = parent to
second_walk (Rename from to) = parent to
second_walk _ = []

-- a node by its number
abbrev pub node_id : ℕ → NodeId
node_id number = record { 0 = number }

-- the last call of a command, by the nodes where its walks ended
abbrev pub last_call : Command → ℕ → ℕ → Call
last_call (Create path) first second = call.Make (node_id first) (last_name path) File
last_call (Mkdir path) first second = call.Make (node_id first) (last_name path) Directory
last_call (Link from to) first second = call.Link (node_id first) (node_id second) (last_name to)
last_call (Unlink path) first second = call.Unlink (node_id first) (last_name path)
last_call (Rmdir path) first second = call.Rmdir (node_id first) (last_name path)
last_call (Rename from to) first second = call.Rename (node_id first) (last_name from) (node_id second) (last_name to)
last_call (Write path at bytes) first second = call.Write (node_id first) at bytes
last_call (Read path at count) first second = call.Read (node_id first) at count
last_call (Trunc path size) first second = call.Trunc (node_id first) size
last_call (Stat path) first second = call.Stat (node_id first)
last_call (Lists path) first second = call.List (node_id first)
last_call (Fsync path) first second = call.Fsync (node_id first)

-- What is left of a command: a name to look up in a node, and names behind it, on its first walk or, after that ended at a node,
-- on its second; or the last call; or nothing.
pub data WalkState : Type 0 where
  First : (command : Command) (node : ℕ) (name : List ℕ) (names : List (List ℕ)) → WalkState
  Second : (command : Command) (first : ℕ) (node : ℕ) (name : List ℕ) (names : List (List ℕ)) → WalkState
  Last : (call : Call) → WalkState
  Done : WalkState

-- what is left on the second walk, at a node with these names ahead
abbrev pub on_second : Command → ℕ → ℕ → List (List ℕ) → WalkState
on_second command first node (name ∷ names) = Second command first node name names
on_second command first node [] = Last (last_call command first node)

-- what is left on the first walk, at a node with these names ahead; the second walk begins at the root
abbrev pub on_first : Command → ℕ → List (List ℕ) → WalkState
on_first command node (name ∷ names) = First command node name names
on_first command node [] = on_second command node 0 (second_walk command)

-- what is left of a command before its first call
abbrev pub begun : Command → WalkState
begun command = on_first command 0 (first_walk command)

-- the next call of a command, if one is left
abbrev pub call_of : WalkState → Option Call
call_of (First command node name names) = Some (call.Look (node_id node) name)
call_of (Second command first node name names) = Some (call.Look (node_id node) name)
call_of (Last call) = Some call
call_of Done = None

-- what is left after a reply: a walk goes on in the node that it names, and any other reply ends the command, as does one to the last call
abbrev pub after : WalkState → Reply → WalkState
after (First command node name names) (reply.Node child kind) = on_first command child.0 names
after (First command node name names) _ = Done
after (Second command first node name names) (reply.Node child kind) = on_second command first child.0 names
after (Second command first node name names) _ = Done
after (Last call) _ = Done
after Done _ = Done

-- where a worker stands: what is left of the command at hand, and the commands behind it
pub record Position : Type 0 where
  pub walk : WalkState
  pub later : List Command

-- a command of which nothing is left gives way to the next
abbrev pub go_on : WalkState → List Command → Position
go_on Done (command ∷ commands) = record { walk = begun command; later = commands }
go_on Done [] = record { walk = Done; later = [] }
go_on walk commands = record { walk = walk; later = commands }

-- a worker before its first call
abbrev pub started : List Command → Position
started commands = go_on Done commands

-- a worker after one more reply
abbrev pub taken : Position → Reply → Position
taken position reply = go_on (after position.walk reply) position.later

-- a worker after these replies
abbrev pub position_after : List Command → List Reply → Position
position_after commands replies = fold taken (started commands) replies

-- The next call of a worker with these commands after these replies, or its end.
abbrev pub next_call : List Command → List Reply → Option Call
next_call commands replies = call_of (position_after commands replies).walk

-- The commands of a worker in a phase, in order.
abbrev pub commands_of : ℕ → List Line → List Command
commands_of worker phase = map (λ line. line.command) (filter (λ line. line.worker == worker) phase)
