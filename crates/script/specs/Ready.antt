-- Commands and calls within their bounds: a read asks for at most 65,536 bytes.
use Rattle.std.specs.Prelude.{ℕ, ◌≤◌, List}
use Rattle.std.specs.List.{AllByRecursion}
use Rattle.sfs_base.specs.declared.chunk.TheConstants.{LONGEST_CHUNK}
use Rattle.tree_laws.specs.declared.call.Call.{Call}
use Rattle.tree_laws.specs.declared.call.Call.TheVariants as call
use Rattle.script.specs.declared.commands.Command.{Command}
use Rattle.script.specs.declared.commands.Command.TheVariants as command
use Rattle.script.specs.declared.commands.Line.{Line}
use Rattle.script.specs.Walks.{WalkState, First, Second, Last, Done, last_call, Position}

-- a command within its bounds
abbrev pub MayRun : Command → Type 0
MayRun (command.Read path at count) = count ≤ LONGEST_CHUNK
MayRun _ = Unit {0}

-- a call within its bounds
abbrev pub MayCall : Call → Type 0
MayCall (call.Read file at count) = count ≤ LONGEST_CHUNK
MayCall _ = Unit {0}

-- wherever its walks end, a command's last call is within its bounds
abbrev pub EndsWell : Command → Type 0
EndsWell command = (first second : ℕ) → MayCall (last_call command first second)

-- what is left of a command leads to calls within their bounds
abbrev pub IsReady : WalkState → Type 0
IsReady (First command node name names) = EndsWell command
IsReady (Second command first node name names) = EndsWell command
IsReady (Last call) = MayCall call
IsReady Done = Unit {0}

-- a worker whose calls are within their bounds
pub record PositionReady (position : Position) : Type 0 where
  pub now : IsReady position.walk
  pub later : AllByRecursion MayRun position.later

-- each line's command is within its bounds
abbrev pub LinesMayRun : List Line → Type 0
LinesMayRun lines = AllByRecursion (λ line. MayRun line.command) lines
