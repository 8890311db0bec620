-- What a rename decides by what it has looked at: `rename_by`, in the words of the code.
use Rattle.std.specs.Prelude.{ℕ, ◌==◌, Bool, false, not, ◌||◌, ◌&&◌, Option, Some, None, is_some, option_map, nat_le, if◌then◌else◌}
use Rattle.std.specs.Option.{option_or}
use Rattle.std.specs.List.{list_any}
use Rattle.std.specs.FinMap.{get, len}
use Rattle.sfs_base.specs.declared.numbers.NodeId.{NodeId}
use Rattle.tree_laws.specs.declared.reply.Code.{Code}
use Rattle.tree_laws.specs.declared.reply.Code.TheVariants.{NoEntry, NotDir, IsDir, NotEmpty, Invalid, DirFull}
use Rattle.tree_laws.specs.Tree.{BUCKET_ROWS}
use Rattle.tree_laws.specs.Effect.{Moves as MovesEffect}
use Rattle.tree_laws.specs.Logged.{numbered_node}
use Rattle.tree_laws.specs.Verdict.{Verdict, answered, done}
use Rattle.mem_values.specs.declared.bucket.Bucket.{Bucket}
use Rattle.mem_calls.specs.declared.short.Short.TheVariants as short
use Rattle.mem_calls.specs.Reply.{reply_of}
use Rattle.mem_rename.specs.declared.sides.Move.{Move}
use Rattle.mem_rename.specs.declared.looking.Look.{Look}
use Rattle.mem_rename.specs.declared.looking.Reads.{Reads}
use Rattle.mem_rename.specs.declared.looking.Decision.{Decision}
use Rattle.mem_rename.specs.declared.looking.Decision.TheVariants.{Answers, Moves}
use Rattle.mem_rename.specs.Sights.{Sight, stands_by, child_seen, are_bare}

-- what two buckets tell
abbrev pub look_by : Bucket → Bucket → Move → Look
look_by old new move = record {
  stands = stands_by move.directory.0 old;
  to_stands = stands_by move.to_directory.0 new;
  child = option_map numbered_node (get old.rows move.name);
  there = option_map numbered_node (get new.rows move.to_name);
  child_is_directory = is_some (get old.directories move.name);
  there_is_directory = is_some (get new.directories move.to_name);
}

abbrev pub look_seen : Sight → Move → Look
look_seen seen move = look_by seen.old seen.new move

-- whether the child is the new directory or above it
abbrev pub is_at_or_below : Sight → Move → Option ℕ → Bool
is_at_or_below seen move None = false
is_at_or_below seen move (Some child) = move.to_directory.0 == child || list_any (λ above. above == child) seen.above

-- what a rename reads besides
abbrev pub reads_of : Sight → Move → Reads
reads_of seen move = record {
  old_links = seen.old_links;
  new_links = seen.new_links;
  full = nat_le BUCKET_ROWS (len seen.new.rows);
  bare = are_bare seen.target;
  below = is_at_or_below seen move (child_seen seen move);
}

-- whether what stands there is the child
abbrev pub same_child : Option NodeId → Option NodeId → Bool
same_child (Some child) (Some there) = there.0 == child.0
same_child _ _ = false

-- why a directory can't be used
abbrev pub fault_if : Bool → ℕ → Option Code
fault_if stands links = if stands then None else if links == 0 then Some NoEntry else Some NotDir

-- why the new row can't be had
abbrev pub place_fault_of : Look → Reads → Option Code
place_fault_of look reads =
    if is_some look.there then (
    if look.child_is_directory && not look.there_is_directory then Some NotDir else
    if not look.child_is_directory && look.there_is_directory then Some IsDir else
    if look.there_is_directory && not reads.bare then Some NotEmpty else
    None) else
    if reads.full then Some DirFull else
    None

-- why the child can't move
abbrev pub move_fault_of : Look → Reads → Move → Option Code
move_fault_of look reads move =
    if not (move.directory.0 == move.to_directory.0) && look.child_is_directory && reads.below then Some Invalid else
    place_fault_of look reads

-- an error, or else this
abbrev pub refused_or : Option Code → Decision → Decision
refused_or (Some code) decision = Answers (short.Error code)
refused_or None decision = decision

-- what a rename of a child does
abbrev pub child_decision : Look → Reads → Move → Option NodeId → Decision
child_decision look reads move None = Answers (short.Error NoEntry)
child_decision look reads move (Some child) =
    if same_child look.child look.there then Answers short.Done else
    refused_or (move_fault_of look reads move) (Moves child)

-- what a rename does
abbrev pub decision_by : Look → Reads → Move → Decision
decision_by look reads move =
    refused_or (option_or (fault_if look.stands reads.old_links) (fault_if look.to_stands reads.new_links)) (child_decision look reads move look.child)

-- what is answered and done by a decision
abbrev pub verdict_of : Move → Decision → Verdict
verdict_of move (Answers short) = answered (reply_of short)
verdict_of move (Moves child) = done (MovesEffect move.directory.0 move.name move.to_directory.0 move.to_name child.0)
