-- Answers of fsyncs: a core adds one to an entry after its stamp, and the history of the table does not have it.
use Rattle.std.specs.Prelude.{◌≡◌, ◌↔◌, Bool, true, false, not, ◌&&◌, List, [], ◌∷◌, None, map, IsSome, IsTrue, if◌then◌else◌}
use Rattle.tree_laws.specs.declared.call.Call.{Call}
use Rattle.tree_laws.specs.declared.call.Call.TheVariants as call
use Rattle.tree_laws.specs.declared.reply.Reply.{Reply}
use Rattle.tree_laws.specs.declared.reply.Reply.TheVariants as reply
use Rattle.tree_laws.specs.declared.history.Entry.{Entry}
use Rattle.tree_laws.specs.History.{IsFsyncReply, is_ok_reply}
use Rattle.stamp_table.specs.declared.event.Event.{Event}
use Rattle.stamp_table.specs.Events.{calls_in}

-- whether a call is an fsync
abbrev pub asks_fsync : Call → Bool
asks_fsync (call.Fsync node) = true
asks_fsync _ = false

-- whether a reply is an error
abbrev pub is_refusal : Reply → Bool
is_refusal (reply.Error code) = true
is_refusal _ = false

-- whether a reply is want of memory
abbrev pub is_want : Reply → Bool
is_want reply.NoMemory = true
is_want _ = false

-- whether an entry is an fsync that was not refused
abbrev pub is_served : Entry → Bool
is_served entry = asks_fsync entry.call && not (is_refusal entry.reply)

-- an entry with want of memory in place of its answer
abbrev pub without_answer : Entry → Entry
without_answer entry = record entry { reply = reply.NoMemory; ack = None }

-- an entry but for its answer, which an fsync has that was not refused
abbrev pub unanswered : Entry → Entry
unanswered entry = if is_served entry then without_answer entry else entry

-- An entry has an answer that it may have: an fsync that was not refused has a reply that an fsync of a live node may have, and a
-- moment of acknowledgement exactly where that is Ok.
abbrev pub IsWellAnswered : Entry → Type 0
IsWellAnswered entry = is_served entry ≡ true → IsFsyncReply entry.reply × (IsSome entry.ack ↔ IsTrue (is_ok_reply entry.reply))

-- so has each of some entries
abbrev pub AreWellAnswered : List Entry → Type 0
AreWellAnswered [] = Unit {0}
AreWellAnswered (entry ∷ entries) = IsWellAnswered entry × AreWellAnswered entries

-- Entries are the calls of these events, but for their answers, which they may have.
pub record AreCallsOf {X : Type 0} (mine : List (Event X)) (entries : List Entry) : Type 0 where
  pub same : map unanswered entries ≡ map unanswered (calls_in mine)
  pub answered : AreWellAnswered entries

-- whether a call with this reply waits for its answer: it is an fsync with want of memory
abbrev pub waits_for_answer : Call → Reply → Bool
waits_for_answer call reply = asks_fsync call && is_want reply
