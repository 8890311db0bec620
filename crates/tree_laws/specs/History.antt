-- The history of calls: the tree after it, when it is legal.
use Rattle.std.specs.Prelude.{◌≡◌, ℕ, suc, ◌<◌, ◌↔◌, Bool, true, false, ◌&&◌, List, [], ◌∷◌, length, IsSome, IsTrue}
use Rattle.tree_laws.specs.declared.call.Call.{Call}
use Rattle.tree_laws.specs.declared.call.Call.TheVariants as call
use Rattle.tree_laws.specs.declared.history.Entry.{Entry}
use Rattle.tree_laws.specs.declared.reply.Reply.{Reply}
use Rattle.tree_laws.specs.declared.reply.Reply.TheVariants as reply
use Rattle.tree_laws.specs.Tree.{TreeState, is_alive}
use Rattle.tree_laws.specs.Verdict.{verdict, tree_after_call}

-- the tree after an entry
abbrev pub tree_after_entry : TreeState → Entry → TreeState
tree_after_entry tree entry = tree_after_call tree entry.core.0 entry.call

-- the tree after a history
abbrev pub tree_after : TreeState → List Entry → TreeState
tree_after first [] = first
tree_after first (entry ∷ history) = tree_after (tree_after_entry first entry) history

-- whether a call is an fsync of a live node
abbrev pub flushes : TreeState → Call → Bool
flushes tree (call.Fsync node) = is_alive tree node.0
flushes tree _ = false

-- a reply that an fsync of a live node may have
abbrev pub IsFsyncReply : Reply → Type 0
IsFsyncReply reply.Ok = Unit {0}
IsFsyncReply reply.DiskFailed = Unit {0}
IsFsyncReply (reply.NoSpace kind need free) = Unit {0}
IsFsyncReply (reply.Stopped faults) = Unit {0}
IsFsyncReply reply.NoMemory = Unit {0}
IsFsyncReply _ = ⊥

-- whether a reply is Ok
abbrev pub is_ok_reply : Reply → Bool
is_ok_reply reply.Ok = true
is_ok_reply _ = false

-- the reply that may come: that of the table, and for an fsync of a live node one of those that an fsync has
abbrev pub IsDue : Bool → Reply → Reply → Type 0
IsDue true due given = IsFsyncReply given
IsDue false due given = given ≡ due

-- An entry that may come next: its stamp is the count of those before it, its core is one of the tree's, its
-- reply is due, and it has a moment of acknowledgement exactly where it is an fsync answered Ok.
pub record MayCome (tree : TreeState) (stamp : ℕ) (entry : Entry) : Type 0 where
  pub stamped : entry.stamp.0 ≡ stamp
  pub core : entry.core.0 < length tree.made
  pub due : IsDue (flushes tree entry.call) (verdict tree entry.core.0 entry.call).reply entry.reply
  pub acknowledged : IsSome entry.ack ↔ IsTrue (flushes tree entry.call && is_ok_reply entry.reply)

-- a legal history from this tree and this stamp on
abbrev pub IsLegalFrom : TreeState → ℕ → List Entry → Type 0
IsLegalFrom tree stamp [] = Unit {0}
IsLegalFrom tree stamp (entry ∷ history) =
    MayCome tree stamp entry × IsLegalFrom (tree_after_entry tree entry) (suc stamp) history

-- A legal history of a one-thread tree: each entry may come where it stands.
abbrev pub IsLegal : TreeState → List Entry → Type 0
IsLegal first history = IsLegalFrom first 0 history
