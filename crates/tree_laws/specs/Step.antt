-- What the code of a call owes.
use Rattle.std.specs.Prelude.{◌≡◌, ℕ, ◌≤◌}
use Rattle.tree_laws.specs.declared.call.Call.{Call}
use Rattle.tree_laws.specs.declared.call.Call.TheVariants as call
use Rattle.tree_laws.specs.declared.reply.Reply.{Reply}
use Rattle.tree_laws.specs.Tree.{TreeState}
use Rattle.tree_laws.specs.Verdict.{Verdict, verdict, tree_after_call}
use Rattle.tree_laws.specs.Effect.{tree_with}

-- a read asks for at most 65,536 bytes
abbrev pub IsReadable : Call → Type 0
IsReadable (call.Read file at count) = count ≤ 65536
IsReadable _ = Unit {0}

-- The reply to a core's call is that of the table, and so is the tree after it.
pub record IsStep (tree : TreeState) (core : ℕ) (call : Call) (reply : Reply) (after : TreeState) : Type 0 where
  pub answer : reply ≡ (verdict tree core call).reply
  pub result : after ≡ tree_after_call tree core call

-- whichever core calls, the reply is that of the table, and the tree stays
abbrev pub IsAnswer : TreeState → Call → Reply → Type 0
IsAnswer tree call reply = (core : ℕ) → IsStep tree core call reply tree

-- The reply and the tree after it are those of a line of the table, whichever core calls.
pub record IsLine (tree : TreeState) (line : Verdict) (reply : Reply) (after : TreeState) : Type 0 where
  pub answer : reply ≡ line.reply
  pub result : (core : ℕ) → after ≡ tree_with tree core line.effect line.makes
