-- One line of a text is followed: what that comes to.
use Rattle.std.specs.Prelude.{◌≡◌, ℕ, ◌++◌, Bool, true, false, List, nat_lt, Option, Some, None, if◌then◌else◌}
use Rattle.sfs_base.specs.declared.numbers.CoreId.{CoreId}
use Rattle.tree_laws.specs.declared.call.Call.{Call}
use Rattle.tree_laws.specs.declared.reply.Reply.{Reply}
use Rattle.tree_laws.specs.declared.history.Entry.{Entry}
use Rattle.tree_laws.specs.Tree.{TreeState}
use Rattle.tree_laws.specs.Verdict.{verdict}
use Rattle.tree_laws.specs.History.{flushes, tree_after_entry}
use Rattle.script.specs.Texts.{entry_text}
use Rattle.history_check.specs.Reading.{line_flush_reply}
use Rattle.history_check.specs.Told.{MayBePrinted}

-- a core, where the tree has so many
abbrev pub core_below : ℕ → Option ℕ → Option CoreId
core_below cores (Some core) = if nat_lt core cores then Some (record { 0 = core }) else None
core_below cores None = None

-- the reply that is due, or that which an fsync's line has
abbrev pub either_reply : Bool → Reply → List ℕ → Option Reply
either_reply true due line = line_flush_reply line
either_reply false due line = Some due

-- the reply of a line, whose core and call these are: of an fsync of a live node that which stands there, and else that of the table
abbrev pub line_reply : TreeState → ℕ → Call → List ℕ → Option Reply
line_reply tree core call line = either_reply (flushes tree call) (verdict tree core call).reply line

-- A text begins with the line of an entry that may stand there; this is what stands behind it, and the tree after it.
pub record BeginsWithLine (tree : TreeState) (stamp : ℕ) (text behind : List ℕ) (after : TreeState) (entry : Entry) : Type 0 where
  pub may : MayBePrinted tree stamp entry
  pub begins : text ≡ entry_text entry ++ behind
  pub goes : after ≡ tree_after_entry tree entry

-- what stands behind the first line of a text and the tree after it, or none: then it begins with the line of no entry that may stand there
abbrev pub IsFollowed : TreeState → ℕ → List ℕ → TreeState → Option (List ℕ) → Type 0
IsFollowed tree stamp text after (Some behind) = (entry : Entry) × BeginsWithLine tree stamp text behind after entry
IsFollowed tree stamp text after None = (entry : Entry) (behind : List ℕ) → MayBePrinted tree stamp entry → text ≡ entry_text entry ++ behind → ⊥
