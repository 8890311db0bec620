-- What a line of a history's text may tell.
use Rattle.std.specs.Prelude.{◌≡◌, ℕ, suc, ◌<◌, true, List, [], ◌∷◌, length}
use Rattle.tree_laws.specs.declared.history.Entry.{Entry}
use Rattle.tree_laws.specs.Tree.{TreeState}
use Rattle.tree_laws.specs.Verdict.{verdict}
use Rattle.tree_laws.specs.History.{flushes, IsDue, tree_after_entry}
use Rattle.script.specs.Texts.{entry_text}
use Rattle.history_check.specs.Values.{IsCall, HasNumbers}

-- An entry that a line may tell of: its stamp is the count of the lines before it, its core is one of the tree's, its call can be
-- made, and its reply is that of the table in this tree, or for an fsync of a live node one of those that an fsync has. When it
-- was acknowledged is in no text, and not asked for.
pub record MayBePrinted (tree : TreeState) (stamp : ℕ) (entry : Entry) : Type 0 where
  pub stamped : entry.stamp.0 ≡ stamp
  pub core : entry.core.0 < length tree.made
  pub call : IsCall entry.call
  pub due : IsDue (flushes tree entry.call) (verdict tree entry.core.0 entry.call).reply entry.reply
  pub numbers : flushes tree entry.call ≡ true → HasNumbers entry.reply

-- a line that tells of this entry
pub record IsLineOf (tree : TreeState) (stamp : ℕ) (line : List ℕ) (entry : Entry) : Type 0 where
  pub may : MayBePrinted tree stamp entry
  pub text : line ≡ entry_text entry

-- lines that may stand from a tree and a stamp on: each tells of an entry, and those behind it stand from the tree after that entry
abbrev pub AreLegalLines : TreeState → ℕ → List (List ℕ) → Type 0
AreLegalLines tree stamp [] = Unit {0}
AreLegalLines tree stamp (line ∷ later) = (entry : Entry) × IsLineOf tree stamp line entry × AreLegalLines (tree_after_entry tree entry) (suc stamp) later
