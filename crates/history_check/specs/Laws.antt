-- What is proved of the definitions.
use Rattle.std.specs.Prelude.{◌≡◌, ℕ, ◌≤◌, ◌++◌, List, length}
use Rattle.std.specs.List.{AllByRecursion}
use Rattle.tree_laws.specs.declared.history.Entry.{Entry}
use Rattle.tree_laws.specs.Tree.{TreeState}
use Rattle.tree_laws.specs.History.{IsLegal}
use Rattle.script.specs.Texts.{entry_text, history_text}
use Rattle.history_check.specs.Legal.{IsLegalText, IsFirstWrong}
use Rattle.history_check.specs.Told.{MayBePrinted}
use Rattle.history_check.specs.Values.{IsCall, HasNumbers}

-- an entry whose call can be made, and whose reply's numbers are such as it can have
pub record IsEntry (entry : Entry) : Type 0 where
  pub call : IsCall entry.call
  pub numbers : HasNumbers entry.reply

-- The text of a legal history is a legal text, with as many lines as the history has entries.
abbrev pub LegalHistoriesHaveLegalTexts : Type 0
LegalHistoriesHaveLegalTexts =
    (first : TreeState) (history : List Entry) → IsLegal first history → AllByRecursion IsEntry history
    → IsLegalText first (history_text history) (length history)

-- A legal text is that of a legal history of so many entries, which has moments of acknowledgement that no text has.
abbrev pub LegalTextsHaveLegalHistories : Type 0
LegalTextsHaveLegalHistories =
    (first : TreeState) (bytes : List ℕ) (count : ℕ) → IsLegalText first bytes count
    → (history : List Entry) × IsLegal first history × (history_text history ≡ bytes) × (length history ≡ count)

-- A text is legal for one number of entries at most.
abbrev pub CountsAreOne : Type 0
CountsAreOne = (first : TreeState) (bytes : List ℕ) (count other : ℕ) → IsLegalText first bytes count → IsLegalText first bytes other → count ≡ other

-- A text is not both legal and wrong, and it is wrong at one line at most.
pub record OneAnswer (first : TreeState) (bytes : List ℕ) : Type 0 where
  pub apart : (count line : ℕ) → IsLegalText first bytes count → IsFirstWrong first bytes line → ⊥
  pub line : (line other : ℕ) → IsFirstWrong first bytes line → IsFirstWrong first bytes other → line ≡ other

abbrev pub AnswersAreOne : Type 0
AnswersAreOne = (first : TreeState) (bytes : List ℕ) → OneAnswer first bytes

-- two entries that have the same core and call, and as fsyncs of live nodes the same reply
pub record SameDeed (tree : TreeState) (entry other : Entry) : Type 0 where
  pub core : entry.core ≡ other.core
  pub call : entry.call ≡ other.call
  pub reply : entry.reply ≡ other.reply

-- Entries that begin one text and may stand at one place have one core, one call and one reply.
abbrev pub LinesTellOneEntry : Type 0
LinesTellOneEntry =
    (tree : TreeState) (stamp : ℕ) (entry other : Entry) (behind rest : List ℕ) → length tree.made ≤ 256
    → MayBePrinted tree stamp entry → MayBePrinted tree stamp other
    → entry_text entry ++ behind ≡ entry_text other ++ rest → SameDeed tree entry other
