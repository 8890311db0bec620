-- When the text of a history is legal.
use Rattle.std.specs.Prelude.{◌≡◌, ℕ, ◌-◌, ◌≤◌, List, length, take}
use Rattle.tree_laws.specs.Tree.{TreeState}
use Rattle.history_check.specs.declared.fault.CheckFault.{CheckFault}
use Rattle.history_check.specs.declared.fault.CheckFault.TheVariants.{WrongLine, NoMemory}
use Rattle.history_check.specs.Lines.{whole_lines}
use Rattle.history_check.specs.Told.{AreLegalLines}

-- The text of a legal history of so many entries, which begins with this tree: the bytes are so many lines, and each is the line
-- of an entry that may stand there, the first with stamp 0.
pub record IsLegalText (first : TreeState) (bytes : List ℕ) (count : ℕ) : Type 0 where
  pub told : AreLegalLines first 0 (whole_lines bytes)
  pub counted : count ≡ length (whole_lines bytes)

-- The first wrong line of a text, counted from 1: the lines before it are those of a legal history, and together with it they are not.
pub record IsFirstWrong (first : TreeState) (bytes : List ℕ) (line : ℕ) : Type 0 where
  pub number : 1 ≤ line
  pub before : AreLegalLines first 0 (take (line - 1) (whole_lines bytes))
  pub wrong : AreLegalLines first 0 (take line (whole_lines bytes)) → ⊥

-- A fault of a text has its cause: this is its first wrong line; want of memory has none.
abbrev pub IsFaultOfText : TreeState → List ℕ → CheckFault → Type 0
IsFaultOfText first bytes (WrongLine line) = IsFirstWrong first bytes line
IsFaultOfText first bytes NoMemory = Unit {0}
