-- Why a script is refused.
use Rattle.std.specs.Prelude.{◌≡◌, ℕ, ◌<◌, ◌≤◌, List, length, Err}
use Rattle.sfs_base.specs.declared.numbers.Measure.TheVariants.{Bytes, Lines}
use Rattle.script.specs.declared.fault.ScriptFault.{ScriptFault}
use Rattle.script.specs.declared.fault.ScriptFault.TheVariants.{TooLong, BadLine, NoMemory}
use Rattle.script.specs.Lines.{lines}
use Rattle.script.specs.Phases.{phases_of}

-- how many bytes a script has at most
abbrev pub MOST_BYTES : ℕ
MOST_BYTES = 16777216

-- how many lines a script has at most
abbrev pub MOST_LINES : ℕ
MOST_LINES = 262144

-- a script within both limits
pub record IsShort (script : List ℕ) : Type 0 where
  pub bytes : length script ≤ MOST_BYTES
  pub lines : length (lines script) ≤ MOST_LINES

-- A fault of a script has its cause: it has too many bytes; or else too many lines; or else this is its first line outside the
-- grammar; want of memory has none.
abbrev pub HasFault : List ℕ → ScriptFault → Type 0
HasFault script (TooLong Bytes) = MOST_BYTES < length script
HasFault script (TooLong Lines) = (length script ≤ MOST_BYTES) × (MOST_LINES < length (lines script))
HasFault script (BadLine line) = IsShort script × (phases_of script ≡ Err line)
HasFault script NoMemory = Unit {0}
