-- How a run ends: its status with its cause, the history, and the text.
use Rattle.std.specs.Prelude.{◌≡◌, ℕ, ◌≤◌, ◌<◌, Bool, true, false, List, [], ◌++◌, length, take, codes, decimal, Option, Some, None, Err}
use Rattle.std.specs.Io.KnownBytes.{Appends}
use Rattle.sfs_base.specs.declared.transfer.ReadAllFault.{ReadAllFault}
use Rattle.sfs_base.specs.declared.transfer.ReadAllFault.TheVariants as source
use Rattle.words.specs.declared.command.WordsFault.{WordsFault}
use Rattle.words.specs.declared.command.WordsFault.TheVariants as words
use Rattle.script.specs.declared.fault.ScriptFault.{ScriptFault}
use Rattle.script.specs.declared.fault.ScriptFault.TheVariants as script
use Rattle.sfs_base.specs.declared.numbers.Measure.{Measure}
use Rattle.sfs_base.specs.declared.numbers.Measure.TheVariants.{Bytes, Lines}
use Rattle.tree_laws.specs.declared.history.Entry.{Entry}
use Rattle.script.specs.declared.commands.Line.{Line}
use Rattle.script.specs.Follows.{Follows, FollowsSoFar}
use Rattle.script.specs.Lines.{lines}
use Rattle.script.specs.Phases.{phases_of}
use Rattle.script.specs.Faults.{MOST_BYTES, MOST_LINES, IsShort}
use Rattle.scalefs_run.specs.declared.outcome.ImageFault.{ImageFault}
use Rattle.scalefs_run.specs.declared.outcome.ImageFault.TheVariants.{Super, Journal, Tree}
use Rattle.scalefs_run.specs.declared.outcome.Status.{Status}
use Rattle.scalefs_run.specs.declared.outcome.Status.TheVariants.{Done, BadWords, BadScript, ReadFault, WriteFault, DiskFault, BadImage, NoMemory, TooManyWorkers, TooLong, TooSmall, WrongHistory, NotAccepted}

-- these are the bytes that were told, where they were
abbrev pub IsOf : Option (List ℕ) → List ℕ → Type 0
IsOf (Some told) bytes = bytes ≡ told
IsOf None bytes = Unit {0}

-- the words were a command
abbrev pub IsCommand : Status → Type 0
IsCommand (BadWords place) = ⊥
IsCommand _ = Unit {0}

-- the disk is come to: the words are a command, the script, if there is one, is in the grammar and the limits, and a disk that is made is
-- large enough
abbrev pub ComesToDisk : Status → Type 0
ComesToDisk Done = Unit {0}
ComesToDisk (TooManyWorkers asked have) = Unit {0}
ComesToDisk (BadImage fault) = Unit {0}
ComesToDisk _ = ⊥

-- Why a call ends so, from the status that is due, and from whether the source's, the sink's or the disk's faults have risen:
-- with the status that is due; or a failure of the source, or of the disk once it is come to, or of the sink at the end; or want of memory.
abbrev pub HasStatus : Status → Type 0 → Type 0 → Type 0 → Status → Type 0
HasStatus due source sink disk Done = due ≡ Done
HasStatus due source sink disk (BadWords place) = due ≡ BadWords place
HasStatus due source sink disk (BadScript line) = due ≡ BadScript line
HasStatus due source sink disk ReadFault = source × IsCommand due
HasStatus due source sink disk WriteFault = sink × (due ≡ Done)
HasStatus due source sink disk DiskFault = disk × ComesToDisk due
HasStatus due source sink disk (BadImage fault) = due ≡ BadImage fault
HasStatus due source sink disk NoMemory = IsCommand due
HasStatus due source sink disk (TooManyWorkers asked have) = due ≡ TooManyWorkers asked have
HasStatus due source sink disk (TooLong measure) = due ≡ TooLong measure
HasStatus due source sink disk (TooSmall need have) = due ≡ TooSmall need have
HasStatus due source sink disk (WrongHistory line) = due ≡ WrongHistory line
HasStatus due source sink disk NotAccepted = due ≡ NotAccepted

-- the status of a call whose words were refused
abbrev pub status_of_words : WordsFault → Status
status_of_words (words.BadWords place) = BadWords place
status_of_words words.NoMemory = NoMemory

-- the status of a run whose source could not be read
abbrev pub status_of_source : ReadAllFault → Status
status_of_source source.ReadFault = ReadFault
status_of_source source.TooLong = TooLong Bytes
status_of_source source.NoMemory = NoMemory

-- the status of a run whose script was refused
abbrev pub status_of_script : ScriptFault → Status
status_of_script (script.TooLong measure) = TooLong measure
status_of_script (script.BadLine line) = BadScript line
status_of_script script.NoMemory = NoMemory

-- too many of what a script is measured in
abbrev pub IsTooLong : List ℕ → Measure → Type 0
IsTooLong text Bytes = MOST_BYTES < length text
IsTooLong text Lines = (length text ≤ MOST_BYTES) × (MOST_LINES < length (lines text))

-- why no script was read: the source failed; the script is too long, or has a bad line; or want of memory
abbrev pub HasReadFault : List ℕ → Type 0 → Status → Type 0
HasReadFault text failed ReadFault = failed
HasReadFault text failed (TooLong measure) = IsTooLong text measure
HasReadFault text failed (BadScript line) = IsShort text × (phases_of text ≡ Err line)
HasReadFault text failed NoMemory = Unit {0}
HasReadFault text failed _ = ⊥

-- how writing the text ends: wholly, with a failure of the sink, or with want of memory before it
abbrev pub IsWriteStatus : Type 0 → Status → Type 0
IsWriteStatus sink Done = Unit {0}
IsWriteStatus sink WriteFault = sink
IsWriteStatus sink NoMemory = Unit {0}
IsWriteStatus sink _ = ⊥

-- The history that belongs to a status: that of the whole script, of its begin where memory was refused, or none.
abbrev pub HasHistory : List (List Line) → List Entry → Status → Type 0
HasHistory phases history Done = Follows phases history
HasHistory phases history WriteFault = Follows phases history
HasHistory phases history NoMemory = FollowsSoFar phases history
HasHistory phases history _ = history ≡ []

-- What is written with a status: the whole text, a front that lacks some of it, or nothing.
abbrev pub HasText : List ℕ → Option (List ℕ) → Option (List ℕ) → Status → Type 0
HasText text before after Done = Appends before after text
HasText text before after WriteFault = (n : ℕ) × (n < length text) × Appends before after (take n text)
HasText text before after _ = after ≡ before

-- whether a call with this status came to the disk
abbrev pub reaches_disk : Status → Bool
reaches_disk Done = true
reaches_disk WriteFault = true
reaches_disk DiskFault = true
reaches_disk (BadImage fault) = true
reaches_disk NoMemory = true
reaches_disk (TooManyWorkers asked have) = true
reaches_disk (WrongHistory line) = true
reaches_disk NotAccepted = true
reaches_disk _ = false

-- the number with which the program ends
abbrev pub status_number : Status → ℕ
status_number Done = 0
status_number (BadWords place) = 2
status_number (BadScript line) = 3
status_number ReadFault = 4
status_number WriteFault = 5
status_number DiskFault = 6
status_number (BadImage fault) = 7
status_number NoMemory = 8
status_number (TooManyWorkers asked have) = 9
status_number (TooLong measure) = 10
status_number (TooSmall need have) = 11
status_number (WrongHistory line) = 13
status_number NotAccepted = 15

-- what is wrong in an image: a byte of the superblock or of a journal slot, or an inode and the rule that it breaks
abbrev pub fault_text : ImageFault → List ℕ
fault_text (Super at) = codes "superblock byte " ++ decimal at
fault_text (Journal core slot at) = (codes "journal " ++ decimal core) ++ ((codes " slot " ++ decimal slot) ++ (codes " byte " ++ decimal at))
fault_text (Tree inode rule) = (codes "inode " ++ decimal inode) ++ (codes " rule " ++ decimal rule)

-- the line that the program writes on standard error
abbrev pub status_text : Status → List ℕ
status_text Done = []
status_text (BadWords place) = codes "bad words at " ++ decimal place
status_text (BadScript line) = codes "bad script at line " ++ decimal line
status_text ReadFault = codes "cannot read the script"
status_text WriteFault = codes "cannot write the answer"
status_text DiskFault = codes "the disk failed"
status_text (BadImage fault) = codes "bad image: " ++ fault_text fault
status_text NoMemory = codes "out of memory"
status_text (TooManyWorkers asked have) = (codes "worker " ++ decimal asked) ++ (codes " of " ++ decimal have)
status_text (TooLong measure) = codes "script too long"
status_text (TooSmall need have) = (codes "too small: need " ++ decimal need) ++ (codes " blocks, have " ++ decimal have)
status_text (WrongHistory line) = codes "wrong history at line " ++ decimal line
status_text NotAccepted = codes "the image changed"
