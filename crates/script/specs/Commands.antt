-- The command of a line.
use Rattle.std.specs.Prelude.{ℕ, ◌^◌, ◌-◌, ◌==◌, List, [], ◌∷◌, codes, bytes_eq, option_map, Option, Some, None, if◌then◌else◌}
use Rattle.std.specs.Option.{option_zip}
use Rattle.script.specs.declared.commands.Command.{Command}
use Rattle.script.specs.declared.commands.Command.TheVariants as command
use Rattle.script.specs.declared.commands.Line.{Line}
use Rattle.script.specs.declared.reading.verbs.Verb.{Verb}
use Rattle.script.specs.declared.reading.verbs.Verb.TheVariants.{Create, Mkdir, Link, Unlink, Rmdir, Rename, Write, Read, Trunc, Stat, List as Lists, Fsync}
use Rattle.script.specs.declared.reading.line_kind.LineKind.{LineKind}
use Rattle.script.specs.declared.reading.line_kind.LineKind.TheVariants.{Skipped, Ends, Does}
use Rattle.script.specs.Lines.{words}
use Rattle.script.specs.Words.{number_up_to, hex_bytes}
use Rattle.script.specs.Paths.{path_of, name_path_of}

-- the word of a command
abbrev pub verb_of : List ℕ → Option Verb
verb_of word =
    if bytes_eq word (codes "create") then Some Create else
    if bytes_eq word (codes "mkdir") then Some Mkdir else
    if bytes_eq word (codes "link") then Some Link else
    if bytes_eq word (codes "unlink") then Some Unlink else
    if bytes_eq word (codes "rmdir") then Some Rmdir else
    if bytes_eq word (codes "rename") then Some Rename else
    if bytes_eq word (codes "write") then Some Write else
    if bytes_eq word (codes "read") then Some Read else
    if bytes_eq word (codes "trunc") then Some Trunc else
    if bytes_eq word (codes "stat") then Some Stat else
    if bytes_eq word (codes "list") then Some Lists else
    if bytes_eq word (codes "fsync") then Some Fsync else
    None

-- a number below 2 ^ 64
abbrev pub offset_of : List ℕ → Option ℕ
offset_of word = number_up_to (2 ^ 64 - 1) word

-- how many bytes are read: up to 65,536
abbrev pub read_count : List ℕ → Option ℕ
read_count word = number_up_to 65536 word

-- three values, where all are there
abbrev pub all_three : {A B C : Type 0} → Option A → Option B → Option C → Option (A × B × C)
all_three (Some first) (Some second) (Some third) = Some (first, second, third)
all_three (Some first) (Some second) None = None
all_three (Some first) None third = None
all_three None second third = None

-- what one word spells, where there is no other
abbrev pub one : {A : Type 0} → (List ℕ → Option A) → List (List ℕ) → Option A
one read (word ∷ []) = read word
one read _ = None

-- what two words spell, where there are no others
abbrev pub two : {A B : Type 0} → (List ℕ → Option A) → (List ℕ → Option B) → List (List ℕ) → Option (A × B)
two read_first read_second (first ∷ second ∷ []) = option_zip (read_first first) (read_second second)
two read_first read_second _ = None

-- what three words spell, where there are no others
abbrev pub three : {A B C : Type 0} → (List ℕ → Option A) → (List ℕ → Option B) → (List ℕ → Option C) → List (List ℕ) → Option (A × B × C)
three read_first read_second read_third (first ∷ second ∷ third ∷ []) = all_three (read_first first) (read_second second) (read_third third)
three read_first read_second read_third _ = None

-- The command of a verb and the words behind it.
abbrev pub command_of : Verb → List (List ℕ) → Option Command
command_of Create words = option_map command.Create (one name_path_of words)
command_of Mkdir words = option_map command.Mkdir (one name_path_of words)
command_of Link words = option_map (λ read. command.Link read.0 read.1) (two path_of name_path_of words)
command_of Unlink words = option_map command.Unlink (one name_path_of words)
command_of Rmdir words = option_map command.Rmdir (one name_path_of words)
command_of Rename words = option_map (λ read. command.Rename read.0 read.1) (two name_path_of name_path_of words)
command_of Write words = option_map (λ read. command.Write read.0 read.1 read.2) (three path_of offset_of hex_bytes words)
command_of Read words = option_map (λ read. command.Read read.0 read.1 read.2) (three path_of offset_of read_count words)
command_of Trunc words = option_map (λ read. command.Trunc read.0 read.1) (two path_of offset_of words)
command_of Stat words = option_map command.Stat (one path_of words)
command_of Lists words = option_map command.List (one path_of words)
command_of Fsync words = option_map command.Fsync (one path_of words)

-- a worker's number: up to 65,535
abbrev pub worker_of : List ℕ → Option ℕ
worker_of word = number_up_to 65535 word

-- a line with a worker and a command
abbrev pub worker_line : ℕ × Command → Line
worker_line read = record { worker = read.0; command = read.1 }

-- the command of a verb, where the word is one
abbrev pub command_with : Option Verb → List (List ℕ) → Option Command
command_with (Some verb) words = command_of verb words
command_with None words = None

-- a worker, a command's word and the words behind it
abbrev pub line_in : List (List ℕ) → Option Line
line_in (worker ∷ verb ∷ words) = option_map worker_line (option_zip (worker_of worker) (command_with (verb_of verb) words))
line_in (worker ∷ []) = None
line_in [] = None

-- what a line with bytes is: a comment where it begins with `#`, the end of a phase where it is `---`, and else a worker's command
abbrev pub kind_of_filled_line : ℕ → List ℕ → Option LineKind
kind_of_filled_line byte bytes =
    if byte == 35 then Some Skipped else
    if bytes_eq (byte ∷ bytes) (codes "---") then Some Ends else
    option_map Does (line_in (words (byte ∷ bytes)))

-- What a line is: an empty one is skipped; None is outside the grammar.
abbrev pub kind_of_line : List ℕ → Option LineKind
kind_of_line [] = Some Skipped
kind_of_line (byte ∷ bytes) = kind_of_filled_line byte bytes
