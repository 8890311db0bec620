-- What clap makes of the words, and what is answered for it.
use Rattle.std.specs.Prelude.{◌≡◌, ℕ, List, [], ◌∷◌, Some, Result, Ok, Err, unwrap_or}
use Rattle.clap.specs.Walk.{Text, Row, all_of}
use Rattle.clap.specs.Simple.{subcommand_rows_of}
use Rattle.clap.specs.declared.parser.matches.ArgMatches.{ArgMatches}
use Rattle.words.specs.declared.command.Command.{Command}
use Rattle.words.specs.declared.command.WordsFault.{WordsFault}
use Rattle.words.specs.declared.command.WordsFault.TheVariants.{BadWords, NoMemory}
use Rattle.words.specs.Grammar.{NUMBERS}
use Rattle.words.specs.Words.{command_in}

-- The words were read: the subcommand is the first, and its values are those behind it.
pub record IsRead (words : List Text) (matches : ArgMatches) : Type 0 where
  pub word : Text
  pub rows : List Row
  pub is : words ≡ word ∷ unwrap_or (all_of NUMBERS rows) []
  pub entered : subcommand_rows_of matches ≡ Some (word, rows)

-- They were refused: they are no command, or memory was wanting.
abbrev pub IsRefused : List Text → WordsFault → Type 0
IsRefused words (BadWords place) = command_in words ≡ Err place
IsRefused words NoMemory = Unit {0}

-- What is asked for was answered, or memory was refused.
abbrev pub IsAnswer : Result Command ℕ → Result Command WordsFault → Type 0
IsAnswer asked (Ok command) = asked ≡ Ok command
IsAnswer asked (Err (BadWords place)) = asked ≡ Err place
IsAnswer asked (Err NoMemory) = Unit {0}
