-- When a history follows a script.
use Rattle.std.specs.Prelude.{◌≡◌, ◌⊎◌, ℕ, ◌==◌, List, [], ◌∷◌, ◌++◌, map, filter, Some, None}
use Rattle.tree_laws.specs.declared.history.Entry.{Entry}
use Rattle.tree_laws.specs.declared.reply.Reply.{Reply}
use Rattle.script.specs.declared.commands.Command.{Command}
use Rattle.script.specs.declared.commands.Line.{Line}
use Rattle.script.specs.Walks.{next_call, commands_of}

-- the entries of one core
abbrev pub core_entries : ℕ → List Entry → List Entry
core_entries core history = filter (λ entry. entry.core.0 == core) history

-- the replies of entries
abbrev pub replies_of : List Entry → List Reply
replies_of entries = map (λ entry. entry.reply) entries

-- Behind these entries come others: each is the worker's next call after the replies to all those before it.
abbrev pub MakesBehind : List Command → List Entry → List Entry → Type 0
MakesBehind commands before [] = Unit {0}
MakesBehind commands before (entry ∷ entries) =
    (next_call commands (replies_of before) ≡ Some entry.call) × MakesBehind commands (before ++ entry ∷ []) entries

-- entries are the calls of a worker with these commands, one by one, up to its end or not
abbrev pub Makes : List Command → List Entry → Type 0
Makes commands entries = MakesBehind commands [] entries

-- entries are all calls of a worker with these commands, one by one, and then the end
pub record MakesAll (commands : List Command) (entries : List Entry) : Type 0 where
  pub makes : Makes commands entries
  pub ended : next_call commands (replies_of entries) ≡ None

-- in this part of a history each worker made the calls of its commands up to its end
abbrev pub IsWholePhase : List Line → List Entry → Type 0
IsWholePhase phase part = (core : ℕ) → MakesAll (commands_of core phase) (core_entries core part)

-- in this part of a history each worker made calls of its commands
abbrev pub IsPartOfPhase : List Line → List Entry → Type 0
IsPartOfPhase phase part = (core : ℕ) → Makes (commands_of core phase) (core_entries core part)

-- a history is cut in two: the first part is a whole phase, and this holds of the rest
pub record BeginsWithPhase (phase : List Line) (Holds : List Entry → Type 0) (history : List Entry) : Type 0 where
  pub part : List Entry
  pub rest : List Entry
  pub joined : history ≡ part ++ rest
  pub whole : IsWholePhase phase part
  pub holds : Holds rest

-- A history follows phases: it is cut in order into one part for each, in which each worker came to its end.
abbrev pub Follows : List (List Line) → List Entry → Type 0
Follows [] history = history ≡ []
Follows (phase ∷ phases) history = BeginsWithPhase phase (Follows phases) history

-- A history follows phases so far: there may be fewer parts than phases, and in the last one the workers may have calls left.
abbrev pub FollowsSoFar : List (List Line) → List Entry → Type 0
FollowsSoFar [] history = history ≡ []
FollowsSoFar (phase ∷ phases) history = IsPartOfPhase phase history ⊎ BeginsWithPhase phase (FollowsSoFar phases) history
