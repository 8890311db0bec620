-- What a worker has, and what it makes of its commands in a phase.
use Rattle.std.specs.Prelude.{◌≡◌, ℕ, ◌<◌, Bool, List, ◌++◌, length, is_some, slice_index_or}
use Rattle.std.specs.List.{list_any}
use mathlib.Core.List.{IsPrefix}
use Rattle.tree_laws.specs.declared.history.Entry.{Entry}
use Rattle.script.specs.declared.commands.Command.{Command}
use Rattle.script.specs.declared.commands.Line.{Line}
use Rattle.script.specs.Walks.{next_call, commands_of}
use Rattle.script.specs.Follows.{replies_of, Makes}
use Rattle.stamp_table.specs.Table.{IsBetweenCalls, IsSameCore}
use Rattle.mem_values.specs.Start.{FileHand, FileState}
use Rattle.fsync_stamp.specs.Adding.{calls_seen}
use Rattle.workers.specs.declared.worker.Worker.{Worker}
use Rattle.workers.specs.Phases.{AreBefore, AreFrom}

module _ {P : Type 0} (t : FileState) (agrees : FileHand → P → Type 0) where
  -- A worker that rests: its core is between two calls and agrees with its pen, and none of its entries has reached the number at which it
  -- looked last.
  pub record Rests (worker : Worker P) : Type 0 where
    pub between : IsBetweenCalls t worker.core
    pub agree : agrees worker.core worker.pen
    pub past : AreBefore worker.until worker.core.entries

  -- A worker has made calls of its commands, each the next one after the replies to those before it, with stamps from a number on that none
  -- of its entries had reached. It is refused memory exactly where calls are left.
  pub record Works (commands : List Command) (from : ℕ) (before after : Worker P) : Type 0 where
    pub made : List Entry
    pub rests : Rests after
    pub same : IsSameCore before.core after.core
    pub grown : after.core.entries ≡ before.core.entries ++ made
    pub makes : Makes commands made
    pub past : AreBefore from before.core.entries
    pub late : AreFrom from made
    pub refused : after.refused ≡ is_some (next_call commands (replies_of made))

  -- each of some workers has worked on its commands in a phase
  abbrev pub WorksEach : List Line → ℕ → List (Worker P) → List (Worker P) → Type 0
  WorksEach phase from before after = (place : ℕ) (d : Worker P) → place < length before
      → Works (commands_of (slice_index_or before place d).core.view.core phase) from (slice_index_or before place d) (slice_index_or after place d)

-- whether one of some workers is refused memory
abbrev pub any_refused : {P : Type 0} → List (Worker P) → Bool
any_refused workers = list_any (λ worker. worker.refused) workers

module _ {P : Type 0} (t : FileState) (agrees : FileHand → P → Type 0) where
  -- A core has made calls of commands, and was refused memory or came to their end. All have stamps above what it had seen, and it has seen
  -- them now.
  pub record MakesCalls (commands : List Command) (before after : FileHand) (pen : P) (refused : Bool) : Type 0 where
    pub made : List Entry
    pub between : IsBetweenCalls t after
    pub agree : agrees after pen
    pub same : IsSameCore before after
    pub grown : after.entries ≡ before.entries ++ made
    pub makes : Makes commands made
    pub late : AreFrom (calls_seen before) made
    pub early : AreBefore (calls_seen after) made
    pub seen : IsPrefix before.view.seen after.view.seen
    pub refused_is : refused ≡ is_some (next_call commands (replies_of made))
