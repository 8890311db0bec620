-- Workers of a table at rest, and the histories to which they come.
use Rattle.std.specs.Prelude.{◌≡◌, ◌<◌, ◌∷◌, ℕ, List, All, Some, filter, length, map, slice_get}
use Rattle.tree_laws.specs.History.{IsLegal, tree_after}
use Rattle.tree_laws.specs.Merged.{is_core}
use Rattle.tree_laws.specs.Tree.{TreeState}
use Rattle.tree_laws.specs.declared.history.Entry.{Entry}
use Rattle.tree_totals.specs.Totals.{total_bytes, total_rows}
use Rattle.tree_totals.specs.declared.counted.TreeTotals.{TreeTotals}
use Rattle.stamp_table.specs.Table.{IsBetweenCalls, IsLogAtEnd}
use Rattle.stamp_table.specs.declared.event.Event.{Event}
use Rattle.mem_values.specs.Facts.{IsLawfulLog}
use Rattle.mem_values.specs.Start.{FileHand, FileState, given_by}
use Rattle.mem_values.specs.declared.fact.Fact.{Fact}
use Rattle.workers.specs.Phases.{AreBefore}
use Rattle.workers.specs.declared.worker.Worker.{Worker}
use Rattle.table_totals.specs.Seen.{OnlySaw}

-- the cores of some workers
abbrev pub cores_in : {P : Type 0} → List (Worker P) → List FileHand
cores_in workers = map (λ worker. worker.core) workers

-- Workers have as many cores as a table; each is between two calls, and none of its entries has reached the number at which it looked last.
pub record AreAtRest {P : Type 0} (t : FileState) (workers : List (Worker P)) : Type 0 where
  pub some : 0 < length workers
  pub count : length workers ≡ length t.first.made
  pub between : All (λ worker. IsBetweenCalls t worker.core) workers
  pub past : All (λ worker. AreBefore worker.until worker.core.entries) workers

-- The core of the first worker has only seen more, and all else is as before.
pub record FirstSaw {P : Type 0} (before after : List (Worker P)) : Type 0 where
  pub was : Worker P
  pub others : List (Worker P)
  pub now : FileHand
  pub before_is : before ≡ was ∷ others
  pub after_is : after ≡ record was { core = now } ∷ others
  pub saw : OnlySaw was.core now

-- A history to which workers come where their table ends with what they have made: it is legal, each worker's entries are its part of it, and the events of the
-- table came to it.
pub record ComeToHistory {P : Type 0} (t : FileState) (workers : List (Worker P)) (history : List Entry) : Type 0 where
  pub legal : IsLegal t.first history
  pub own : (core : ℕ) (worker : Worker P) → slice_get workers core ≡ Some worker → filter (is_core core) history ≡ worker.core.entries
  pub log : List (Event Fact)
  pub events : IsLogAtEnd (IsLawfulLog (given_by t)) t.first (cores_in workers) history log

-- These are the totals of a tree.
pub record AreTotalsOf (tree : TreeState) (found : TreeTotals) : Type 0 where
  pub rows : found.rows ≡ total_rows tree
  pub bytes : found.bytes ≡ total_bytes tree

-- These are the totals of the tree after each history to which workers come.
abbrev pub AreTotalsAtEnd : {P : Type 0} → FileState → List (Worker P) → TreeTotals → Type 0
AreTotalsAtEnd t workers found = (history : List Entry) → ComeToHistory t workers history → AreTotalsOf (tree_after t.first history) found
