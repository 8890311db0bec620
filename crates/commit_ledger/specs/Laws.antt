-- The laws of ledgers, each of which a function of the module laws proves.
use Rattle.std.specs.Prelude.{◌≡◌, ◌≤◌, ◌∷◌, ℕ, List, [], Some, None}
use Rattle.space_map.specs.Space.{GrantedNumbers}
use Rattle.slot_laws.specs.declared.label.Seen.{Seen}
use Rattle.slot_laws.specs.Nodes.{ReservedCommit, commits_numbered, last_seen, last_ended}
use Rattle.slot_laws.specs.Labels.{BoxPast}
use Rattle.slot_laws.specs.Lasts.{KeepsNodes}
use Rattle.commit_ledger.specs.View.{DebtView, OpenView, LedgerView, open_in, moved_in}
use Rattle.commit_ledger.specs.Keeps.{LedgerKeeps, WasGranted}
use Rattle.commit_ledger.specs.Calls.{HasOpen, MayReturn, MayEnd}

-- A label that leaves numbers and nodes as they are leaves a ledger what labels have told.
abbrev pub QuietLabelsKeepIt : Type 0
QuietLabelsKeepIt = (ledger : LedgerView) (old new : BoxPast) → KeepsNodes old new → LedgerKeeps ledger old → LedgerKeeps ledger new

-- Where none of some nodes has moved, the last commit of each was told with the number that was seen, and to have ended.
abbrev pub UnmovedAreAsSeen : Type 0
UnmovedAreAsSeen = (ledger : LedgerView) (past : BoxPast) (seen : List Seen) → LedgerKeeps ledger past → moved_in ledger seen ≡ None
    → (node last : ℕ) → last_seen seen node ≡ Some last → past.lasts node ≡ last_ended last

-- An open commit of a ledger was told once: its number is one that was given, and exactly one open commit has it.
pub record IsToldOnce (one : OpenView) (past : BoxPast) : Type 0 where
  pub commit : ReservedCommit
  pub alone : commits_numbered one.number past.opens ≡ commit ∷ []
  pub seen_is : commit.seen ≡ one.seen
  pub given : one.number ≤ past.commits

abbrev pub OpenOnesAreToldOnce : Type 0
OpenOnesAreToldOnce = (ledger : LedgerView) (past : BoxPast) (core : ℕ) (one : OpenView) → LedgerKeeps ledger past → open_in ledger core ≡ Some one
    → IsToldOnce one past

-- An open commit's nodes have their places.
abbrev pub OpenOnesHavePlaces : Type 0
OpenOnesHavePlaces = (ledger : LedgerView) (past : BoxPast) (core : ℕ) (one : OpenView) → LedgerKeeps ledger past → open_in ledger core ≡ Some one
    → HasOpen core ledger

-- A commit that has not begun in a slot may give back what it was granted.
abbrev pub GrantedMayReturn : Type 0
GrantedMayReturn = (ledger : LedgerView) (past : BoxPast) (core : ℕ) (one : OpenView) (grant : GrantedNumbers) → LedgerKeeps ledger past
    → open_in ledger core ≡ Some one → one.debt ≡ None → WasGranted past.opens one.number grant → MayReturn core grant ledger

-- A commit that has begun in a slot may end.
abbrev pub BegunMayEnd : Type 0
BegunMayEnd = (ledger : LedgerView) (past : BoxPast) (core : ℕ) (one : OpenView) (debt : DebtView) → LedgerKeeps ledger past
    → open_in ledger core ≡ Some one → one.debt ≡ Some debt → MayEnd core ledger
