-- What a contract sees of a ledger.
use Rattle.std.specs.Prelude.{◌<◌, ◌&&◌, ◌==◌, ℕ, Bool, not, List, length, find, All, Option, None, option_map, slice_index_or}
use Rattle.space_map.specs.Space.{Space, GrantedNumbers}
use Rattle.slot_laws.specs.declared.label.Seen.{Seen}
use Rattle.slot_laws.specs.Nodes.{LastCommit, no_last}

-- What is due at a commit's end: what it was granted, and what it gives up.
pub record DebtView : Type 0 where
  pub grant : GrantedNumbers
  pub gives_up : GrantedNumbers

-- A commit that has reserved: its number, its nodes as they were seen, and what is due at its end, from where it begins in a slot.
pub record OpenView : Type 0 where
  pub number : ℕ
  pub seen : List Seen
  pub debt : Option DebtView

-- A map of free space, how many numbers were given, of each node by its number the last commit, and of each core by its number the open one.
pub record LedgerView : Type 0 where
  pub space : Space
  pub commits : ℕ
  pub lasts : List LastCommit
  pub opens : List (Option OpenView)

-- the last commit of a node by such a list, and none past its end
abbrev pub last_at : List LastCommit → ℕ → LastCommit
last_at lasts node = slice_index_or lasts node no_last

-- the last commit of a node
abbrev pub last_in : LedgerView → ℕ → LastCommit
last_in ledger node = last_at ledger.lasts node

-- the open commit of a core
abbrev pub open_in : LedgerView → ℕ → Option OpenView
open_in ledger core = slice_index_or ledger.opens core None

-- the number of the open commit of a core
abbrev pub number_in : LedgerView → ℕ → Option ℕ
number_in ledger core = option_map (λ (one : OpenView). one.number) (open_in ledger core)

-- whether a node has another last commit than was seen, or it has not ended
abbrev pub is_moved : LedgerView → Seen → Bool
is_moved ledger one = not ((last_in ledger one.node.0).ended && ((last_in ledger one.node.0).number == one.last))

-- a node with the number of its last commit
abbrev pub as_it_is : LedgerView → Seen → Seen
as_it_is ledger one = record { node = one.node; last = (last_in ledger one.node.0).number }

-- the first of these nodes that has moved, with the number of its last commit
abbrev pub moved_in : LedgerView → List Seen → Option Seen
moved_in ledger seen = option_map (as_it_is ledger) (find (is_moved ledger) seen)

-- a list by node has a place for each of these nodes
abbrev pub HaveNodePlaces : List LastCommit → List Seen → Type 0
HaveNodePlaces lasts seen = All (λ (one : Seen). one.node.0 < length lasts) seen
