-- What each step on a table tells, and what it asks.
use Rattle.std.specs.Prelude.{◌≡◌, ◌≢◌, ℕ, Bool, ◌+◌, true, false, List, [], ◌∷◌, ◌++◌}
use mathlib.Core.List.{IsPrefix}
use Rattle.atomic_table.specs.Table.{Me, rest}
use Rattle.stamp_table.specs.declared.view.View.{View}
use Rattle.stamp_table.specs.Rule.{Has, entries_by, stamps_in}

-- what is left of a list of places without its first
abbrev pub tail : List ℕ → List ℕ
tail [] = []
tail (place ∷ places) = places

module _ {T E S : Type 0} (core_of : E → ℕ) (draws : E → Bool) (legal : T → List E → Type 0) (stands : T → List E → ℕ → S → Type 0) where
  -- A core has taken a cell and seen the history so far. What stood for a cell that it held before does so.
  pub record SawMore (place : ℕ) (before after : View T E) : Type 0 where
    pub frame : record after { seen = before.seen; held = before.held } ≡ before
    pub seen : IsPrefix before.seen after.seen
    pub legal_seen : legal before.first after.seen
    pub mine : before.mine ≡ entries_by core_of before.core after.seen
    pub kept : (other : ℕ) (value : S) → Has before.held other → stands before.first before.seen other value → stands before.first after.seen other value
    pub held : after.held ≡ place ∷ before.held

  -- the same, with the slot of the cell: its value stands for the history that was seen
  pub record Took (place : ℕ) (before after : Me S (View T E)) : Type 0 where
    pub saw : SawMore place before.0 after.0
    pub value : (value : S) × (after.1 ≡ (place, value) ∷ before.1) × stands before.0.first after.0.seen place value

  -- a step that takes a cell where it finds its lock word at 0, and changes nothing else
  abbrev pub MayTake : ℕ → Me S (View T E) → ℕ → Me S (View T E) → Type 0
  MayTake place before found after = (found ≡ 0 → Took place before after) × (found ≢ 0 → after ≡ before)

  -- A core has added an entry to the history, and has seen it up to this entry.
  pub record Drew (entry : ℕ → E) (before : View T E) (number : ℕ) (after : View T E) (log : List E) : Type 0 where
    pub frame : record after { seen = before.seen; mine = before.mine } ≡ before
    pub number_is : number ≡ stamps_in draws log
    pub seen : IsPrefix before.seen log
    pub kept : (other : ℕ) (value : S) → Has before.held other → stands before.first before.seen other value → stands before.first log other value
    pub entry_last : after.seen ≡ log ++ entry number ∷ []
    pub mine : after.mine ≡ before.mine ++ entry number ∷ []
    pub legal_seen : legal before.first after.seen
    pub own : after.mine ≡ entries_by core_of before.core after.seen

  -- a step by which an entry is added
  abbrev pub Adds : (ℕ → E) → Me S (View T E) → ℕ → Me S (View T E) → Type 0
  Adds entry before number after = (after.1 ≡ before.1) × ((log : List E) × Drew entry before.0 number after.0 log)

  -- A core has seen the history so far, and how many entries drew a stamp in it. What stood for a cell that it holds does so.
  pub record Sees (before : View T E) (number : ℕ) (after : View T E) : Type 0 where
    pub frame : record after { seen = before.seen } ≡ before
    pub number_is : number ≡ stamps_in draws after.seen
    pub seen : IsPrefix before.seen after.seen
    pub legal_seen : legal before.first after.seen
    pub mine : before.mine ≡ entries_by core_of before.core after.seen
    pub kept : (other : ℕ) (value : S) → Has before.held other → stands before.first before.seen other value → stands before.first after.seen other value

  -- a step by which a core sees the history
  abbrev pub Looks : Me S (View T E) → ℕ → Me S (View T E) → Type 0
  Looks before number after = (after.1 ≡ before.1) × Sees before.0 number after.0

  -- a history in which a core's next entry may come: it is legal, the core has seen a beginning of it and has all its own entries
  pub record IsPast (v : View T E) (log : List E) : Type 0 where
    pub legal_log : legal v.first log
    pub seen : IsPrefix v.seen log
    pub mine : v.mine ≡ entries_by core_of v.core log
    pub held : (place : ℕ) (value : S) → Has v.held place → stands v.first v.seen place value → stands v.first log place value

  -- An entry that may come: the history with it is legal, and it keeps what stands for each cell that the core does not hold.
  pub record MayDraw (v : View T E) (entry : ℕ → E) (log : List E) : Type 0 where
    pub legal_next : legal v.first (log ++ entry (stamps_in draws log) ∷ [])
    pub keeps : (place : ℕ) (value : S) → (Has v.held place → ⊥) → stands v.first log place value
        → stands v.first (log ++ entry (stamps_in draws log) ∷ []) place value

module _ {T E S : Type 0} where
  -- The last cell that the core took has gone home.
  abbrev pub Gave : Me S (View T E) → Me S (View T E) → Type 0
  Gave before after = after ≡ (record before.0 { held = tail before.0.held }, rest before.1)

-- the view of the seat that gathers, before any core is made
abbrev pub gatherer : {T E : Type 0} → T → View T E
gatherer first = record { gathers = true; gone = false; first = first; core = 0; seen = []; mine = []; held = []; cores = 0; lists = []; saws = [] }

-- this view once one more core is made
abbrev pub one_more : {T E : Type 0} → View T E → View T E
one_more v = record v { cores = v.cores + 1 }

-- the view of the core that is made next: it has seen nothing
abbrev pub newcomer : {T E : Type 0} → View T E → View T E
newcomer v = record { gathers = false; gone = false; first = v.first; core = v.cores; seen = []; mine = []; held = []; cores = 0; lists = []; saws = [] }

-- the view once the list of the next core is gathered, and what it had seen
abbrev pub gathered : {T E : Type 0} → View T E → View T E → View T E
gathered v w = record v { lists = v.lists ++ w.mine ∷ []; saws = v.saws ++ w.seen ∷ [] }

-- what is left of a core whose list was gathered
abbrev pub spent : {T E : Type 0} → T → View T E
spent first = record { gathers = false; gone = true; first = first; core = 0; seen = []; mine = []; held = []; cores = 0; lists = []; saws = [] }
