-- The rule of a table: what its words, the cells at home and what its cores know have to do with the calls so far.
use Rattle.std.specs.Prelude.{◌≡◌, ◌⊎◌, ℕ, suc, ◌+◌, ◌^◌, ◌<◌, ◌≤◌, ◌==◌, Bool, true, false, List, [], ◌∷◌, length, Some, filter, slice_index, slice_get}
use mathlib.Core.Option.{none, some}
use mathlib.Core.List.{IsPrefix}
use lib.ListN.{get_elem?}
use Rattle.atomic_table.specs.Table.{State}
use Rattle.stamp_table.specs.declared.view.View.{View}

-- The first word is the stamp word. Behind some words that nobody uses, so that it has a line of memory to itself, stand the
-- lock words of the cells, by their places.
abbrev pub LOCKS : ℕ
LOCKS = 16

abbrev pub lock_word : ℕ → ℕ
lock_word place = LOCKS + place

-- how many cores there are at most, and how many stamps a core draws at most: so the stamp word never comes to its end
abbrev pub MOST_TABLE_CORES : ℕ
MOST_TABLE_CORES = 256

abbrev pub MOST_ENTRIES : ℕ
MOST_ENTRIES = 2 ^ 50

-- this is one of these places
abbrev pub Has : List ℕ → ℕ → Type 0
Has [] place = ⊥
Has (first ∷ places) place = (first ≡ place) ⊎ Has places place

module _ {E : Type 0} (core_of : E → ℕ) where
  -- whether an entry is this core's
  abbrev pub is_by : ℕ → E → Bool
  is_by core entry = core_of entry == core

  -- a core's entries, in their order
  abbrev pub entries_by : ℕ → List E → List E
  entries_by core log = filter (is_by core) log

  -- the entries are of the first cores, so many of them
  abbrev pub AreKnown : ℕ → List E → Type 0
  AreKnown cores [] = Unit {0}
  AreKnown cores (entry ∷ log) = (core_of entry < cores) × AreKnown cores log

-- how many entries of a history have drawn a stamp
abbrev pub stamps_in : {E : Type 0} → (E → Bool) → List E → ℕ
stamps_in draws log = length (filter draws log)

module _ {T E S : Type 0} (core_of : E → ℕ) (draws : E → Bool) (legal : T → List E → Type 0) (stands : T → List E → ℕ → S → Type 0) where
  -- A core's view: what it has seen begins the history, it has all entries of its own, and a value that stands for what the history
  -- that it has seen leaves of a cell that it holds stands for what the whole history leaves of it.
  pub record IsHand (first : T) (core : ℕ) (log : List E) (v : View T E) : Type 0 where
    pub lives : v.gone ≡ false
    pub calls : v.gathers ≡ false
    pub first_known : v.first ≡ first
    pub core_known : v.core ≡ core
    pub seen : IsPrefix v.seen log
    pub mine : v.mine ≡ entries_by core_of core log
    pub held : (place : ℕ) (value : S) → Has v.held place → stands first v.seen place value → stands first log place value

  -- A core whose list was gathered: it holds nothing.
  pub record IsGone (core : ℕ) (hub v : View T E) : Type 0 where
    pub gone : v.gone ≡ true
    pub calls : v.gathers ≡ false
    pub holds_none : v.held ≡ []
    pub gathered : core < length hub.lists

  -- A core that calls: its list was not gathered.
  pub record IsAtWork (first : T) (core : ℕ) (log : List E) (hub v : View T E) : Type 0 where
    pub hand : IsHand first core log v
    pub waits : length hub.lists ≤ core

  -- a core's view has a cell among those that it holds
  abbrev pub CoreHolds : ℕ → ℕ → List (View T E) → Type 0
  CoreHolds core place views = (v : View T E) × (get_elem? views (suc core) ≡ some v) × Has v.held place

  -- The views: the first gathers, and has the lists of the first cores and what these had seen; the others are the cores', at their
  -- numbers. Each cell that a core holds has it as its owner, and who owns a cell holds it.
  pub record AreViews (first : T) (log : List E) (owner : ℕ → ℕ) (hub : View T E) (views : List (View T E)) : Type 0 where
    pub hub_first : get_elem? views 0 ≡ some hub
    pub gathers : hub.gathers ≡ true
    pub hub_knows : hub.first ≡ first
    pub cores : length views ≡ suc hub.cores
    pub lists : (core : ℕ) (list : List E) → slice_get hub.lists core ≡ Some list → list ≡ entries_by core_of core log
    pub saws : (core : ℕ) (seen : List E) → slice_get hub.saws core ≡ Some seen → IsPrefix seen log
    pub hands : (core : ℕ) (v : View T E) → get_elem? views (suc core) ≡ some v → IsGone core hub v ⊎ IsAtWork first core log hub v
    pub owned : (core place : ℕ) (v : View T E) → get_elem? views (suc core) ≡ some v → Has v.held place → owner place ≡ suc core
    pub holders : (core place : ℕ) → owner place ≡ suc core → CoreHolds core place views

  -- The cells: one at home has no owner, and stands for what the history leaves of it; one that is out has a core as its owner; one
  -- whose lock word is 0 is at home.
  pub record AreCells (first : T) (log : List E) (owner : ℕ → ℕ) (words : List ℕ) (homes : List (mathlib.Core.Option.Option S)) : Type 0 where
    pub locks : length words ≡ LOCKS + length homes
    pub home : (place : ℕ) (value : S) → get_elem? homes place ≡ some (some value) → (owner place ≡ 0) × stands first log place value
    pub out : (place : ℕ) → get_elem? homes place ≡ some none → (core : ℕ) × (owner place ≡ suc core)
    pub free : (place : ℕ) → place < length homes → slice_index words (lock_word place) ≡ 0 → (value : S) × (get_elem? homes place ≡ some (some value))

  -- The history: it is legal, its entries are of cores that there are, none of which drew too many stamps, and the stamp
  -- word counts those that drew a stamp.
  pub record IsLog (first : T) (cores : ℕ) (log : List E) (words : List ℕ) : Type 0 where
    pub count : slice_index words 0 ≡ stamps_in draws log
    pub legal_log : legal first log
    pub many : cores ≤ MOST_TABLE_CORES
    pub known : AreKnown core_of cores log
    pub few : (core : ℕ) → stamps_in draws (entries_by core_of core log) ≤ MOST_ENTRIES

  -- The rule.
  pub record IsKept (first : T) (log : List E) (owner : ℕ → ℕ) (hub : View T E) (s : State S (View T E)) : Type 0 where
    pub log_is : IsLog first hub.cores log s.words
    pub views_are : AreViews first log owner hub s.views
    pub cells_are : AreCells first log owner s.words s.homes

  abbrev pub Kept : T → State S (View T E) → Type 0
  Kept first s = (log : List E) × (owner : ℕ → ℕ) × (hub : View T E) × IsKept first log owner hub s
