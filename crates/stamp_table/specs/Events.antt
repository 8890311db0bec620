-- The history of a table: calls, each of which drew a stamp, and what cores told, which drew none.
use Rattle.std.specs.Prelude.{ℕ, Bool, true, false, List, Option, Some, None, map, filter_map}
use Rattle.tree_laws.specs.Tree.{TreeState}
use Rattle.tree_laws.specs.History.{IsLegal}
use Rattle.tree_laws.specs.declared.history.Entry.{Entry}
use Rattle.tree_laws.specs.declared.call.Call.TheVariants as call
use Rattle.tree_laws.specs.declared.reply.Reply.TheVariants as reply
use Rattle.tree_laws.specs.Build.{root_alone}
use Rattle.stamp_table.specs.declared.event.Event.{Event}
use Rattle.stamp_table.specs.declared.event.Event.TheVariants.{Called, Told}
use Rattle.stamp_table.specs.declared.view.View.{View}

module _ {X : Type 0} where
  -- whose an event is
  abbrev pub event_core : Event X → ℕ
  event_core (Called entry) = entry.core.0
  event_core (Told core fact) = core.0

  -- whether an event drew a stamp: a call did
  abbrev pub is_call : Event X → Bool
  is_call (Called entry) = true
  is_call (Told core fact) = false

  -- the entry of a call
  abbrev pub called : Event X → Option Entry
  called (Called entry) = Some entry
  called (Told core fact) = None

  -- what a core tells, whatever number it finds
  abbrev pub told_by : ℕ → X → ℕ → Event X
  told_by core fact number = Told (record { 0 = core }) fact

  -- the calls of a history, in their order
  abbrev pub calls_in : List (Event X) → List Entry
  calls_in log = filter_map called log

  -- A history whose calls are legal from the first tree on, and in which what was told may stand.
  pub record IsLawful (lawful : TreeState → List (Event X) → Type 0) (first : TreeState) (log : List (Event X)) : Type 0 where
    pub legal_calls : IsLegal first (calls_in log)
    pub told : lawful first log

  -- the value of a cell at home stands for what the history leaves of it; a cell without a value never is at home
  abbrev pub stands_for : {C : Type 0} → (TreeState → List (Event X) → ℕ → C → Type 0) → TreeState → List (Event X) → ℕ → Option C → Type 0
  stands_for stands first log place (Some value) = stands first log place value
  stands_for stands first log place None = ⊥

-- what a seat at a table knows: its first is the tree before the first call, and what was given beside it
abbrev pub SeatView : Type 0 → Type 0 → Type 0
SeatView G X = View (TreeState × G) (Event X)

module _ {G X : Type 0} where
  -- the places of the cells of which a seat has the slots
  abbrev pub places_shown : (ℕ → ℕ → ℕ) → SeatView (G × ℕ) X → List ℕ
  places_shown place_at v = map (place_at v.first.1.1) v.held

  -- what a core shows of its seat's view: all but what was given, and the places of its cells in place of their slots
  abbrev pub tree_view : (ℕ → ℕ → ℕ) → SeatView (G × ℕ) X → View TreeState (Event X)
  tree_view place_at v = record {
    gathers = v.gathers;
    gone = v.gone;
    first = v.first.0;
    core = v.core;
    seen = v.seen;
    mine = v.mine;
    held = places_shown place_at v;
    cores = v.cores;
    lists = v.lists;
    saws = v.saws;
  }

  -- a history is lawful from a first tree and what was given beside it
  abbrev pub LawfulFrom : (G → TreeState → List (Event X) → Type 0) → TreeState × G → List (Event X) → Type 0
  LawfulFrom lawful start log = IsLawful (lawful start.1) start.0 log

  -- and so does a value stand for what the history leaves of a cell
  abbrev pub StandsFrom : {C : Type 0} → (G → TreeState → List (Event X) → ℕ → C → Type 0) → TreeState × G → List (Event X) → ℕ → Option C → Type 0
  StandsFrom stands start log place value = stands_for (stands start.1) start.0 log place value

-- an entry that stands where nothing is said of one, and a tree that does
abbrev pub NO_ENTRY : ℕ → Entry
NO_ENTRY number = record { stamp = record { 0 = number }; core = record { 0 = 0 }; call = call.Stat (record { 0 = 0 }); reply = reply.Ok; ack = None }

abbrev pub NO_TREE : TreeState
NO_TREE = root_alone 1 0 0
