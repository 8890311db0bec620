-- A table as contracts see it, and what a call asks and tells.
use mathlib.Core.List.{IsPrefix}
use Rattle.std.specs.Prelude.{◌≡◌, ℕ, suc, map, slice_get, ◌+◌, ◌<◌, ◌≤◌, ◌==◌, true, false, List, [], ◌∷◌, ◌++◌, Option, Some, None, length, refl, Bool, nat_le, reverse, if◌then◌else◌}
use Rattle.std.specs.List.{find}
use Rattle.std.specs.Global.{Vec}
use Rattle.std.specs.Vec.{vec_capacity}
use Rattle.std.specs.Coded.{Coded, code_by, coded×, coded_ℕ}
use lib.ListN.{get_elem?}
use mathlib.Core.Option.{some}
use Rattle.atomic_table.specs.Seated.{TableId}
use Rattle.atomic_table.specs.Table.{Me, rest}
use Rattle.atomic_table.specs.declared.shared.Seat.{Seat}
use Rattle.tree_laws.specs.Tree.{TreeState, tree_code}
use Rattle.tree_laws.specs.declared.call.Call.{Call}
use Rattle.tree_laws.specs.declared.reply.Reply.{Reply}
use Rattle.tree_laws.specs.declared.history.Entry.{Entry}
use Rattle.stamp_table.specs.declared.event.Event.{Event}
use Rattle.stamp_table.specs.declared.event.Event.TheVariants.{Called}
use Rattle.stamp_table.specs.declared.view.View.{View}
use Rattle.stamp_table.specs.declared.held.HeldCell.{HeldCell}
use Rattle.stamp_table.specs.Rule.{Has, entries_by, stamps_in, MOST_ENTRIES}
use Rattle.stamp_table.specs.Steps.{tail, SawMore, Took, Drew, Sees, Adds, Looks, MayDraw, IsPast}
use Rattle.stamp_table.specs.Events.{event_core, is_call, told_by, calls_in, IsLawful, stands_for, SeatView, LawfulFrom, StandsFrom}
use Rattle.stamp_table.specs.Answered.{unanswered, waits_for_answer}
use Rattle.stamp_table.specs.Codes.{desk_code}
use Rattle.stamp_table.specs.Hand.{Hand, Desk}

-- A table: which one and what was given, the tree before the first call, and how many cores it has.
pub record TableState (G : Type 0) : Type 0 where
  pub table : Desk G
  pub first : TreeState
  pub cores : ℕ

-- how a table is stored
abbrev pub table_code : {G : Type 0} → Coded G → Coded (TableState G)
table_code {G} given =
    code_by (Desk G × (TreeState × ℕ)) (coded× (desk_code given) (coded× tree_code coded_ℕ)) (λ t. (t.table, (t.first, t.cores))) (λ p. record {
      table = p.0;
      first = p.1.0;
      cores = p.1.1;
    }) (λ _. refl)

-- the entry of a core's call with this number: it has no acknowledgement yet
abbrev pub entry_numbered : ℕ → Call → Reply → ℕ → Entry
entry_numbered core call reply number = record { stamp = record { 0 = number }; core = record { 0 = core }; call = call; reply = reply; ack = None }

module _ {C X G : Type 0} where
  -- a core's seat at this table
  pub record IsSeatOf (table : TableId) (seat : Seat (Option C) (SeatView G X)) : Type 0 where
    pub same_table : seat.table_id ≡ table
    pub lives : seat.me.0.gone ≡ false
    pub calls : seat.me.0.gathers ≡ false

  -- the seat is still the same
  pub record IsSameSeat (before after : Seat (Option C) (SeatView G X)) : Type 0 where
    pub table : after.table_id ≡ before.table_id
    pub number : after.id ≡ before.id

-- whether the last of some cells stands from a place on; they come here the last one first
abbrev pub begins_from : {C : Type 0} → ℕ → List (HeldCell C) → Bool
begins_from from [] = false
begins_from from (cell ∷ cells) = nat_le from cell.place

-- what is left when the first ones go, as long as they stand from a place on
abbrev pub drop_from : {C : Type 0} → ℕ → List (HeldCell C) → List (HeldCell C)
drop_from from [] = []
drop_from from (cell ∷ cells) = if nat_le from cell.place then drop_from from cells else cell ∷ cells

-- what is left of a core's cells when the last ones go, as long as they stand from a place on
abbrev pub left_below : {C : Type 0} → ℕ → List (HeldCell C) → List (HeldCell C)
left_below from cells = reverse (drop_from from (reverse cells))

-- whether a cell lies at a place
abbrev pub is_at : {C : Type 0} → ℕ → HeldCell C → Bool
is_at place cell = cell.place == place

-- the cell that is held at a place
abbrev pub cell_at : {C : Type 0} → ℕ → List (HeldCell C) → Option (HeldCell C)
cell_at place cells = find (is_at place) cells

-- how many cells come before the one at a place
abbrev pub cells_before : {C : Type 0} → ℕ → List (HeldCell C) → ℕ
cells_before place [] = 0
cells_before place (cell ∷ cells) = if is_at place cell then 0 else suc (cells_before place cells)

-- the cells with another value at a place
abbrev pub with_value : {C : Type 0} → ℕ → C → List (HeldCell C) → List (HeldCell C)
with_value place value [] = []
with_value place value (cell ∷ cells) = if is_at place cell then record { place = cell.place; value = value } ∷ cells else cell ∷ with_value place value cells

-- the values of some cells
abbrev pub values_in : {C : Type 0} → List (HeldCell C) → List C
values_in cells = map (λ cell. cell.value) cells

-- the cells with other values, in their order
abbrev pub with_values : {C : Type 0} → List C → List (HeldCell C) → List (HeldCell C)
with_values [] cells = cells
with_values (value ∷ values) [] = []
with_values (value ∷ values) (cell ∷ cells) = record { place = cell.place; value = value } ∷ with_values values cells

-- a fact holds of each cell from a place on
abbrev pub EachFrom : {C : Type 0} → ℕ → (HeldCell C → Type 0) → List (HeldCell C) → Type 0
EachFrom from P [] = Unit {0}
EachFrom from P (cell ∷ cells) = (from ≤ cell.place → P cell) × EachFrom from P cells

-- a fact holds of the last cell, where there is one
abbrev pub OfLast : {C : Type 0} → (HeldCell C → Type 0) → List (HeldCell C) → Type 0
OfLast {C} P cells = (front : List (HeldCell C)) (cell : HeldCell C) → cells ≡ front ++ cell ∷ [] → P cell

module _ {C X G : Type 0} where
  -- A core has let go of its last cells.
  pub record LetsGo (before after : Hand C X G) : Type 0 where
    pub frame : record after { view = before.view; held = before.held; room = before.room } ≡ before
    pub view : record after.view { held = before.view.held } ≡ before.view
    pub room : after.room + length after.held ≡ before.room + length before.held

module _ {C X G : Type 0} (lawful : G → TreeState → List (Event X) → Type 0) (stands : G → TreeState → List (Event X) → ℕ → C → Type 0) where
  -- the seat has taken a cell
  abbrev pub TakesCell : ℕ → Me (Option C) (SeatView G X) → Me (Option C) (SeatView G X) → Type 0
  TakesCell place before after = Took event_core is_call (LawfulFrom lawful) (StandsFrom stands) place before after

  -- what is asked of the value with which a cell goes home: it stands for what the history that the core has seen leaves of the cell
  pub record GoesHome (place : ℕ) (me : Me (Option C) (SeatView G X)) : Type 0 where
    pub top : (value : C) × (me.1 ≡ (place, Some value) ∷ rest me.1) × stands me.0.first.1 me.0.first.0 me.0.seen place value
    pub holds : Has me.0.held place
    pub once : Has (tail me.0.held) place → ⊥

  -- what is asked of a core's next entry: it is its own, the core has room, and it may come in each history that the core may meet
  pub record MayDrawEntry (v : SeatView G X) (entry : ℕ → Entry) : Type 0 where
    pub own : (number : ℕ) → (entry number).core.0 ≡ v.core
    pub few : stamps_in is_call v.mine < MOST_ENTRIES
    pub may : (log : List (Event X)) → IsPast event_core is_call (LawfulFrom lawful) (StandsFrom stands) v log
        → MayDraw event_core is_call (LawfulFrom lawful) (StandsFrom stands) v (λ number. Called (entry number)) log

  -- the seat has drawn a number for an entry
  abbrev pub AddsEntry : (ℕ → Entry) → Me (Option C) (SeatView G X) → ℕ → Me (Option C) (SeatView G X) → Type 0
  AddsEntry entry before number after = Adds event_core is_call (LawfulFrom lawful) (StandsFrom stands) (λ number. Called (entry number)) before number after

  -- what is asked of a fact that a core tells now: it may stand in each history that the core may meet
  abbrev pub MayTellNow : SeatView G X → X → Type 0
  MayTellNow view fact = (log : List (Event X)) → IsPast event_core is_call (LawfulFrom lawful) (StandsFrom stands) view log
      → MayDraw event_core is_call (LawfulFrom lawful) (StandsFrom stands) view (told_by view.core fact) log

  -- a step by which a core tells a fact
  abbrev pub TellsNow : X → Me (Option C) (SeatView G X) → Me (Option C) (SeatView G X) → Type 0
  TellsNow fact before after = (number : ℕ) × Adds event_core is_call (LawfulFrom lawful) (StandsFrom stands) (told_by before.0.core fact) before number after

  -- a step by which a core sees how many calls there are
  abbrev pub LooksNow : Me (Option C) (SeatView G X) → ℕ → Me (Option C) (SeatView G X) → Type 0
  LooksNow before number after = Looks event_core is_call (LawfulFrom lawful) (StandsFrom stands) before number after

module _ {C X : Type 0} (lawful : TreeState → List (Event X) → Type 0) (stands : TreeState → List (Event X) → ℕ → C → Type 0) where
  -- a value that stands for what the history that a core has seen leaves of the cell
  abbrev pub Stands : View TreeState (Event X) → HeldCell C → Type 0
  Stands view cell = stands view.first view.seen cell.place cell.value

  -- a fact that may stand in each history that the core may meet
  abbrev pub MayTell : View TreeState (Event X) → X → Type 0
  MayTell view fact = (log : List (Event X)) → IsPast event_core is_call (IsLawful lawful) (stands_for stands) view log
      → MayDraw event_core is_call (IsLawful lawful) (stands_for stands) view (told_by view.core fact) log

  -- a call that may come with this reply, in each history that the core may meet
  abbrev pub MayCall : View TreeState (Event X) → Call → Reply → Type 0
  MayCall view call reply = (log : List (Event X)) → IsPast event_core is_call (IsLawful lawful) (stands_for stands) view log
      → MayDraw event_core is_call (IsLawful lawful) (stands_for stands) view (λ number. Called (entry_numbered view.core call reply number)) log

module _ {C X G : Type 0} (lawful : TreeState → List (Event X) → Type 0) (stands : TreeState → List (Event X) → ℕ → C → Type 0) where
  -- A core has told a fact, which stands at the end of the history that it has seen.
  pub record TellsFact (fact : X) (before after : Hand C X G) : Type 0 where
    pub frame : record after { view = before.view } ≡ before
    pub told : (log : List (Event X)) × (number : ℕ)
        × Drew event_core is_call (IsLawful lawful) (stands_for stands) (told_by before.view.core fact) before.view number after.view log

  -- A core holds one cell more. Its value stands for the history that the core has seen now.
  pub record HoldsMore (place : ℕ) (before after : Hand C X G) : Type 0 where
    pub frame : record after { view = before.view; held = before.held; room = before.room } ≡ before
    pub room : after.room + 1 ≡ before.room
    pub saw : SawMore event_core is_call (IsLawful lawful) (stands_for stands) place before.view after.view
    pub value : (value : C) × (after.held ≡ before.held ++ record { place = place; value = value } ∷ []) × stands before.view.first after.view.seen place value

  -- a core holds these cells more, one after another
  abbrev pub HoldsAll : List ℕ → Hand C X G → Hand C X G → Type 0
  HoldsAll [] before after = after ≡ before
  HoldsAll (place ∷ places) before after = (between : Hand C X G) × HoldsMore place before between × HoldsAll places between after

  -- A core has seen the history so far, and how many calls stand in it. Nothing else of it is different.
  pub record Looked (before : Hand C X G) (number : ℕ) (after : Hand C X G) : Type 0 where
    pub frame : record after { view = before.view } ≡ before
    pub saw : Sees event_core is_call (IsLawful lawful) (stands_for stands) before.view number after.view

  -- A core has one entry more, which stands at the end of the history that it has seen. It waits for its answer where it is an fsync
  -- with want of memory.
  pub record Stamps (call : Call) (reply : Reply) (before : Hand C X G) (number : ℕ) (after : Hand C X G) : Type 0 where
    pub frame : record after { view = before.view; entries = before.entries; waiting = before.waiting; spare = before.spare } ≡ before
    pub spare : after.spare + 1 ≡ before.spare
    pub entries : after.entries ≡ before.entries ++ entry_numbered before.view.core call reply number ∷ []
    pub waiting : after.waiting ≡ (if waits_for_answer call reply then Some number else None)
    pub drew : (log : List (Event X))
        × Drew event_core is_call (IsLawful lawful) (stands_for stands)
        (λ number. Called (entry_numbered before.view.core call reply number)) before.view number after.view log

-- an entry with an answer
abbrev pub with_answer : Entry → Reply → Option ℕ → Entry
with_answer entry reply ack = record entry { reply = reply; ack = ack }

module _ {C X G : Type 0} where
  -- The core's last entry, which waited, has an answer. It is a fact of this core alone: the history that it has seen is as before.
  pub record GivesAnswer (stamp : ℕ) (reply : Reply) (ack : Option ℕ) (before after : Hand C X G) : Type 0 where
    pub frame : record after { entries = before.entries; waiting = before.waiting } ≡ before
    pub waiting : after.waiting ≡ None
    pub answered : (front : List Entry) × (last : Entry) × (last.stamp.0 ≡ stamp) × (before.entries ≡ front ++ last ∷ [])
        × (after.entries ≡ front ++ with_answer last reply ack ∷ [])

  -- a core of a table, by its number, which holds nothing
  pub record IsIdleCore (table : Desk G) (cores number : ℕ) (hand : Hand C X G) : Type 0 where
    pub table_is : hand.table ≡ table
    pub cores_are : hand.cores ≡ cores
    pub number_is : hand.view.core ≡ number
    pub holds_none : hand.held ≡ []

  -- cores from a number on
  abbrev pub AreIdleFrom : Desk G → ℕ → ℕ → List (Hand C X G) → Type 0
  AreIdleFrom table cores number [] = Unit {0}
  AreIdleFrom table cores number (hand ∷ hands) = IsIdleCore table cores number hand × AreIdleFrom table cores (number + 1) hands

  -- whether the first core leads
  abbrev pub first_leads : List (Hand C X G) → Bool
  first_leads [] = false
  first_leads (hand ∷ hands) = hand.leads

  -- These are all cores of a table, by their numbers; none holds a cell.
  pub record AreAllCores (t : TableState G) (hands : List (Hand C X G)) : Type 0 where
    pub count : length hands ≡ t.cores
    pub leads : first_leads hands ≡ true
    pub ready : AreIdleFrom t.table t.cores 0 hands

  -- A core of a table between two calls: it holds no cell, and no fsync of it waits for its answer.
  pub record IsBetweenCalls (t : TableState G) (hand : Hand C X G) : Type 0 where
    pub table_is : hand.table ≡ t.table
    pub first_is : hand.view.first ≡ t.first
    pub core_is : hand.view.core < length t.first.made
    pub holds_none : hand.held ≡ []
    pub none_held : hand.view.held ≡ []
    pub none_waits : hand.waiting ≡ None

  -- What stays of a core from one pause to another: its number, its table, and whether it leads.
  pub record IsSameCore (before after : Hand C X G) : Type 0 where
    pub table : after.table ≡ before.table
    pub cores : after.cores ≡ before.cores
    pub leads : after.leads ≡ before.leads
    pub number : after.view.core ≡ before.view.core

  -- what a core knows as its own
  abbrev pub mine_of : Hand C X G → List (Event X)
  mine_of hand = hand.view.mine

  -- what a core has seen
  abbrev pub events_seen : Hand C X G → List (Event X)
  events_seen hand = hand.view.seen

  -- a core's entries, with their answers
  abbrev pub answered_entries : Hand C X G → List Entry
  answered_entries hand = hand.entries

  -- a core that has seen nothing yet and has no entries
  pub record IsNew (first : TreeState) (hand : Hand C X G) : Type 0 where
    pub first_is : hand.view.first ≡ first
    pub none_seen : hand.view.seen ≡ []
    pub none_mine : hand.view.mine ≡ []
    pub none_held : hand.view.held ≡ []
    pub none_entered : hand.entries ≡ []
    pub none_waits : hand.waiting ≡ None

  -- so are all of them
  abbrev pub AreNew : TreeState → List (Hand C X G) → Type 0
  AreNew first [] = Unit {0}
  AreNew first (hand ∷ hands) = IsNew first hand × AreNew first hands

  -- the seat of a core that begins: it has seen nothing, and holds nothing
  pub record IsBegun (seat : Seat (Option C) (SeatView G X)) : Type 0 where
    pub no_slots : seat.me.1 ≡ []
    pub lives : seat.me.0.gone ≡ false
    pub calls : seat.me.0.gathers ≡ false
    pub none_mine : seat.me.0.mine ≡ []
    pub none_held : seat.me.0.held ≡ []

  -- The events of a table at its end: they are lawful, their calls are the history's but for the answers of fsyncs, each core's own
  -- are its part of them, and what each core has seen begins them.
  pub record IsLogAtEnd (lawful : TreeState → List (Event X) → Type 0) (first : TreeState) (hands : List (Hand C X G)) (history : List Entry)
      (log : List (Event X)) : Type 0 where
    pub lawful_log : IsLawful lawful first log
    pub calls : map unanswered history ≡ map unanswered (calls_in log)
    pub mine : (core : ℕ) (hand : Hand C X G) → slice_get hands core ≡ Some hand → hand.view.mine ≡ entries_by event_core core log
    pub seen : (core : ℕ) (hand : Hand C X G) → slice_get hands core ≡ Some hand → IsPrefix hand.view.seen log

-- These are the values of a table's cells, one for each place, in the order of places, and each stands for what a history leaves of its
-- cell.
pub record AreAtHome {C X : Type 0} (stands : TreeState → List (Event X) → ℕ → C → Type 0) (first : TreeState) (log : List (Event X)) (slots : ℕ)
    (values : List C) : Type 0 where
  pub count : length values ≡ slots
  pub each : (place : ℕ) (value : C) → slice_get values place ≡ Some value → stands first log place value

-- each of these lists is empty, with room for so many cells
abbrev pub HaveRoomFor : {A : Type 0} → ℕ → List (Vec A) → Type 0
HaveRoomFor room [] = Unit {0}
HaveRoomFor room (list ∷ lists) = ((list.items ≡ []) × (room ≤ vec_capacity list)) × HaveRoomFor room lists

-- each of these cores has room for so many cells
abbrev pub CoresHaveRoom : {C X G : Type 0} → ℕ → List (Hand C X G) → Type 0
CoresHaveRoom room [] = Unit {0}
CoresHaveRoom room (hand ∷ hands) = (room ≤ hand.room) × CoresHaveRoom room hands

-- The values of a table that begins lie in the slots of its memory, each slot with one that stands for what no call leaves of the cell whose place is that
-- slot's.
pub record AreInSlots {C X G : Type 0} (stands : G → TreeState → List (Event X) → ℕ → C → Type 0) (place_at : ℕ → ℕ → ℕ) (given : G) (measure : ℕ)
    (first : TreeState) (slots : List (Option C)) : Type 0 where
  pub each : (slot : ℕ) → slot < length slots → (value : C) × (get_elem? slots slot ≡ some (Some value)) × stands given first [] (place_at measure slot) value

-- A table is over a tree and what was given beside it, with this measure and so many cells, and has as many cores as the tree.
pub record IsTableOf {G : Type 0} (first : TreeState) (given : G) (measure cells : ℕ) (t : TableState G) : Type 0 where
  pub first_is : t.first ≡ first
  pub given_is : t.table.given ≡ given
  pub measure_is : t.table.measure ≡ measure
  pub cells_are : t.table.id.slots ≡ cells
  pub made : t.cores ≡ length t.first.made
