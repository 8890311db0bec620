-- A core: what contracts see of it, and what holds of its parts.
use Rattle.std.specs.Prelude.{◌≡◌, ℕ, ◌-◌, ◌≤◌, ◌++◌, ◌∷◌, true, false, Bool, List, [], Option, Some, None, map, length, min, reverse}
use Rattle.atomic_table.specs.Seated.{TableId}
use Rattle.atomic_table.specs.declared.shared.Seat.{Seat}
use Rattle.sfs_base.specs.declared.numbers.Stamp.{Stamp}
use Rattle.tree_laws.specs.Tree.{TreeState}
use Rattle.tree_laws.specs.declared.history.Entry.{Entry}
use Rattle.stamp_table.specs.declared.event.Event.{Event}
use Rattle.stamp_table.specs.declared.view.View.{View}
use Rattle.stamp_table.specs.Events.{SeatView, places_shown}
use Rattle.stamp_table.specs.declared.held.HeldCell.{HeldCell}
use Rattle.stamp_table.specs.Rule.{MOST_ENTRIES}
use Rattle.stamp_table.specs.Ascending.{Falls, AreBelow}
use Rattle.stamp_table.specs.Answered.{AreCallsOf, waits_for_answer}

-- A table by its name: which one it is, what was given when it was made, and the number by which its cells are laid out.
pub record Desk (G : Type 0) : Type 0 where
  pub id : TableId
  pub given : G
  pub measure : ℕ

-- A core: its table, what it knows, its entries with their answers, the stamp of its fsync that waits for its answer where one does,
-- the cells that it holds with their values, places ascending, for how many further entries and cells it has room, whether it leads
-- the others to the end, and how many cores there are.
pub record Hand (C X G : Type 0) : Type 0 where
  pub table : Desk G
  pub view : View TreeState (Event X)
  pub entries : List Entry
  pub waiting : Option ℕ
  pub held : List (HeldCell C)
  pub spare : ℕ
  pub room : ℕ
  pub leads : Bool
  pub cores : ℕ

-- the place of a cell
abbrev pub place_in : {C : Type 0} → HeldCell C → ℕ
place_in cell = cell.place

-- the places of some cells
abbrev pub places_of : {C : Type 0} → List (HeldCell C) → List ℕ
places_of cells = map (λ cell. cell.place) cells

-- the slots of a core's cells are empty while it holds them: it has the values itself
abbrev pub empty_slots : {C : Type 0} → List ℕ → List (ℕ × Option C)
empty_slots places = map (λ place. (place, None)) places

-- for how many further entries there is room: in memory, and up to the most that a core may have
abbrev pub spare_of : ℕ → ℕ → ℕ
spare_of capacity entries = min (capacity - entries) (MOST_ENTRIES - entries)

-- The last of a core's entries has this stamp, and waits for its answer.
pub record EndsWaiting (entries : List Entry) (stamp : ℕ) : Type 0 where
  pub front : List Entry
  pub last : Entry
  pub entries_are : entries ≡ front ++ last ∷ []
  pub stamped : last.stamp.0 ≡ stamp
  pub waits : waits_for_answer last.call last.reply ≡ true

-- where a stamp is noted, the entry with it waits
abbrev pub WaitsWell : List Entry → Option Stamp → Type 0
WaitsWell entries None = Unit {0}
WaitsWell entries (Some stamp) = EndsWaiting entries stamp.0

module _ {C X G : Type 0} where
  -- the seat that gathers, before any list was gathered
  pub record IsLead (table : TableId) (cores : ℕ) (seat : Seat (Option C) (SeatView G X)) : Type 0 where
    pub same_table : seat.table_id ≡ table
    pub no_slots : seat.me.1 ≡ []
    pub gathers : seat.me.0.gathers ≡ true
    pub none_gathered : (seat.me.0.lists ≡ []) × (seat.me.0.saws ≡ [])
    pub all_made : seat.me.0.cores ≡ cores

  -- a core that leads has such a seat
  abbrev pub LeadsWell : TableId → ℕ → Option (Seat (Option C) (SeatView G X)) → Type 0
  LeadsWell table cores None = Unit {0}
  LeadsWell table cores (Some seat) = IsLead table cores seat

  -- The parts of a core fit: its entries are the calls that it knows as its own, but for their answers, its places fall, and its slots
  -- are empty.
  pub record IsCore (place_at : ℕ → ℕ → ℕ) (seat : Seat (Option C) (SeatView (G × ℕ) X)) (number : ℕ) (entries : List Entry)
      (cells : List (HeldCell C)) : Type 0 where
    pub lives : seat.me.0.gone ≡ false
    pub calls : seat.me.0.gathers ≡ false
    pub number_known : seat.me.0.core ≡ number
    pub entries_are : AreCallsOf seat.me.0.mine entries
    pub few : length entries ≤ MOST_ENTRIES
    pub places : places_shown place_at seat.me.0 ≡ reverse (places_of cells)
    pub falls : Falls (places_shown place_at seat.me.0)
    pub slots : seat.me.1 ≡ empty_slots seat.me.0.held
    pub within : AreBelow seat.table_id.slots (places_shown place_at seat.me.0)
