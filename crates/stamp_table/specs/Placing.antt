-- Where the cells of a table lie in memory: each place has a slot of its own, with its lock word.
use Rattle.std.specs.Prelude.{◌≡◌, ℕ, ◌^◌, ◌<◌, ◌≤◌, List, refl}
use Rattle.tree_laws.specs.Tree.{TreeState}
use Rattle.stamp_table.specs.declared.event.Event.{Event}

-- how many cells a table has at most
abbrev pub MOST_CELLS : ℕ
MOST_CELLS = 2 ^ 32

-- A map from places to slots, with its way back: each place is that of its slot, and each slot that of its place.
pub record IsOneToOne (slot_at place_at : ℕ → ℕ) : Type 0 where
  pub back : (place : ℕ) → place_at (slot_at place) ≡ place
  pub forth : (slot : ℕ) → slot_at (place_at slot) ≡ slot

-- The cells fill the first slots, as many as there are cells.
pub record FillsSlots (cells : ℕ) (slot_at place_at : ℕ → ℕ) : Type 0 where
  pub slots : (place : ℕ) → place < cells → slot_at place < cells
  pub places : (slot : ℕ) → slot < cells → place_at slot < cells

-- Cells are laid out in memory by a number, at most as great as their count: they fill the slots.
pub record IsLaidOut (cells : ℕ) (slot_at place_at : ℕ → ℕ) (measure : ℕ) : Type 0 where
  pub few : measure ≤ cells
  pub fills : FillsSlots cells slot_at place_at

-- the first map: each cell lies at its place
pub lies_in_order : IsOneToOne (λ place. place) (λ slot. slot)
lies_in_order = record { back = λ place. refl; forth = λ slot. refl }

module _ {X G : Type 0} where
  -- what facts a history may have, by what was given with the number by which the cells are laid out
  abbrev pub by_given : (G → TreeState → List (Event X) → Type 0) → G × ℕ → TreeState → List (Event X) → Type 0
  by_given lawful given first log = lawful given.0 first log

module _ {C X G : Type 0} where
  -- what a value stands for, by these and the slot of its cell
  abbrev pub at_slots : (ℕ → ℕ → ℕ) → (G → TreeState → List (Event X) → ℕ → C → Type 0) → G × ℕ → TreeState → List (Event X) → ℕ → C → Type 0
  at_slots place_at stands given first log slot value = stands given.0 first log (place_at given.1 slot) value
