-- All cores of a disk that are driven.
use Rattle.std.specs.Prelude.{◌≡◌, ◌<◌, ℕ, All, List, length, map, slice_index_or, true}
use Rattle.sfs_image.specs.Super.{Layout}
use Rattle.stamp_table.specs.Table.{AreAllCores, TableState}
use Rattle.disk_box.specs.declared.key.BoxKey.{BoxKey}
use Rattle.disk_box.specs.Pens.{PenGoes, PenHand}
use Rattle.driven_journals.specs.declared.due.Due.TheVariants as due
use Rattle.driven_journals.specs.declared.driven.Driven.{Driven}
use Rattle.driven_journals.specs.declared.seat.Seat.{Seat}
use Rattle.driven_journals.specs.Due.{DueFits, is_at_rest}

module _ {D : Type 0} where
  -- a core's pen
  abbrev pub pen_of : Seat D → PenHand D
  pen_of seat = seat.pen

  -- A core at journals of a disk with this layout: what is due of it is so by what it has told.
  pub record SeatFits (t : TableState (BoxKey D)) (layout : Layout) (seat : Seat D) : Type 0 where
    pub fits : DueFits t seat.pen seat.due
    pub layout_is : seat.pen.table.given.layout ≡ layout

  -- nothing is due of any core
  abbrev pub AreAtRest : List (Seat D) → Type 0
  AreAtRest seats = All (λ (seat : Seat D). is_at_rest seat.due ≡ true) seats

  -- A core has gone on with its pen, and fits.
  pub record SeatGoes (t : TableState (BoxKey D)) (layout : Layout) (before after : Seat D) : Type 0 where
    pub fits : SeatFits t layout after
    pub goes : PenGoes before.pen after.pen

  -- so has each
  abbrev pub EachGoes : TableState (BoxKey D) → Layout → List (Seat D) → List (Seat D) → Type 0
  EachGoes t layout before after = (place : ℕ) (d : Seat D) → place < length before
      → SeatGoes t layout (slice_index_or before place d) (slice_index_or after place d)

  -- Pens are cores that have told nothing yet, in their order.
  pub record AreNewSeats (pens : List (PenHand D)) (seats : List (Seat D)) : Type 0 where
    pub pens_are : map pen_of seats ≡ pens
    pub rest : All (λ (seat : Seat D). seat.due ≡ due.Rests) seats

  -- These are all cores of the journals, there are some, and each fits.
  pub record IsDriven (driven : Driven D) : Type 0 where
    pub all : AreAllCores driven.set (map pen_of driven.seats.items)
    pub some : 0 < length driven.seats.items
    pub each : All (SeatFits driven.set driven.layout) driven.seats.items
