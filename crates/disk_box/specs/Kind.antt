-- Which phase a slot is in.
use Rattle.std.specs.Prelude.{◌≡◌, ℕ, List, Some, slice_get}
use Rattle.disk_box.specs.declared.desk.Phase.{Phase}
use Rattle.disk_box.specs.declared.desk.Phase.TheVariants as phase
use Rattle.disk_box.specs.declared.desk.Slot.{Slot}
use Rattle.disk_box.specs.declared.kind.Kind.{Kind}
use Rattle.disk_box.specs.declared.kind.Kind.TheVariants as kind

-- which phase it is
abbrev pub kind_of : Phase → Kind
kind_of (phase.Idle idle) = kind.Idle
kind_of (phase.Filling filling) = kind.Filling
kind_of (phase.Filled filled) = kind.Filled
kind_of (phase.Sealed sealed) = kind.Sealed
kind_of (phase.Opened opened) = kind.Opened
kind_of (phase.Durable durable) = kind.Durable
kind_of (phase.Placed placed) = kind.Placed
kind_of (phase.Copied copied) = kind.Copied
kind_of (phase.Closing closing) = kind.Closing
kind_of phase.Lost = kind.Lost

-- A slot is in this phase.
pub record HasKind (slots : List Slot) (k : ℕ) (what : Kind) : Type 0 where
  pub slot : Slot
  pub there : slice_get slots k ≡ Some slot
  pub kind_is : kind_of slot.phase ≡ what
