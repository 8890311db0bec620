-- Slots of a core's own, and slots of which a record may be placed.
use Rattle.std.specs.Prelude.{◌≡◌, ℕ, true, List, length, Some, slice_get}
use Rattle.disk_box.specs.declared.desk.Slot.{Slot}
use Rattle.disk_box.specs.declared.kind.Kind.{Kind}
use Rattle.disk_box.specs.declared.kind.Kind.TheVariants as kind
use Rattle.disk_box.specs.Kind.{HasKind}
use Rattle.disk_box.specs.Oldest.{is_next_oldest}
use Rattle.disk_box.specs.Serving.{owner_by}

-- A slot is a core's own, of so many cores, and in this phase.
pub record IsOwnSlot (slots : List Slot) (cores core : ℕ) (what : Kind) (k : ℕ) : Type 0 where
  pub owner_is : owner_by (length slots) cores k ≡ core
  pub has : HasKind slots k what

-- A slot has a durable commit whose next record may be placed: no older one that is durable in a slot has one of its inode.
pub record MayPlace (slots : List Slot) (k : ℕ) : Type 0 where
  pub has : HasKind slots k kind.Durable
  pub oldest : (slot : Slot) → slice_get slots k ≡ Some slot → is_next_oldest slots slot ≡ true

-- no slot of a core's own is idle
abbrev pub NoneIdle : List Slot → ℕ → ℕ → Type 0
NoneIdle slots cores core = (k : ℕ) → IsOwnSlot slots cores core kind.Idle k → ⊥
