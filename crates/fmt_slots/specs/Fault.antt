-- What a refusal says of the first wrong place.
use Rattle.std.specs.Prelude.{◌≡◌, ℕ, Option, Some}
use Rattle.fmt_slots.specs.declared.slot.SlotFault.{SlotFault}
use Rattle.fmt_slots.specs.declared.slot.SlotFault.TheVariants.{Bad, NoMemory}

-- Bad names the first wrong place; want of memory says nothing of it.
abbrev pub Names : SlotFault → Option ℕ → Type 0
Names (Bad at) place = place ≡ Some at
Names NoMemory place = Unit {0}
