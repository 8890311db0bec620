-- What is so of each mount as it ends.
use Rattle.std.specs.Prelude.{◌≡◌, ℕ, List, Some, slice_get}
use Rattle.close_laws.specs.Maps.{Numbered}
use Rattle.close_laws.specs.PenLabels.{PensTell}
use Rattle.close_laws.specs.Pens.{PensRest}
use Rattle.flush_agrees.specs.Agreement.{FlushTold, turns_of}
use Rattle.end_laws.specs.Mount.{AreNamedAlong, MountEnd, MountEnds}

-- There is what commits bring by the stamps of the fsyncs.
abbrev pub MountsAreNamed : Type 0 → Type 0
MountsAreNamed D = (at : MountEnd) → MountEnds D at → (named : Numbered) × AreNamedAlong at named

-- By that the pens told turn by turn at the box, each the turns of its core's fsyncs, and are at rest.
pub record PensToldAt (at : MountEnd) (named : Numbered) : Type 0 where
  pub pens : PensTell named at.told
  pub turns : (core : ℕ) (fsyncs : List FlushTold) → slice_get at.fsyncs core ≡ Some fsyncs → (pens.pens core).turns ≡ turns_of fsyncs
  pub rest : PensRest named at.told pens

abbrev pub NamedPensTell : Type 0 → Type 0
NamedPensTell D = (at : MountEnd) (named : Numbered) → MountEnds D at → AreNamedAlong at named → PensToldAt at named
