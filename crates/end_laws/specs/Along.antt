-- What cores tell along the labels of each mount.
use Rattle.slot_laws.specs.Labels.{first_past}
use Rattle.close_laws.specs.Maps.{Numbered}
use Rattle.close_laws.specs.Beside.{TellAlong}
use Rattle.end_laws.specs.Mount.{MountEnd, MountEnds, AreNamedAlong}

-- As a number is reserved its core tells of its pair, beside each volume that is imagined there, along all labels.
abbrev pub NamedTellAlong : Type 0 → Type 0
NamedTellAlong D = (at : MountEnd) (named : Numbered) → MountEnds D at → AreNamedAlong at named
    → TellAlong at.told.layout at.start named at.told.log (first_past at.told.moment)
