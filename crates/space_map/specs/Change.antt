-- Changes of a status.
use Rattle.space_map.specs.declared.status.Status.{Status}
use Rattle.space_map.specs.declared.status.Change.{Change}
use Rattle.space_map.specs.declared.status.Change.TheVariants.{Become, Release}
use Rattle.space_map.specs.Pool.{released}

-- the status that a change makes of another
abbrev pub changed : Change → Status → Status
changed (Become other) status = other
changed Release status = released status
