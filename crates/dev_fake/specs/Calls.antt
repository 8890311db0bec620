-- What a call of a failing disk does to the disk in memory under it.
use Rattle.std.specs.Prelude.{ℕ, List, Result, Bool, true, false, IsErr}
use Rattle.sfs_dev.specs.Memory.{FailsAlone, IsListedCall}
use Rattle.sfs_dev.specs.declared.call.Act.{Act}
use Rattle.sfs_dev.specs.declared.memory.Memory.{Memory}

-- A call that is to fail: it is answered so, and the disk under it counts it, and changes nothing else.
pub record IsRefusedCall {V E : Type 0} (old new : Memory) (result : Result V E) : Type 0 where
  pub answer : IsErr result
  pub alone : FailsAlone old new

-- A call that is to fail does so; any other is the call of the disk under it.
abbrev pub IsCallUnder : {V E : Type 0} → Bool → Act → List ℕ → Memory → Memory → Result V E → Type 0
IsCallUnder true act bytes old new result = IsRefusedCall old new result
IsCallUnder false act bytes old new result = IsListedCall act bytes old new result
