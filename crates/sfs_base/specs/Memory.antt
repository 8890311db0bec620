-- What contracts see of the ends that lie in memory.
use Rattle.std.specs.Prelude.{◌≡◌, ◌⊎◌, ◌↔◌, ℕ, ◌+◌, ◌-◌, ◌^◌, ◌<◌, min, Bool, true, false, List, length, Result, Contains, IsErr, IfOk, is_ok, if◌then◌else◌}
use Rattle.sfs_base.specs.declared.fault.Failed.{Failed}

-- a count one higher, up to the last value of a `u64`
abbrev pub raised : ℕ → ℕ
raised count = min (count + 1) (2 ^ 64 - 1)

-- the numbers of the calls that fail, how many calls there were, and how many of them failed
pub record Plan : Type 0 where
  pub fails : List ℕ
  pub calls : ℕ
  pub faults : ℕ

-- the plan after one more call, which succeeded or failed
abbrev pub after_call : Plan → Bool → Plan
after_call plan true = record plan { calls = raised plan.calls }
after_call plan false = record plan { calls = raised plan.calls; faults = raised plan.faults }

-- the bytes that a source in memory has left, and its plan
pub record Reading : Type 0 where
  pub left : List ℕ
  pub plan : Plan

-- the bytes written to a sink in memory, how many more fit without memory, and its plan
pub record Writing : Type 0 where
  pub written : List ℕ
  pub spare : ℕ
  pub plan : Plan

-- A read fails exactly where its number is listed, moves as many bytes as there are and fit into a buffer of this size, and is counted.
pub record IsPlannedRead (old new : Reading) (size : ℕ) (result : Result ℕ Failed) : Type 0 where
  pub moved : IfOk result (λ count. count ≡ min size (length old.left))
  pub listed : IsErr result ↔ Contains old.plan.fails old.plan.calls
  pub counted : new.plan ≡ after_call old.plan (is_ok result)

-- A write fails where its number is listed, and else only where it is more than was reserved; it takes the whole piece and the room
-- for it, and is counted.
pub record IsPlannedWrite (old new : Writing) (size : ℕ) (result : Result ℕ Failed) : Type 0 where
  pub whole : IfOk result (λ count. count ≡ size)
  pub listed : Contains old.plan.fails old.plan.calls → IsErr result
  pub unlisted : IsErr result → Contains old.plan.fails old.plan.calls ⊎ old.spare < size
  pub spare : new.spare ≡ (if is_ok result then old.spare - size else old.spare)
  pub counted : new.plan ≡ after_call old.plan (is_ok result)
