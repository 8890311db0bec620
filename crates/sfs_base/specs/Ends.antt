-- Why a source, a sink or a disk fails. What a source has left and what a sink has taken is said by std's words `Consumes`, `Appends`
-- and `Keeps`, which promise something only where the bytes were told before.
use Rattle.std.specs.Prelude.{◌≡◌, ℕ, ◌+◌, ◌-◌, ◌^◌, ◌≤◌, min, Result, OnOk, OnErr}

-- A count of faults has risen, or stands at the last value of a `u64`.
abbrev pub HasRisen : ℕ → ℕ → Type 0
HasRisen before now = min (before + 1) (2 ^ 64 - 1) ≤ now

-- A count of faults never falls, what failed has made it rise, and what did not fail has left it.
pub record HasCause {V E : Type 0} (before now : ℕ) (result : Result V E) : Type 0 where
  pub never_falls : before ≤ now
  pub risen : OnErr result (HasRisen before now)
  pub kept : OnOk result (now ≡ before)
