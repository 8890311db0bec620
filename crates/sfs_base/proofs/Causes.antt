-- Why a call of an end failed.
use Rattle.std.proofs.Common.{◌≡◌, ◌≤◌, ℕ, Err, arith}
use Rattle.sfs_base.specs.Ends.{HasRisen, HasCause}

-- a call that failed, where the count rose; the count that the call began with is known under two names
pub failed_has_cause : {V E : Type 0} (before inside now : ℕ) (fault : E) → inside ≡ before → inside ≤ now → HasRisen inside now
    → HasCause {V = V} before now (Err fault)
failed_has_cause before inside now fault same kept rose = record { never_falls = omega arith; risen = omega arith; kept = tt }

-- what rose since a later moment rose since an earlier one
pub Rose-earlier : (before later now : ℕ) → before ≤ later → HasRisen later now → HasRisen before now
Rose-earlier before later now kept rose = omega arith
