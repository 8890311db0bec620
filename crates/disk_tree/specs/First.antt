-- The first number that passes a test.
use Rattle.std.specs.Prelude.{◌≡◌, ℕ, ◌<◌, Bool, true, false, Option, None, Some}

-- a number below a count passes a test, and none below it does
pub record IsFirst (count : ℕ) (test : ℕ → Bool) (n : ℕ) : Type 0 where
  pub within : n < count
  pub passes : test n ≡ true
  pub before : (k : ℕ) → k < n → test k ≡ false

-- no number below a count passes a test
abbrev pub NonePasses : ℕ → (ℕ → Bool) → Type 0
NonePasses count test = (k : ℕ) → k < count → test k ≡ false

-- the first number below a count that passes a test, or none
abbrev pub FindsFirst : ℕ → (ℕ → Bool) → Option ℕ → Type 0
FindsFirst count test None = NonePasses count test
FindsFirst count test (Some n) = IsFirst count test n
