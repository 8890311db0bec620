-- Moments.
use Rattle.std.proofs.Common.{ℕ, ◌<◌, ◌≤◌, arith}

pub le_trans : {a b c : ℕ} → a ≤ b → b ≤ c → a ≤ c
le_trans first second = omega arith

pub less_or_same : {a b : ℕ} → a < b → a ≤ b
less_or_same less = omega arith
