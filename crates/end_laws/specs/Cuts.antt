-- The stamps that commits have left of nodes.
use Rattle.std.specs.Option.{option_map_or}
use Rattle.std.specs.Prelude.{◌∷◌, if◌then◌else◌, ℕ, Bool, List, [], Option, None, Some, nat_le}
use Rattle.beside_laws.specs.Commits.{CoreCommit}

-- What a commit leaves of nodes: its number, which nodes it holds, and their stamps.
pub record Lift : Type 0 where
  pub number : ℕ
  pub holds : ℕ → Bool
  pub lifted : ℕ → ℕ

-- that of a commit
abbrev pub lift_of : CoreCommit → Lift
lift_of commit = record { number = commit.number; holds = commit.holds; lifted = commit.makes.lifted }

-- the one with the greater number
abbrev pub later_lift : Lift → Option Lift → Lift
later_lift one None = one
later_lift one (Some other) = if nat_le other.number one.number then one else other

-- the last of some that holds a node
abbrev pub last_lift : ℕ → List Lift → Option Lift
last_lift node [] = None
last_lift node (one ∷ rest) = if one.holds node then Some (later_lift one (last_lift node rest)) else last_lift node rest

-- the stamps that they have left, 0 of a node that none holds
abbrev pub cuts_left : List Lift → ℕ → ℕ
cuts_left lifts node = option_map_or (λ lift. lift.lifted node) (last_lift node lifts) 0
