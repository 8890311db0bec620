-- What an fsync makes by what it has gathered.
use Rattle.std.specs.Prelude.{◌≡◌, ◌≢◌, ◌⊎◌, ◌↔◌, ℕ, Bool, true, false, max}
use Rattle.look_laws.specs.Look.{Look, Gathers, Touches, SeesNaming}

-- The stamps that it leaves: each member's is the fsync's at least, and no other moves.
pub record Lifts (look : Look) (lifted : ℕ → ℕ) : Type 0 where
  pub members : (node : ℕ) → Gathers look node → lifted node ≡ max (look.cut node) look.flush.stamp
  pub others : (node : ℕ) → Gathers look node ⊎ (lifted node ≡ look.cut node)

-- What was found of a touched node at the new stamps: whether a row names it; and whether the fsync's own node is a directory.
pub record Found : Type 0 where
  pub named : ℕ → Bool
  pub directory : Bool

-- When a node without an inode gets one: a row names it, or it is the fsync's own file and has a naming that is not flushed.
abbrev pub SeesReached : Look → (ℕ → ℕ) → Found → ℕ → Type 0
SeesReached look lifted found node = (found.named node ≡ true) ⊎ ((node ≡ look.flush.node) × (found.directory ≡ false) × SeesNaming look lifted node)

-- When a node with an inode loses it: it is not the root, no row names it, and it has no naming that is not flushed.
pub record SeesDead (look : Look) (lifted : ℕ → ℕ) (found : Found) (node : ℕ) : Type 0 where
  pub no_root : node ≢ 0
  pub unnamed : found.named node ≡ false
  pub flushed : SeesNaming look lifted node → ⊥

-- The nodes that get an inode, and those that lose it.
pub record AreMoved (look : Look) (lifted : ℕ → ℕ) (found : Found) (gets loses : ℕ → Bool) : Type 0 where
  pub enters : (node : ℕ) → (gets node ≡ true) ↔ ((look.inodes node ≡ false) × Touches look node × SeesReached look lifted found node)
  pub leaves : (node : ℕ) → (loses node ≡ true) ↔ ((look.inodes node ≡ true) × Touches look node × SeesDead look lifted found node)
