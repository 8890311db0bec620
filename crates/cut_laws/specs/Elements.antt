-- Elements of lists that stand to a node as asked.
use Rattle.std.specs.Prelude.{ℕ, List}
use Rattle.cut_laws.specs.Rules.{IsOneOf}

-- One of some elements stands to a node as asked.
abbrev pub OfSome : {X : Type 0} → List X → (X → ℕ → Type 0) → ℕ → Type 0
OfSome {X} xs Relates node = (x : X) × IsOneOf xs x × Relates x node
