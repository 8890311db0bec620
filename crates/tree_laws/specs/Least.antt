-- The least node from a number on.
use Rattle.std.specs.Prelude.{◌≡◌, ℕ, suc, ◌≤◌, Option, Some, None, IsSome}
use Rattle.std.specs.Ordering.{nat_cmp}
use Rattle.std.specs.FinMap.{FinMap, get}
use Rattle.tree_laws.specs.Tree.{Node}

-- This number is that of a node, it is not below the first, and no node from the first on has a lesser one.
pub record IsLeast (nodes : FinMap nat_cmp Node) (first number : ℕ) : Type 0 where
  pub node : IsSome (get nodes number)
  pub from : first ≤ number
  pub least : (other : ℕ) → first ≤ other → IsSome (get nodes other) → number ≤ other

-- no node has a number from this one on
abbrev pub NoneFrom : FinMap nat_cmp Node → ℕ → Type 0
NoneFrom nodes first = (other : ℕ) → first ≤ other → get nodes other ≡ None

-- the first number behind a node, or the first of all
abbrev pub first_behind : Option ℕ → ℕ
first_behind None = 0
first_behind (Some node) = suc node
