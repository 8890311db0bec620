-- For which nodes rows count that come and that go.
use Rattle.std.specs.Prelude.{ℕ, List}

-- the nodes, once for each row
pub record Coming : Type 0 where
  pub coming : List ℕ
  pub going : List ℕ
