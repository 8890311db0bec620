-- The marks of the blocks that a loop has passed.
use Rattle.std.proofs.Common.{◌≡◌, ◌≤◌, ℕ, leb, ltb, ◌&&◌, max, arith}
use Rattle.std.proofs.lemmas.Bool.Decides.{nat_tests}

-- the blocks from the first on that were passed are all, once the loop is at its end
pub all_passed : (first end now block : ℕ) → first ≤ now → end ≤ now → now ≤ max first end
    → (leb first block && ltb block now) ≡ (leb first block && ltb block end)
all_passed first end now block begun ended bound = grind (arith, nat_tests)
