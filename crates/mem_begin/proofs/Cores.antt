-- The cores of a table that begins are between two calls.
use Rattle.std.proofs.Common.{◌≡◌, ℕ, List, length, sym, ap, subst, arith}
use Rattle.std.specs.Prelude.{All, Result, Ok, Err, IfOk}
use Rattle.tree_laws.specs.Tree.{TreeState}
use Rattle.stamp_table.specs.Hand.{Hand}
use Rattle.stamp_table.specs.Table.{TableState, AreAllCores, AreNew, IsBetweenCalls}
use Rattle.stamp_table.proofs.Beginning.{new_between}

pub between_made : {C X G V E : Type 0} (hands : V → List (Hand C X G)) (cores : ℕ) (first : TreeState) (result : Result (TableState G × V) E)
    → cores ≡ length first.made → IfOk result (λ made. made.0.first ≡ first) → IfOk result (λ made. length (hands made.1) ≡ cores)
    → IfOk result (λ made. AreAllCores made.0 (hands made.1)) → IfOk result (λ made. AreNew first (hands made.1))
    → IfOk result (λ made. All (IsBetweenCalls made.0) (hands made.1))
between_made hands cores first (Ok made) as_many is count all new =
    new_between made.0 0 (hands made.1) all.ready (subst (λ (f : TreeState). AreNew f (hands made.1)) (sym is) new)
    (let same = ap (λ (f : TreeState). length f.made) is in omega (arith, count, as_many, same))
between_made hands cores first (Err fault) as_many is count all new = tt
