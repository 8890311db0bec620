use Rattle.std.proofs.Common.{◌≡◌, take}
use Rattle.std.specs.Prelude.{All}
use Rattle.dep_closure.proofs.orderly.is_own_log.Given as goal

abbrev pub invariant-loop-change : goal.invariant-loop-change
invariant-loop-change l = All (λ change. change.dir.0 ≡ l.log.dir.0) (take l.change-index l.changes)
