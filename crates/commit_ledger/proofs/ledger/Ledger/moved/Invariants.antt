use Rattle.commit_ledger.proofs.SeenLasts.{MovesFrom}
use Rattle.commit_ledger.proofs.ledger.Ledger.moved.Given as goal

abbrev pub invariant-loop-one : goal.invariant-loop-one
invariant-loop-one l = MovesFrom l.self l.seen l.one-index
