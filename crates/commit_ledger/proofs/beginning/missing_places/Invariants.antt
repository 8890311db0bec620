use Rattle.std.proofs.Common.{◌+◌, ◌<◌, ℕ, length, get_or}
use Rattle.slot_laws.specs.declared.label.Seen.{Seen}
use Rattle.commit_ledger.proofs.beginning.missing_places.Given as goal

abbrev pub invariant-loop-one : goal.invariant-loop-one
invariant-loop-one l = (k : ℕ) (d : Seen) → k < l.one-index → (get_or l.seen k d).node.0 < length l.lasts + l.missing
