use Rattle.std.proofs.Common.{◌≡◌, take}
use Rattle.fsync_draft.specs.Drafting.{seens_of}
use Rattle.fsync_draft.proofs.seeing.seen_of.Given as goal

abbrev pub invariant-loop-at : goal.invariant-loop-at
invariant-loop-at l = l.seen.items ≡ seens_of (take l.at l.nodes) (take l.at l.values)
