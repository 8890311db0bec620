use Rattle.std.proofs.Common.{◌≡◌, ◌<◌, ◌↔◌, ℕ, true, false, get_or}
use Rattle.cut_laws.specs.Rules.{IsOneOf}
use Rattle.flush_core.proofs.sets.marked.Given as goal

abbrev pub invariant-loop-place : goal.invariant-loop-place
invariant-loop-place l = (node : ℕ) → IsOneOf l.list.items node ↔ ((node < l.place) × (get_or l.marks node false ≡ true))
