use Rattle.std.proofs.Common.{◌≡◌, ℕ, take}
use Rattle.std.specs.Ordering.{nat_cmp}
use Rattle.std.specs.BTreeMap.{get}
use Rattle.flush_plan.specs.Kinds.{kind_told, spans_in}
use Rattle.flush_plan.proofs.kinds.kinds_told.Given as goal

abbrev pub invariant-loop-member : goal.invariant-loop-member
invariant-loop-member l = (node : ℕ) → get nat_cmp l.kinds node ≡ kind_told (spans_in l.logs l.below (take l.member-index l.nodes)) node
