use Rattle.std.proofs.Common.{◌≡◌, ℕ, take}
use Rattle.std.specs.Option.{option_or}
use Rattle.std.specs.Ordering.{nat_cmp}
use Rattle.std.specs.BTreeMap.{get}
use Rattle.flush_plan.specs.Kinds.{kind_told}
use Rattle.flush_plan.proofs.kinds.add_kinds.Given as goal

abbrev pub invariant-loop-change : goal.invariant-loop-change
invariant-loop-change l = (node : ℕ) → get nat_cmp l.kinds node ≡ option_or (kind_told (take l.change-index l.changes) node) (get nat_cmp l.fn.kinds node)
