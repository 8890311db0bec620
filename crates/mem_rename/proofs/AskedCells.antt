-- The cells that are asked for, where nothing is listed besides both buckets.
use Rattle.std.proofs.Common.{◌≡◌, Bool, true, false, List, refl, sym, ap, ◌∙◌}
use Rattle.std.specs.Prelude.{if◌then◌else◌}
use Rattle.mem_values.specs.declared.cell_id.CellId.{CellId}
use Rattle.mem_rename.specs.declared.sides.Move.{Move}
use Rattle.mem_rename.specs.declared.plans.Plan.{Plan}
use Rattle.mem_rename.specs.Plans.{no_plan, is_plan, asked_cells}
use Rattle.mem_rename.proofs.Settled.{plan_same}

pub asked_is : (move : Move) (plan : Plan) (both listed : List CellId) → both ≡ asked_cells move no_plan
    → (is_plan plan no_plan ≡ false → listed ≡ asked_cells move plan) → (if is_plan plan no_plan then both else listed) ≡ asked_cells move plan
asked_is move plan both listed two rest = by_test (is_plan plan no_plan) refl
  where
    by_test : (none : Bool) → is_plan plan no_plan ≡ none → (if none then both else listed) ≡ asked_cells move plan
    by_test true is = two ∙ ap (asked_cells move) (sym (plan_same plan no_plan is))
    by_test false is = rest is
