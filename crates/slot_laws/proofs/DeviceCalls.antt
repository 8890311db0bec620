-- Of how many device calls events tell, one after the other.
use Rattle.std.proofs.Common.{◌≡◌, ◌+◌, ◌≤◌, ◌∷◌, ◌++◌, List, [], Bool, true, false, cond, arith}
use Rattle.sfs_base.specs.declared.numbers.CoreId.{CoreId}
use Rattle.stamp_table.specs.declared.event.Event.{Event}
use Rattle.stamp_table.specs.declared.event.Event.TheVariants.{Called, Told}
use Rattle.slot_laws.specs.declared.label.Label.{Label}
use Rattle.slot_laws.specs.Telling.{device_calls, is_device_call}

pub device_calls_append : (log more : List (Event Label)) → device_calls (log ++ more) ≡ device_calls log + device_calls more
device_calls_append [] more = omega arith
device_calls_append (Called entry ∷ log) more = device_calls_append log more
device_calls_append (Told core fact ∷ log) more =
    let rest = device_calls_append log more in
    omega (arith, rest)

-- one label more
pub device_calls_more : (log : List (Event Label)) (core : CoreId) (fact : Label)
    → device_calls (log ++ Told core fact ∷ []) ≡ device_calls log + cond (is_device_call fact) 1 0
device_calls_more log core fact = let both = device_calls_append log (Told core fact ∷ []) in omega (arith, both)

-- is one device call at most
pub one_call_at_most : (is : Bool) → cond is 1 0 ≤ 1
one_call_at_most true = omega arith
one_call_at_most false = omega arith
