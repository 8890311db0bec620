use Rattle.std.proofs.Common.{◌≡◌, ◌*◌, ◌<◌, ◌≤◌, ℕ, false, get_or}
use Rattle.space_map.specs.Pool.{is_free}
use Rattle.space_map.specs.declared.status.Status.TheVariants.{Taken}
use Rattle.space_map.proofs.pool.free_in.Given as goal

abbrev pub invariant-loop-place : goal.invariant-loop-place
invariant-loop-place l = (other : ℕ) → 64 * l.group ≤ other → other < l.place → is_free (get_or l.statuses other Taken) ≡ false
