use Rattle.std.proofs.Common.{◌≡◌, ◌+◌, ◌-◌, ◌^◌, length, take, min}
use Rattle.std.specs.Prelude.{sum_by}
use Rattle.sfs_base.proofs.path.length_of.Given as goal

abbrev pub invariant-loop-name : goal.invariant-loop-name
invariant-loop-name l = l.len ≡ min (sum_by (λ part. 1 + length part) (take l.name-index l.names)) (2 ^ 64 - 1)
