use Rattle.std.proofs.Common.{◌<◌, length}
use Rattle.image_check.proofs.Climbed.{OnTheWay}
use Rattle.image_check.proofs.climb.depth_of.Given as goal

abbrev pub invariant-loop-depth : goal.invariant-loop-depth
invariant-loop-depth l = record {
  within : l.at < length l.above;
  way : OnTheWay l.above l.directory l.at l.depth;
}
