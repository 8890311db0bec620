-- A volume that stands.
use Rattle.std.specs.Prelude.{length}
use Rattle.cut_laws.specs.LawsGrowth.{AreAmongFirst}
use Rattle.flush_laws.specs.Ready.{IsBetweenCommits}
use Rattle.flush_laws.specs.Volume.{Volume}

-- A volume stands: it is between two commits, and each of its fsyncs came in the history or comes next, of a node that was alive then.
pub record IsVolumeStanding (volume : Volume) : Type 0 where
  pub between : IsBetweenCommits volume
  pub among : AreAmongFirst volume.first volume.history (length volume.history) volume.flushes
