-- The blocks of a volume after a commit.
use Rattle.std.specs.Prelude.{ℕ, ◌≤◌, List, length}
use Rattle.cut_laws.specs.Closure.{HasLiveNode}
use Rattle.flush_laws.specs.Laws.{IsStoreLeft}
use Rattle.flush_laws.specs.Volume.{volume_left}
use Rattle.volume_laws.specs.Volume.{IsVolumeStanding}
use Rattle.flush_laws.specs.Volume.{Volume, OneFsync}
use Rattle.flush_laws.specs.Planned.{IsPlannedFsync}

-- There are such blocks.
abbrev pub StoresGoOn : Type 0
StoresGoOn = (volume : Volume) (one : OneFsync) → IsPlannedFsync volume one → (later : ℕ → List ℕ) × IsStoreLeft volume one later

-- An fsync comes now: its stamp is at most the count of entries so far, and its node was alive then.
pub record ComesNow (volume : Volume) (one : OneFsync) : Type 0 where
  pub low : one.flush.stamp ≤ length volume.history
  pub live : HasLiveNode volume.first volume.history one.flush

-- A volume goes on standing once a planned fsync that comes now is on its disk.
abbrev pub CommitsStayStanding : Type 0
CommitsStayStanding = (volume : Volume) (one : OneFsync) (later : ℕ → List ℕ) → IsVolumeStanding volume → IsPlannedFsync volume one → ComesNow volume one
    → IsStoreLeft volume one later → IsVolumeStanding (volume_left volume one later)
