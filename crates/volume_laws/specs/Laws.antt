-- The laws of a volume, each of which a function of the module laws proves.
use Rattle.std.specs.Prelude.{[], ◌∷◌, ◌++◌}
use Rattle.tree_laws.specs.declared.history.Entry.{Entry}
use Rattle.raise_laws.specs.Next.{IsMountedHistory}
use Rattle.volume_laws.specs.Volume.{IsVolumeStanding}
use Rattle.flush_laws.specs.Volume.{Volume}

-- A volume goes on standing once a call has come.
abbrev pub LongerHistoriesStayBetween : Type 0
LongerHistoriesStayBetween = (volume : Volume) (entry : Entry) → IsVolumeStanding volume → IsMountedHistory volume.first (volume.history ++ entry ∷ [])
    → IsVolumeStanding (record volume { history = volume.history ++ entry ∷ [] })
