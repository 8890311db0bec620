-- A volume that is mounted, with all of its workers.
use Rattle.mount.specs.Volume.{IsVolume}
use Rattle.mount.specs.Workers.{AreWorkers}
use Rattle.mount.specs.declared.volume.Mounted.{Mounted}

-- a volume with all of its workers, each of which rests
abbrev pub IsMounted : {D : Type 0} → Mounted D → Type 0
IsMounted mounted = IsVolume mounted.volume × AreWorkers mounted.volume mounted.workers.items
