-- A mount as its contract tells of it, and the volume that it begins.
use Rattle.std.specs.Prelude.{◌≡◌, ℕ, List, Some}
use Rattle.sfs_dev.specs.Disk.{View, images}
use Rattle.sfs_dev.specs.Run.{Advances, CountsOn, EachMoment}
use Rattle.sfs_dev.specs.Steps.{IfTold}
use Rattle.sfs_image.specs.Part.{Part}
use Rattle.sfs_image.specs.Settled.{parts_of}
use Rattle.sfs_image.specs.Super.{IsLayout}
use Rattle.tree_laws.specs.Laws.{IsSoundTree}
use Rattle.tree_laws.specs.Sound.{IsWithinLimits}
use Rattle.journal_one.specs.Calls.{IsCalm}
use Rattle.journal_one.specs.Known.{EachLeft}
use Rattle.commit_one.specs.Carried.{GoesOnTelling}
use Rattle.crash_laws.specs.Wrote.{Mounts}
use Rattle.recovery.specs.Freed.{without_unlinked}
use Rattle.recovery.specs.Recovered.{ShowsTheSame, IsRecoveredFrom}
use Rattle.mount_begin.specs.Mounted.{share_of_nodes, IsMountOf, IsSoundMount}
use Rattle.mount_begin.specs.declared.begin.Mounted.{Mounted}
use Rattle.volume_laws.specs.Begun.{volume_begun, BeginsVolume}
use Rattle.volume_laws.specs.Commits.{HoldsParts}

-- A mount ended with an Ok: this is what its contract says of what it answers, of the disk before it and of the disk after it.
pub record WasMounted (nodes : ℕ) (mounted : Mounted) (old new : View) : Type 0 where
  pub told : IfTold old.content (λ image. IsMountOf nodes image mounted)
  pub sound : IsSoundMount nodes old.size mounted
  pub moments : IfTold old.content (λ image. IsCalm old → CountsOn new → EachMoment old new (λ _ now. ShowsTheSame now image))
  pub ended : IfTold old.content (λ image. IsCalm old → EachLeft new (IsRecoveredFrom image))
  pub tells : IfTold old.content (λ image. IsCalm old → GoesOnTelling old new)
  pub advances : Advances old new

-- A mount leaves the volume that it begins: each image stands for its parts with no slot open, its tree was mounted from the mount's begin on,
-- and what a read gives is told, and a crash may leave it.
pub record LeavesBegun (nodes : ℕ) (mounted : Mounted) (store : ℕ → List ℕ) (parts : ℕ → Part) (old new : View) : Type 0 where
  pub holds : HoldsParts (volume_begun mounted.tree mounted.layout store parts) parts new
  pub mounts : Mounts (share_of_nodes nodes mounted.layout) old.now mounted.tree new
  pub tells : (now : List ℕ) × (new.content ≡ Some now)
  pub leaves : IfTold new.content (images new)

-- A mount begins a volume, whose layout lies on the disk and whose tree is sound and within its limits; where the disk told its content, its
-- parts are the image's without orphans; and where nothing was pending, it leaves this volume.
pub record IsBegunVolume (nodes : ℕ) (mounted : Mounted) (old new : View) : Type 0 where
  pub fits : IsLayout old.size mounted.layout
  pub sound : IsSoundTree mounted.tree
  pub limits : IsWithinLimits mounted.tree
  pub store : ℕ → List ℕ
  pub parts : ℕ → Part
  pub begins : BeginsVolume mounted store parts
  pub of_image : IfTold old.content (λ image. parts ≡ without_unlinked (parts_of mounted.layout image))
  pub told : IfTold old.content (λ image. IsCalm old → CountsOn new → LeavesBegun nodes mounted store parts old new)

-- Each mount that ended with an Ok begins a volume, whether its disk told its content or not.
abbrev pub MountsAreVolumes : View → View → Type 0
MountsAreVolumes old new = (nodes : ℕ) (mounted : Mounted) → WasMounted nodes mounted old new → IsBegunVolume nodes mounted old new
