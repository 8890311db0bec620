-- What one device call of a commit does to the disk, exactly.
use Rattle.std.specs.Prelude.{◌≡◌, length, option_map, Result, OnOk, OnErr, IfErr}
use Rattle.sfs_dev.specs.Ranges.{put}
use Rattle.sfs_dev.specs.Disk.{View, Torn, TornTold, SameImages, OnlyTold, IsDeviceCall, images}
use Rattle.journal_one.specs.Job.{Piece}
use Rattle.journal_one.specs.declared.doubt.Doubt.{Doubt}
use Rattle.sfs_base.specs.Ends.{HasCause}

-- One write of these bytes and nothing else: outside their range all stays, in what a read gives and in each image.
pub record IsWrite {V E : Type 0} (piece : Piece) (old new : View) (result : Result V E) : Type 0 where
  pub ok : OnOk result (new.content ≡ option_map (put piece.at piece.bytes) old.content)
  pub err : OnErr result (TornTold piece.at (length piece.bytes) old.content new.content)
  pub torn : Torn piece.at (length piece.bytes) (images old) (images new)
  pub call : IsDeviceCall old new result

-- One sync: once it answered Ok, nothing is pending.
pub record IsSync {V E : Type 0} (old new : View) (result : Result V E) : Type 0 where
  pub ok : OnOk result (OnlyTold new.content (images new))
  pub err : OnErr result (SameImages (images old) (images new))
  pub content : new.content ≡ old.content
  pub call : IsDeviceCall old new result

-- nothing is pending: where it is told what a read gives, a crash leaves that
abbrev pub IsCalm : View → Type 0
IsCalm disk = OnlyTold disk.content (images disk)

-- A doubt comes only where the count of faults rose, and has the count then.
pub record HasDoubt {V : Type 0} (old new : View) (result : Result V Doubt) : Type 0 where
  pub cause : HasCause old.faults new.faults result
  pub faults : IfErr result (λ doubt. doubt.faults ≡ new.faults)
