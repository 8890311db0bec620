-- What a device call for one slot does to the slot and to the disk.
use Rattle.std.specs.Prelude.{◌≡◌, ◌≢◌, ◌<◌, ℕ, [], length, Result, OnOk, IfErr, Bool, true, false, List}
use Rattle.std.specs.Result.{is_ok}
use Rattle.sfs_base.specs.Ends.{HasCause}
use Rattle.sfs_dev.specs.Disk.{View}
use Rattle.journal_one.specs.Job.{Piece, fill_count, fill_piece, gate_piece, table_piece, without_fresh}
use Rattle.journal_one.specs.Stage.{left_to_fill, left_to_place, next_stage}
use Rattle.slot_image_laws.specs.Run.{Writes}
use Rattle.disk_box.specs.declared.desk.Phase.{Phase}
use Rattle.disk_box.specs.declared.desk.Phase.TheVariants as phase
use Rattle.disk_box.specs.declared.desk.Slot.{Slot}
use Rattle.disk_box.specs.declared.kind.Kind.{Kind}
use Rattle.disk_box.specs.declared.kind.Kind.TheVariants as kind
use Rattle.disk_box.specs.Kind.{HasKind, kind_of}

-- A device call that failed has its cause, and answers the disk's count of faults.
pub record AnswersCall {V : Type 0} (old new : View) (result : Result V ℕ) : Type 0 where
  pub cause : HasCause old.faults new.faults result
  pub counted : IfErr result (λ faults. faults ≡ new.faults)

-- how many of the pieces that fill a slot were written, or how many of its records were placed
abbrev pub written_of : Phase → ℕ
written_of (phase.Filling filling) = filling.done
written_of (phase.Durable durable) = durable.done
written_of _ = 0

-- there are more of them
abbrev pub HasMore : Phase → Type 0
HasMore (phase.Filling filling) = filling.done < fill_count filling.job
HasMore (phase.Durable durable) = durable.done < length durable.job.entries
HasMore _ = Unit {0}

-- how many blocks the disk has at which a slot writes
abbrev pub blocks_of : Phase → ℕ
blocks_of (phase.Filling filling) = filling.job.place.layout.blocks
blocks_of (phase.Sealed sealed) = sealed.place.layout.blocks
blocks_of (phase.Durable durable) = durable.job.place.layout.blocks
blocks_of (phase.Copied copied) = copied.place.layout.blocks
blocks_of _ = 0

-- what is written next for a slot
abbrev pub next_piece : Phase → Piece
next_piece (phase.Filling filling) = fill_piece filling.job filling.done
next_piece (phase.Sealed sealed) = gate_piece sealed.place 1
next_piece (phase.Durable durable) = table_piece durable.job durable.done
next_piece (phase.Copied copied) = gate_piece copied.place 0
next_piece _ = record { at = 0; bytes = [] }

-- what a slot's phase is once that is written
abbrev pub FollowsWrite : Phase → Phase → Type 0
FollowsWrite (phase.Filling filling) (phase.Filling next) = (next ≡ next_stage filling) × (1 < left_to_fill filling)
FollowsWrite (phase.Filling filling) (phase.Filled filled) = (filled ≡ filling.job) × (left_to_fill filling ≡ 1)
FollowsWrite (phase.Sealed sealed) (phase.Opened opened) = opened ≡ sealed
FollowsWrite (phase.Durable durable) (phase.Durable next) = next ≡ next_stage durable
FollowsWrite (phase.Durable durable) (phase.Placed placed) = (placed ≡ durable.job) × (left_to_place durable ≡ 1)
FollowsWrite (phase.Copied copied) (phase.Closing closing) = closing ≡ copied
FollowsWrite _ _ = ⊥

-- What comes next for a slot was written, or failed to be, and nothing of the slot is another but its phase.
pub record WritesNext {V : Type 0} (was now : Slot) (old new : View) (result : Result V ℕ) : Type 0 where
  pub beside : now ≡ record was { phase = now.phase }
  pub writes : Writes (is_ok result) (next_piece was.phase) old new
  pub answers : AnswersCall old new result
  pub ok : OnOk result (FollowsWrite was.phase now.phase)

-- what a slot's phase is once it has taken note of a sync, after which nothing is pending: fresh blocks are let go of
abbrev pub FollowsSync : Phase → Phase → Type 0
FollowsSync (phase.Filled filled) (phase.Sealed sealed) = sealed ≡ filled
FollowsSync (phase.Opened opened) (phase.Durable durable) = durable ≡ record { job = without_fresh opened; done = 0 }
FollowsSync (phase.Placed placed) (phase.Copied copied) = copied ≡ placed
FollowsSync (phase.Closing closing) (phase.Idle idle) = idle ≡ closing.place
FollowsSync _ _ = ⊥

-- whether a slot of this phase awaits a sync
abbrev pub awaits_sync : Kind → Bool
awaits_sync kind.Filled = true
awaits_sync kind.Opened = true
awaits_sync kind.Placed = true
awaits_sync kind.Closing = true
awaits_sync _ = false

-- none of the first slots does
abbrev pub NoneAwaits : List Slot → ℕ → Type 0
NoneAwaits slots n = (j : ℕ) (what : Kind) → j < n → HasKind slots j what → awaits_sync what ≡ false

-- A slot has taken note of a sync, and awaits none, and nothing of it is another but its phase.
pub record TakesSync (was now : Slot) : Type 0 where
  pub beside : now ≡ record was { phase = now.phase }
  pub served : awaits_sync (kind_of now.phase) ≡ false
  pub follows : FollowsSync was.phase now.phase

-- A slot that was filled takes note of a sync, and one of another phase is as it was.
pub record IsSealedBySync (was now : Slot) : Type 0 where
  pub filled : kind_of was.phase ≡ kind.Filled → TakesSync was now
  pub other : kind_of was.phase ≢ kind.Filled → now ≡ was
