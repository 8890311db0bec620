-- What the calls round a gate leave at each moment: those that make a filled slot durable, and those that close it.
use Rattle.std.proofs.Common.{◌≡◌, ◌⊎◌, ℕ, ◌+◌, ◌^◌, ◌<◌, ◌≤◌, List, length, Some, Result, ◌∙◌, arith, inl}
use Rattle.sfs_image.specs.ImageOf.{InodePart}
use Rattle.sfs_image.specs.Part.{Part}
use Rattle.sfs_dev.specs.Disk.{View, images}
use Rattle.sfs_dev.specs.Run.{Advances}
use Rattle.journal_one.specs.Calls.{IsWrite, IsSync}
use Rattle.journal_one.specs.Job.{Job, fill_piece, gate_piece, IsJob}
use Rattle.journal_one.specs.Known.{EachLeft, AreFilled, IsDurable, IsCopied, IsEnded}
use Rattle.journal_one.specs.Laws.{HasPieces}
use Rattle.journal_one.proofs.Kept.{IsLawful}
use Rattle.commit_one.specs.Carried.{LaterLeaves, GoesOnTelling, Keeps}
use Rattle.commit_one.specs.Change.{IsBefore, IsByItsSlot, IsAfter, IsChangeOf}
use Rattle.commit_one.proofs.Images.{gate_opens_or_stays, open_is_by_its_slot, records_in_table, gate_shuts_or_stays, shut_is_after}
use Rattle.sfs_dev.proofs.Runs.{call_advances}
use Rattle.commit_one.proofs.Moments.{sync_keeps, later_call, later_trans, later_more, telling_trans, writes_tell, writes_told}

-- every image has the pieces of a commit, each piece in each image
has_pieces : (job : Job) (disk : View) → AreFilled job disk → EachLeft disk (HasPieces job)
has_pieces job disk filled content told image left k lt = filled k lt content told image left

-- every fresh block has all of its bytes
abbrev pub AreWhole : Job → Type 0
AreWhole job = (k : ℕ) → k < length job.fresh → length (fill_piece job k).bytes ≡ 4096

module _ (job : Job) (is : IsJob job) (parts : ℕ → Part) (new : List InodePart) (change : IsChangeOf job parts new) where
  -- what each moment of the opening leaves, from the moment at which it began
  abbrev Opening : ℕ → ℕ → List ℕ → Type 0
  Opening began k image = (k ≤ began + 1 → IsBefore job parts image) × (IsBefore job parts image ⊎ IsByItsSlot job parts new image)

  abbrev Either : List ℕ → Type 0
  Either image = IsBefore job parts image ⊎ IsByItsSlot job parts new image

  -- the seal
  module _ {V E : Type 0} (old first : View) (sealed : Result V E) (seal : IsSync old first sealed) (lawful : IsLawful old)
      (leaves : EachLeft old (IsBefore job parts)) where
    pub seal_keeps : Keeps (IsBefore job parts) old first
    seal_keeps = sync_keeps (IsBefore job parts) old first sealed lawful seal leaves

    pub seal_later : LaterLeaves (Opening old.now) old first
    seal_later =
        later_more (λ k image. IsBefore job parts image) (Opening old.now) old first (λ k image from to stands. ((λ le. stands), inl stands)) seal_keeps.later

    -- the gate
    module _ {W F : Type 0} (second : View) (opened : Result W F) (write : IsWrite (gate_piece job.place 1) first second opened) (fits : first.now < 2 ^ 64)
        (filled : AreFilled job first) (whole : AreWhole job) where
      gate_images : (content : List ℕ) → first.content ≡ Some content → (image : List ℕ) → images second image → Either image
      gate_images content told image left =
          let was = write.torn image left in
          gate_opens_or_stays job is parts new change was.0 image (seal_keeps.now content told was.0 was.1)
          (has_pieces job first filled content told was.0 was.1) whole was.2

      pub gate_tells : GoesOnTelling old second
      gate_tells = telling_trans old first second seal_keeps.told (writes_tell (gate_piece job.place 1) first second opened write)

      pub gate_leaves : EachLeft second Either
      gate_leaves content told image left =
          let was = writes_told (gate_piece job.place 1) first second opened write content told in
          gate_images was.0 was.1 image left

      pub gate_goes : Advances first second
      gate_goes = call_advances first second opened fits write.call

      pub gate_later : LaterLeaves (Opening old.now) old second
      gate_later =
          later_trans (Opening old.now) old first second seal_keeps.told gate_goes seal_later
          (later_call (Opening old.now) first second write.call.time
          (λ counts content told image left.
          ((λ le. absurd (omega (arith, write.call.time.counted, seal.call.time.counted, counts, le))), gate_images content told image left)))

      -- the sync behind it
      module _ {X G : Type 0} (now : View) (settled : Result X G) (settle : IsSync second now settled) (settle_fits : second.now < 2 ^ 64)
          (settle_lawful : IsLawful second) where
        settle_keeps : Keeps Either second now
        settle_keeps = sync_keeps Either second now settled settle_lawful settle gate_leaves

        pub settle_tells : GoesOnTelling old now
        settle_tells = telling_trans old second now gate_tells settle_keeps.told

        pub settle_later : LaterLeaves (Opening old.now) old now
        settle_later =
            later_trans (Opening old.now) old second now gate_tells (call_advances second now settled settle_fits settle.call) gate_later
            (later_call (Opening old.now) second now settle.call.time
            (λ counts content told image left. (
              (λ le. absurd (omega (arith, settle.call.time.counted, write.call.time.counted, seal.call.time.counted, counts, le))),
              settle_keeps.now content (settle.content ∙ told) image left,
            )))

        pub settle_leaves : IsDurable job 0 now → EachLeft now (IsByItsSlot job parts new)
        settle_leaves knows content told image left =
            open_is_by_its_slot job is parts new change image (knows.opened content told image left) (settle_keeps.now content told image left)

  -- what each moment of the closing leaves
  abbrev New : List ℕ → Type 0
  New image = IsByItsSlot job parts new image ⊎ IsAfter job parts new image

  -- the sync before the gate
  module _ {V E : Type 0} (old first : View) (copied : Result V E) (copy : IsSync old first copied) (lawful : IsLawful old)
      (leaves : EachLeft old (IsByItsSlot job parts new)) where
    pub copy_keeps : Keeps (IsByItsSlot job parts new) old first
    copy_keeps = sync_keeps (IsByItsSlot job parts new) old first copied lawful copy leaves

    pub copy_later : LaterLeaves (λ k image. New image) old first
    copy_later =
        later_more (λ k image. IsByItsSlot job parts new image) (λ k image. New image) old first (λ k image from to stands. inl stands) copy_keeps.later

    -- the gate
    module _ {W F : Type 0} (second : View) (shut : Result W F) (write : IsWrite (gate_piece job.place 0) first second shut) (fits : first.now < 2 ^ 64)
        (knows : IsCopied job first) where
      shut_images : (content : List ℕ) → first.content ≡ Some content → (image : List ℕ) → images second image → New image
      shut_images content told image left =
          let was = write.torn image left in
          gate_shuts_or_stays job is parts new change was.0 image (copy_keeps.now content told was.0 was.1)
          (records_in_table job is parts new change was.0 (λ k lt. knows.copied k lt content told was.0 was.1)) was.2

      pub shut_tells : GoesOnTelling old second
      shut_tells = telling_trans old first second copy_keeps.told (writes_tell (gate_piece job.place 0) first second shut write)

      shut_leaves : EachLeft second New
      shut_leaves content told image left =
          let was = writes_told (gate_piece job.place 0) first second shut write content told in
          shut_images was.0 was.1 image left

      pub shut_later : LaterLeaves (λ k image. New image) old second
      shut_later =
          later_trans (λ k image. New image) old first second copy_keeps.told (call_advances first second shut fits write.call) copy_later
          (later_call (λ k image. New image) first second write.call.time (λ counts content told image left. shut_images content told image left))

      -- the sync behind it
      module _ {X G : Type 0} (now : View) (finished : Result X G) (finish : IsSync second now finished) (finish_fits : second.now < 2 ^ 64)
          (finish_lawful : IsLawful second) where
        finish_keeps : Keeps New second now
        finish_keeps = sync_keeps New second now finished finish_lawful finish shut_leaves

        pub finish_tells : GoesOnTelling old now
        finish_tells = telling_trans old second now shut_tells finish_keeps.told

        pub finish_later : LaterLeaves (λ k image. New image) old now
        finish_later =
            later_trans (λ k image. New image) old second now shut_tells
            (call_advances second now finished finish_fits finish.call) shut_later finish_keeps.later

        pub finish_leaves : IsEnded job now → EachLeft now (IsAfter job parts new)
        finish_leaves closed content told image left =
            shut_is_after job is parts new change image (closed.idle content told image left) (finish_keeps.now content told image left)
