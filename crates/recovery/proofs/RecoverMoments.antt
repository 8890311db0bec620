-- What each crash during a recovery leaves.
use Rattle.std.proofs.Common.{◌≡◌, ℕ, ◌<◌, cond, List, Option, None, Some, Result, Ok, Err, OnOk, refl, sym, ◌∙◌, ap, subst, arith, inl, inr}
use Rattle.std.proofs.lemmas.Result.{on_ok_weaker}
use Rattle.sfs_image.specs.ImageOf.{IsImageOf, transaction_in, table_parts}
use Rattle.sfs_image.specs.Part.{Part}
use Rattle.sfs_image.specs.Settled.{parts_of}
use Rattle.sfs_image.specs.Super.{Layout}
use Rattle.sfs_dev.specs.Disk.{View, OnlyTold, images}
use Rattle.sfs_dev.specs.Run.{Advances, CountsOn, EachMoment, Unwritten}
use Rattle.sfs_dev.proofs.Runs.{EachMoment-trans}
use Rattle.image_laws.specs.Image.{fault_of}
use Rattle.journal_one.specs.Calls.{IsCalm}
use Rattle.journal_one.specs.Known.{EachLeft}
use Rattle.commit_one.specs.Change.{nothing_open}
use Rattle.disk_tree.specs.Told.{SettlesRecords}
use Rattle.std.specs.Result.{IsErrAnd}
use Rattle.sfs_base.specs.Ends.{HasRisen}
use Rattle.sfs_dev.specs.Run.{IsCauseOf, HasReadCause}
use Rattle.sfs_image.specs.Settled.{slot_count}
use Rattle.recovery.specs.Cause.{is_recover_disk_fault}
use Rattle.recovery.specs.Open.{AreOpen}
use Rattle.recovery.specs.declared.fault.RecoverFault.{RecoverFault}
use Rattle.recovery.specs.declared.fault.RecoverFault.TheVariants.{DiskFailed}
use Rattle.recovery.specs.declared.journals.OpenSlot.{OpenSlot}
use Rattle.recovery.specs.Freed.{is_unlinked, free_part, AreUnlinkedFree, RecoversTo}
use Rattle.recovery.specs.Recovered.{ShowsTheSame, IsRecoveredFrom}
use Rattle.recovery.specs.Recovering.{AreNewestOf, SettlesAs, settled_parts, IsReadyToSettle}
use Rattle.recovery.proofs.BegunFrom.{settled_again, stands_settled}
use Rattle.recovery.proofs.FreedShown.{freed_shows_the_same}
use Rattle.recovery.proofs.JudgedImage.{readable, are_faultless, image_stands}
use Rattle.recovery.proofs.SlotsClosed.{nothing_given}
use Rattle.recovery.proofs.ShownAlike.{settling_is_readable, settling_parts, settling_shows_the_same}

-- what was calm stays so where nothing is written
pub calm_stays : (old new : View) → Unwritten old new → IsCalm old → IsCalm new
calm_stays old new rests calm = subst (λ (t : Option (List ℕ)). OnlyTold t (images new)) (sym rests.content) (still old.content calm)
  where
    still : (o : Option (List ℕ)) → OnlyTold o (images old) → OnlyTold o (images new)
    still None = λ calm. tt
    still (Some content) = λ calm image left. calm image ((rests.left image).0 left)

-- of a calm disk an image is what a read gives
sole : (disk : View) (content image : List ℕ) → disk.content ≡ Some content → IsCalm disk → images disk image → image ≡ content
sole disk content image told calm left = (subst (λ (t : Option (List ℕ)). OnlyTold t (images disk)) told calm) image left

shows_itself : (image : List ℕ) → ShowsTheSame image image
shows_itself image = record { fault = refl; tree = λ share. refl }

pub read_moments : (old mid : View) (image : List ℕ) → old.content ≡ Some image → IsCalm old → Unwritten old mid → CountsOn mid
    → EachMoment old mid (λ _ now. ShowsTheSame now image)
read_moments old mid image told calm rests counts k now from up left =
    subst (λ (l : List ℕ). ShowsTheSame l image) (sym (sole old image now told calm (rests.at_each_moment counts k now from up left))) (shows_itself image)

module _ (image : List ℕ) (layout : Layout) (records : List (List ℕ)) (settles : SettlesRecords image layout records) (some : 0 < layout.inodes)
    (none : fault_of image ≡ None) where
  abbrev image_settles : SettlesAs layout (settled_parts layout image) image
  image_settles = let stands = image_stands image layout records settles some none in record {
    opened = transaction_in layout image;
    stands = stands_settled layout (transaction_in layout image) (table_parts layout image) image stands;
    same = settled_again layout (transaction_in layout image) (table_parts layout image);
  }

  freed_of : (freed : ℕ → Part) → AreUnlinkedFree layout (settled_parts layout image) freed → AreUnlinkedFree layout (parts_of layout image) freed
  freed_of freed without i low =
      without i low
      ∙ ap (λ (p : Part). cond (is_unlinked p.raw) free_part p) (sym (settling_parts layout (settled_parts layout image) image image_settles i low))

  pub settled_shows : (now : List ℕ) → SettlesAs layout (settled_parts layout image) now → ShowsTheSame now image
  settled_shows now is = settling_shows_the_same layout (settled_parts layout image) now image is image_settles

  pub freed_shows : (freed : ℕ → Part) → AreUnlinkedFree layout (settled_parts layout image) freed → (now : List ℕ) → SettlesAs layout freed now
      → ShowsTheSame now image
  freed_shows freed without now is =
      freed_shows_the_same layout (parts_of layout image) (are_faultless image layout records settles some none) freed (freed_of freed without) now image
      (settling_is_readable layout freed now is) (readable image layout records settles some none) (λ i low. settling_parts layout freed now is i low)
      (λ i low. refl) none

  pub all_moments : {V E : Type 0} (old mid new : View) (result : Result V E) → old.content ≡ Some image → mid.content ≡ Some image → IsCalm old
      → Unwritten old mid → CountsOn new → Advances mid new
      → RecoversTo layout (settled_parts layout image) mid new result → EachMoment old new (λ _ now. ShowsTheSame now image)
  all_moments old mid new result told mid_told calm rests counts goes to =
      EachMoment-trans old mid new (λ _ now. ShowsTheSame now image) counts goes
      (read_moments old mid image told calm rests (let l = goes.later in omega (arith, counts)))
      (λ k now from up left. elim (to.later image mid_told counts k now from up left) [
        | inl settles ↦ settled_shows now settles
        | inr freed ↦ freed_shows to.freed to.without now freed
      ])

  pub all_ended : {V E : Type 0} (mid new : View) (result : Result V E) → RecoversTo layout (settled_parts layout image) mid new result
      → OnOk result (EachLeft new (IsRecoveredFrom image))
  all_ended mid new result to = on_ok_weaker result (λ ended content told now left. record {
    parts = to.freed;
    without = subst (λ (l : Layout). AreUnlinkedFree l (parts_of l image) to.freed) settles.layout_is (freed_of to.freed to.without);
    stands = subst (λ (l : Layout). IsImageOf l nothing_open to.freed now) settles.layout_is (ended content told now left);
    same = freed_shows to.freed to.without now (record { opened = nothing_open; stands = ended content told now left; same = nothing_given layout to.freed });
  }) to.ended

-- what was judged is ready to be settled, as it is handed on
pub ready_by : (image : List ℕ) (layout : Layout) (found passed : List OpenSlot) (stamps given_stamps : List (Option ℕ)) (records given_records : List (List ℕ))
    → passed ≡ found → given_stamps ≡ stamps → given_records ≡ records → IsImageOf layout (transaction_in layout image) (table_parts layout image) image
    → AreOpen layout image (slot_count layout) found
    → AreNewestOf layout (transaction_in layout image) (table_parts layout image) stamps records
    → IsReadyToSettle layout passed given_stamps given_records image
ready_by image layout found passed stamps given_stamps records given_records same_found same_stamps same_records stands open_slots newest = record {
  stands = stands;
  open_slots = subst (AreOpen layout image (slot_count layout)) (sym same_found) open_slots;
  newest = subst (λ (s : List (Option ℕ)). AreNewestOf layout (transaction_in layout image) (table_parts layout image) s given_records) (sym same_stamps)
      (subst (λ (r : List (List ℕ)). AreNewestOf layout (transaction_in layout image) (table_parts layout image) stamps r) (sym same_records) newest);
}

-- a recovery that failed on the disk
pub failed_for : {V : Type 0} (before now : ℕ) (result : Result V RecoverFault) → IsErrAnd result (λ fault. fault ≡ DiskFailed) → HasRisen before now
    → HasReadCause is_recover_disk_fault before now result
failed_for before now (Ok value) never risen = absurd never
failed_for before now (Err fault) is risen = subst (λ (f : RecoverFault). IsCauseOf (is_recover_disk_fault f) before now) (sym is) risen
