-- How the stages of settling a disk follow one another.
use Rattle.std.proofs.Common.{◌≡◌, ℕ, ◌<◌, List, [], length, Option, None, Some, Result, sym, ◌∙◌, subst, arith, inl, inr}
use Rattle.std.specs.Result.{IsErr}
use Rattle.sfs_base.proofs.BasicOptions.{some_same}
use Rattle.sfs_image.specs.ImageOf.{transaction_in, table_parts, IsImageOf}
use Rattle.sfs_image.specs.Super.{Layout}
use Rattle.sfs_dev.specs.Disk.{View}
use Rattle.sfs_dev.specs.Run.{Advances}
use Rattle.sfs_dev.proofs.ReadRuns.{answered}
use Rattle.journal_one.specs.Calls.{IsCalm}
use Rattle.journal_one.specs.Known.{EachLeft}
use Rattle.journal_one.proofs.Kept.{leaves_from_reads}
use Rattle.commit_one.specs.Carried.{LaterLeaves}
use Rattle.commit_one.specs.Change.{nothing_open}
use Rattle.commit_one.proofs.Moments.{telling_trans, later_trans, later_more}
use Rattle.recovery.specs.Recovering.{SettlesAs, IsToBeClosed, BringsHome, ClosesAll, settled_parts, IsReadyToSettle}
use Rattle.recovery.specs.declared.journals.OpenSlot.{OpenSlot}
use Rattle.recovery.proofs.BegunFrom.{settled_again, stands_settled, all_are_open, begins_closing}
use Rattle.recovery.proofs.ClosedOnDisk.{no_answer}
use Rattle.recovery.proofs.SlotsClosed.{stands_closed}

-- nothing is pending: each image is what a read gives
each_is_read : (disk : View) (image : List ℕ) (P : List ℕ → Type 0) → disk.content ≡ Some image → IsCalm disk → P image → EachLeft disk P
each_is_read disk image P told calm holds = leaves_from_reads disk P calm (λ content same. subst P (some_same (sym told ∙ same)) holds)

module _ (layout : Layout) (found : List OpenSlot) (stamps : List (Option ℕ)) (records : List (List ℕ)) (image : List ℕ)
    (ready : IsReadyToSettle layout found stamps records image)
    (old : View) (told : old.content ≡ Some image) (calm : IsCalm old) where
  abbrev pub image_settles : SettlesAs layout (settled_parts layout image) image
  image_settles = record {
    opened = transaction_in layout image;
    stands = stands_settled layout (transaction_in layout image) (table_parts layout image) image ready.stands;
    same = settled_again layout (transaction_in layout image) (table_parts layout image);
  }

  -- with no slot open there is nothing to do
  pub none_to_settle : {V E : Type 0} (value : V) → found ≡ [] → ClosesAll layout (settled_parts layout image) old old (answered {V = V} {F = E} value)
  none_to_settle value none = record {
    told = λ content told. (content, told);
    later = λ content told counts k image from up left. absurd (omega arith);
    closed = each_is_read old image (IsImageOf layout nothing_open (settled_parts layout image)) told calm
        (stands_closed layout (transaction_in layout image) (settled_parts layout image) image image_settles.stands
        (λ k low. elim ((all_are_open layout image found ready.open_slots).others k low) [
          | inl shut ↦ shut
          | inr there ↦ absurd (let within = subst (λ (l : List OpenSlot). there.0 < length l) none there.2.within in omega (arith, within))
        ]));
  }

  pub first_leaves : EachLeft old (IsImageOf layout (transaction_in layout image) (table_parts layout image))
  first_leaves = each_is_read old image (IsImageOf layout (transaction_in layout image) (table_parts layout image)) told calm ready.stands

  module _ (mid : View) where
    home_later : {V E : Type 0} (result : Result V E) → BringsHome layout (transaction_in layout image) (table_parts layout image) old mid result
        → LaterLeaves (λ _ now. SettlesAs layout (settled_parts layout image) now) old mid
    home_later result home =
        later_more (λ _ now. IsImageOf layout (transaction_in layout image) (table_parts layout image) now)
        (λ _ now. SettlesAs layout (settled_parts layout image) now) old mid
        (λ k now from up stands. record {
          opened = transaction_in layout image;
          stands = stands_settled layout (transaction_in layout image) (table_parts layout image) now stands;
          same = settled_again layout (transaction_in layout image) (table_parts layout image);
        }) home.keeps.later

    -- the records did not come home
    pub home_failed : {V E W F : Type 0} (result : Result V E) (answer : Result W F) → IsErr answer
        → BringsHome layout (transaction_in layout image) (table_parts layout image) old mid result
        → ClosesAll layout (settled_parts layout image) old mid answer
    home_failed result answer failed home = record {
      told = home.keeps.told;
      later = home_later result home;
      closed = no_answer _ answer failed;
    }

    module _ {V E : Type 0} (value : V)
        (home : BringsHome layout (transaction_in layout image) (table_parts layout image) old mid (answered {V = V} {F = E} value)) where
      pub to_be_closed : EachLeft mid (IsToBeClosed layout (settled_parts layout image) found None)
      to_be_closed content told now left =
          begins_closing layout image now found ready.open_slots (home.keeps.now content told now left) (home.full content told now left)

      -- they did, and the slots are closed
      pub closed_after : {W F : Type 0} (new : View) (result : Result W F) → Advances mid new → ClosesAll layout (settled_parts layout image) mid new result
          → ClosesAll layout (settled_parts layout image) old new result
      closed_after new result goes closes = record {
        told = telling_trans old mid new home.keeps.told closes.told;
        later =
            later_trans (λ _ now. SettlesAs layout (settled_parts layout image) now) old mid new home.keeps.told goes
            (home_later (answered {V = V} {F = E} value) home) closes.later;
        closed = closes.closed;
      }
