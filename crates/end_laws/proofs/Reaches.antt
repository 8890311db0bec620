-- Cores and pens that have come to the end of a mount agree on the whole of it, and numbers have stamps there.
use Rattle.std.proofs.Common.{◌≡◌, ◌∙◌, ◌∷◌, ℕ, List, [], slice_get, Some, subst, ap, sym, refl}
use Rattle.sfs_base.proofs.BasicOptions.{none_some}
use Rattle.stamp_table.specs.Rule.{entries_by}
use Rattle.stamp_table.specs.Events.{event_core}
use Rattle.flush_agrees.specs.Agreement.{FlushTold}
use Rattle.flush_agrees.specs.Closing.{AgreesInPart, HasStamps}
use Rattle.flush_agrees.proofs.Closing.{agreements_end}
use Rattle.flush_agrees.proofs.Stamps.{stamps_are_given}
use Rattle.end_laws.specs.Mount.{MountEnd, CoreEnds, MountEnds}
use Rattle.end_laws.specs.Reaches.{MountReaches, MountsReachEnds}

module _ (D : Type 0) (at : MountEnd) (ends : MountReaches D at) where
  each_end : (core : ℕ) (fsyncs : List FlushTold) → slice_get at.fsyncs core ≡ Some fsyncs → CoreEnds D at core fsyncs
  each_end core fsyncs there =
      let has = ends.each core fsyncs there in record {
        hand = has.hand;
        pen = has.pen;
        core_is = has.core_is;
        layout_is = has.layout_is;
        start_is = has.start_is;
        space_is = has.space_is;
        agrees = has.agrees;
        reaches = has.reaches;
        agree = agreements_end D at.t has.hand has.pen fsyncs at.logs has.agrees has.reaches;
        mine = has.mine;
      }

  in_part_of : (core : ℕ) (fsyncs : List FlushTold) → slice_get at.fsyncs core ≡ Some fsyncs → AgreesInPart D at.t at.logs.labels core fsyncs
  in_part_of core fsyncs there =
      let has = ends.each core fsyncs there in record {
        hand = has.hand;
        pen = has.pen;
        agree = has.agrees;
        mine = subst (λ c. has.pen.view.mine ≡ entries_by event_core c at.logs.labels) has.core_is has.reaches.mine;
      }

  -- the labels are lawful by the key of each core's box; where there is no core there is no number
  stamps_by : (lists : List (List FlushTold)) → at.fsyncs ≡ lists → HasStamps at.fsyncs
  stamps_by [] none = record {
    stamps = λ number. 0;
    each = λ core told there. absurd (none_some (ap (λ (l : List (List FlushTold)). slice_get l core) (sym none) ∙ there));
  }
  stamps_by (first ∷ lists) some =
      let has = ends.each 0 first (ap (λ (l : List (List FlushTold)). slice_get l 0) some) in
      stamps_are_given D at.t has.pen.table.given at.logs.labels at.fsyncs has.reaches.lawful in_part_of

  mount_ends : MountEnds D at
  mount_ends = record {
    table = ends.table;
    asks = ends.asks;
    owned = ends.owned;
    labels_are = ends.labels_are;
    along = ends.along;
    own = ends.own;
    rests = ends.rests;
    cores = ends.cores;
    each = each_end;
    stamps = stamps_by at.fsyncs refl;
    frees = ends.frees;
    begins = ends.begins;
  }

pub mounts_reach_ends : (D : Type 0) → MountsReachEnds D
mounts_reach_ends D at ends = mount_ends D at ends
