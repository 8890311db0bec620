-- The workers of a volume, whose first has counted.
use Rattle.std.proofs.Common.{◌≡◌, ◌<◌, ◌∷◌, ◌∙◌, ℕ, zero, suc, List, Result, Ok, Err, length, refl, sym, ap, subst, arith}
use Rattle.std.specs.Prelude.{All, IfOk, slice_index_or}
use Rattle.sfs_dev.specs.Disk.{View}
use Rattle.stamp_table.specs.Table.{IsSameCore}
use Rattle.mem_values.specs.Start.{FileHand}
use Rattle.disk_box.specs.Pens.{PenHand}
use Rattle.workers.specs.Phases.{AreBefore}
use Rattle.workers.specs.Works.{Rests}
use Rattle.workers.specs.declared.worker.Worker.{Worker}
use Rattle.workers.proofs.Added.{OnlySeesMore, more_between, more_keeps, more_same}
use Rattle.table_totals.specs.Rest.{AreAtRest, AreTotalsAtEnd, FirstSaw}
use Rattle.table_totals.specs.Seen.{OnlySaw}
use Rattle.tree_totals.specs.declared.counted.TreeTotals.{TreeTotals}
use Rattle.mount.specs.Keeping.{pairs_kept}
use Rattle.mount.specs.Phases.{own_of}
use Rattle.mount.specs.Totals.{AreTotalsOfVolume}
use Rattle.mount.specs.Volume.{IsVolume}
use Rattle.mount.specs.Workers.{AreWorkers, PairAgrees, WorkersAreBack}
use Rattle.mount.specs.declared.volume.Volume.{Volume}
use Rattle.mount.proofs.Teams.{team_again, workers_count}

-- the workers of a volume are at rest
pub all_at_rest : {D : Type 0} (volume : Volume D) (workers : List (Worker (PenHand D))) → IsVolume volume → AreWorkers volume workers
    → AreAtRest volume.table workers
all_at_rest volume workers is are =
    let count = workers_count volume workers are ∙ is.table_cores in
    let some = is.some in
    record {
      some = omega (arith, count, some);
      count = count ∙ is.site.cores_are;
      between = λ k d within. (are.rest k d within).between;
      past = λ k d within. (are.rest k d within).past;
    }

more_of : (before after : FileHand) → OnlySaw before after → OnlySeesMore before after
more_of before after saw = record { frame = saw.frame; view = saw.view; seen = saw.seen }

module _ {D : Type 0} (volume : Volume D) (was : Worker (PenHand D)) (others : List (Worker (PenHand D))) (now : FileHand) (saw : OnlySaw was.core now) where
  abbrev after : Worker (PenHand D)
  after = record was { core = now }

  more : OnlySeesMore was.core now
  more = more_of was.core now saw

  -- the first rests
  first_rests : Rests volume.table (PairAgrees volume) was → Rests volume.table (PairAgrees volume) after
  first_rests rests = record {
    between = more_between was.core now more volume.table rests.between;
    agree = pairs_kept volume.table volume.set was.core now was.pen (more_keeps was.core now more) rests.agree;
    past = subst (AreBefore was.until) (sym (ap (λ (h : FileHand). h.entries) saw.frame)) rests.past;
  }

  same_itself : (core : FileHand) → IsSameCore core core
  same_itself core = record { table = refl; cores = refl; leads = refl; number = refl }

  back : All (Rests volume.table (PairAgrees volume)) (was ∷ others) → WorkersAreBack volume (was ∷ others) (after ∷ others)
  back rest zero d within = (first_rests (rest 0 was (omega arith)), more_same was.core now more)
  back rest (suc k) d within = (rest (suc k) d within, same_itself (slice_index_or others k d).core)

  again : AreWorkers volume (was ∷ others) → AreWorkers volume (after ∷ others)
  again are = team_again volume (was ∷ others) are (after ∷ others) refl (back are.rest)

  same_own : (core : ℕ) → own_of (after ∷ others) core ≡ own_of (was ∷ others) core
  same_own zero = ap (λ (h : FileHand). h.entries) saw.frame
  same_own (suc core) = refl

module _ {D : Type 0} (volume : Volume D) (before after : List (Worker (PenHand D))) (saw : FirstSaw before after) where
  -- all are workers of the volume still
  pub still_workers : AreWorkers volume before → AreWorkers volume after
  still_workers are =
      subst (AreWorkers volume) (sym saw.after_is)
      (again volume saw.was saw.others saw.now saw.saw (subst (AreWorkers volume) saw.before_is are))

  pub still_many : length after ≡ length before
  still_many = ap length saw.after_is ∙ sym (ap length saw.before_is)

  pub entries_stay : (core : ℕ) → own_of after core ≡ own_of before core
  entries_stay core =
      ap (λ (l : List (Worker (PenHand D))). own_of l core) saw.after_is
      ∙ (same_own volume saw.was saw.others saw.now saw.saw core ∙ sym (ap (λ (l : List (Worker (PenHand D))). own_of l core) saw.before_is))

-- what was counted is what a volume has that is left with these workers
totals_left : {D : Type 0} (view : D → View) (volume : Volume D) (workers : List (Worker (PenHand D))) (found : TreeTotals)
    → AreTotalsAtEnd volume.table workers found → AreTotalsOfVolume view volume workers found
totals_left view volume workers found are disk history turns leaves =
    are history (record { legal = leaves.legal; own = leaves.own; log = leaves.log; events = leaves.events })

pub totals_are : {D E : Type 0} (view : D → View) (volume : Volume D) (workers : List (Worker (PenHand D))) (result : Result TreeTotals E)
    → IfOk result (AreTotalsAtEnd volume.table workers) → IfOk result (AreTotalsOfVolume view volume workers)
totals_are view volume workers (Ok found) are = totals_left view volume workers found are
totals_are view volume workers (Err fault) are = are
