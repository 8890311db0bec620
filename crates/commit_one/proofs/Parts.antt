-- What the parts of a commit say of its job, from what they say of the stages that they begin with.
use Rattle.std.proofs.Common.{◌≡◌, ℕ, ◌+◌, ◌≤◌, length, arith, ap, subst}
use Rattle.sfs_dev.specs.Disk.{View}
use Rattle.sfs_dev.specs.Run.{Advances, CountsOn}
use Rattle.journal_one.specs.Job.{Job, fill_count}
use Rattle.journal_one.specs.Known.{IsFilling, IsFilled, IsDurable, AreAllPlaced}
use Rattle.journal_one.specs.Stage.{Stage, left_to_fill, left_to_place}
use Rattle.commit_one.proofs.Whole.{Goes, HasMade, FillKeeps, PlaceKeeps}

module _ (stage : Stage) (job : Job) (is : stage.job ≡ job) (none : stage.done ≡ 0) where
  to_fill : left_to_fill stage ≡ fill_count job
  to_fill = omega (arith, ap fill_count is, none)

  to_place : left_to_place stage ≡ length job.entries
  to_place = omega (arith, ap (λ (j : Job). length j.entries) is, none)

  module _ (old now : View) where
    pub fill_goes : Advances old now → (CountsOn now → now.now ≤ old.now + left_to_fill stage) → Goes (fill_count job) old now
    fill_goes goes most = record { on = goes; most = λ counts. let m = most counts in omega (arith, m, to_fill) }

    pub fill_made : HasMade (left_to_fill stage) old now → HasMade (fill_count job) old now
    fill_made made = subst (λ n. HasMade n old now) to_fill made

    pub fill_keeps : FillKeeps stage.job old now → FillKeeps job old now
    fill_keeps keeps = subst (λ (j : Job). FillKeeps j old now) is keeps

    pub is_filled : (IsFilling stage.job stage.done old → IsFilled stage.job now) → IsFilling job 0 old → IsFilled job now
    is_filled all = subst (λ (j : Job). IsFilling j 0 old → IsFilled j now) is
        (subst (λ (n : ℕ). IsFilling stage.job n old → IsFilled stage.job now) none all)

    pub place_goes : Advances old now → (CountsOn now → now.now ≤ old.now + left_to_place stage) → Goes (length job.entries) old now
    place_goes goes most = record { on = goes; most = λ counts. let m = most counts in omega (arith, m, to_place) }

    pub place_made : HasMade (left_to_place stage) old now → HasMade (length job.entries) old now
    place_made made = subst (λ n. HasMade n old now) to_place made

    pub place_keeps : PlaceKeeps stage.job old now → PlaceKeeps job old now
    place_keeps keeps = subst (λ (j : Job). PlaceKeeps j old now) is keeps

    pub is_placed : (IsDurable stage.job stage.done old → AreAllPlaced stage.job now) → IsDurable job 0 old → AreAllPlaced job now
    is_placed all = subst (λ (j : Job). IsDurable j 0 old → AreAllPlaced j now) is
        (subst (λ (n : ℕ). IsDurable stage.job n old → AreAllPlaced stage.job now) none all)
