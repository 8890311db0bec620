-- What is due at the end of a run, by what was found there.
use Rattle.std.proofs.Common.{◌≡◌, ◌∙◌, ℕ, List, Result, Ok, Err, length, refl}
use Rattle.std.specs.Prelude.{IfOk, OnErr, OnOk}
use Rattle.sfs_dev.specs.Disk.{View}
use Rattle.tree_laws.specs.Tree.{TreeState}
use Rattle.tree_laws.specs.declared.history.Entry.{Entry}
use Rattle.tree_totals.specs.declared.counted.TreeTotals.{TreeTotals}
use Rattle.disk_box.specs.Pens.{PenHand}
use Rattle.workers.specs.Phases.{HasMadePhases, HasMadeSoFar}
use Rattle.workers.specs.declared.worker.Worker.{Worker}
use Rattle.mount.specs.Totals.{AreTotalsOfVolume}
use Rattle.mount.specs.declared.volume.Volume.{Volume}
use Rattle.script.specs.declared.commands.Line.{Line}
use Rattle.scalefs_run.proofs.Made.{on_err, on_ok}
use Rattle.scalefs_run.specs.Ran.{EndsVolume}
use Rattle.scalefs_run.specs.Writing.{line_text}
use Rattle.scalefs_run.specs.declared.writing.Ending.TheVariants as ending
use Rattle.scalefs_run.specs.declared.writing.Writing.TheVariants as writing

-- the text of the history takes nothing
pub history_ends : {D : Type 0} (view : D → View) (volume : Volume D) (workers : List (Worker (PenHand D)))
    → EndsVolume view volume workers writing.History ending.History
history_ends view volume workers disk history turns leaves = refl

-- the line of `load` has the totals that were found
pub load_ends : {D : Type 0} (view : D → View) (volume : Volume D) (workers : List (Worker (PenHand D))) (seed count asked : ℕ) (found : TreeTotals)
    → AreTotalsOfVolume view volume workers found
    → EndsVolume view volume workers (writing.Load seed count asked) (ending.Load seed count asked found)
load_ends view volume workers seed count asked found are disk history turns leaves =
    let totals = are disk history turns leaves in
    λ i. line_text seed count asked (length history) (totals.rows i) (totals.bytes i)

-- what cores have made they have made with the same entries
module _ {V F : Type 0} (answer : Result V F) (first : TreeState) (own next : ℕ → List Entry) (phases : List (List Line))
    (same : (core : ℕ) → next core ≡ own core) where
  pub made_still : OnOk answer (HasMadePhases first own phases) → OnOk answer (HasMadePhases first next phases)
  made_still = on_ok answer (λ made history legal has. made history legal (λ core. has core ∙ same core))

  pub so_far_still : OnErr answer (HasMadeSoFar first own phases) → OnErr answer (HasMadeSoFar first next phases)
  so_far_still = on_err answer (λ made history legal has. made history legal (λ core. has core ∙ same core))
