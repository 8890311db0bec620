-- What a call told that made no calls, and what a mount was.
use Rattle.std.proofs.Common.{◌≡◌, List, [], sym, subst, ℕ}
use Rattle.sfs_base.specs.Lists.{Roomy}
use Rattle.sfs_dev.specs.Disk.{View}
use Rattle.sfs_dev.specs.Run.{Advances, CountsOn, EachMoment}
use Rattle.sfs_dev.specs.Steps.{IfTold}
use Rattle.journal_one.specs.Calls.{IsCalm}
use Rattle.tree_laws.specs.declared.history.Entry.{Entry}
use Rattle.tree_laws.specs.declared.turns.Turn.{Turn}
use Rattle.recovery.specs.Recovered.{HoldsRecovered, ShowsTheSame}
use Rattle.mount_begin.specs.Mounted.{IsMountOf, IsSoundMount}
use Rattle.mount_begin.specs.declared.begin.Mounted.{Mounted}
use Rattle.volume_laws.specs.Mounting.{WasMounted}
use Rattle.scalefs_run.specs.Served.{RunTold, run_told}
use Rattle.scalefs_run.specs.declared.outcome.Outcome.{Outcome}
use Rattle.scalefs_run.specs.declared.outcome.Status.{Status}

-- An outcome has this status and this disk, and no calls.
pub record HasNoCalls {D : Type 0} (outcome : Outcome D) (status : Status) (disk : D) : Type 0 where
  pub status_is : outcome.status ≡ status
  pub history : outcome.history ≡ []
  pub turns : outcome.turns.items ≡ []
  pub disk_is : outcome.disk ≡ disk

-- what is so of them is so of the outcome
pub told_none : {D : Type 0} (P : D → RunTold → Type 0) (outcome : Outcome D) (status : Status) (disk : D) → HasNoCalls outcome status disk
    → P disk (run_told status [] []) → P outcome.disk (run_told outcome.status outcome.history outcome.turns.items)
told_none {D = D} P outcome status disk has is =
    subst (λ (d : D). P d (run_told outcome.status outcome.history outcome.turns.items)) (sym has.disk_is)
    (subst (λ (l : List Turn). P disk (run_told outcome.status outcome.history l)) (sym has.turns)
    (subst (λ (h : List Entry). P disk (run_told outcome.status h [])) (sym has.history)
    (subst (λ (s : Status). P disk (run_told s [] [])) (sym has.status_is) is)))

-- what is so of calls that were made is so of the outcome that has them
pub told_kept : {D : Type 0} (P : D → RunTold → Type 0) (outcome : Outcome D) (history : List Entry) (turns : Roomy Turn) (disk : D)
    → outcome.history ≡ history → outcome.turns ≡ turns → outcome.disk ≡ disk → P disk (run_told outcome.status history turns.items)
    → P outcome.disk (run_told outcome.status outcome.history outcome.turns.items)
told_kept {D = D} P outcome history turns disk same_history same_turns same_disk is =
    subst (λ (d : D). P d (run_told outcome.status outcome.history outcome.turns.items)) (sym same_disk)
    (subst (λ (t : Roomy Turn). P disk (run_told outcome.status outcome.history t.items)) (sym same_turns)
    (subst (λ (h : List Entry). P disk (run_told outcome.status h turns.items)) (sym same_history) is))

-- a mount that ended with an Ok
pub was_mounted : (nodes : ℕ) (begun : Mounted) (old new : View) → IfTold old.content (λ image. IsMountOf nodes image begun)
    → IsSoundMount nodes old.size begun
    → IfTold old.content (λ image. IsCalm old → CountsOn new → EachMoment old new (λ _ now. ShowsTheSame now image))
    → IfTold old.content (λ image. IsCalm old → HoldsRecovered image old new) → Advances old new → WasMounted nodes begun old new
was_mounted nodes begun old new told sound moments ended advances = record {
  told = told;
  sound = sound;
  moments = moments;
  ended = λ image is calm. (ended image is calm).left;
  tells = λ image is calm. (ended image is calm).tells;
  advances = advances;
}
