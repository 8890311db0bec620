-- What comes of a turn towards a commit's beginning while its core has the box comes of it from outside, and of several such turns.
use Rattle.std.proofs.Common.{◌≡◌, ◌∙◌, ℕ, Result, Ok, Err, IfErr, sym, ap, subst}
use Rattle.slot_laws.specs.Labels.{OwnTold, fsync_told}
use Rattle.disk_box.specs.Pens.{PenHand, PenGoes, own_at}
use Rattle.disk_box.specs.Turns.{Fails, Halts}
use Rattle.disk_box.specs.declared.turns.Fsync.{Fsync}
use Rattle.journal_set.specs.declared.beginning.Writing.{Writing}
use Rattle.journal_set.specs.declared.fault.CommitFault.{CommitFault}
use Rattle.journal_set.specs.declared.fault.CommitFault.TheVariants as fault
use Rattle.journal_set.specs.declared.flying.Flight.{Flight}
use Rattle.journal_set.specs.declared.waiting.Beginning.{Beginning}
use Rattle.journal_set.specs.declared.waiting.Beginning.TheVariants as beginning
use Rattle.disk_box.specs.declared.key.BoxKey.{BoxKey}
use Rattle.journal_set.specs.Beginning.{CanBeWritten}
use Rattle.journal_set.specs.Committing.{BeginComes, BeginFails, BeginsFlight, BeginsFor, EndsUnbegun}
use Rattle.journal_set.specs.Flying.{IsCausedBy}
use Rattle.journal_set.specs.Grants.{grant_at}
use Rattle.journal_set.proofs.Turned.{cause_around}

module _ {D : Type 0} (writing : Writing) (before entered done after : PenHand D) (own_in : own_at entered ≡ own_at before) (own_out : own_at after ≡ own_at
    done)
    (core_in : entered.view.core ≡ before.view.core) where
  abbrev ends : ℕ × (OwnTold × OwnTold)
  ends = (before.view.core, (own_at before, own_at after))

  same : ◌≡◌ {A = ℕ × (OwnTold × OwnTold)} (entered.view.core, (own_at entered, own_at done)) ends
  same = λ i. (core_in i, (own_in i, sym own_out i))

  pub fails_around : (refused : CommitFault) → BeginFails writing entered done refused → BeginFails writing before after refused
  fails_around (fault.DiskFailed faults) it =
      subst (λ (z : ℕ × (OwnTold × OwnTold)). EndsUnbegun (λ number. Fails number (fsync_told writing.fsync.node writing.fsync.stamp) z.0 faults z.1.0 z.1.1)
      z.1.0) same it
  fails_around (fault.NoSpace kind need free) it = it
  fails_around (fault.Stopped faults) it =
      subst (λ (z : ℕ × (OwnTold × OwnTold)). EndsUnbegun (λ number. Halts number (fsync_told writing.fsync.node writing.fsync.stamp) z.0 z.1.0 z.1.1)
      z.1.0) same it
  fails_around (fault.Moved node last) it = it
  fails_around fault.NoMemory it = it

  pub begins_around : (flight : Flight) → BeginsFor writing entered done flight → BeginsFor writing before after flight
  begins_around flight it = (subst (λ (z : ℕ × (OwnTold × OwnTold)). BeginsFlight flight z.1.0 z.1.1) same it.0, it.1)

  pub begin_around : grant_at entered ≡ grant_at before → grant_at after ≡ grant_at done → (result : Result Beginning CommitFault)
      → BeginComes writing entered done result → BeginComes writing before after result
  begin_around grant_in grant_out (Ok (beginning.Waits still)) it =
      record { same = it.same; own = own_out ∙ (it.own ∙ own_in); grant = grant_out ∙ (it.grant ∙ grant_in) }
  begin_around grant_in grant_out (Ok (beginning.Begun flight)) it = begins_around flight it
  begin_around grant_in grant_out (Err refused) it = fails_around refused it

-- So does the cause of an answer.
pub cause_err : {D V : Type 0} (done after : PenHand D) → PenGoes done after → (result : Result V CommitFault) → IfErr result (IsCausedBy done)
    → IfErr result (IsCausedBy after)
cause_err done after goes (Ok value) cause = tt
cause_err done after goes (Err refused) cause = cause_around done after goes refused cause

-- What a core writes keeps its fsync while it waits.
pub fsync_kept : (writing still : Writing) → record still { patience = writing.patience } ≡ writing → still.fsync ≡ writing.fsync
fsync_kept writing still same = ap (λ (w : Writing). w.fsync) same

-- A core that has waited goes by what it was about to write.
module _ {D : Type 0} (writing still : Writing) (before mid after : PenHand D) (own : own_at mid ≡ own_at before) (core : mid.view.core ≡ before.view.core)
    (same : record still { patience = writing.patience } ≡ writing) where
  fsync_same : still.fsync ≡ writing.fsync
  fsync_same = fsync_kept writing still same

  pub begins_still : (flight : Flight) → BeginsFor still mid after flight → BeginsFor writing before after flight
  begins_still flight it = (subst (λ (o : OwnTold). BeginsFlight flight o (own_at after)) own it.0, it.1 ∙ fsync_same)

  pub fails_still : (refused : CommitFault) → BeginFails still mid after refused → BeginFails writing before after refused
  fails_still (fault.DiskFailed faults) it =
      subst (λ (z : ℕ × (OwnTold × Fsync)). EndsUnbegun (λ number. Fails number (fsync_told z.1.1.node z.1.1.stamp) z.0 faults z.1.0 (own_at after)) z.1.0)
      (λ i. (core i, (own i, fsync_same i))) it
  fails_still (fault.NoSpace kind need free) it = it
  fails_still (fault.Stopped faults) it =
      subst (λ (z : ℕ × (OwnTold × Fsync)). EndsUnbegun (λ number. Halts number (fsync_told z.1.1.node z.1.1.stamp) z.0 z.1.0 (own_at after)) z.1.0)
      (λ i. (core i, (own i, fsync_same i))) it
  fails_still (fault.Moved node last) it = it
  fails_still fault.NoMemory it = it

-- it can still be written
pub written_still : {D : Type 0} (writing still : Writing) (before mid : PenHand D) → PenGoes before mid
    → record still { patience = writing.patience } ≡ writing
    → CanBeWritten before.table.given.layout writing → CanBeWritten mid.table.given.layout still
written_still {D = D} writing still before mid goes same can =
    let shown : CanBeWritten before.table.given.layout (record still { patience = writing.patience }) =
    subst (CanBeWritten before.table.given.layout) (sym same) can
    in
    let there : CanBeWritten before.table.given.layout still = record { noted = shown.noted; below = shown.below; in_data = shown.in_data } in
    subst (λ (k : BoxKey D). CanBeWritten k.layout still) (sym (ap (λ (h : PenHand D). h.table.given) goes.frame)) there
