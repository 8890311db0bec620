-- What the disk has of a durable commit's nodes has inodes of the disk.
use Rattle.std.proofs.Common.{◌≡◌, ◌<◌, ℕ, List, Result, Ok, Err, subst, Contains}
use Rattle.sfs_image.specs.Super.{Layout}
use Rattle.space_map.specs.Space.{GrantedNumbers}
use Rattle.disk_nodes.specs.declared.old.OldEntry.{OldEntry}
use Rattle.disk_change.specs.Planned.{Planned}
use Rattle.commit_laws.proofs.OwnInodes.{inodes_are_granted_or_old}
use Rattle.slot_laws.specs.Nodes.{no_numbers}
use Rattle.disk_box.specs.Pens.{PenHand}
use Rattle.journal_set.specs.declared.fault.Ack.{Ack}
use Rattle.journal_set.specs.declared.fault.CommitFault.{CommitFault}
use Rattle.fsync_commit.specs.Asked.{CommitRequest, IsChangeOn, IsSpaceOn}
use Rattle.fsync_commit.specs.Coming.{AreLow, PlanComesTo, GrantComes, HandsOut, committed, gave_back, numbered, settled, unasked, unnumbered}
use Rattle.fsync_commit.specs.Granting.{IsGrantOn}
use Rattle.fsync_commit.specs.declared.landing.CommitRefusal.{CommitRefusal}
use Rattle.fsync_commit.specs.declared.landing.Landed.{Landed}
use Rattle.fsync_commit.proofs.Built.{grant_on, none_on, own_low}

module _ (layout : Layout) (change : Planned) (on : IsChangeOn layout change) where
  -- by what is handed out of a grant
  handed_low : (grant : GrantedNumbers) → IsGrantOn layout change grant → (given : Result Ack CommitFault) (result : Result Landed CommitRefusal)
      → HandsOut change grant given result → AreLow layout result
  handed_low grant lies (Ok ack) (Ok landed) out = λ entry there.
      own_low layout change grant on lies entry.old.number
      ((inodes_are_granted_or_old change grant lies.enough).after entry (subst (λ l. Contains l entry) out.after_is there))
  handed_low grant lies (Ok ack) (Err refusal) out = absurd out
  handed_low grant lies (Err why) (Ok landed) out = absurd out
  handed_low grant lies (Err why) (Err refusal) out = tt

  refused_low : (why : CommitFault) (result : Result Landed CommitRefusal) → HandsOut change no_numbers (Err why) result → AreLow layout result
  refused_low why (Ok landed) out = absurd out
  refused_low why (Err refusal) out = tt

module _ {D : Type 0} (asked : CommitRequest) (before after : PenHand D) (space : IsSpaceOn before.table.given.layout before.table.given.space)
    (on : IsChangeOn before.table.given.layout asked.change) where
  grant_low : (middle : PenHand D) (grant : GrantedNumbers) (result : Result Landed CommitRefusal) → IsGrantOn before.table.given.layout asked.change grant
      → GrantComes asked.flush middle after asked.change grant result → AreLow before.table.given.layout result
  grant_low middle grant result lies (gave_back back out) = refused_low before.table.given.layout asked.change on _ result out
  grant_low middle grant result lies (committed given built out) = handed_low before.table.given.layout asked.change on grant lies given result out

  -- So it is whatever came of it.
  pub comes_low : (result : Result Landed CommitRefusal) → PlanComesTo asked before after result → AreLow before.table.given.layout result
  comes_low result (unasked same out) = refused_low before.table.given.layout asked.change on _ result out
  comes_low result (unnumbered why refused out) = refused_low before.table.given.layout asked.change on why result out
  comes_low result (numbered middle grant has came) =
      grant_low middle grant result (grant_on asked before middle grant has.goes has.comes space on) came
  comes_low result (settled given it out) =
      handed_low before.table.given.layout asked.change on no_numbers (none_on before.table.given.layout asked.change on it.nothing) given result out
