-- The inodes of the records that a planned fsync writes.
use Rattle.std.proofs.Common.{◌<◌, ◌∙◌, Contains, filter_map, inl, subst, sym, inr}
use Rattle.std.proofs.lemmas.List.Elements.{Contains-append_cases}
use Rattle.fmt_journal.specs.declared.tx.TxRecord.{TxRecord}
use Rattle.image_laws.specs.Image.{inodes_shown}
use Rattle.disk_change.specs.Planned.{Planned, leaves}
use Rattle.disk_change.specs.Records.{records_written, written_of_built, written_of_gone, record_inode, record_of_built, record_of_gone}
use Rattle.disk_change.specs.AllBuilt.{nodes_with_grant}
use Rattle.commit_laws.specs.CommitOfPlan.{change_planned}
use Rattle.commit_laws.specs.PartsMade.{IsPlanOverParts}
use Rattle.commit_laws.proofs.OwnInodes.{ascending_is_in, written_number}
use Rattle.commit_laws.proofs.Granted.{given_by}
use Rattle.commit_laws.proofs.PlanShown.{node_built}
use Rattle.commit_laws.proofs.PartsMade.{within}
use Rattle.commit_laws.proofs.NumbersGiven.{kept_in}
use Rattle.flush_laws.specs.Volume.{Volume, OneFsync, tree_held, tree_raised}
use Rattle.flush_laws.specs.Planned.{IsPlannedFsync}
use Rattle.flush_laws.proofs.Clean.{over_parts}

module _ (volume : Volume) (fsync : OneFsync) (is : IsPlannedFsync volume fsync) where
  abbrev change : Planned
  change = change_planned fsync.plan

  over : IsPlanOverParts volume.num fsync.nodes (tree_held volume) (tree_raised volume fsync) (inodes_shown volume.layout volume.parts) fsync.plan
      fsync.grant volume.store volume.parts
  over = over_parts volume fsync is

  -- each is one of the disk's
  pub low_written : (one : TxRecord) → Contains (records_written change fsync.grant) one → one.inode < volume.layout.inodes
  low_written one there =
      elim (Contains-append_cases (filter_map written_of_built (nodes_with_grant change fsync.grant)) (filter_map written_of_gone change.gone) one
      (ascending_is_in record_inode _ one there)) [
        | inl in_built ↦
            let b = given_by written_of_built (nodes_with_grant change fsync.grant) one in_built in
            let node = node_built volume.num fsync.nodes (tree_held volume) (tree_raised volume fsync) (inodes_shown volume.layout volume.parts) fsync.plan
            fsync.grant over.full b.0 b.1 in
            subst (λ n. n < volume.layout.inodes) (sym node.inode ∙ written_number (record_of_built b.0) one b.2)
            (within volume.num fsync.nodes (tree_held volume) (tree_raised volume fsync) (inodes_shown volume.layout volume.parts) fsync.plan fsync.grant
            volume.store volume.parts over b.0 b.1 node)
        | inr in_gone ↦
            let e = given_by written_of_gone change.gone one in_gone in
            let old = (kept_in (leaves fsync.plan.leave) fsync.plan.old e.0 e.1).0 in
            subst (λ n. n < volume.layout.inodes) (written_number (record_of_gone e.0) one e.2)
            (is.ready.stands.within e.0.node.0 e.0.old.number (is.keeps.each e.0 (is.plans.old.own e.0 old).0).0)
      ]
