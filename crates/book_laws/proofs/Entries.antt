-- The old entries of a plan stay those that memory has.
use Rattle.std.proofs.Common.{◌≡◌, true, map, inl, inr, sym, ap, ◌∙◌, Contains}
use Rattle.sfs_base.proofs.BasicTruth.{not_both}
use Rattle.image_laws.specs.Image.{inodes_shown}
use Rattle.disk_change.specs.AllBuilt.{nodes_with_grant, entry_after, after_commit}
use Rattle.disk_change.specs.Built.{Built}
use Rattle.disk_change.specs.Directory.{is_among}
use Rattle.disk_nodes.specs.Nodes.{entry_node}
use Rattle.disk_nodes.specs.declared.old.OldEntry.{OldEntry}
use Rattle.commit_laws.specs.CommitOfPlan.{change_planned}
use Rattle.commit_laws.specs.PartsMade.{IsPlanOverParts}
use Rattle.commit_laws.proofs.OwnInodes.{ascending_is_in, mapped_is_in}
use Rattle.commit_laws.proofs.PlanShown.{node_built}
use Rattle.disk_change.specs.Seated.{Seated}
use Rattle.disk_change.proofs.NumbersGiven.{planned_node}
use Rattle.flush_laws.specs.Planned.{IsPlannedFsync}
use Rattle.flush_laws.specs.Volume.{Volume, OneFsync, tree_held, tree_raised}
use Rattle.flush_laws.proofs.Clean.{over_parts}
use Rattle.book_laws.specs.Entries.{EntriesStay}

-- what the disk has of a node after a commit is of one that it concerns
pub entry_among : (volume : Volume) (one : OneFsync) → IsPlannedFsync volume one → (entry : OldEntry)
    → Contains (after_commit (change_planned one.plan) one.grant) entry → is_among one.nodes entry.node.0 ≡ true
entry_among volume one planned entry there =
    let over : IsPlanOverParts volume.num one.nodes (tree_held volume) (tree_raised volume one) (inodes_shown volume.layout volume.parts) one.plan one.grant
    volume.store volume.parts = over_parts volume one planned in
    let from = mapped_is_in entry_after (nodes_with_grant (change_planned one.plan) one.grant) entry
    (ascending_is_in entry_node (map entry_after (nodes_with_grant (change_planned one.plan) one.grant)) entry there) in
    let built =
    node_built volume.num one.nodes (tree_held volume) (tree_raised volume one) (inodes_shown volume.layout volume.parts) one.plan one.grant over.full from.0
    from.1 in
    let own : entry.node.0 ≡ built.of.begun.node =
    ap entry_node (sym from.2) ∙ ap (λ (b : Built). b.node) built.is ∙ ap (λ (s : Seated). s.node) (sym built.of.begins)
    ∙ planned_node (change_planned one.plan).changes built.of.begun built.of.begun.kind in
    ap (is_among one.nodes) own ∙ built.of.among

pub entries_stay : EntriesStay
entries_stay volume theirs later nodes old is has = record {
  ascend = has.ascend;
  own = λ entry there.
      let before = has.own entry there in
      ((is.after.each entry).1 (inr (before.0, is.apart entry.node.0 before.1)), before.1);
  all = λ entry there among. elim ((is.after.each entry).0 there) [
    | inl made ↦ absurd (not_both (entry_among volume theirs is.planned entry made) (is.apart entry.node.0 among))
    | inr before ↦ has.all entry before.0 among
  ];
}
