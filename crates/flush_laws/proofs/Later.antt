-- What is known once the commit of an fsync is made.
use Rattle.std.proofs.Common.{◌≡◌, ℕ, ◌<◌, Bool, true, false, cond, List, length, map, Option, Some, None, inl, inr, refl, sym, ap, ◌∙◌, nat_eq, Contains}
use Rattle.std.specs.Prelude.{slice_get}
use Rattle.std.specs.List.{find}
use Rattle.std.specs.Option.{option_map_or}
use borrow.Author.Tests.{eqb-true}
use Rattle.std.proofs.lemmas.Bool.{cases_Bool}
use Rattle.sfs_base.proofs.BasicOptions.{some_same}
use Rattle.sfs_base.proofs.BasicTruth.{true_not_false}
use Rattle.sfs_image.specs.Inode.{inode_bytes}
use Rattle.sfs_image.specs.Part.{Part, part_of}
use Rattle.sfs_image.specs.Seen.{SeenInodes}
use Rattle.sfs_image.proofs.AcceptedLaws.{raw_of}
use Rattle.sfs_image.proofs.Basics.{found_passes}
use Rattle.sfs_image.proofs.InodeLaws.{length-inode_bytes}
use Rattle.tree_laws.specs.Tree.{TreeState}
use Rattle.image_laws.specs.Image.{inodes_shown}
use Rattle.image_laws.specs.Renamed.{Numbering}
use Rattle.block_map.specs.Kept.{kept_of}
use Rattle.disk_change.specs.AllBuilt.{numbers_with, built_by, nodes_with_grant, entry_after, after_commit}
use Rattle.disk_change.specs.Built.{Built}
use Rattle.disk_change.specs.Directory.{is_among}
use Rattle.disk_change.specs.GivenUp.{entry_number}
use Rattle.disk_nodes.specs.Nodes.{entry_node}
use Rattle.disk_change.specs.Planned.{Planned, leaves}
use Rattle.disk_change.specs.Seated.{free_inode}
use Rattle.disk_nodes.specs.declared.old.OldEntry.{OldEntry}
use Rattle.commit_laws.specs.BytesKept.{IsCleanPlan}
use Rattle.commit_laws.specs.CommitOfPlan.{change_planned, numbers_planned}
use Rattle.commit_laws.specs.PartsMade.{part_made, store_planned, IsPlanOverParts}
use Rattle.commit_laws.specs.PartsStand.{part_next}
use Rattle.commit_laws.specs.Ranked.{fresh_cut}
use Rattle.commit_laws.proofs.BegunShown.{made}
use Rattle.commit_laws.proofs.BytesKept.{plans_leave_good_bytes, plans_keep_parts}
use Rattle.commit_laws.proofs.NumbersGiven.{kept_in}
use Rattle.commit_laws.proofs.OwnInodes.{mapped_is_in, in_ascending_list}
use Rattle.commit_laws.proofs.PartsMade.{meta_fits}
use Rattle.commit_laws.proofs.PartsStand.{free_fits, plans_leave_parts}
use Rattle.commit_laws.proofs.PartsTurned.{by_part, plans_turn_parts}
use Rattle.commit_laws.proofs.PlanShown.{IsBuiltNode, node_built, plans_keep_shown}
use Rattle.commit_laws.proofs.Ranked.{nodes_are_built_by_rank}
use Rattle.commit_laws.proofs.SeatsOfPlan.{there_is_in, in_mapped, among_is_in, node_there, node_seated, nodes_once}
use Rattle.commit_laws.proofs.Shown.{found_is_in}
use Rattle.cut_laws.specs.Closure.{one_more}
use Rattle.flush_laws.specs.Volume.{Volume, OneFsync, tree_held, tree_raised, volume_left}
use Rattle.flush_laws.specs.Laws.{FsyncsAreCommits, IsStoreLeft, FsyncsLeaveReady, AreEntriesAfter, FsyncsKeepEntries}
use Rattle.flush_laws.specs.Planned.{IsPlannedFsync}
use Rattle.flush_laws.specs.Ready.{IsBetweenCommits, KeepsEntries}
use Rattle.flush_laws.proofs.Clean.{numbers_next, next_stands, over_parts, clean_plan}

pub fsyncs_are_commits : FsyncsAreCommits
fsyncs_are_commits volume fsync is = record { over = over_parts volume fsync is; clean = clean_plan volume fsync is }

module _ (volume : Volume) (fsync : OneFsync) (is : IsPlannedFsync volume fsync) where
  abbrev old : TreeState
  old = tree_held volume

  abbrev new : TreeState
  new = tree_raised volume fsync

  abbrev image : SeenInodes
  image = inodes_shown volume.layout volume.parts

  abbrev next_num : Numbering
  next_num = numbers_planned volume.num fsync.plan fsync.grant.inodes

  abbrev next : ℕ → Part
  next = part_next volume.store volume.parts fsync.plan fsync.grant

  abbrev change : Planned
  change = change_planned fsync.plan

  over : IsPlanOverParts volume.num fsync.nodes old new image fsync.plan fsync.grant volume.store volume.parts
  over = over_parts volume fsync is

  clean : IsCleanPlan volume.num fsync.nodes old new image fsync.plan fsync.grant volume.layout volume.parts
  clean = clean_plan volume fsync is

  -- each record has its bytes
  long_records : (i : ℕ) → i < volume.layout.inodes → length (next i).raw ≡ 512
  long_records = by_part volume.num fsync.nodes old new image fsync.plan fsync.grant volume.store volume.parts over (λ _ part. length part.raw ≡ 512)
      (λ one there. ap length (raw_of (store_planned volume.store fsync.plan fsync.grant) (inode_bytes one.meta))
      ∙ length-inode_bytes one.meta
      (meta_fits volume.num fsync.nodes old new image fsync.plan fsync.grant volume.store volume.parts over one there
      (node_built volume.num fsync.nodes old new image fsync.plan fsync.grant over.full one there)))
      (λ i. ap length (raw_of volume.store (inode_bytes free_inode)) ∙ length-inode_bytes free_inode free_fits)
      is.ready.sound.records

  pub ready_after : (later : ℕ → List ℕ) → IsStoreLeft volume fsync later
      → IsBetweenCommits (volume_left volume fsync later)
  ready_after later there = record {
    history_is = is.ready.history_is;
    flushed = one_more volume.flushes fsync.flush volume.cut fsync.raised volume.inodes fsync.after is.ready.flushed is.raises is.inodes_after;
    numbers = numbers_next volume fsync is;
    sound = record {
      gathered = λ i low. plans_turn_parts volume.num fsync.nodes old new image fsync.plan fsync.grant volume.store volume.parts over i low later there.fresh
          (there.gathered i low);
      records = long_records;
      whole = there.whole;
      good = plans_leave_good_bytes volume.num fsync.nodes old new image fsync.plan fsync.grant volume.store volume.parts volume.layout over clean;
      ranges = is.ready.sound.ranges;
    };
    stands = plans_leave_parts volume.num fsync.nodes old new image fsync.plan fsync.grant volume.store volume.parts over clean.contents;
  }

  -- a node that is not concerned has the number that it had
  pub kept_number : (node : ℕ) → is_among fsync.nodes node ≡ false → next_num node ≡ volume.num node
  kept_number node aside = ((made volume.num fsync.nodes old new image fsync.plan fsync.grant over.full).is.others node aside).0

  -- and its part is as it was
  aside_part : (node i : ℕ) → is_among fsync.nodes node ≡ false → volume.num node ≡ Some i → next i ≡ volume.parts i
  aside_part node i aside has = by (find (λ (one : Built). nat_eq one.number i) (nodes_with_grant change fsync.grant)) refl
    where
      rest : Bool → Part
      rest gone = cond gone (part_of volume.store (inode_bytes free_inode)) (volume.parts i)

      -- a node that is concerned is another one
      other : (x : ℕ) → is_among fsync.nodes x ≡ true → x ≡ node → ⊥
      other x among same = true_not_false (sym among ∙ ap (is_among fsync.nodes) same ∙ aside)

      no_gone : is_among (map entry_number change.gone) i ≡ false
      no_gone = by_gone (is_among (map entry_number change.gone) i) refl
        where
          by_gone : (b : Bool) → is_among (map entry_number change.gone) i ≡ b → b ≡ false
          by_gone false e = refl
          by_gone true e =
              let entry = mapped_is_in entry_number change.gone i (among_is_in (map entry_number change.gone) i e) in
              let there = (kept_in (leaves fsync.plan.leave) fsync.plan.old entry.0 entry.1).0 in
              let own = is.plans.old.own entry.0 there in
              absurd (other entry.0.node.0 own.1 (is.ready.stands.once entry.0.node.0 node i ((is.keeps.each entry.0 own.0).0 ∙ ap Some entry.2) has))

      by : (o : Option Built) → find (λ (one : Built). nat_eq one.number i) (nodes_with_grant change fsync.grant) ≡ o → next i ≡ volume.parts i
      by None e =
          ap (λ (o : Option Built). option_map_or (part_made volume.store fsync.plan fsync.grant) o (rest (is_among (map entry_number change.gone) i))) e
          ∙ ap rest no_gone
      by (Some one) e =
          let there = found_is_in (λ (one : Built). nat_eq one.number i) (nodes_with_grant change fsync.grant) one e in
          let number = eqb-true one.number i (found_passes (λ (one : Built). nat_eq one.number i) (nodes_with_grant change fsync.grant) one e) in
          let built : IsBuiltNode volume.num fsync.nodes old new image fsync.plan fsync.grant over.full one = node_built volume.num fsync.nodes old new image
          fsync.plan fsync.grant over.full one there in
          let stands_next = next_stands volume fsync is in
          absurd
          (other built.of.begun.node built.of.among
          (stands_next.once built.of.begun.node node i (built.of.number ∙ ap Some (sym built.inode ∙ number)) (kept_number node aside ∙ has)))

  -- what is built of two nodes is one where the nodes are one
  built_once : (one : Built) → Contains (nodes_with_grant change fsync.grant) one → (twin : Built) → Contains (nodes_with_grant change fsync.grant) twin
      → one.node ≡ twin.node → one ≡ twin
  built_once one there twin also same =
      let first_built : IsBuiltNode volume.num fsync.nodes old new image fsync.plan fsync.grant over.full one = node_built volume.num fsync.nodes old new
      image fsync.plan fsync.grant over.full one there in
      let other_built : IsBuiltNode volume.num fsync.nodes old new image fsync.plan fsync.grant over.full twin = node_built volume.num fsync.nodes old new
      image fsync.plan fsync.grant over.full twin also in
      let places : first_built.m ≡ other_built.m = nodes_once volume.num fsync.nodes old new image fsync.plan fsync.grant over.full.sound.whole first_built.m
      other_built.m one.node
      (node_there change first_built.m first_built.seat first_built.at ∙ ap Some (sym (ap (λ (b : Built). b.node) first_built.is)))
      (node_there change other_built.m other_built.seat other_built.at ∙ ap Some (sym (ap (λ (b : Built). b.node) other_built.is) ∙ sym same)) in
      first_built.is
      ∙ some_same
      (sym (nodes_are_built_by_rank change fsync.grant first_built.m first_built.seat first_built.at).built
      ∙ ap (slice_get (nodes_with_grant change fsync.grant)) places
      ∙ (nodes_are_built_by_rank change fsync.grant other_built.m other_built.seat other_built.at).built)
      ∙ sym other_built.is

  -- what is built of a node is what the disk then has of it
  pub built_is_kept : (one : Built) → Contains (nodes_with_grant change fsync.grant) one → Contains (after_commit change fsync.grant) (entry_after one)
  built_is_kept one there =
      in_ascending_list entry_node (map entry_after (nodes_with_grant change fsync.grant)) (entry_after one)
      (λ entry has same.
      let other = mapped_is_in entry_after (nodes_with_grant change fsync.grant) entry has in
      sym other.2 ∙ ap entry_after (built_once other.0 other.1 one there (ap entry_node other.2 ∙ same)))
      (in_mapped entry_after (nodes_with_grant change fsync.grant) one there)

  pub entries_after : (later : List OldEntry) → AreEntriesAfter fsync later → KeepsEntries next_num next later
  entries_after later those = record { ascend = those.ascend; each = each; all = all }
    where
      each : (entry : OldEntry) → Contains later entry → (next_num entry.node.0 ≡ Some entry.old.number) × (entry.old.kept ≡ kept_of (next entry.old.number))
      each entry there = elim ((those.each entry).0 there) [
        | inl made_of ↦ (
          (plans_keep_shown volume.num fsync.nodes old new image fsync.plan fsync.grant over.full entry made_of).number,
          plans_keep_parts volume.num fsync.nodes old new image fsync.plan fsync.grant volume.store volume.parts over clean.contents entry made_of,
        )
        | inr (had, aside) ↦
            let kept = is.keeps.each entry had in (
              kept_number entry.node.0 aside ∙ kept.0,
              kept.1 ∙ ap kept_of (sym (aside_part entry.node.0 entry.old.number aside kept.0)),
            )
      ]

      all : (node i : ℕ) → next_num node ≡ Some i → (entry : OldEntry) × Contains later entry × (entry.node.0 ≡ node)
      all node i has = elim (cases_Bool (is_among fsync.nodes node)) [
        | inl among ↦
            let seat = node_seated volume.num fsync.nodes old new image fsync.plan fsync.grant over.full.sound.whole node i has among in
            let built_at = nodes_are_built_by_rank change fsync.grant seat.0 seat.1 seat.2 in
            let one : Built = built_by change.changes (numbers_with change fsync.grant.inodes) (fresh_cut change.seats fsync.grant.blocks seat.0 seat.1)
            seat.1 in
            let there = there_is_in (nodes_with_grant change fsync.grant) seat.0 one built_at.built in
            (entry_after one, (those.each (entry_after one)).1 (inl (built_is_kept one there)), seat.3)
        | inr aside ↦
            let entry = is.keeps.all node i (sym (kept_number node aside) ∙ has) in
            (entry.0, (those.each entry.0).1 (inr (entry.1, ap (is_among fsync.nodes) entry.2 ∙ aside)), entry.2)
      ]

pub fsyncs_leave_ready : FsyncsLeaveReady
fsyncs_leave_ready volume fsync later is there = ready_after volume fsync is later there

pub fsyncs_keep_entries : FsyncsKeepEntries
fsyncs_keep_entries volume fsync later is those = entries_after volume fsync is later those
