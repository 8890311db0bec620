-- Two fsyncs that are planned for one volume, and share nothing: their commits share no inode and no block.
use Rattle.std.proofs.lemmas.List.{get_or-map, length-map}
use Rattle.std.proofs.Common.{◌≡◌, ◌<◌, ◌⊎◌, if◌then◌else◌, ◌∙◌, ◌≢◌, [], List, ℕ, true, Some, length, slice_index, refl, Bool, Option, None, false, is_some, map, inr, inl, ap, Contains, filter_map, subst, sym, slice_index_or, get_or, slice_get}
use Rattle.std.proofs.lemmas.List.Elements.{Contains-append_cases, Contains-get_or}
use Rattle.std.proofs.lemmas.Option.{slice_get_within, get_or_from_slice_get}
use Rattle.sfs_base.proofs.BasicTruth.{not_both}
use Rattle.sfs_image.specs.Journal.{Entry}
use Rattle.sfs_image.specs.ImageOf.{FreshBlock, InodePart}
use Rattle.sfs_image.specs.Part.{pointer_at}
use Rattle.sfs_image.specs.Seen.{PLACES}
use Rattle.sfs_image.proofs.PartLaws.{none_past_places}
use Rattle.fmt_journal.specs.declared.tx.TxRecord.{TxRecord}
use Rattle.journal_one.specs.Job.{Job, no_block, no_entry}
use Rattle.journal_one.specs.Packed.{record_entry}
use Rattle.tree_laws.specs.Tree.{kind_of}
use Rattle.image_laws.specs.Image.{inodes_shown}
use Rattle.image_laws.specs.Numbers.{grant_for}
use Rattle.image_laws.specs.Stands.{IsUnused}
use Rattle.image_laws.proofs.Standing.{not_used}
use Rattle.image_laws.proofs.Numbers.{granted}
use Rattle.disk_change.specs.Planned.{Planned, leaves}
use Rattle.disk_change.specs.Records.{records_written, written_of_built, written_of_gone, record_inode, record_of_built, record_of_gone}
use Rattle.disk_change.specs.Directory.{is_among}
use Rattle.disk_change.specs.Nodes.{enter_node}
use Rattle.disk_change.specs.AllBuilt.{nodes_with_grant}
use Rattle.commit_laws.specs.PartsMade.{IsPlanOverParts, store_planned}
use Rattle.commit_laws.specs.NumbersGiven.{node_leaves}
use Rattle.commit_laws.specs.CommitOfPlan.{change_planned, numbers_planned}
use Rattle.commit_laws.proofs.Granted.{given_by}
use Rattle.commit_laws.proofs.OwnInodes.{ascending_is_in, written_number, mapped_is_in}
use Rattle.commit_laws.proofs.PlanShown.{node_built}
use Rattle.commit_laws.proofs.NumbersGiven.{kept_in}
use Rattle.commit_laws.proofs.GrantWritten.{fresh_numbers}
use Rattle.commit_laws.proofs.SeatsOfPlan.{in_is_there}
use Rattle.cut_laws.proofs.Basics.{below_or}
use Rattle.flush_laws.specs.Volume.{Volume, OneFsync, tree_held, tree_raised, parts_left}
use Rattle.flush_laws.specs.Planned.{IsPlannedFsync}
use Rattle.flush_laws.specs.Journal.{WritesPlan, parts_brought}
use Rattle.flush_laws.proofs.Clean.{over_parts}
use Rattle.flush_laws.proofs.Written.{low_written}
use Rattle.flush_laws.proofs.Later.{ready_after}
use Rattle.volume_laws.proofs.Stores.{store_left}
use Rattle.book_laws.proofs.Blocks.{none_points}
use Rattle.slot_laws.specs.Rules.{inode_of_nth}
use Rattle.slot_laws.specs.Rings.{ShareInode}

abbrev no_tx_record : TxRecord
no_tx_record = record { inode = 0; bytes = [] }

module _ (volume : Volume) (one : OneFsync) (is : IsPlannedFsync volume one) where
  abbrev change : Planned
  change = change_planned one.plan

  abbrev records : List TxRecord
  records = records_written change one.grant

  over : IsPlanOverParts volume.num one.nodes (tree_held volume) (tree_raised volume one) (inodes_shown volume.layout volume.parts) one.plan one.grant
      volume.store volume.parts
  over = over_parts volume one is

  -- an inode is that of a node which the fsync concerns
  record OfNode (i : ℕ) : Type 0 where
    node : ℕ
    among : is_among one.nodes node ≡ true
    number : volume.num node ≡ Some i

  -- an inode was granted
  record WasGrantedAt (i : ℕ) : Type 0 where
    place : ℕ
    within : place < length one.grant.inodes
    number : slice_index one.grant.inodes place ≡ i

  number_from : (node i : ℕ) → is_among one.nodes node ≡ true → numbers_planned volume.num one.plan one.grant.inodes node ≡ Some i → OfNode i ⊎ WasGrantedAt i
  number_from node i among is_number = by (volume.num node) refl is_number
    where
      kept : (j : ℕ) (b : Bool) → ◌≡◌ {A = Option ℕ} (if b then None else Some j) (Some i) → j ≡ i
      kept j true e = absurd (cc e)
      kept j false e = cc e

      by : (o : Option ℕ) → volume.num node ≡ o
          → (if is_some o then (if node_leaves one.plan.leave node then None else o) else grant_for (map enter_node one.plan.enter) one.grant.inodes node)
          ≡ Some i
          → OfNode i ⊎ WasGrantedAt i
      by None none e =
          let found = granted (map enter_node one.plan.enter) one.grant.inodes node i e in
          inr (record { place = found.place; within = found.within; number = found.number })
      by (Some j) some e =
          inl (record { node = node; among = among; number = some ∙ ap Some (kept j (node_leaves one.plan.leave node) e) })

  inode_from : (r : TxRecord) → Contains records r → OfNode r.inode ⊎ WasGrantedAt r.inode
  inode_from r there =
      elim (Contains-append_cases (filter_map written_of_built (nodes_with_grant change one.grant)) (filter_map written_of_gone change.gone) r
      (ascending_is_in record_inode _ r there)) [
        | inl in_built ↦
            let b = given_by written_of_built (nodes_with_grant change one.grant) r in_built in
            let node = node_built volume.num one.nodes (tree_held volume) (tree_raised volume one) (inodes_shown volume.layout volume.parts) one.plan
            one.grant over.full b.0 b.1 in
            subst (λ n. OfNode n ⊎ WasGrantedAt n) (sym node.inode ∙ written_number (record_of_built b.0) r b.2)
            (number_from node.of.begun.node node.of.inode node.of.among node.of.number)
        | inr in_gone ↦
            let e = given_by written_of_gone change.gone r in_gone in
            let old = (kept_in (leaves one.plan.leave) one.plan.old e.0 e.1).0 in
            let own = is.plans.old.own e.0 old in
            inl (record {
              node = e.0.node.0;
              among = own.1;
              number = (is.keeps.each e.0 own.0).0 ∙ ap Some (written_number (record_of_gone e.0) r e.2);
            })
      ]

  -- what is granted is free
  never_granted : (node i place : ℕ) → volume.num node ≡ Some i → place < length one.grant.inodes → slice_index one.grant.inodes place ≡ i → ⊥
  never_granted node i place number within same =
      not_used (kind_of (tree_held volume) node)
      (sym (is.ready.stands.each node i number).kind
      ∙ (subst (λ n. IsUnused ((inodes_shown volume.layout volume.parts).seen n)) same (is.grants.serves.inodes.free place within)).kind)

  fresh_blocks : (job : Job) → WritesPlan one.plan one.grant job → map (λ (b : FreshBlock). b.block) job.fresh ≡ one.grant.blocks
  fresh_blocks job writes =
      ap (map (λ (b : FreshBlock). b.block)) writes.fresh
      ∙ fresh_numbers volume.num one.nodes (tree_held volume) (tree_raised volume one) (inodes_shown volume.layout volume.parts) one.plan one.grant volume.store
      volume.parts over

  -- a block that a job writes is one of the grant
  pub block_granted : (job : Job) → WritesPlan one.plan one.grant job → (n : ℕ) → n < length job.fresh
      → Contains one.grant.blocks (slice_index_or job.fresh n no_block).block
  block_granted job writes n within =
      subst (Contains one.grant.blocks)
      (ap (λ l. slice_index l n) (sym (fresh_blocks job writes)) ∙ get_or-map (λ (b : FreshBlock). b.block) job.fresh n no_block 0 within)
      (Contains-get_or one.grant.blocks n 0 (subst (λ l. n < l)
      (sym (length-map job.fresh (λ (b : FreshBlock). b.block)) ∙ ap length (fresh_blocks job writes)) within))

  -- the inode of a job's record is one of a record that the fsync writes
  pub entry_written : (job : Job) → WritesPlan one.plan one.grant job → (n : ℕ) → n < length job.entries
      → (r : TxRecord) × Contains records r × (r.inode ≡ inode_of_nth job n)
  entry_written job writes n within =
      let long : n < length records = subst (λ l. n < l) (ap length writes.entries ∙ length-map records record_entry) within in (
        get_or records n no_tx_record,
        Contains-get_or records n no_tx_record long,
        ap (λ (e : Entry). e.inode)
            (sym (get_or-map record_entry records n no_tx_record no_entry long) ∙ ap (λ l. slice_index_or l n no_entry) (sym writes.entries)),
      )

  -- the inodes that are given parts are the disk's
  pub part_low : (own : InodePart) → Contains (parts_brought volume one) own → own.inode < volume.layout.inodes
  part_low own there =
      let from = mapped_is_in (λ (written : TxRecord). record { inode = written.inode; part = parts_left volume one written.inode })
      (records_written (change_planned one.plan) one.grant) own there in
      subst (λ n. n < volume.layout.inodes) (ap (λ (o : InodePart). o.inode) from.2) (low_written volume one is from.0 from.1)

-- Two such fsyncs, which share nothing.
pub record AreBeside (volume : Volume) (mine theirs : OneFsync) : Type 0 where
  pub one : IsPlannedFsync volume mine
  pub two : IsPlannedFsync volume theirs
  pub nodes : (node : ℕ) → is_among mine.nodes node ≡ true → is_among theirs.nodes node ≡ false
  pub inodes : (i : ℕ) → Contains mine.grant.inodes i → Contains theirs.grant.inodes i → ⊥
  pub blocks : (block : ℕ) → Contains mine.grant.blocks block → Contains theirs.grant.blocks block → ⊥

module _ (volume : Volume) (mine theirs : OneFsync) (are : AreBeside volume mine theirs) where
  granted_there : (one : OneFsync) (i place : ℕ) → place < length one.grant.inodes → slice_index one.grant.inodes place ≡ i → Contains one.grant.inodes i
  granted_there one i place within same = subst (Contains one.grant.inodes) same (Contains-get_or one.grant.inodes place 0 within)

  no_shared : (i : ℕ) → OfNode volume mine are.one i ⊎ WasGrantedAt volume mine are.one i
      → OfNode volume theirs are.two i ⊎ WasGrantedAt volume theirs are.two i → ⊥
  no_shared i (inl my_node) (inl their_node) =
      let same = are.one.ready.stands.once my_node.node their_node.node i my_node.number their_node.number in
      not_both (subst (λ n. is_among theirs.nodes n ≡ true) (sym same) their_node.among) (are.nodes my_node.node my_node.among)
  no_shared i (inl my_node) (inr their_grant) =
      never_granted volume theirs are.two my_node.node i their_grant.place my_node.number their_grant.within their_grant.number
  no_shared i (inr my_grant) (inl their_node) =
      never_granted volume mine are.one their_node.node i my_grant.place their_node.number my_grant.within my_grant.number
  no_shared i (inr my_grant) (inr their_grant) =
      are.inodes i (granted_there mine i my_grant.place my_grant.within my_grant.number)
      (granted_there theirs i their_grant.place their_grant.within their_grant.number)

  pub jobs_apart : (job other : Job) → WritesPlan mine.plan mine.grant job → WritesPlan theirs.plan theirs.grant other → ShareInode job other → ⊥
  jobs_apart job other writes also share =
      let one = entry_written volume mine are.one job writes share.0 share.1 in
      let two = entry_written volume theirs are.two other also share.2.0 share.2.1 in
      let same : two.0.inode ≡ one.0.inode = two.2 ∙ (share.2.2 ∙ sym one.2) in
      no_shared one.0.inode (inode_from volume mine are.one one.0 one.1)
      (subst (λ n. OfNode volume theirs are.two n ⊎ WasGrantedAt volume theirs are.two n) same (inode_from volume theirs are.two two.0 two.1))

  pub fresh_apart : (job other : Job) → WritesPlan mine.plan mine.grant job → WritesPlan theirs.plan theirs.grant other → (n m : ℕ) → n < length job.fresh
      → m < length other.fresh → (slice_index_or job.fresh n no_block).block ≢ (slice_index_or other.fresh m no_block).block
  fresh_apart job other writes also n m within low same =
      are.blocks (slice_index_or job.fresh n no_block).block (block_granted volume mine are.one job writes n within)
      (subst (Contains theirs.grant.blocks) (sym same) (block_granted volume theirs are.two other also m low))

  -- what the other one gives inodes
  abbrev later : ℕ → List ℕ
  later = store_planned volume.store theirs.plan theirs.grant

  part_left : (i : ℕ) (own : InodePart) → Contains (parts_brought volume theirs) own → own.inode ≡ i
      → (own.part ≡ parts_left volume theirs i) × (i < volume.layout.inodes)
  part_left i own there same =
      let from = mapped_is_in (λ (written : TxRecord). record { inode = written.inode; part = parts_left volume theirs written.inode })
      (records_written (change_planned theirs.plan) theirs.grant) own there in (
        ap (λ (o : InodePart). o.part) (sym from.2) ∙ ap (parts_left volume theirs) (ap (λ (o : InodePart). o.inode) from.2 ∙ same),
        subst (λ n. n < volume.layout.inodes) (ap (λ (o : InodePart). o.inode) from.2 ∙ same) (low_written volume theirs are.two from.0 from.1),
      )

  pub reached_apart : (job : Job) → WritesPlan mine.plan mine.grant job → (n i place : ℕ) (own : InodePart) → n < length job.fresh
      → Contains (parts_brought volume theirs) own → own.inode ≡ i → pointer_at own.part place ≢ 0
      → (slice_index_or job.fresh n no_block).block ≢ pointer_at own.part place
  reached_apart job writes n i place own within there same some is =
      let left = part_left i own there same in
      let block = (slice_index_or job.fresh n no_block).block in
      let granted_one = block_granted volume mine are.one job writes n within in
      let low = in_is_there mine.grant.blocks block granted_one in
      let gathered = (ready_after volume theirs are.two later (store_left volume theirs are.two)).sound.gathered i left.1 in
      elim (below_or place PLACES) [
        | inr past ↦
            some (ap (λ p. pointer_at p place) (left.0 ∙ sym gathered)
            ∙ none_past_places later (parts_left volume theirs i).raw place past)
        | inl few ↦
            none_points volume theirs block (record {
              planned = are.two;
              is_block = λ none. some (sym is ∙ none);
              free = λ j at inside few_at points. free_there low.0 low.1 j at inside few_at points;
              apart = are.blocks block granted_one;
            }) i place left.1 few (ap (λ p. pointer_at p place) (sym left.0) ∙ sym is)
      ]
    where
      free_there : (k : ℕ) → slice_get mine.grant.blocks k ≡ Some (slice_index_or job.fresh n no_block).block → (j at : ℕ) → j < volume.layout.inodes
          → at < PLACES
          → pointer_at (volume.parts j) at ≢ (slice_index_or job.fresh n no_block).block
      free_there k got j at inside few points =
          are.one.grants.serves.blocks.free k j at (slice_get_within mine.grant.blocks k _ got) inside few
          (points ∙ sym (get_or_from_slice_get mine.grant.blocks k _ 0 got))
