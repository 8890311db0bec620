-- The commit of an fsync through a journal slot.
use Rattle.std.specs.Prelude.{◌++◌, slice_index_or, unwrap_or}
use Rattle.std.specs.List.{find}
use Rattle.std.specs.Option.{option_map_or}
use borrow.Author.Tests.{eqb-true}
use Rattle.std.proofs.Common.{◌≡◌, ◌≢◌, ◌<◌, ◌∷◌, ◌∙◌, ℕ, zero, suc, Bool, true, false, cond, List, [], length, not, map, filter_map, get_or, Option, Some, None, option_map, inl, inr, refl, sym, ap, subst, arith, nat_eq, All, Contains}
use Rattle.std.proofs.lemmas.Bool.{cases_Bool, cases_lt, cond-false}
use Rattle.std.proofs.lemmas.List.Elements.{Contains-append_left, Contains-append_right, Contains-get_or}
use Rattle.sfs_base.specs.declared.numbers.Kind.{Kind}
use Rattle.sfs_base.specs.declared.numbers.Kind.TheVariants.{File, Directory}
use Rattle.sfs_base.proofs.BasicOptions.{none_some}
use Rattle.sfs_base.proofs.BasicTruth.{true_not_false}
use Rattle.sfs_base.proofs.BasicNumbers.{same_number}
use Rattle.sfs_image.specs.ImageOf.{InodePart, Transaction, IsImageOf, FreshBlock, with_opened, TurnsInto, PointsToData, StandIn}
use Rattle.sfs_image.specs.Inode.{Inode, inode_bytes}
use Rattle.sfs_image.specs.Part.{Part, part_of, inode_in, pointer_at, seen_of, IsGathered}
use Rattle.sfs_image.specs.Seen.{SeenInodes, PLACES}
use Rattle.sfs_image.specs.Settled.{slot_count}
use Rattle.sfs_image.specs.Super.{Layout}
use Rattle.sfs_image.specs.Slot.{kind_byte}
use Rattle.sfs_image.proofs.AcceptedLaws.{raw_of}
use Rattle.sfs_image.proofs.Basics.{found_passes}
use Rattle.sfs_image.proofs.GivenLaws.{given_newer, given_aside}
use Rattle.sfs_image.proofs.PartLaws.{none_past_places, gather_same}
use Rattle.fmt_journal.specs.declared.tx.TxRecord.{TxRecord}
use Rattle.journal_one.specs.Job.{Job, no_block, HaveOwnBlocks}
use Rattle.journal_one.specs.Packed.{record_entry}
use Rattle.commit_one.specs.Change.{nothing_open, entry_of_part, transaction_of, opened_by, parts_after, IsChangeOf}
use Rattle.commit_one.proofs.Images.{none_given, own_part}
use Rattle.tree_laws.specs.Tree.{TreeState, kind_of}
use Rattle.tree_laws.specs.Sound.{IsSound}
use Rattle.image_laws.specs.Image.{inodes_shown, HaveGoodBytes, IsReadAsTree}
use Rattle.image_laws.specs.Renamed.{Numbering}
use Rattle.image_laws.specs.Stands.{StandsForTree, IsStorable}
use Rattle.image_laws.proofs.WholeImages.{rule_alike, standing_parts_are_read}
use Rattle.image_laws.proofs.Standing.{not_used}
use Rattle.disk_nodes.specs.declared.old.OldEntry.{OldEntry}
use Rattle.disk_nodes.specs.OldKept.{Kept}
use Rattle.disk_change.specs.AllBuilt.{nodes_with_grant}
use Rattle.disk_change.specs.Built.{Built}
use Rattle.disk_change.specs.Directory.{is_among}
use Rattle.disk_change.specs.GivenUp.{entry_number}
use Rattle.disk_change.specs.Planned.{Planned, staying, leaves, seated_old, seated_entering}
use Rattle.disk_change.specs.Records.{same_inode, record_inode, records_written, written_of_built, written_of_gone}
use Rattle.disk_change.specs.Seated.{Begun, Seated, seated_as, begun_old, begun_entering, free_inode}
use Rattle.disk_change.specs.declared.enter.Enter.{Enter}
use Rattle.disk_change.proofs.Differing.{same_is_one}
use Rattle.disk_change.proofs.NumbersGiven.{first_in, further_in, planned_node}
use Rattle.commit_laws.specs.CommitOfPlan.{change_planned, numbers_planned, image_planned}
use Rattle.commit_laws.specs.BytesKept.{IsCleanPlan}
use Rattle.commit_laws.specs.PartsMade.{blocks_planned, store_planned, part_made, IsPlanOverParts, AreOwnAndFree}
use Rattle.commit_laws.proofs.PartsStand.{alike_images_stand, free_fits, plans_leave_parts}
use Rattle.commit_laws.proofs.BlocksRead.{one_node}
use Rattle.commit_laws.proofs.BytesKept.{plans_leave_good_bytes}
use Rattle.commit_laws.proofs.GrantWritten.{each_once, held_is_old, found_once, plans_write_apart}
use Rattle.commit_laws.proofs.KnownDirectories.{given_is_in}
use Rattle.commit_laws.proofs.NumbersGiven.{kept_in}
use Rattle.commit_laws.proofs.OwnInodes.{mapped_is_in, number_in_ascending}
use Rattle.commit_laws.proofs.PartsMade.{read_inode, within, seen_old, inode_is, shows_node}
use Rattle.commit_laws.proofs.PartsTurned.{by_part, plans_turn_parts, plans_write_parts, plans_point_to_data}
use Rattle.commit_laws.proofs.PlanShown.{IsBuiltNode, node_built}
use Rattle.commit_laws.proofs.SeatsOfPlan.{there_is_in, in_mapped, among_is_in, seat_comes}
use Rattle.commit_laws.proofs.Shown.{found_is_in}
use Rattle.raise_laws.specs.Next.{IsStorableAtCut}
use Rattle.raise_laws.proofs.Next.{cut_trees_are_storable}
use Rattle.flush_laws.specs.Volume.{Volume, OneFsync, tree_held, tree_raised, parts_left}
use Rattle.flush_laws.specs.Journal.{WritesPlan, AreSpelled, parts_brought, HasJob, ShowsCommit, JobsShowCommits}
use Rattle.flush_laws.specs.Planned.{IsPlannedFsync}
use Rattle.flush_laws.proofs.Clean.{stored_new, over_parts, clean_plan}
use Rattle.flush_laws.proofs.Written.{low_written}

-- What a job's open slot gives: each listed part, where no inode is listed twice, and nothing else.
module _ (job : Job) (slot : job.place.slot < slot_count job.place.layout) (new : List InodePart) (parts : ℕ → Part) (i : ℕ) where
  pub listed_given : (own : InodePart) → find (λ (own : InodePart). nat_eq own.inode i) new ≡ Some own → parts_after job parts new i ≡ own.part
  listed_given own found =
      ap (λ (o : Option Part). unwrap_or o (parts i))
      (given_newer job.place.layout nothing_open job.place.slot slot (transaction_of job new) i (record { stamp = job.stamp; value = own.part })
      (ap (option_map (λ (own : InodePart). record { stamp = job.stamp; value = own.part })) found) (λ j other low apart there. absurd (none_some there)))

  pub others_stay : find (λ (own : InodePart). nat_eq own.inode i) new ≡ None → parts_after job parts new i ≡ parts i
  others_stay none =
      ap (λ (o : Option Part). unwrap_or o (parts i))
      (given_aside job.place.layout nothing_open job.place.slot slot (Some (transaction_of job new)) i
      (ap (option_map (λ (own : InodePart). record { stamp = job.stamp; value = own.part })) none)
      ∙ none_given job i)

-- Images that show parts which stand for a tree are read as it.
module _ (layout : Layout) (num : Numbering) (tree : TreeState) (parts : ℕ → Part) (good : HaveGoodBytes layout parts) (sound : IsSound tree)
    (storable : IsStorable num tree) (stands : StandsForTree num tree (inodes_shown layout parts)) where
  pub good_alike : (others : ℕ → Part) → ((i : ℕ) → i < layout.inodes → others i ≡ parts i) → HaveGoodBytes layout others
  good_alike others same rule i low high no_root no_apart within =
      rule_alike layout others parts i (same i within) rule no_apart ∙ good rule i low high no_root no_apart within

  pub stands_alike : (others : ℕ → Part) → ((i : ℕ) → i < layout.inodes → others i ≡ parts i) → StandsForTree num tree (inodes_shown layout others)
  stands_alike others same = alike_images_stand num tree (inodes_shown layout others) (inodes_shown layout parts) (record {
    count = refl;
    each = λ i within. let e = same i within in record {
      kind = ap (λ p. (seen_of p).kind) e;
      links = ap (λ p. (seen_of p).links) e;
      size = ap (λ p. (seen_of p).size) e;
      slots = ap (λ p. (seen_of p).slots) e;
      bytes = ap (λ p. (seen_of p).bytes) e;
      blocks = λ place low. ap (λ p. (seen_of p).blocks place) e;
    };
  }) stands

  pub parts_read : (opened : ℕ → Option Transaction) (others : ℕ → Part) (image : List ℕ) (share : ℕ)
      → ((i : ℕ) → i < layout.inodes → with_opened layout opened others i ≡ parts i)
      → IsImageOf layout opened others image → IsReadAsTree image share tree
  parts_read opened others image share same is =
      standing_parts_are_read layout opened others image share num tree (record {
        image_of = is;
        bytes = good_alike (with_opened layout opened others) same;
        stands = record { sound = sound; storable = storable; stands = stands_alike (with_opened layout opened others) same };
      })

-- a list in which one has an inode has one that is found with it
found_some : (owns : List InodePart) (i : ℕ) (own : InodePart) → Contains owns own → own.inode ≡ i
    → (x : InodePart) × (find (λ (own : InodePart). nat_eq own.inode i) owns ≡ Some x)
found_some [] i own (k, low, at) same = absurd (omega arith)
found_some (first ∷ owns) i own has same = by (nat_eq first.inode i) refl has (λ there. found_some owns i own there same)
  where
    by : (b : Bool) → nat_eq first.inode i ≡ b → Contains (first ∷ owns) own
        → (Contains owns own → (x : InodePart) × (find (λ (own : InodePart). nat_eq own.inode i) owns ≡ Some x))
        → (x : InodePart) × (cond b (Some first) (find (λ (own : InodePart). nat_eq own.inode i) owns) ≡ Some x)
    by true e has rest = (first, refl)
    by false e (zero, low, at) rest = absurd (true_not_false (sym (ap (λ n. nat_eq n i) (ap (λ (p : InodePart). p.inode) at ∙ same) ∙ same_number i) ∙ e))
    by false e (suc k, low, at) rest = rest (k, omega arith, at)

-- so what is not found is not in a list
not_found_in : (owns : List InodePart) (i : ℕ) → find (λ (own : InodePart). nat_eq own.inode i) owns ≡ None → (own : InodePart) → Contains owns own
    → own.inode ≡ i → ⊥
not_found_in owns i none own there same = none_some (sym none ∙ (found_some owns i own there same).1)

-- inodes that differ are told apart
differ : (a b : Inode) → (a ≡ b → ⊥) → same_inode a b ≡ false
differ a b apart = by (same_inode a b) refl
  where
    by : (t : Bool) → same_inode a b ≡ t → t ≡ false
    by false e = refl
    by true e = absurd (apart (same_is_one a b e))

module _ (volume : Volume) (fsync : OneFsync) (job : Job) (is : IsPlannedFsync (record volume { layout = job.place.layout }) fsync)
    (spelled : AreSpelled job.place.layout.inodes volume.parts) (writes : WritesPlan fsync.plan fsync.grant job) where
  abbrev layout : Layout
  layout = job.place.layout

  abbrev at_place : Volume
  at_place = record volume { layout = job.place.layout }

  abbrev old : TreeState
  old = tree_held volume

  abbrev new : TreeState
  new = tree_raised volume fsync

  abbrev image : SeenInodes
  image = inodes_shown layout volume.parts

  abbrev next : ℕ → Part
  next = parts_left volume fsync

  abbrev change : Planned
  change = change_planned fsync.plan

  abbrev records : List TxRecord
  records = records_written change fsync.grant

  abbrev own_parts : List InodePart
  own_parts = parts_brought volume fsync

  over : IsPlanOverParts volume.num fsync.nodes old new image fsync.plan fsync.grant volume.store volume.parts
  over = over_parts at_place fsync is

  clean : IsCleanPlan volume.num fsync.nodes old new image fsync.plan fsync.grant layout volume.parts
  clean = clean_plan at_place fsync is

  low_record : (one : TxRecord) → Contains records one → one.inode < layout.inodes
  low_record = low_written at_place fsync is

  records_are : (those : List TxRecord) → ((one : TxRecord) → Contains those one → Contains records one)
      → map entry_of_part (map (λ (one : TxRecord). record { inode = one.inode; part = next one.inode }) those) ≡ map record_entry those
  records_are [] all = refl
  records_are (one ∷ those) all =
      λ j. record {
        inode = one.inode;
        bytes = plans_write_parts volume.num fsync.nodes old new image fsync.plan fsync.grant volume.store volume.parts over
            one (all one (first_in one those)) j;
      }
      ∷ records_are those (λ other there. all other (further_in one other those there)) j

  -- what holds of the part of each record holds of each part that is given
  each_given : (P : InodePart → Type 0) → ((one : TxRecord) → Contains records one → P (record { inode = one.inode; part = next one.inode })) → All P
      own_parts
  each_given P each = λ k d low.
      let one =
      mapped_is_in (λ (one : TxRecord). record { inode = one.inode; part = next one.inode }) records (get_or own_parts k d)
      (Contains-get_or own_parts k d low) in
      subst P one.2 (each one.0 one.1)

  changes : IsChangeOf job volume.parts own_parts
  changes = record {
    records = records_are records (λ one there. there) ∙ sym writes.entries;
    turns = each_given (λ own. TurnsInto job.fresh (volume.parts own.inode) own.part) (λ one there.
        subst (λ fresh. TurnsInto fresh (volume.parts one.inode) (next one.inode)) (sym writes.fresh)
        (plans_turn_parts volume.num fsync.nodes old new image fsync.plan fsync.grant volume.store volume.parts over one.inode (low_record one there)));
    pointers = each_given (λ own. PointsToData layout own.part) (λ one there.
        plans_point_to_data volume.num fsync.nodes old new image fsync.plan fsync.grant volume.store volume.parts layout over clean.within one.inode
        (low_record one there));
    own = subst HaveOwnBlocks (sym writes.fresh) apart.own;
    free = λ i place k low below some. elim (cases_lt place PLACES) [
      | inl within ↦
          subst (λ (fresh : List FreshBlock). k < length fresh → (slice_index_or fresh k no_block).block ≢ pointer_at (volume.parts i) place)
          (sym writes.fresh)
          (λ few. apart.free i place k low within few) below
      | inr past ↦ absurd (some (ap (λ p. pointer_at p place) (sym (is.ready.sound.gathered i low)) ∙ none_past_places volume.store (volume.parts i).raw
          place past))
    ];
  }
    where
      apart : AreOwnAndFree (blocks_planned fsync.plan fsync.grant) volume.parts layout.inodes
      apart = plans_write_apart volume.num fsync.nodes old new image fsync.plan fsync.grant volume.store volume.parts over

  -- a part whose record stays is what it was
  same_record : (i : ℕ) → i < layout.inodes → (next i).raw ≡ (volume.parts i).raw → next i ≡ volume.parts i
  same_record i low same = sym gathered_next ∙ ap (part_of (store_planned volume.store fsync.plan fsync.grant)) same ∙ reached ∙ is.ready.sound.gathered i low
    where
      apart : AreOwnAndFree (blocks_planned fsync.plan fsync.grant) volume.parts layout.inodes
      apart = plans_write_apart volume.num fsync.nodes old new image fsync.plan fsync.grant volume.store volume.parts over

      reached : part_of (store_planned volume.store fsync.plan fsync.grant) (volume.parts i).raw ≡ part_of volume.store (volume.parts i).raw
      reached = gather_same volume.store (store_planned volume.store fsync.plan fsync.grant) (volume.parts i).raw
          (λ place some. elim (cases_lt place PLACES) [
            | inl within ↦
                let here : pointer_at (part_of volume.store (volume.parts i).raw) place ≡ pointer_at (volume.parts i) place =
                ap (λ p. pointer_at p place) (is.ready.sound.gathered i low) in
                ap (store_planned volume.store fsync.plan fsync.grant) here
                ∙ ap (λ (o : Option FreshBlock). option_map_or (λ (one : FreshBlock). one.bytes) o (volume.store (pointer_at (volume.parts i) place)))
                (held_is_old volume.num fsync.nodes old new image fsync.plan fsync.grant volume.store volume.parts over i place low within)
                ∙ ap volume.store (sym here)
            | inr past ↦ absurd (some (none_past_places volume.store (volume.parts i).raw place past))
          ])

      stand_fresh : StandIn (store_planned volume.store fsync.plan fsync.grant) (blocks_planned fsync.plan fsync.grant)
      stand_fresh = λ k d low.
          let one : FreshBlock = get_or (blocks_planned fsync.plan fsync.grant) k d in
          let there = Contains-get_or (blocks_planned fsync.plan fsync.grant) k d low in
          ap (λ (o : Option FreshBlock). option_map_or (λ (other : FreshBlock). other.bytes) o (volume.store one.block))
          (found_once (λ (other : FreshBlock). other.block) (blocks_planned fsync.plan fsync.grant)
          (each_once volume.num fsync.nodes old new image fsync.plan fsync.grant volume.store volume.parts over) one there)

      gathered_next : IsGathered (store_planned volume.store fsync.plan fsync.grant) (next i)
      gathered_next =
          plans_turn_parts volume.num fsync.nodes old new image fsync.plan fsync.grant volume.store volume.parts over i low
          (store_planned volume.store fsync.plan fsync.grant) stand_fresh
          (reached ∙ is.ready.sound.gathered i low)

  -- each record afterwards is spelled as its inode is
  spelled_next : AreSpelled layout.inodes next
  spelled_next = by_part volume.num fsync.nodes old new image fsync.plan fsync.grant volume.store volume.parts over
      (λ _ part. inode_bytes (inode_in part) ≡ part.raw)
      (λ one there. ap inode_bytes
      (inode_is volume.num fsync.nodes old new image fsync.plan fsync.grant volume.store volume.parts over one there
      (node_built volume.num fsync.nodes old new image fsync.plan fsync.grant over.full one there))
      ∙ sym (raw_of (store_planned volume.store fsync.plan fsync.grant) (inode_bytes one.meta)))
      (λ i. ap inode_bytes (read_inode volume.store free_inode free_fits) ∙ sym (raw_of volume.store (inode_bytes free_inode)))
      spelled

  -- a record that differs is among those that are given
  given_there : (r : TxRecord) → Contains (filter_map written_of_built (nodes_with_grant change fsync.grant) ++ filter_map written_of_gone change.gone) r
      → (i : ℕ)
      → r.inode ≡ i → find (λ (own : InodePart). nat_eq own.inode i) own_parts ≡ None → ⊥
  given_there r there i same none =
      let other =
      number_in_ascending record_inode (filter_map written_of_built (nodes_with_grant change fsync.grant) ++ filter_map written_of_gone change.gone) r
      there in
      let own : InodePart = record { inode = other.0.inode; part = next other.0.inode } in
      not_found_in own_parts i none own (in_mapped (λ (one : TxRecord). record { inode = one.inode; part = next one.inode }) records other.0 other.1)
      (other.2 ∙ same)

  -- where a record does not differ, the inode that is built is the one before
  before_is : (one : Built) → (there : Contains (nodes_with_grant change fsync.grant) one) → same_inode one.before one.meta ≡ true
      → (part_made volume.store fsync.plan fsync.grant one).raw ≡ (volume.parts one.number).raw
  before_is one there same =
      raw_of (store_planned volume.store fsync.plan fsync.grant) (inode_bytes one.meta) ∙ ap inode_bytes (sym (same_is_one one.before one.meta same))
      ∙ elim (seat_comes volume.num fsync.nodes old new image fsync.plan fsync.grant over.full.sound.whole node.seat
      (there_is_in change.seats node.m node.seat node.at)) [
        | inl (entry, stay, is_seat) ↦ of_old entry stay is_seat
        | inr (enters, enter, is_seat) ↦ absurd (of_entering enters is_seat)
      ]
    where
      node : IsBuiltNode volume.num fsync.nodes old new image fsync.plan fsync.grant over.full one
      node = node_built volume.num fsync.nodes old new image fsync.plan fsync.grant over.full one there

      before_seat : one.before ≡ node.seat.before
      before_seat = ap (λ (b : Built). b.before) node.is

      seat_before : (begun : Begun) (kind : Kind) → (seated_as kind change.changes begun).before ≡ begun.before
      seat_before begun File = refl
      seat_before begun Directory = refl

      kind_some : one.meta.kind ≡ 0 → ⊥
      kind_some none =
          not_used (kind_of new node.of.begun.node)
          (sym
          (sym none ∙ node.shows.kind ∙ ap (λ n. ((image_planned volume.num fsync.nodes new image fsync.plan fsync.grant).seen n).kind) node.inode
          ∙ (shows_node volume.num fsync.nodes old new image fsync.plan fsync.grant volume.store volume.parts over one there node).kind))

      of_entering : (enters : Enter) → seated_entering change.changes enters ≡ node.seat → ⊥
      of_entering enters is_seat =
          kind_some
          (ap (λ (m : Inode). m.kind) (sym (same_is_one one.before one.meta same))
          ∙ ap (λ (m : Inode). m.kind)
          (before_seat ∙ ap (λ (s : Seated). s.before) (sym is_seat) ∙ seat_before (begun_entering enters) (begun_entering enters).kind))

      of_old : (entry : OldEntry) → Contains (staying fsync.plan.old fsync.plan.leave) entry → seated_old change.changes entry ≡ node.seat
          → inode_bytes one.before ≡ (volume.parts one.number).raw
      of_old entry stay is_seat =
          let there_old = (kept_in (λ e. not (leaves fsync.plan.leave e)) fsync.plan.old entry stay).0 in
          let kept = is.keeps.each entry (is.plans.old.own entry there_old).0 in
          let same_node : node.of.begun.node ≡ entry.node.0 =
          sym (one_node volume.num fsync.nodes old new image fsync.plan fsync.grant volume.store volume.parts over one there node).seat_is
          ∙ ap (λ (s : Seated). s.node) (sym is_seat)
          ∙ planned_node change.changes (begun_old entry) (begun_old entry).kind in
          let number : entry.old.number ≡ one.number =
          seen_old volume.num fsync.nodes old new image fsync.plan fsync.grant volume.store volume.parts over one there node entry.old.number
          (ap volume.num same_node ∙ kept.0) ∙ sym node.inode in
          ap inode_bytes
          (before_seat ∙ ap (λ (s : Seated). s.before) (sym is_seat) ∙ seat_before (begun_old entry) (begun_old entry).kind
          ∙ ap (λ (k : Kept). k.inode) kept.1)
          ∙ spelled entry.old.number (is.ready.stands.within entry.node.0 entry.old.number kept.0) ∙ ap (λ n. (volume.parts n).raw) number

  -- an inode without a record that is written has its record as before
  unwritten : (i : ℕ) → i < layout.inodes → find (λ (own : InodePart). nat_eq own.inode i) own_parts ≡ None → (next i).raw ≡ (volume.parts i).raw
  unwritten i low none = by (find (λ (one : Built). nat_eq one.number i) (nodes_with_grant change fsync.grant)) refl
    where
      rest : Bool → Part
      rest gone = cond gone (part_of volume.store (inode_bytes free_inode)) (volume.parts i)

      no_gone : is_among (map entry_number change.gone) i ≡ true → ⊥
      no_gone e =
          let entry = mapped_is_in entry_number change.gone i (among_is_in (map entry_number change.gone) i e) in
          let there_old = (kept_in (leaves fsync.plan.leave) fsync.plan.old entry.0 entry.1).0 in
          let kept = is.keeps.each entry.0 (is.plans.old.own entry.0 there_old).0 in
          let kind : entry.0.old.kept.inode.kind ≡ kind_byte (kind_of old entry.0.node.0) =
          ap (λ (k : Kept). k.inode.kind) kept.1 ∙ (is.ready.stands.each entry.0.node.0 entry.0.old.number kept.0).kind in
          let r : TxRecord = record { inode = entry.0.old.number; bytes = inode_bytes free_inode } in
          let differs : written_of_gone entry.0 ≡ Some r =
          cond-false (same_inode entry.0.old.kept.inode free_inode) None (Some r)
          (differ entry.0.old.kept.inode free_inode (λ same. not_used (kind_of old entry.0.node.0) (sym kind ∙ ap (λ (m : Inode). m.kind) same))) in
          given_there r
          (Contains-append_right (filter_map written_of_built (nodes_with_grant change fsync.grant)) (filter_map written_of_gone change.gone) r
          (given_is_in written_of_gone change.gone entry.0 r entry.1 differs))
          i entry.2 none

      by_gone : (b : Bool) → is_among (map entry_number change.gone) i ≡ b → (rest b).raw ≡ (volume.parts i).raw
      by_gone true e = absurd (no_gone e)
      by_gone false e = refl

      by : (o : Option Built) → find (λ (one : Built). nat_eq one.number i) (nodes_with_grant change fsync.grant) ≡ o → (next i).raw ≡ (volume.parts i).raw
      by None e =
          ap (λ (o : Option Built). (option_map_or (part_made volume.store fsync.plan fsync.grant) o (rest (is_among (map entry_number change.gone) i))).raw)
          e
          ∙ by_gone (is_among (map entry_number change.gone) i) refl
      by (Some one) e =
          let there = found_is_in (λ (one : Built). nat_eq one.number i) (nodes_with_grant change fsync.grant) one e in
          let number = eqb-true one.number i (found_passes (λ (one : Built). nat_eq one.number i) (nodes_with_grant change fsync.grant) one e) in
          ap (λ (o : Option Built). (option_map_or (part_made volume.store fsync.plan fsync.grant) o (rest (is_among (map entry_number change.gone) i))).raw)
          e
          ∙ elim (cases_Bool (same_inode one.before one.meta)) [
            | inl same ↦ before_is one there same
            | inr other ↦
                let r : TxRecord = record { inode = one.number; bytes = inode_bytes one.meta } in
                absurd
                (given_there r
                (Contains-append_left (filter_map written_of_built (nodes_with_grant change fsync.grant)) (filter_map written_of_gone change.gone) r
                (given_is_in written_of_built (nodes_with_grant change fsync.grant) one r there
                (cond-false (same_inode one.before one.meta) None (Some r) other))) i
                number none)
          ] ∙ ap (λ n. (volume.parts n).raw) number

  -- so the parts after the commit are those
  after_are : (i : ℕ) → i < layout.inodes → parts_after job volume.parts own_parts i ≡ next i
  after_are i low = by (find (λ (own : InodePart). nat_eq own.inode i) own_parts) refl
    where
      by : (o : Option InodePart) → find (λ (own : InodePart). nat_eq own.inode i) own_parts ≡ o → parts_after job volume.parts own_parts i ≡ next i
      by None e = others_stay job writes.slot own_parts volume.parts i e ∙ sym (same_record i low (unwritten i low e))
      by (Some own) e =
          let there = found_is_in (λ (own : InodePart). nat_eq own.inode i) own_parts own e in
          let one = mapped_is_in (λ (one : TxRecord). record { inode = one.inode; part = next one.inode }) records own there in
          let number = eqb-true own.inode i (found_passes (λ (own : InodePart). nat_eq own.inode i) own_parts own e) in
          listed_given job writes.slot own_parts volume.parts i own e ∙ sym (ap (λ (p : InodePart). p.part) one.2)
          ∙ ap next (ap (λ (p : InodePart). p.inode) one.2 ∙ number)

  stored_old : IsStorableAtCut volume.num volume.first volume.history volume.cut
  stored_old = cut_trees_are_storable volume.first volume.history volume.flushes volume.cut volume.inodes volume.num is.ready.history_is is.ready.flushed
      is.ready.numbers

  pub shows_commit : (share : ℕ) → ShowsCommit share old new job volume.parts next own_parts
  shows_commit share = record {
    change = changes;
    after = after_are;
    before_shows =
        λ image is_before. parts_read layout volume.num old volume.parts is.ready.sound.good stored_old.sound stored_old.storable is.ready.stands
        nothing_open volume.parts image
        share
        (λ i low. own_part job volume.parts i) is_before;
    slot_shows = λ image is_by. read_new (opened_by job own_parts) volume.parts image after_are is_by;
    after_shows =
        λ image is_after. read_new nothing_open (parts_after job volume.parts own_parts) image
        (λ i low. own_part job (parts_after job volume.parts own_parts) i ∙ after_are i low) is_after;
    spelled = spelled_next;
  }
    where
      read_new : (opened : ℕ → Option Transaction) (others : ℕ → Part) (image : List ℕ)
          → ((i : ℕ) → i < layout.inodes → with_opened layout opened others i ≡ next i) → IsImageOf layout opened others image → IsReadAsTree image share new
      read_new opened others image same stands =
          parts_read layout (numbers_planned volume.num fsync.plan fsync.grant.inodes) new next
          (plans_leave_good_bytes volume.num fsync.nodes old new image_before fsync.plan fsync.grant volume.store volume.parts layout over clean)
          stored_next.sound stored_next.storable
          (plans_leave_parts volume.num fsync.nodes old new image_before fsync.plan fsync.grant volume.store volume.parts over clean.contents) opened others
          image share same stands
        where
          image_before : SeenInodes
          image_before = inodes_shown layout volume.parts

          stored_next : IsStorableAtCut (numbers_planned volume.num fsync.plan fsync.grant.inodes) volume.first volume.history fsync.raised
          stored_next = stored_new at_place fsync is

-- a job's slot is one of the volume's disk
module _ (volume : Volume) (fsync : OneFsync) (job : Job) (has : HasJob volume fsync job) where
  planned_there : IsPlannedFsync (record volume { layout = job.place.layout }) fsync
  planned_there = subst (λ (layout : Layout). IsPlannedFsync (record volume { layout = layout }) fsync) (sym has.layout) has.planned

  spelled_there : AreSpelled job.place.layout.inodes volume.parts
  spelled_there = subst (λ (layout : Layout). AreSpelled layout.inodes volume.parts) (sym has.layout) has.spelled

  pub record_is_low : (entry : TxRecord) → Contains (records_written (change_planned fsync.plan) fsync.grant) entry → entry.inode < job.place.layout.inodes
  record_is_low = low_record volume fsync job planned_there spelled_there has.writes

  pub job_shows : (share : ℕ)
      → ShowsCommit share (tree_held volume) (tree_raised volume fsync) job volume.parts (parts_left volume fsync) (parts_brought volume fsync)
  job_shows = shows_commit volume fsync job planned_there spelled_there has.writes

pub jobs_show_commits : JobsShowCommits
jobs_show_commits volume fsync job share has = job_shows volume fsync job has share
