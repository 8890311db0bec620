-- The plan of one fsync is a commit from the tree at the cut to the tree at the raised cut, over the parts of the disk.
use Rattle.std.proofs.Common.{◌≡◌, ℕ, ◌*◌, ◌/◌, ◌<◌, ◌≤◌, ◌^◌, Bool, true, false, cond, List, [], ◌∷◌, ◌++◌, length, map, Option, Some, None, inl, inr, refl, sym, ap, subst, ◌∙◌, arith, nat_eq, Contains}
use Rattle.std.specs.Prelude.{slice_index}
use Rattle.std.specs.List.{list_any}
use Rattle.std.specs.Option.{option_map_or}
use borrow.Author.Tests.{eqb-true}
use Rattle.std.proofs.lemmas.Bool.{cases_Bool, cases_lt, eqb-false}
use Rattle.std.proofs.lemmas.List.{get_or_past}
use Rattle.std.proofs.lemmas.List.Elements.{Contains-get_or}
use Rattle.sfs_base.proofs.BasicTruth.{true_not_false, or_first, or_second}
use Rattle.sfs_image.specs.ImageOf.{PointsToData}
use Rattle.sfs_image.specs.Part.{Part, inode_in, pointer_at, seen_of}
use Rattle.sfs_image.specs.Rules.{breaks_record, breaks_pointers}
use Rattle.sfs_image.specs.Seen.{SeenInodes}
use Rattle.sfs_image.specs.Slot.{kind_byte}
use Rattle.sfs_image.specs.Super.{Layout, data_start}
use Rattle.sfs_image.proofs.RuleLaws.{points_to_data}
use Rattle.sfs_base.specs.declared.numbers.Kind.TheVariants.{File}
use Rattle.tree_laws.specs.History.{tree_after}
use Rattle.tree_laws.specs.Tree.{TreeState, row_of, bytes_of, kind_of, is_directory, is_directory_kind}
use Rattle.tree_laws.proofs.Readings.{directory_by_kind}
use Rattle.tree_laws.proofs.RowFacts.{alive_named}
use Rattle.image_laws.specs.Commit.{MayFollow}
use Rattle.image_laws.specs.Image.{inodes_shown}
use Rattle.image_laws.specs.Renamed.{Numbering}
use Rattle.image_laws.specs.Stands.{StandsForTree}
use Rattle.disk_change.specs.Directory.{is_among}
use Rattle.keyed_list.specs.Ascending.{item_with}
use Rattle.disk_change.specs.Nodes.{net_node}
use Rattle.disk_change.specs.Seated.{net_of_node}
use Rattle.disk_change.specs.declared.directory_net.DirectoryNet.{DirectoryNet}
use Rattle.disk_change.specs.declared.enter.Enter.{Enter}
use Rattle.disk_nodes.specs.declared.old.OldEntry.{OldEntry}
use Rattle.commit_laws.specs.BytesKept.{AreGoodParts, IsCleanPlan}
use Rattle.commit_laws.specs.CommitOfPlan.{numbers_planned, image_planned, IsCommitPlan, IsSoundPlan}
use Rattle.commit_laws.specs.KeptShown.{KeepsSeen}
use Rattle.commit_laws.specs.PartsMade.{StandInStore, IsPlanOverParts}
use Rattle.commit_laws.specs.PlanShown.{IsFullPlan}
use Rattle.commit_laws.proofs.BytesKept.{good_parts_fit, good_parts_have_none_behind}
use Rattle.commit_laws.proofs.CommitOfPlan.{plans_leave_trees}
use Rattle.commit_laws.proofs.GoodParts.{good_part}
use Rattle.commit_laws.proofs.KeptShown.{kept_parts_show}
use Rattle.cut_laws.specs.Closure.{one_more}
use Rattle.cut_laws.proofs.BlankFiles.{files_enter_blank}
use Rattle.cut_laws.proofs.CutNodes.{cuts_keep_kinds}
use Rattle.raise_laws.specs.Next.{NumbersInodes, IsStorableAtCut, IsOneMore}
use Rattle.raise_laws.proofs.Next.{cut_trees_are_storable, raised_trees_follow, others_are_aside}
use Rattle.flush_laws.specs.Volume.{Volume, OneFsync, tree_held, tree_raised}
use Rattle.flush_laws.specs.Planned.{IsPlannedFsync}
use Rattle.flush_laws.specs.Ready.{AreSoundParts}
use Rattle.flush_laws.proofs.FewRows.{links_fit}
use Rattle.flush_laws.proofs.FileBlocks.{file_has_blocks}
use Rattle.flush_laws.proofs.Numbers.{none_for, numbers_then}

-- a directory that is among no nets has none
pub no_net : (nets : List DirectoryNet) (directory : ℕ) → list_any (λ member. nat_eq member directory) (map net_node nets) ≡ false
    → net_of_node nets directory ≡ []
no_net nets directory none = ap (λ (o : Option DirectoryNet). option_map_or (λ one. one.net.items) o []) (not_found nets none)
  where
    not_found : (nets : List DirectoryNet) → list_any (λ member. nat_eq member directory) (map net_node nets) ≡ false → item_with net_node directory nets
        ≡ None
    not_found [] e = refl
    not_found (one ∷ nets) e =
        ap (λ b. cond b (Some one) (item_with net_node directory nets)) (or_first (nat_eq one.node.0 directory) _ e)
        ∙ not_found nets (or_second (nat_eq one.node.0 directory) _ e)

module _ (layout : Layout) (store : ℕ → List ℕ) (parts : ℕ → Part) (sound : AreSoundParts layout store parts) where
  -- sound parts point to the data area
  pub sound_points : (i : ℕ) → i < layout.inodes → PointsToData layout (parts i)
  sound_points i low =
      let good = good_part layout parts sound.good i low in
      let gathered = sound.gathered i low in
      subst (λ p. PointsToData layout p) gathered
      (points_to_data layout store (parts i).raw (sound.records i low) (ap breaks_record gathered ∙ good.record_good)
      (ap (breaks_pointers layout) gathered ∙ good.pointers))

  pub standing : StandInStore store parts (inodes_shown layout parts)
  standing = record {
    gathered = sound.gathered;
    shown = λ i low. refl;
    small = λ i place low within. elim (cases_Bool (nat_eq (pointer_at (parts i) place) 0)) [
      | inl none ↦ let zero_is = eqb-true (pointer_at (parts i) place) 0 none in omega arith
      | inr some ↦ let points = sound_points i low place (eqb-false (pointer_at (parts i) place) 0 some) in let below = points.1 in
          let few = sound.ranges.blocks in omega (arith, below, few)
    ];
  }

  pub good_parts : AreGoodParts layout (inodes_shown layout parts) parts
  good_parts = record { count = refl; good = sound.good }

module _ (volume : Volume) (fsync : OneFsync) (is : IsPlannedFsync volume fsync) where
  abbrev old : TreeState
  old = tree_held volume

  abbrev new : TreeState
  new = tree_raised volume fsync

  abbrev image : SeenInodes
  image = inodes_shown volume.layout volume.parts

  abbrev next_num : Numbering
  next_num = numbers_planned volume.num fsync.plan fsync.grant.inodes

  pub more : IsOneMore volume.first volume.history volume.flushes volume.cut volume.inodes fsync.flush fsync.raised fsync.after
  more = record { history_is = is.ready.history_is; before = is.ready.flushed; raises = is.raises; inodes_after = is.inodes_after }

  -- the root keeps its inode
  root_after : fsync.after 0 ≡ true
  root_after = by (fsync.after 0) refl
    where
      by : (b : Bool) → fsync.after 0 ≡ b → b ≡ true
      by true e = refl
      by false e = absurd (((is.inodes_after.leaves 0 ((is.ready.numbers.each 0).1 (0, is.ready.numbers.root))).0 e).1.no_root refl)

  pub numbers_next : NumbersInodes next_num fsync.after
  numbers_next = numbers_then volume.num image new volume.inodes fsync.after fsync.plan fsync.grant is.ready.numbers is.plans.moves is.grants.serves.inodes
      root_after

  stored_old : IsStorableAtCut volume.num volume.first volume.history volume.cut
  stored_old = cut_trees_are_storable volume.first volume.history volume.flushes volume.cut volume.inodes volume.num is.ready.history_is is.ready.flushed
      is.ready.numbers

  pub stored_new : IsStorableAtCut next_num volume.first volume.history fsync.raised
  stored_new =
      cut_trees_are_storable volume.first volume.history (volume.flushes ++ fsync.flush ∷ []) fsync.raised fsync.after next_num is.ready.history_is
      (one_more volume.flushes fsync.flush volume.cut fsync.raised volume.inodes fsync.after is.ready.flushed is.raises is.inodes_after) numbers_next

  follows : MayFollow next_num old new
  follows = raised_trees_follow volume.first volume.history volume.flushes volume.cut volume.inodes fsync.flush fsync.raised fsync.after next_num more
      numbers_next

  -- what is kept is what the image shows
  shown : (entry : OldEntry) → Contains fsync.plan.old entry → KeepsSeen entry.old.kept (image.seen entry.old.number)
  shown entry there =
      let kept = is.keeps.each entry (is.plans.old.own entry there).0 in
      let low = is.ready.stands.within entry.node.0 entry.old.number kept.0 in
      subst (λ k. KeepsSeen k (seen_of (volume.parts entry.old.number))) (sym kept.1)
      (kept_parts_show volume.store (volume.parts entry.old.number) (is.ready.sound.gathered entry.old.number low))

  pub whole : IsCommitPlan volume.num fsync.nodes old new image fsync.plan fsync.grant
  whole = record {
    stands = is.ready.stands;
    from = record {
      numbered = record {
        old_ascend = is.plans.old.ascend;
        enter_ascend = is.plans.moves.ascend;
        old_numbers = λ entry there. (is.keeps.each entry (is.plans.old.own entry there).0).0;
        enter_none =
            λ one there. none_for volume.num image new volume.inodes fsync.after fsync.plan fsync.grant is.ready.numbers is.plans.moves
            is.grants.serves.inodes root_after one.node.0
            (is.plans.moves.entering one there).0;
      };
      complete = λ node i among has.
          let entry = is.keeps.all node i has in
          (entry.0, is.plans.old.all entry.0 entry.1 (subst (λ x. is_among fsync.nodes x ≡ true) (sym entry.2) among), entry.2);
      own = λ entry there. (is.plans.old.own entry there).1;
      shown = shown;
      entering = λ one there. let enters = is.plans.moves.entering one there in
          (is.plans.concerns one.node.0).1 ((is.inodes_after.enters one.node.0 enters.0).0 enters.1).0;
      leaving = λ node leaves. let goes = (is.plans.moves.leaving node).0 leaves in
          (is.plans.concerns node).1 ((is.inodes_after.leaves node goes.0).0 goes.1).0;
    };
    to = record {
      between =
          record {
            kinds = follows.kinds;
            each = is.plans.nets.each;
            others = λ directory none. no_net fsync.plan.nets directory none;
            ascending = is.plans.nets.sorted;
          };
      ascend = is.plans.nets.ascend;
      holders = is.plans.nets.holders;
      kinds = λ one there. (is.plans.moves.entering one there).2;
      others =
          λ node none. others_are_aside volume.first volume.history volume.flushes volume.cut volume.inodes fsync.flush fsync.raised fsync.after node more
          (λ concerned. true_not_false (sym ((is.plans.concerns node).1 concerned) ∙ none));
    };
    serves = is.grants.serves;
    follows = follows;
  }

  sound_plan : IsSoundPlan volume.num fsync.nodes old new image fsync.plan fsync.grant
  sound_plan = record { whole = whole; sound = stored_old.sound; next_sound = stored_new.sound; storable = stored_new.storable }

  -- what the next image stands for
  pub next_stands : StandsForTree next_num new (image_planned volume.num fsync.nodes new image fsync.plan fsync.grant)
  next_stands = (plans_leave_trees volume.num fsync.nodes old new image fsync.plan fsync.grant (record { first = 0; share = 0; made = [] }) sound_plan).stands

  -- a directory with a row has an inode
  holder : (directory : ℕ) (name : List ℕ) (child : ℕ) → row_of new directory name ≡ Some child → (i : ℕ) × (next_num directory ≡ Some i) ×
      (i < volume.layout.inodes)
  holder directory name child row = elim (alive_named new directory (stored_new.sound.holds directory name child row).1) [
    | inl root ↦ (0, ap next_num root ∙ numbers_next.root, next_stands.within 0 0 numbers_next.root)
    | inr named ↦ let has = follows.named named.directory named.name directory named.row in (has.0, has.1, next_stands.within directory has.0 has.1)
  ]

  -- a node that enters had no bytes
  blank : (one : Enter) → Contains fsync.plan.enter one → bytes_of old one.node.0 ≡ []
  blank one there = by (is_directory old one.node.0) refl
    where
      by : (b : Bool) → is_directory old one.node.0 ≡ b → bytes_of old one.node.0 ≡ []
      by true e = stored_old.storable.limits.plain one.node.0 e
      by false e =
          let enters = is.plans.moves.entering one there in
          let file : is_directory (tree_after volume.first volume.history) one.node.0 ≡ false =
          directory_by_kind (tree_after volume.first volume.history) one.node.0 ∙ ap is_directory_kind
          (sym ((cuts_keep_kinds volume.first volume.history volume.cut).kinds one.node.0))
          ∙ sym (directory_by_kind old one.node.0) ∙ e in
          (files_enter_blank volume.first volume.history volume.flushes volume.cut fsync.raised volume.inodes fsync.after fsync.flush one.node.0
          is.ready.history_is.sound is.ready.history_is.legal is.ready.flushed
          is.raises is.inodes_after file enters.0 enters.1).bytes

  full : IsFullPlan volume.num fsync.nodes old new image fsync.plan fsync.grant
  full = record {
    sound = sound_plan;
    sizes = record { changed = is.plans.files.sizes; others = is.plans.files.others; entering = blank };
    room = record {
      links = links_fit next_num new volume.layout.inodes stored_new.storable.limits next_stands.once holder is.ready.sound.ranges.inodes_high;
      directories = good_parts_fit volume.store volume.layout image volume.parts (standing volume.layout volume.store volume.parts is.ready.sound)
          (good_parts volume.layout volume.store volume.parts is.ready.sound);
    };
  }

  -- the blocks of a grant are numbers of the data area
  low_grant : (k : ℕ) → k < length fsync.grant.blocks → (data_start volume.layout ≤ slice_index fsync.grant.blocks k) ×
      (slice_index fsync.grant.blocks k < volume.layout.blocks)
  low_grant k low = is.grants.lies (slice_index fsync.grant.blocks k) (Contains-get_or fsync.grant.blocks k 0 low)

  pub over_parts : IsPlanOverParts volume.num fsync.nodes old new image fsync.plan fsync.grant volume.store volume.parts
  over_parts = record {
    full = full;
    standing = standing volume.layout volume.store volume.parts is.ready.sound;
    over = record {
      kept = λ entry there. (is.keeps.each entry (is.plans.old.own entry there).0).1;
      pages = is.plans.files.ascend;
      sizes = λ node. let short = is.plans.files.short node in omega (arith, short);
      small = λ k. elim (cases_lt k (length fsync.grant.blocks)) [
        | inl low ↦ let below = (low_grant k low).1 in let few = is.ready.sound.ranges.blocks in omega (arith, below, few)
        | inr past ↦ subst (λ n. n < 2 ^ 32) (sym (get_or_past fsync.grant.blocks k 0 past)) (omega arith)
      ];
      some = λ k low none. let high = (low_grant k low).0 in let begin = start_is in omega (arith, high, none, begin);
    };
  }
    where
      start_is : 1 ≤ data_start volume.layout
      start_is = omega arith

  pub clean_plan : IsCleanPlan volume.num fsync.nodes old new image fsync.plan fsync.grant volume.layout volume.parts
  clean_plan = record {
    contents = record {
      files = record {
        before = λ node i among has file.
            let shows = is.ready.stands.each node i has in
            file_has_blocks volume.layout volume.store volume.parts is.ready.sound i (is.ready.stands.within node i has) (bytes_of old node)
            (shows.kind ∙ ap kind_byte file)
            (size_of node i has file) shows.bytes;
        pages = is.plans.files.pages;
        untouched = is.plans.files.untouched;
        short = is.plans.files.short;
      };
      directories = record {
        behind =
            good_parts_have_none_behind volume.store volume.layout image volume.parts (standing volume.layout volume.store volume.parts is.ready.sound)
            (good_parts volume.layout volume.store volume.parts is.ready.sound);
        pages = is.plans.files.pages;
        slots = is.grants.slots;
      };
    };
    ends = is.plans.files.ends;
    good = good_parts volume.layout volume.store volume.parts is.ready.sound;
    within = record { granted = is.grants.lies; parts_do = sound_points volume.layout volume.store volume.parts is.ready.sound };
  }
    where
      size_of : (node i : ℕ) → volume.num node ≡ Some i → kind_of old node ≡ File → (inode_in (volume.parts i)).size ≡ length (bytes_of old node)
      size_of node i has file =
          let shows = is.ready.stands.each node i has in
          shows.size ∙ ap (λ k. cond (nat_eq k 2) (4096 * (length (image.seen i).slots / 15)) (length (image.seen i).bytes)) (shows.kind ∙ ap kind_byte file)
          ∙ ap length shows.bytes
