-- Each node of a plan begins with what its inode shows, and the plan leads it to the new tree.
use Rattle.std.proofs.Common.{◌≡◌, ℕ, ◌+◌, ◌*◌, ◌/◌, ◌≤◌, true, cond, not, ◌&&◌, List, [], length, Option, Some, None, inl, inr, refl, sym, ap, subst, ◌∙◌, arith, nat_eq, Contains, count_by}
use Rattle.std.specs.Prelude.{slice_get}
use Rattle.std.specs.FinMap.{entries}
use Rattle.std.specs.Option.{option_map_or}
use borrow.Author.Tests.{eqb-true}
use Rattle.std.proofs.lemmas.Bool.{cases_Bool}
use Rattle.sfs_base.proofs.BasicNumbers.{not_same}
use Rattle.sfs_base.proofs.BasicOptions.{none_some}
use Rattle.sfs_base.proofs.BasicTruth.{true_not_false, not_true}
use Rattle.sfs_base.specs.declared.numbers.Kind.{Kind}
use Rattle.sfs_base.specs.declared.numbers.Kind.TheVariants.{File, Directory}
use Rattle.sfs_image.proofs.Basics.{found_passes}
use Rattle.sfs_image.specs.Rules.{DIRECTORY_BLOCKS}
use Rattle.sfs_image.specs.Seen.{Seen, SeenInodes}
use Rattle.sfs_image.specs.Slot.{kind_byte, kind_of as kind_at}
use Rattle.tree_laws.specs.Tree.{TreeState, row_of, kind_of, bytes_of, links_of, is_directory, is_directory_kind, count_of, names_it, holds_directory}
use Rattle.tree_laws.proofs.Counting.{count_none}
use Rattle.tree_laws.proofs.Readings.{directory_by_kind}
use Rattle.image_laws.specs.Commit.{Commit, blank, seen_before, slots_after, IsCommitStep}
use Rattle.image_laws.specs.Made.{IsMadeFrom}
use Rattle.image_laws.specs.Renamed.{Numbering}
use Rattle.image_laws.specs.Slots.{blocks_up_to_last}
use Rattle.image_laws.specs.Stands.{ShowsNode}
use Rattle.image_laws.proofs.Committed.{number_within}
use Rattle.image_laws.proofs.Images.{kind_again}
use Rattle.image_laws.proofs.Made.{built_seen}
use Rattle.image_laws.proofs.Sizes.{commits_keep_directories_fit}
use Rattle.image_laws.proofs.Standing.{holder_number}
use Rattle.space_map.specs.Space.{GrantedNumbers}
use Rattle.disk_change.specs.AllBuilt.{numbers_with}
use Rattle.disk_change.specs.Directory.{is_among}
use Rattle.keyed_list.specs.Ascending.{item_with}
use Rattle.disk_change.specs.Nodes.{net_node, file_node}
use Rattle.disk_change.specs.Planned.{Planned, leaves, staying}
use Rattle.disk_change.specs.Seated.{Begun, Seated, seated, begun_old, begun_entering, first_links, net_of_node}
use Rattle.disk_change.specs.declared.directory_net.DirectoryNet.{DirectoryNet}
use Rattle.disk_change.specs.declared.enter.Enter.{Enter}
use Rattle.disk_change.specs.declared.files.FileChange.{FileChange}
use Rattle.disk_nodes.specs.declared.old.OldEntry.{OldEntry}
use Rattle.disk_change.proofs.NumbersGiven.{planned_node, unnumbered}
use Rattle.commit_laws.specs.CommitMade.{rewrites_of_change}
use Rattle.commit_laws.specs.CommitOfPlan.{CommitPlan, change_planned, has_inode_then, commit_of, image_planned, IsCommitPlan, CommitsPlan}
use Rattle.commit_laws.specs.KnownKinds.{NumbersChildren}
use Rattle.commit_laws.specs.KeptShown.{KeepsSeen}
use Rattle.commit_laws.specs.NumbersGiven.{node_leaves, NumbersAreThose}
use Rattle.commit_laws.specs.PlanShown.{IsFullPlan}
use Rattle.commit_laws.specs.Shown.{BeginsWith, LeadNode, size_given}
use Rattle.commit_laws.specs.SlotsKept.{slots_joined}
use Rattle.commit_laws.specs.Whole.{IsBuiltAt}
use Rattle.commit_laws.proofs.CommitMade.{made_from, changes_make_commits}
use Rattle.commit_laws.proofs.CommitOfPlan.{no_pointers, plans_make_commits}
use Rattle.commit_laws.proofs.KnownDirectories.{child_known}
use Rattle.commit_laws.proofs.NumbersGiven.{kept_in, given_numbers_are_those}
use Rattle.commit_laws.proofs.SeatsOfPlan.{there_is_in, in_kept, after_had, seat_comes, number_at, stays_held, enters_held}
use Rattle.commit_laws.proofs.Shown.{found_is_in, length_in_blocks}

module _ (num : Numbering) (concerned : List ℕ) (old new : TreeState) (image : SeenInodes) (plan : CommitPlan) (grant : GrantedNumbers)
    (full : IsFullPlan num concerned old new image plan grant) where
  abbrev is : IsCommitPlan num concerned old new image plan grant
  is = full.sound.whole

  abbrev change : Planned
  change = change_planned plan

  abbrev commit : Commit
  commit = commit_of num concerned plan grant

  pub made : CommitsPlan num concerned old new image plan grant
  made = plans_make_commits num concerned old new image plan grant is

  pub from : IsMadeFrom commit old new image (rewrites_of_change commit change image) concerned
  from = made_from commit change grant old new image concerned made.is made.leads is.serves.blocks

  -- a node without a number has no links but those that it begins with
  first_links_are : (node : ℕ) → num node ≡ None → (kind : Kind) → kind ≡ kind_of old node → first_links kind ≡ links_of old node
  first_links_are node none File same =
      sym
      (ap (λ b. cond b (2 + count_by (holds_directory old node) (entries old.rows)) (count_of old.rows node))
      (directory_by_kind old node ∙ ap is_directory_kind (sym same))
      ∙ unnamed)
    where
      unnamed : count_of old.rows node ≡ 0
      unnamed =
          count_none (names_it node) old.rows
          (λ k y row. not_same y node (λ here. let has = is.stands.named k.0 k.1 node (row ∙ ap Some here) in none_some (sym none ∙ has.1)))
  first_links_are node none Directory same =
      sym
      (ap (λ b. cond b (2 + count_by (holds_directory old node) (entries old.rows)) (count_of old.rows node))
      (directory_by_kind old node ∙ ap is_directory_kind (sym same))
      ∙ ap (λ n. 2 + n) empty)
    where
      empty : count_by (holds_directory old node) (entries old.rows) ≡ 0
      empty = count_none (holds_directory old node) old.rows (λ k y row. ap (λ b. b && is_directory old y) (not_same k.0 node (λ here.
          let has = holder_number num old image full.sound.sound is.stands node k.1 y (subst (λ d. row_of old d k.1 ≡ Some y) here row) in
          none_some (sym none ∙ has.1))))

  old_had : (entry : OldEntry) → Contains plan.old entry → num entry.node.0 ≡ Some entry.old.number
  old_had entry there = is.from.numbered.old_numbers entry there

  -- what a node begins with
  old_begins : (entry : OldEntry) → Contains plan.old entry → BeginsWith old (seen_before commit image entry.node.0) (begun_old entry)
  old_begins entry there = subst (λ (seen : Seen). BeginsWith old seen (begun_old entry)) (sym seen_is) (record {
    kind = ap kind_at (shown.kind ∙ own.kind) ∙ kind_again (kind_of old entry.node.0);
    links = shown.links ∙ own.links;
    slots = shown.slots;
    blocks = shown.blocks;
    pointers = shown.pointers;
  })
    where
      seen_is : seen_before commit image entry.node.0 ≡ image.seen entry.old.number
      seen_is = ap (λ (o : Option ℕ). option_map_or image.seen o blank) (old_had entry there)

      shown : KeepsSeen entry.old.kept (image.seen entry.old.number)
      shown = is.from.shown entry there

      own : ShowsNode num old entry.node.0 (image.seen entry.old.number)
      own = is.stands.each entry.node.0 entry.old.number (old_had entry there)

  entering_begins : (one : Enter) → Contains plan.enter one → BeginsWith old (seen_before commit image one.node.0) (begun_entering one)
  entering_begins one there = subst (λ (seen : Seen). BeginsWith old seen (begun_entering one)) (sym seen_is) (record {
    kind = kind;
    links = first_links_are one.node.0 none one.kind kind;
    slots = refl;
    blocks = λ block there. absurd (let within = there.1 in omega arith);
    pointers = λ place _. no_pointers one place;
  })
    where
      none : num one.node.0 ≡ None
      none = is.from.numbered.enter_none one there

      kind : one.kind ≡ kind_of old one.node.0
      kind = is.to.kinds one there ∙ is.to.between.kinds one.node.0

      seen_is : seen_before commit image one.node.0 ≡ blank
      seen_is = ap (λ (o : Option ℕ). option_map_or image.seen o blank) none

  -- of files: the size before, and that they have no slots
  record IsPlain (begun : Begun) : Type 0 where
    size : begun.kind ≡ File → begun.base.size ≡ length (bytes_of old begun.node)
    slots : begun.kind ≡ File → (seen_before commit image begun.node).slots ≡ []

  old_plain : (entry : OldEntry) → Contains plan.old entry → IsPlain (begun_old entry)
  old_plain entry there = record {
    size =
        λ file. shown.size ∙ own.size
        ∙ ap (λ k. cond (nat_eq k 2) (4096 * (length (image.seen entry.old.number).slots / 15)) (length (image.seen entry.old.number).bytes))
        (seen_file file)
        ∙ ap length own.bytes;
    slots =
        λ file. ap (λ (o : Option ℕ). (option_map_or image.seen o blank).slots) (old_had entry there) ∙ sym shown.slots
        ∙ ap slots_joined (shown.plain (seen_file file));
  }
    where
      shown : KeepsSeen entry.old.kept (image.seen entry.old.number)
      shown = is.from.shown entry there

      own : ShowsNode num old entry.node.0 (image.seen entry.old.number)
      own = is.stands.each entry.node.0 entry.old.number (old_had entry there)

      seen_file : (begun_old entry).kind ≡ File → (image.seen entry.old.number).kind ≡ kind_byte File
      seen_file file = own.kind ∙ ap kind_byte (sym (kind_again (kind_of old entry.node.0)) ∙ ap kind_at (sym (shown.kind ∙ own.kind)) ∙ file)

  entering_plain : (one : Enter) → Contains plan.enter one → IsPlain (begun_entering one)
  entering_plain one there = record {
    size = λ file. sym (ap length (full.sizes.entering one there));
    slots = λ file. ap (λ (o : Option ℕ). (option_map_or image.seen o blank).slots) (is.from.numbered.enter_none one there);
  }

  -- the children of a net have their numbers
  children_numbered : (directory : ℕ) → NumbersChildren (numbers_with change grant.inodes) commit.after (net_of_node plan.nets directory)
  children_numbered directory node child = elim (child_known num concerned old new image plan grant is directory node child) [
    | inl (entry, there, same) ↦ elim (cases_Bool (node_leaves plan.leave entry.node.0)) [
      | inr stays ↦
          ap (numbers_with change grant.inodes) (sym same) ∙ those.stays entry (in_kept (λ e. not (leaves plan.leave e)) plan.old entry there (ap not stays))
          ∙ ap commit.after same
      | inl gone ↦
          unnumbered change.changes (staying plan.old plan.leave) plan.enter grant.inodes node
          (λ other stay here. let kept = kept_in (λ e. not (leaves plan.leave e)) plan.old other stay in
          true_not_false (sym (ap (node_leaves plan.leave) (here ∙ sym same) ∙ gone) ∙ not_true (node_leaves plan.leave other.node.0) kept.1))
          (λ one enter here. none_some (sym (is.from.numbered.enter_none one enter) ∙ ap num (here ∙ sym same) ∙ is.from.numbered.old_numbers entry there))
          ∙ sym
          (ap commit.after (sym same)
          ∙ after_had num concerned old new image plan grant is entry.node.0 entry.old.number (is.from.numbered.old_numbers entry there)
          ∙ ap (λ b. cond b None (Some entry.old.number)) gone)
    ]
    | inr (one, there, same) ↦ ap (numbers_with change grant.inodes) (sym same) ∙ those.enters one there ∙ ap commit.after same
  ]
    where
      those : NumbersAreThose num plan.old plan.nets plan.files plan.enter plan.leave grant.inodes
      those = given_numbers_are_those num plan.old plan.nets plan.files plan.enter plan.leave grant.inodes is.from.numbered

  -- a file has no net
  no_net : (begun : Begun) → begun.kind ≡ kind_of old begun.node → begun.kind ≡ File → net_of_node plan.nets begun.node ≡ []
  no_net begun kind file = by (item_with net_node begun.node plan.nets) refl
    where
      by : (o : Option DirectoryNet) → item_with net_node begun.node plan.nets ≡ o → option_map_or (λ (one : DirectoryNet). one.net.items) o [] ≡ []
      by None e = refl
      by (Some one) e =
          let here = eqb-true (net_node one) begun.node (found_passes (λ item. nat_eq (net_node item) begun.node) plan.nets one e) in
          let holds = is.to.holders one (found_is_in (λ item. nat_eq (net_node item) begun.node) plan.nets one e) in
          absurd
          (true_not_false
          (sym holds ∙ ap (is_directory new) here ∙ directory_by_kind new begun.node
          ∙ ap is_directory_kind (is.to.between.kinds begun.node ∙ sym kind ∙ file)))

  -- the size that a file gets
  size_is : (begun : Begun) → IsPlain begun → has_inode_then plan begun.node ≡ true → begun.kind ≡ File → size_given change.changes begun ≡ length (bytes_of new begun.node)
  size_is begun plain held file = by (item_with file_node begun.node plan.files) refl
    where
      by : (o : Option FileChange) → item_with file_node begun.node plan.files ≡ o
          → option_map_or (λ (one : FileChange). one.size) o begun.base.size ≡ length (bytes_of new begun.node)
      by None e = plain.size file ∙ ap length (sym (full.sizes.others begun.node held e))
      by (Some one) e =
          let here = eqb-true (file_node one) begun.node (found_passes (λ item. nat_eq (file_node item) begun.node) plan.files one e) in
          full.sizes.changed one (found_is_in (λ item. nat_eq (file_node item) begun.node) plan.files one e) ∙ ap (λ n. length (bytes_of new n)) here

  -- what the plan makes is a commit's step
  pub step : IsCommitStep commit old new image (image_planned num concerned new image plan grant)
  step = record {
    stands = is.stands;
    sound = full.sound.sound;
    commits = changes_make_commits commit change grant old new image concerned is.stands made.is made.leads is.serves.blocks;
    next_sound = full.sound.next_sound;
    follows = is.follows;
    storable = full.sound.storable;
  }

  -- a directory keeps within its blocks, and a file has none
  blocks_fit : (begun : Begun) (i : ℕ) → commit.after begun.node ≡ Some i → is_among concerned begun.node ≡ true → begun.kind ≡ kind_of old begun.node
      → IsPlain begun
      → (kind : Kind) → begun.kind ≡ kind
      → blocks_up_to_last (slots_after commit.after new (net_of_node plan.nets begun.node) (seen_before commit image begun.node).slots) ≤ DIRECTORY_BLOCKS
  blocks_fit begun i has among kind plain File file =
      let none : blocks_up_to_last (slots_after commit.after new (net_of_node plan.nets begun.node) (seen_before commit image begun.node).slots) ≡ 0 =
      λ j. blocks_up_to_last (slots_after commit.after new (no_net begun kind file j) (plain.slots file j)) in
      omega arith
  blocks_fit begun i has among kind plain Directory directory =
      let next : SeenInodes = image_planned num concerned new image plan grant in
      let seen = built_seen commit old new image (rewrites_of_change commit change image) concerned is.stands from begun.node i has among in
      let fits =
      commits_keep_directories_fit commit old new image next step full.room.directories i (
        number_within commit old image is.stands made.is.numbers begun.node i has,
        ap (λ (s : Seen). s.kind) seen
            ∙ ap kind_byte (is.to.between.kinds begun.node ∙ sym kind ∙ directory),
      ) in
      let slots =
      ap (λ (s : Seen). length s.slots) seen
      ∙ length_in_blocks (slots_after commit.after new (net_of_node plan.nets begun.node) (seen_before commit image begun.node).slots) in
      omega (arith, fits, slots)

  -- so the plan leads a node to the new tree
  leads_to : (begun : Begun) (i : ℕ) → commit.after begun.node ≡ Some i → is_among concerned begun.node ≡ true → begun.kind ≡ kind_of old begun.node
      → IsPlain begun → has_inode_then plan begun.node ≡ true
      → LeadNode old new commit.after (seen_before commit image begun.node) change.changes begun
  leads_to begun i has among kind plain held = record {
    nets = made.leads;
    links = full.room.links begun.node;
    blocks = blocks_fit begun i has among kind plain begun.kind refl;
    size = size_is begun plain held;
    no_net = no_net begun kind;
    no_slots = plain.slots;
  }

  -- each node is built from what its inode shows before
  pub record IsSeatOf (m : ℕ) (seat : Seated) : Type 0 where
    pub begun : Begun
    pub inode : ℕ
    pub begins : seated change.changes begun ≡ seat
    pub number : commit.after begun.node ≡ Some inode
    pub among : is_among concerned begun.node ≡ true
    pub held : has_inode_then plan begun.node ≡ true
    pub built : IsBuiltAt commit change grant old new image inode m begun

  pub seat_is : (m : ℕ) (seat : Seated) → slice_get change.seats m ≡ Some seat → IsSeatOf m seat
  seat_is m seat at = elim (seat_comes num concerned old new image plan grant is seat (there_is_in change.seats m seat at)) [
    | inl (entry, stay, same) ↦
        let kept = kept_in (λ e. not (leaves plan.leave e)) plan.old entry stay in
        whole (begun_old entry) same (is.from.own entry kept.0) (stays_held plan entry kept.0 kept.1) (old_begins entry kept.0) (old_plain entry kept.0)
    | inr (one, enter, same) ↦ whole (begun_entering one) same (is.from.entering one enter) (enters_held plan one enter) (entering_begins one enter) (entering_plain one enter)
  ]
    where
      whole : (begun : Begun) → seated change.changes begun ≡ seat → is_among concerned begun.node ≡ true → has_inode_then plan begun.node ≡ true
          → BeginsWith old (seen_before commit image begun.node) begun → IsPlain begun → IsSeatOf m seat
      whole begun same among held begins plain =
          let number = number_at num concerned old new image plan grant is m seat at in
          let node : seat.node ≡ begun.node = ap (λ (s : Seated). s.node) (sym same) ∙ planned_node change.changes begun begun.kind in
          let has : commit.after begun.node ≡ Some number.0 = ap commit.after (sym node) ∙ number.2 in
          record {
            begun = begun;
            inode = number.0;
            begins = same;
            number = has;
            among = among;
            held = held;
            built = record {
              seat = at ∙ ap Some (sym same);
              inode = number.1;
              begins = begins;
              leads = leads_to begun number.0 has among begins.kind plain held;
              numbers = children_numbered begun.node;
            };
          }
