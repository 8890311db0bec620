-- What an fsync plans of what it has gathered leads from the tree at the cut to the tree at the cut that it raises.
use Rattle.std.proofs.Common.{◌≡◌, ◌≢◌, ℕ, ◌*◌, ◌<◌, ◌≤◌, Bool, true, false, cond, List, [], ◌∷◌, ◌++◌, length, map, take, Option, Some, None, inl, inr, refl, sym, ap, subst, ◌∙◌, arith, nat_eq, Contains}
use Rattle.std.specs.Prelude.{◌⊎◌, ◌↔◌, ◌&&◌, ◌||◌, not, max, nat_le}
use Rattle.std.specs.FinMap.{FinMap, get}
use Rattle.std.proofs.Math.Nat.{max-eq_left, max-eq_right}
use borrow.Author.Tests.{eqb-true, leb-true, leb-false, le-leb}
use Rattle.std.proofs.lemmas.Bool.{eqb-false}
use Rattle.sfs_base.proofs.BasicNumbers.{le_itself}
use Rattle.sfs_base.proofs.BasicOptions.{none_some}
use Rattle.sfs_base.proofs.BasicTruth.{and_second, not_both, or_first, or_second, then_false, true_not_false, true_or_false}
use Rattle.sfs_base.specs.declared.numbers.NodeId.{NodeId}
use Rattle.sfs_base.specs.declared.numbers.Stamp.{Stamp}
use Rattle.sfs_base.specs.Listed.{is_listed}
use Rattle.sfs_image.specs.Seen.{FILE_BLOCKS}
use Rattle.tree_laws.specs.declared.history.Entry.{Entry}
use Rattle.tree_laws.specs.Changes.{bytes_at}
use Rattle.tree_laws.specs.History.{tree_after, IsLegal}
use Rattle.tree_laws.specs.Laws.{IsSoundTree}
use Rattle.tree_laws.specs.NameRow.{node_number}
use Rattle.tree_laws.specs.Order.{name_cmp}
use Rattle.tree_laws.specs.Tree.{TreeState, row_of, names_of, bytes_of, kind_of, is_alive, is_directory, is_directory_kind}
use Rattle.tree_laws.proofs.FileHistories.{histories_keep_sound}
use Rattle.tree_laws.proofs.Histories.{rows_at-tree_after}
use Rattle.tree_laws.proofs.Names.{get-names_where}
use Rattle.tree_laws.proofs.Readings.{directory_by_kind}
use Rattle.tree_laws.proofs.RowFacts.{alive_named}
use Rattle.image_laws.specs.Renamed.{Numbering}
use Rattle.image_laws.specs.Stands.{BLOCK_BYTES}
use Rattle.cut_laws.specs.Closure.{every_entry, Flush, HasLiveNode, Closure, IsNamedIn, IsRaised, IsDead, AreInodesAfter, one_more, AreFlushed}
use Rattle.cut_laws.specs.Cut.{Cut, cut_of, rows_at_cut, tree_at_cut}
use Rattle.cut_laws.proofs.Along.{tree_at, tree_at-after, effect_at, change_in}
use Rattle.cut_laws.proofs.CutNodes.{cuts_keep_kinds}
use Rattle.cut_laws.proofs.CutRows.{directories_are_cut}
use Rattle.cut_laws.proofs.MemberKinds.{members_are_directories}
use Rattle.cut_laws.proofs.Own.{stamp_of}
use Rattle.cut_laws.proofs.Recount.{named_or_open}
use Rattle.cut_laws.proofs.RunFacts.{raised_low}
use Rattle.cut_laws.proofs.KeptInodes.{files_settle}
use Rattle.cut_laws.proofs.Lists.{lists_keep}
use Rattle.raise_laws.specs.Next.{NumbersInodes, IsStorableAtCut}
use Rattle.raise_laws.proofs.Next.{cut_trees_are_storable, same_stamps_keep}
use Rattle.look_laws.specs.Fit.{FindsRight}
use Rattle.look_laws.specs.Laws.{MakesCommit}
use Rattle.look_laws.specs.Look.{Look, Touches, member, itself}
use Rattle.look_laws.specs.Made.{Found, AreMoved}
use Rattle.dep_closure.specs.declared.gathered.Gathered.{Gathered}
use Rattle.dep_closure.specs.Gathered.{look_of, cut_in, span_in}
use Rattle.disk_change.specs.Nodes.{enter_node}
use Rattle.disk_change.specs.declared.enter.Enter.{Enter}
use Rattle.disk_nodes.specs.declared.old.OldEntry.{OldEntry}
use Rattle.disk_nodes.specs.Nodes.{entry_node}
use Rattle.disk_change.specs.Directory.{is_among}
use Rattle.disk_change.specs.declared.files.FileChange.{FileChange}
use Rattle.commit_laws.specs.CommitOfPlan.{CommitPlan, has_inode_then}
use Rattle.commit_laws.specs.NumbersGiven.{node_leaves}
use Rattle.commit_laws.proofs.OwnInodes.{mapped_is_in}
use Rattle.commit_laws.proofs.SeatsOfPlan.{in_mapped, in_is_among, among_is_in}
use Rattle.flush_laws.specs.Volume.{Volume, tree_held}
use Rattle.flush_laws.specs.Planned.{HasNets, HasMoves, HasFiles, IsPlanAt}
use Rattle.flush_plan.specs.declared.concern.Concern.{Concern}
use Rattle.flush_plan.specs.declared.plans.FsyncPlan.{FsyncPlan}
use Rattle.flush_plan.specs.Kinds.{spans_in}
use Rattle.flush_plan.specs.Moved.{cuts_after, found_by, kind_entering}
use Rattle.flush_plan.specs.Names.{is_named_after}
use Rattle.flush_plan.specs.Plan.{files_written, is_written}
use Rattle.mark_laws.specs.Changed.{HasShortFiles, ChangesFile}
use Rattle.mark_laws.proofs.Made.{marks_make_files}
use Rattle.mark_laws.proofs.Short.{files_stay_short}
use Rattle.plan_laws.specs.Laws.{PlansLeadToCuts, LiveFilesAreWritten}
use Rattle.plan_laws.specs.Leads.{but_root, commit_made_of, LeadsWith}
use Rattle.plan_laws.specs.Plans.{planned_flush, ChangesByFile, HasFileOf, Sources, PlansFsync}
use Rattle.plan_laws.proofs.EnteringKinds.{entering_kind}
use Rattle.plan_laws.proofs.Files.{bytes_are_cut, no_file_leads, own_file_leads}
use Rattle.plan_laws.proofs.Moves.{named_but_root, moved_but_root, inodes_then, then_none, gets_then, lost_then, sets, of_all, moves_are}
use Rattle.plan_laws.proofs.GatheredSpans.{logged_span}
use Rattle.plan_laws.proofs.Names.{named_by_nets}
use Rattle.plan_laws.proofs.Nets.{each_net, nets_lead}
use Rattle.cut_laws.proofs.RaisedCut.{raised_cut}
use Rattle.plan_laws.proofs.Raised.{is_raised}
use Rattle.plan_laws.proofs.Sees.{SeesCommit, sees_enough}

-- whether an fsync's own node is a directory is known by its file
own_kind : (first : TreeState) (history : List Entry) (cut : Cut) (start : NodeId) (below : Stamp) (is_file : Bool) (change : Option FileChange)
    → HasFileOf first history cut start below is_file change → is_directory (tree_after first history) start.0 ≡ not is_file
own_kind first history cut start below false change is = is.0
own_kind first history cut start below true None is = is.0
own_kind first history cut start below true (Some change) is = is.0

-- without a change of the own file none is written
pub none_written : (written : Bool) → files_written written None ≡ []
none_written true = refl
none_written false = refl

-- the own file is not written where it neither has nor gets an inode, or where its stamp is later
not_written : (has gets : Bool) (own stamp : ℕ) → ((has || gets) && nat_le own stamp) ≡ false → ((has ≡ false) × (gets ≡ false)) ⊎ (stamp < own)
not_written has gets own stamp none = elim (true_or_false (has || gets)) [
  | inl one ↦ inr (leb-false own stamp (then_false (has || gets) (nat_le own stamp) none one))
  | inr neither ↦ inl (or_first has gets neither, or_second has gets neither)
]

module _ (volume : Volume) (from : Sources) (is : PlansFsync volume from) where
  abbrev entries : List OldEntry
  entries = from.entries

  abbrev start : NodeId
  start = from.start

  abbrev below : Stamp
  below = from.below

  abbrev gathered : Gathered
  gathered = from.gathered

  abbrev concern : Concern
  concern = from.concern

  abbrev old : List OldEntry
  old = from.old

  abbrev plan : FsyncPlan
  plan = from.plan

  abbrev flush : Flush
  flush = planned_flush start below

  abbrev members : List ℕ
  members = map node_number concern.members.items

  abbrev nodes : List ℕ
  nodes = map node_number concern.nodes.items

  abbrev raised : Cut
  raised = raised_cut volume.cut members below.0

  abbrev last : TreeState
  last = tree_after volume.first volume.history

  abbrev before : TreeState
  before = tree_held volume

  abbrev later : TreeState
  later = tree_at_cut volume.first volume.history raised

  abbrev look : Look
  look = look_of start below gathered

  abbrev found : Found
  found = found_by old concern.nets.items from.is_file

  abbrev gets : ℕ → Bool
  gets = is_listed (map enter_node is.plans.enter)

  abbrev loses : ℕ → Bool
  loses = is_listed (map node_number plan.leave.items)

  abbrev after : ℕ → Bool
  after = inodes_then volume.inodes gets loses

  sound : IsSoundTree volume.first
  sound = is.ready.history_is.sound

  legal : IsLegal volume.first volume.history
  legal = is.ready.history_is.legal

  sees : SeesCommit volume.first volume.history volume.cut volume.inodes start below gathered
  sees =
      sees_enough volume.first volume.history volume.cut volume.inodes start below gathered sound legal is.orderly
      (lists_keep volume.first volume.history volume.flushes volume.cut volume.inodes sound legal is.ready.flushed) is.gathers

  closed : (node : ℕ) → (is_listed members node ≡ true) ↔ Closure volume.first volume.history every_entry volume.cut volume.inodes flush node
  closed node =
      let listed = is.concern_is.members.each node in
      let member = sees.fits.members node in
      ((λ one. member.0 (listed.0 one)), (λ own. listed.1 (member.1 own)))

  raises : IsRaised volume.first volume.history every_entry volume.cut volume.inodes flush raised
  raises = is_raised volume.first volume.history volume.cut volume.inodes flush members closed

  same_kinds : (node : ℕ) → kind_of later node ≡ kind_of before node
  same_kinds node = (cuts_keep_kinds volume.first volume.history raised).kinds node ∙ sym
      ((cuts_keep_kinds volume.first volume.history volume.cut).kinds node)

  directory_later : (node : ℕ) → is_directory later node ≡ is_directory last node
  directory_later node = directory_by_kind later node ∙ ap is_directory_kind ((cuts_keep_kinds volume.first volume.history raised).kinds node)
      ∙ sym (directory_by_kind last node)

  directory_before : (node : ℕ) → is_directory before node ≡ is_directory last node
  directory_before node = directory_by_kind before node ∙ ap is_directory_kind ((cuts_keep_kinds volume.first volume.history volume.cut).kinds node)
      ∙ sym (directory_by_kind last node)

  -- no row at the raised cut names the root
  root_unnamed : IsNamedIn (rows_at_cut volume.first volume.history raised) 0 → ⊥
  root_unnamed there =
      let stamp = cut_of raised there.directory in
      let same : names_of there.directory later.rows ≡ names_of there.directory (tree_after volume.first (take stamp volume.history)).rows =
      directories_are_cut volume.first volume.history raised there.directory ∙ rows_at-tree_after volume.first volume.history there.directory stamp legal in
      let row : row_of (tree_after volume.first (take stamp volume.history)) there.directory there.name ≡ Some 0 =
      sym (get-names_where there.directory (λ _. true) (tree_after volume.first (take stamp volume.history)).rows there.name)
      ∙ ap (λ (m : FinMap name_cmp ℕ). get m there.name) (sym same)
      ∙ get-names_where there.directory (λ _. true) later.rows there.name ∙ there.row in
      (histories_keep_sound volume.first volume.history stamp sound legal).sound.unnamed there.directory there.name row

  member_spans : (node : ℕ) → is_listed members node ≡ true → span_in gathered below node ≡ logged_span volume.first volume.history volume.cut below node
  member_spans node listed = sees.spans node ((is.concern_is.members.each node).0 listed)

  -- another concerned node than the root is named there exactly where more names come than go
  named_there : (node : ℕ) → node ≢ 0 → Touches look node
      → (is_named_after old concern.nets.items node ≡ true) ↔ IsNamedIn (rows_at_cut volume.first volume.history raised) node
  named_there node apart touches =
      named_by_nets volume entries is.ready is.keeps nodes old is.old_is later concern.nets.items same_kinds
      is.concern_is.ascend
      (each_net volume.first volume.history volume.cut gathered below concern.members.items concern.nets.items sound legal member_spans is.concern_is.nets)
      node apart
      ((is.concern_is.nodes.each node).1 touches)

  -- so what is found is right, with the root apart
  right : FindsRight volume.first volume.history every_entry raised look (but_root found)
  right = record {
    named = λ node touches. (
      λ named. let one = (named_but_root found node).0 named in (named_there node one.0 touches).0 one.1,
      λ there. let apart : node ≢ 0 = λ same. root_unnamed (subst (IsNamedIn (rows_at_cut volume.first volume.history raised)) same there) in
          (named_but_root found node).1 (apart, (named_there node apart touches).1 there),
    );
    directory = sym (own_kind volume.first volume.history volume.cut start below from.is_file from.change is.file_is);
  }

  own_touches : Touches look start.0
  own_touches = member start.0 itself

  root_inode : volume.inodes 0 ≡ true
  root_inode = (is.ready.numbers.each 0).1 (0, is.ready.numbers.root)

  moved : AreMoved look (cuts_after below gathered concern) (but_root found) gets loses
  moved = moved_but_root look (cuts_after below gathered concern) found gets loses (λ touches. sees.same_inodes 0 touches ∙ root_inode) is.plans.moves.moved

  makes : MakesCommit volume.first volume.history every_entry volume.inodes look raised (cuts_after below gathered concern) gets loses
  makes = sees.makes raised (cuts_after below gathered concern) (but_root found) gets loses raises is.plans.moves.lifts right moved

  inodes_after : AreInodesAfter volume.first volume.history every_entry volume.cut volume.inodes flush raised after
  inodes_after =
      sets volume.first volume.history volume.cut raised volume.inodes look (cuts_after below gathered concern) (but_root found) gets loses sees.same_inodes
      sees.fits moved makes

  -- the tree at the raised cut is sound, and an image may stand for it
  more : AreFlushed volume.first volume.history every_entry (volume.flushes ++ flush ∷ []) raised after
  more = one_more volume.flushes flush volume.cut raised volume.inodes after is.ready.flushed raises inodes_after

  abbrev own_numbers : Numbering
  own_numbers node = cond (after node) (Some node) None

  numbered : NumbersInodes own_numbers after
  numbered = record { root = ap (λ b. cond b (Some 0) None) root_after; each = λ node. by node (after node) }
    where
      root_after : after 0 ≡ true
      root_after = elim (true_or_false (after 0)) [ inl some ↦ some | inr none ↦ absurd (((inodes_after.leaves 0 root_inode).0 none).1.no_root refl) ]

      by : (node : ℕ) (b : Bool) → (b ≡ true) ↔ ((i : ℕ) × (cond b (Some node) None ≡ Some i))
      by node true = ((λ _. (node, refl)), (λ _. refl))
      by node false = ((λ e. absurd (true_not_false (sym e))), (λ (i, has). absurd (none_some has)))

  stored_later : IsStorableAtCut own_numbers volume.first volume.history raised
  stored_later = cut_trees_are_storable volume.first volume.history (volume.flushes ++ flush ∷ []) raised after own_numbers is.ready.history_is more numbered

  stored_before : IsStorableAtCut volume.num volume.first volume.history volume.cut
  stored_before = cut_trees_are_storable volume.first volume.history volume.flushes volume.cut volume.inodes volume.num is.ready.history_is is.ready.flushed
      is.ready.numbers

  nets : HasNets before later concern.nets.items
  nets =
      nets_lead volume.first volume.history volume.cut gathered below concern.members.items concern.nets.items sound legal member_spans is.concern_is.nets
      is.concern_is.ascend
      stored_before.sound stored_later.sound same_kinds

  abbrev commit : CommitPlan
  commit = commit_made_of from is.plans

  -- the kinds of those that get an inode
  kinds : (one : Enter) → Contains is.plans.enter one → one.kind ≡ kind_of later one.node.0
  kinds one there =
      let listed = in_is_among (map enter_node is.plans.enter) one.node.0 (in_mapped enter_node is.plans.enter one there) in
      let touches = ((moved.enters one.node.0).0 listed).1 in
      of_all
      (λ (one : Enter). one.kind ≡ kind_entering start from.is_file (spans_in gathered below concern.members.items) one.node.0) is.plans.enter
      is.plans.moves.kinds one there
      ∙ entering_kind volume.first volume.history volume.cut volume.inodes gathered start below concern.members.items
      from.is_file sound legal is.orderly sees.spans is.concern_is.members.each (λ node gathers. (sees.fits.members node).0 gathers)
      (own_kind volume.first volume.history volume.cut start below from.is_file from.change is.file_is) one.node.0 touches
      ∙ sym ((cuts_keep_kinds volume.first volume.history raised).kinds one.node.0)

  moves : HasMoves later volume.inodes after commit
  moves = moves_are later volume.inodes after commit is.plans.moves.enter_ascends
      (λ node one. let enters = (moved.enters node).0 one in (sym (sees.same_inodes node enters.1) ∙ enters.0, gets_then volume.inodes gets loses node one))
      (λ node none has. sym (then_none volume.inodes gets loses node none) ∙ has)
      (lost_then volume.first volume.history volume.cut raised volume.inodes look (cuts_after below gathered concern) (but_root found) gets loses
      sees.same_inodes sees.fits moved makes)
      kinds

  -- a node whose stamp moves is the fsync's own or a directory, and a directory has no bytes
  directory_bytes : (node : ℕ) → is_directory last node ≡ true → bytes_of later node ≡ bytes_of before node
  directory_bytes node directory = stored_later.storable.limits.plain node (directory_later node ∙ directory)
      ∙ sym (stored_before.storable.limits.plain node (directory_before node ∙ directory))

  other_bytes : (node : ℕ) → node ≢ start.0 → bytes_of later node ≡ bytes_of before node
  other_bytes node apart = elim (raises.other node) [
    | inr same ↦ (same_stamps_keep volume.first volume.history volume.cut raised node same).bytes
    | inl own ↦ elim (members_are_directories volume.first volume.history every_entry volume.cut volume.inodes flush node sound legal own) [
      | inl same ↦ absurd (apart same)
      | inr directory ↦ directory_bytes node directory
    ]
  ]

  short : HasShortFiles later
  short node =
      subst (λ l. length l ≤ BLOCK_BYTES * FILE_BLOCKS) (sym (bytes_are_cut volume.first volume.history raised node sound legal))
      (files_stay_short volume.first volume.history is.ready.history_is is.short node (cut_of raised node))

  which : (node : ℕ) → (node ≡ start.0) ⊎ (node ≢ start.0)
  which node = elim (true_or_false (nat_eq node start.0)) [ inl same ↦ inl (eqb-true node start.0 same) | inr other ↦ inr (eqb-false node start.0 other) ]

  own_cut : cut_in gathered.cuts.items start.0 ≡ cut_of volume.cut start.0
  own_cut = sees.cuts start.0 own_touches

  own_stamp : cut_of raised start.0 ≡ max (cut_of volume.cut start.0) below.0
  own_stamp = raises.member start.0 Closure.itself

  -- the bytes of a late file stay, and so do all others
  late_bytes : below.0 < cut_of volume.cut start.0 → (node : ℕ) → bytes_of later node ≡ bytes_of before node
  late_bytes late node = elim (which node) [
    | inr apart ↦ other_bytes node apart
    | inl same ↦
        let stays : cut_of raised start.0 ≡ cut_of volume.cut start.0 = own_stamp ∙ max-eq_left {n = cut_of volume.cut start.0} {m = below.0} (omega arith) in
        subst (λ n. bytes_of later n ≡ bytes_of before n) (sym same) (same_stamps_keep volume.first volume.history volume.cut raised start.0 stays).bytes
  ]

  -- a node that neither has nor gets an inode has none afterwards
  no_inode_then : is_listed (map node_number gathered.inodes.items) start.0 ≡ false → gets start.0 ≡ false → has_inode_then commit start.0 ≡ true → ⊥
  no_inode_then has_none gets_none held =
      let among = by (is_among (map entry_node old) start.0) (not (node_leaves plan.leave.items start.0)) (gets start.0) gets_none held in
      let one = mapped_is_in entry_node old start.0 (among_is_in (map entry_node old) start.0 among) in
      let number = (is.keeps.each one.0 (is.old_is.own one.0 one.1).0).0 in
      let has = (is.ready.numbers.each start.0).1 (one.0.old.number, ap volume.num (sym one.2) ∙ number) in
      not_both (sees.same_inodes start.0 own_touches ∙ has) has_none
    where
      by : (among stays gets : Bool) → gets ≡ false → ((among && stays) || gets) ≡ true → among ≡ true
      by true stays gets none has = refl
      by false stays gets none has = absurd (not_both has none)

  abbrev written : Bool
  written = is_written gathered is.plans.enter start.0 below.0

  -- an own file that is not written and then has an inode is late
  pub unwritten_is_late : written ≡ false → has_inode_then commit start.0 ≡ true → below.0 < cut_of volume.cut start.0
  unwritten_is_late none held =
      elim (not_written (is_listed (map node_number gathered.inodes.items) start.0) (gets start.0) (cut_in gathered.cuts.items start.0) below.0 none) [
        | inl (has_none, gets_none) ↦ absurd (no_inode_then has_none gets_none held)
        | inr late ↦ subst (λ n. below.0 < n) own_cut late
      ]

  -- without a change of files, where the own file is not written
  unwritten : commit.files ≡ [] → written ≡ false → HasFiles nodes before later commit
  unwritten none unwritten_one = no_file_leads before later nodes commit short none (λ node held. elim (which node) [
    | inr apart ↦ other_bytes node apart
    | inl same ↦ late_bytes (unwritten_is_late unwritten_one (subst (λ n. has_inode_then commit n ≡ true) same held)) node
  ])

  -- an own file that is written is not late
  pub written_in_time : written ≡ true → cut_of volume.cut start.0 ≤ below.0
  written_in_time is_one =
      subst (λ n. n ≤ below.0) own_cut
      (leb-true (cut_in gathered.cuts.items start.0) below.0
      (and_second (is_listed (map node_number gathered.inodes.items) start.0 || gets start.0) (nat_le (cut_in gathered.cuts.items start.0) below.0) is_one))

  -- with the change of the own file, where it is written
  own_file : (one : FileChange) → commit.files ≡ one ∷ [] → written ≡ true → ChangesByFile volume.first volume.history volume.cut start below one
      → HasFiles nodes before later commit
  own_file one files_are is_one (f, at, changed) =
      let low = written_in_time is_one in
      own_file_leads before later nodes commit short start.0 one files_are (ap (λ (n : NodeId). n.0) changed.own)
      (subst (λ l. ChangesFile l (bytes_of later start.0) one) (sym (bytes_are_cut volume.first volume.history volume.cut start.0 sound legal))
      (subst (λ l. ChangesFile (bytes_at volume.first volume.history start.0 (cut_of volume.cut start.0)) l one)
      (sym
      (bytes_are_cut volume.first volume.history raised start.0 sound legal
      ∙ ap (bytes_at volume.first volume.history start.0) (own_stamp ∙ max-eq_right {n = cut_of volume.cut start.0} {m = below.0} low)))
      (marks_make_files volume.first volume.history start (cut_of volume.cut start.0) below.0 f one is.ready.history_is is.short low at changed)))
      other_bytes

  files : HasFiles nodes before later commit
  files = by from.is_file from.change refl is.file_is
    where
      by : (is_one : Bool) (o : Option FileChange) → from.change ≡ o → HasFileOf volume.first volume.history volume.cut start below is_one o → HasFiles nodes
          before later commit
      by false o e (directory, none) =
          no_file_leads before later nodes commit short (ap (files_written written) (e ∙ none) ∙ none_written written) (λ node _. elim (which node) [
            | inl same ↦ directory_bytes node (ap (is_directory last) same ∙ directory)
            | inr apart ↦ other_bytes node apart
          ])
      by true None e (_, late) =
          no_file_leads before later nodes commit short (ap (files_written written) e ∙ none_written written) (λ node _. late_bytes late node)
      by true (Some one) e (_, changes) = elim (true_or_false written) [
        | inl is_one ↦ own_file one (λ j. files_written (is_one j) (e j)) is_one changes
        | inr none ↦ unwritten (ap (λ b. files_written b from.change) none) none
      ]

  -- all of it
  leads : IsPlanAt volume.first volume.history volume.cut volume.inodes flush raised after nodes entries commit
  leads = record {
    concerns =
        λ node. (
          λ among. (sees.fits.concerned node).0 ((is.concern_is.nodes.each node).0 among),
          λ concerned. (is.concern_is.nodes.each node).1 ((sees.fits.concerned node).1 concerned),
        );
    old = is.old_is;
    nets = nets;
    moves = moves;
    files = files;
  }

  pub plan_leads : LeadsWith volume.first volume.history volume.cut volume.inodes from is.plans
  plan_leads = record {
    leads = record {
      raised = raised;
      after = after;
      commit = commit;
      raises = raises;
      inodes_after = inodes_after;
      made = is.plans.made;
      leads =
          subst (λ (l : List NodeId). IsPlanAt volume.first volume.history volume.cut volume.inodes flush raised after (map node_number l) entries commit)
          (sym is.plans.nodes) leads;
      names = is.concern_is.names;
    };
    commit_is = refl;
    finds = right;
    moved = moved;
  }

  -- Where the node is alive at the fsync's stamp and no cut is above that, it is not dead at the raised cut: a row there names it, or a naming is not flushed.
  module _ (live : HasLiveNode volume.first volume.history flush) (low : (node : ℕ) → cut_of volume.cut node ≤ below.0) (is_file : from.is_file ≡ true) where
    no_directory : is_directory last start.0 ≡ false
    no_directory = own_kind volume.first volume.history volume.cut start below from.is_file from.change is.file_is ∙ ap not is_file

    not_dead : IsDead volume.first volume.history every_entry raised start.0 → ⊥
    not_dead dead =
        elim (alive_named (tree_at volume.first volume.history below.0) start.0
        (subst (λ (t : TreeState). is_alive t start.0 ≡ true) (sym (tree_at-after volume.first volume.history below.0)) live)) [
          | inl root ↦ dead.no_root root
          | inr named ↦
              elim (named_or_open volume.first volume.history sound legal below.0 raised
              (raised_low volume.first volume.history every_entry volume.cut volume.inodes flush raised below.0 raises low (le_itself below.0)) start.0
              named) [
                | inl there ↦ dead.unnamed there
                | inr o ↦
                    let same : o.change.stamp ≡ o.stamp = stamp_of (tree_at volume.first volume.history o.stamp) o.stamp
                    (effect_at volume.first volume.history o.stamp) o.change o.made in
                    let flushed = dead.flushed o.change (change_in volume.first volume.history o.stamp o.change legal o.made) refl o.child in
                    let open_one = o.unflushed in
                    omega arith
              ]
        ]

    has_or_gets : (is_listed (map node_number gathered.inodes.items) start.0 || gets start.0) ≡ true
    has_or_gets = elim (files_settle volume.first volume.history volume.cut raised volume.inodes after flush sound legal raises inodes_after no_directory) [
      | inl has ↦
          held_by (is_listed (map node_number gathered.inodes.items) start.0) (volume.inodes start.0) (gets start.0) (loses start.0)
          (sees.same_inodes start.0 own_touches) has
      | inr dead ↦ absurd (not_dead dead)
    ]
      where
        held_by : (l i g o : Bool) → l ≡ i → ((i && not o) || g) ≡ true → (l || g) ≡ true
        held_by true i g o same has = refl
        held_by false false g o same has = has
        held_by false true g o same has = absurd (true_not_false (sym same))

    pub live_written : written ≡ true
    live_written =
        let timely : nat_le (cut_in gathered.cuts.items start.0) below.0 ≡ true =
        le-leb (cut_in gathered.cuts.items start.0) below.0 (subst (λ n. n ≤ below.0) (sym own_cut) (low start.0)) in
        λ j. has_or_gets j && timely j

pub plans_lead_to_cuts : PlansLeadToCuts
plans_lead_to_cuts = plan_leads

pub live_files_are_written : LiveFilesAreWritten
live_files_are_written = live_written
