-- The fsync of a file that has an inode brings its own plan.
-- a directory without rows in two trees has the same names in both
use Rattle.std.specs.FinMap.{same_map, FinMap}
use Rattle.std.specs.Cmp.Lexicographic.{nat_list_cmp_total}
use Rattle.std.proofs.Common.{◌≡◌, ◌∙◌, ◌∷◌, ◌≢◌, ◌↔◌, ◌++◌, ◌≤◌, ◌*◌, ◌<◌, ℕ, List, None, true, sym, [], inl, inr, max, refl, subst, ap, nat_eq, eqb-true, false, Option, Some, arith, Contains, length, zero, suc}
use Rattle.std.proofs.Math.Nat.{max-eq_left, max-eq_right}
use Rattle.sfs_base.specs.declared.numbers.NodeId.{NodeId}
use Rattle.sfs_base.proofs.BasicTruth.{false_not_true, not_both, true_or_false}
use Rattle.sfs_base.proofs.BasicNumbers.{same_number, not_same}
use Rattle.sfs_image.specs.Seen.{FILE_BLOCKS}
use Rattle.space_map.specs.Space.{GrantedNumbers}
use Rattle.tree_laws.specs.Tree.{TreeState, row_of, names_of, is_directory, is_directory_kind, bytes_of}
use Rattle.tree_laws.specs.Laws.{IsSoundTree}
use Rattle.tree_laws.specs.History.{IsLegal, tree_after}
use Rattle.tree_laws.specs.Sound.{IsSound}
use Rattle.tree_laws.specs.Order.{name_cmp}
use Rattle.tree_laws.specs.Changes.{bytes_at}
use Rattle.tree_laws.proofs.Joined.{name_cmp-IsAntisymmetric}
use Rattle.tree_laws.proofs.Names.{get-names_where}
use Rattle.tree_laws.proofs.Readings.{directory_by_kind}
use Rattle.absorb.specs.Net.{IsNet}
use Rattle.image_laws.specs.Stands.{BLOCK_BYTES}
use Rattle.image_laws.proofs.Elsewhere.{no_net}
use Rattle.disk_nodes.specs.declared.old.OldEntry.{OldEntry}
use Rattle.disk_change.specs.Directory.{is_among}
use Rattle.disk_change.specs.Nodes.{net_node}
use Rattle.disk_change.specs.declared.directory_net.DirectoryNet.{DirectoryNet}
use Rattle.disk_change.specs.declared.enter.Enter.{Enter}
use Rattle.disk_change.specs.declared.files.FileChange.{FileChange}
use Rattle.commit_laws.specs.CommitOfPlan.{CommitPlan}
use Rattle.cut_laws.specs.Closure.{Flush, IsRaised, every_entry, AreInodesAfter, IsConcerned, one_more}
use Rattle.cut_laws.specs.Laws.{KeepsAll}
use Rattle.cut_laws.specs.Cut.{Cut, cut_of, tree_at_cut}
use Rattle.cut_laws.specs.Rules.{IsOneOf}
use Rattle.cut_laws.proofs.Lists.{lists_keep}
use Rattle.cut_laws.proofs.RaisedCut.{raised_cut}
use Rattle.cut_laws.proofs.Listed.{listed_one}
use Rattle.cut_laws.proofs.CutNodes.{cuts_keep_kinds}
use Rattle.look_laws.specs.Beside.{IsOfTheWhole, IsLiftedBy}
use Rattle.look_laws.proofs.Knowing.{looks_know}
use Rattle.beside_laws.specs.Commits.{CoreCommit, observed_by}
use Rattle.beside_laws.specs.Progress.{Progress, IsLater}
use Rattle.beside_laws.specs.OwnFile.{own_commit, MayBeOpen}
use Rattle.beside_laws.proofs.Files.{own_files_may_be_open}
use Rattle.beside_laws.proofs.Raising.{raised_or}
use Rattle.raise_laws.proofs.Next.{same_stamps_keep}
use Rattle.flush_laws.specs.Volume.{Volume, OneFsync}
use Rattle.flush_laws.specs.Planned.{HasNets, HasMoves, HasFiles, HasOldEntries, IsPlanAt}
use Rattle.merge_laws.proofs.Blocks.{same_or_not}
use Rattle.space_laws.specs.Laws.{ServesAt, BringsNames}
use Rattle.space_laws.proofs.Holders.{same_entry}
use Rattle.space_laws.proofs.Filled.{plans_fill_slots}
use Rattle.mark_laws.specs.Changed.{HasShortFiles, ChangesFile}
use Rattle.mark_laws.proofs.Short.{files_stay_short}
use Rattle.mark_laws.proofs.Made.{marks_make_files}
use Rattle.plan_laws.proofs.Nets.{ascend_sorted}
use Rattle.plan_laws.proofs.Files.{bytes_are_cut, own_file_leads, no_file_leads}
use Rattle.turn_ties.specs.Plans.{Planning, ChangesOwnFile, HasTouchedPages, HasPlan}
use Rattle.turn_ties.proofs.OwnFiles.{own_files_are_touched}
use Rattle.book_laws.specs.Brings.{Brings}
use Rattle.book_laws.specs.Pairs.{run_with, IsOpenBeside}
use Rattle.reserve_laws.specs.OwnFile.{OwnMaking, MakesOwnFile, own_plan, ChangesOwn, in_time, too_late, bringing_own, own_pair, OwnFilesBring, OwnFilesOpen}

none_named : (old new : TreeState) (node : ℕ) → ((name : List ℕ) → row_of old node name ≡ None) → ((name : List ℕ) → row_of new node name ≡ None)
    → names_of node new.rows ≡ names_of node old.rows
none_named old new node none then =
    same_map nat_list_cmp_total name_cmp-IsAntisymmetric _ _ (λ name.
    get-names_where node (λ _. true) new.rows name ∙ then name ∙ sym (none name) ∙ sym (get-names_where node (λ _. true) old.rows name))

module _ (volume : Volume) (done : List CoreCommit) (own : OwnMaking) (is : MakesOwnFile volume done own) where
  abbrev flush : Flush
  flush = own.flush

  abbrev node : ℕ
  node = own.flush.node

  abbrev run : Progress
  run = run_with volume done

  abbrev commit : CoreCommit
  commit = own_commit run flush own.numbers

  abbrev plan : CommitPlan
  plan = own_plan own.entry own.files

  sound : IsSoundTree volume.first
  sound = is.stands.between.history_is.sound

  legal : IsLegal volume.first volume.history
  legal = is.stands.between.history_is.legal

  pub open_own : MayBeOpen run commit
  open_own = own_files_may_be_open run flush own.numbers (record { sound = sound; legal = legal }) is.standing is.is_own

  keeps_all : KeepsAll volume.first volume.history volume.cut volume.inodes
  keeps_all = lists_keep volume.first volume.history volume.flushes volume.cut volume.inodes sound legal is.stands.between.flushed

  is_whole : IsOfTheWhole (observed_by volume.first volume.history commit) volume.cut volume.inodes
  is_whole =
      looks_know (observed_by volume.first volume.history commit) volume.cut volume.inodes sound legal
      (λ other touches named. keeps_all.named other named) open_own.knows

  -- it raises the file's cut alone
  abbrev raised : Cut
  raised = raised_cut volume.cut (node ∷ []) flush.stamp

  alone : (other : ℕ) → IsOneOf (node ∷ []) other → node ≡ other
  alone other (inl same) = same
  alone other (inr none) = absurd none

  stays : (other : ℕ) → other ≢ node → cut_of raised other ≡ cut_of volume.cut other
  stays other apart = elim (raised_or volume.cut (node ∷ []) flush.stamp other) [
    | inl one ↦ absurd (apart (sym (alone other one.0)))
    | inr none ↦ none.1
  ]

  own_stamp : cut_of raised node ≡ max (cut_of volume.cut node) flush.stamp
  own_stamp = elim (raised_or volume.cut (node ∷ []) flush.stamp node) [
    | inl one ↦ one.1
    | inr none ↦ absurd (none.0 (inl refl))
  ]

  lifted_by : IsLiftedBy commit.look volume.cut raised
  lifted_by = record {
    gathered = λ other gathers.
        let same = alone other ((open_own.made.members other).1 gathers) in
        subst (λ (n : ℕ). cut_of raised n ≡ max (cut_of volume.cut n) flush.stamp) same own_stamp;
    others = λ other. elim (raised_or volume.cut (node ∷ []) flush.stamp other) [
      | inl one ↦ inl ((open_own.made.members other).0 one.0)
      | inr none ↦ inr none.1
    ];
  }

  raises : IsRaised volume.first volume.history every_entry volume.cut volume.inodes flush raised
  raises = is_whole.raises raised lifted_by

  -- and no node gets or loses an inode
  inodes_stay : AreInodesAfter volume.first volume.history every_entry volume.cut volume.inodes flush raised volume.inodes
  inodes_stay =
      is_whole.moves raised commit.makes volume.inodes raises open_own.made.makes
      (open_own.finds done volume.cut volume.inodes is.standing open_own.knows raised raises)
      (record { got = λ other gets. absurd (false_not_true gets); lost = λ other loses. absurd (false_not_true loses); same = λ other _ _. refl })

  concerns : (other : ℕ) → (is_among (node ∷ []) other ≡ true)
      ↔ IsConcerned volume.first volume.history every_entry volume.cut volume.inodes flush other
  concerns other = (
    (λ among.
        let same = alone other ((listed_one (node ∷ []) other).0 among) in
        (is_whole.fits.concerned other).0
        ((open_own.made.holds other).0 (ap (λ (n : ℕ). nat_eq n node) (sym same) ∙ same_number node))),
    (λ concerned.
        (listed_one (node ∷ []) other).1
        (inl (sym (eqb-true other node ((open_own.made.holds other).1 ((is_whole.fits.concerned other).1 concerned)))))),
  )

  abbrev old : TreeState
  old = tree_at_cut volume.first volume.history volume.cut

  abbrev new : TreeState
  new = tree_at_cut volume.first volume.history raised

  new_keeps : KeepsAll volume.first volume.history raised volume.inodes
  new_keeps =
      lists_keep volume.first volume.history (volume.flushes ++ flush ∷ []) raised volume.inodes sound legal
      (one_more volume.flushes flush volume.cut raised volume.inodes volume.inodes is.stands.between.flushed raises inodes_stay)

  -- the node is a file at each cut
  file_at : (cut : Cut) → is_directory (tree_at_cut volume.first volume.history cut) node ≡ false
  file_at cut =
      directory_by_kind (tree_at_cut volume.first volume.history cut) node ∙ ap is_directory_kind ((cuts_keep_kinds volume.first volume.history cut).kinds node)
      ∙ sym (directory_by_kind (tree_after volume.first volume.history) node) ∙ is.is_own.file

  no_row : (tree : TreeState) → IsSound tree → is_directory tree node ≡ false → (name : List ℕ) → row_of tree node name ≡ None
  no_row tree is_sound file name = by (row_of tree node name) refl
    where
      by : (o : Option ℕ) → row_of tree node name ≡ o → o ≡ None
      by None e = refl
      by (Some child) e = absurd (not_both (is_sound.holds node name child e).0 file)

  rows_same : (directory : ℕ) → names_of directory new.rows ≡ names_of directory old.rows
  rows_same directory = elim (same_or_not directory node) [
    | inl same ↦
        subst (λ (n : ℕ). names_of n new.rows ≡ names_of n old.rows) (sym same)
        (none_named old new node (no_row old keeps_all.sound (file_at volume.cut)) (no_row new new_keeps.sound (file_at raised)))
    | inr apart ↦ (same_stamps_keep volume.first volume.history volume.cut raised directory (stays directory apart)).rows
  ]

  nets : HasNets old new plan.nets
  nets = record {
    ascend = λ i j d lt within. absurd (omega (arith, within));
    sorted = ascend_sorted net_node [] (λ i j d lt within. absurd (omega (arith, within)));
    each = λ directory.
        subst (λ (rows : FinMap name_cmp ℕ). IsNet (names_of directory old.rows) rows []) (sym (rows_same directory))
        (no_net (names_of directory old.rows));
    holders = λ one there. absurd (none_in one there);
  }
    where
      none_in : (one : DirectoryNet) → Contains [] one → ⊥
      none_in one (k, within, same) = omega (arith, within)

  moves : HasMoves new volume.inodes volume.inodes plan
  moves = record {
    ascend = λ i j d lt within. absurd (omega (arith, within));
    entering = λ one there. absurd (none_in one there);
    all_entering = λ other none has. absurd (not_both has none);
    leaving = λ other. ((λ leaves. absurd (false_not_true leaves)), (λ both. absurd (not_both both.0 both.1)));
  }
    where
      none_in : (one : Enter) → Contains [] one → ⊥
      none_in one (k, within, same) = omega (arith, within)

  short : HasShortFiles new
  short other =
      subst (λ (bytes : List ℕ). length bytes ≤ BLOCK_BYTES * FILE_BLOCKS) (sym (bytes_are_cut volume.first volume.history raised other sound legal))
      (files_stay_short volume.first volume.history is.stands.between.history_is is.short other (cut_of raised other))

  other_bytes : (other : ℕ) → other ≢ node → bytes_of new other ≡ bytes_of old other
  other_bytes other apart = (same_stamps_keep volume.first volume.history volume.cut raised other (stays other apart)).bytes

  -- the stamp of a file of which something later was flushed stays
  late_stays : flush.stamp < cut_of volume.cut node → cut_of raised node ≡ cut_of volume.cut node
  late_stays late = own_stamp ∙ max-eq_left {n = cut_of volume.cut node} {m = flush.stamp} (omega (arith, late))

  files_by : (files : List FileChange) → ChangesOwn volume flush files → HasFiles (node ∷ []) old new (own_plan own.entry files)
  files_by _ (in_time file change low at changed) =
      own_file_leads old new (node ∷ []) (own_plan own.entry (change ∷ [])) short node change refl (ap (λ (n : NodeId). n.0) changed.own)
      (subst (λ (bytes : List ℕ). ChangesFile bytes (bytes_of new node) change) (sym (bytes_are_cut volume.first volume.history volume.cut node sound legal))
      (subst (λ (bytes : List ℕ). ChangesFile (bytes_at volume.first volume.history node (cut_of volume.cut node)) bytes change)
      (sym
      (bytes_are_cut volume.first volume.history raised node sound legal
      ∙ ap (bytes_at volume.first volume.history node) (own_stamp ∙ max-eq_right {n = cut_of volume.cut node} {m = flush.stamp} low)))
      (marks_make_files volume.first volume.history (record { 0 = node }) (cut_of volume.cut node) flush.stamp file change is.stands.between.history_is is.short
      low at changed)))
      other_bytes
  files_by _ (too_late late) = no_file_leads old new (node ∷ []) (own_plan own.entry []) short refl (λ other held. elim (same_or_not other node) [
    | inl same ↦
        subst (λ (n : ℕ). bytes_of new n ≡ bytes_of old n) (sym same)
        (same_stamps_keep volume.first volume.history volume.cut raised node (late_stays late)).bytes
    | inr apart ↦ other_bytes other apart
  ])

  only_entry : (entry : OldEntry) → Contains (own.entry ∷ []) entry → own.entry ≡ entry
  only_entry entry (zero, within, same) = same
  only_entry entry (suc k, within, same) = absurd (omega (arith, within))

  old_entries : HasOldEntries (node ∷ []) is.entry_is.entries plan.old
  old_entries = record {
    ascend = λ i j d lt within. absurd (omega (arith, lt, within));
    own = λ entry there.
        let same = only_entry entry there in (
          subst (Contains is.entry_is.entries) same is.entry_is.there,
          ap (λ (e : OldEntry). is_among (node ∷ []) e.node.0) (sym same) ∙ (listed_one (node ∷ []) own.entry.node.0).1 (inl (sym is.entry_is.own)),
        );
    all = λ entry there among.
        let same = alone entry.node.0 ((listed_one (node ∷ []) entry.node.0).0 among) in (
          0,
          omega arith,
          same_entry volume is.entry_is.entries is.stands.between is.entry_is.keeps own.entry entry is.entry_is.there there (is.entry_is.own ∙ same),
        );
  }

  plans : IsPlanAt volume.first volume.history volume.cut volume.inodes flush raised volume.inodes (node ∷ []) is.entry_is.entries plan
  plans = record { concerns = concerns; old = old_entries; nets = nets; moves = moves; files = files_by own.files is.changes }

  abbrev pub planning : Planning
  planning = record {
    flush = flush;
    raised = raised;
    after = volume.inodes;
    nodes = node ∷ [];
    entries = is.entry_is.entries;
    plan = plan;
  }

  changes_own : (files : List FileChange) → ChangesOwn volume flush files → ChangesOwnFile volume (record planning { plan = own_plan own.entry files })
  changes_own _ (in_time file change low at changed) = ChangesOwnFile.own_file file change refl at changed low
  changes_own _ (too_late late) = ChangesOwnFile.unwritten is.is_own.file refl (λ held. late_stays late)

  -- it has its plan, which touches what it has to
  pub has_plan : HasPlan volume planning
  has_plan = record { stands = is.stands; keeps = is.entry_is.keeps; raises = raises; inodes_after = inodes_stay; plans = plans }

  pub touched : HasTouchedPages volume planning
  touched =
      own_files_are_touched volume planning has_plan (changes_own own.files is.changes)

  own_files : (files : List FileChange) → ChangesOwn volume flush files → (change : FileChange) → Contains files change
      → is_among (node ∷ []) change.node.0 ≡ true
  own_files _ (in_time file one low at changed) change (zero, within, same) =
      ap (λ (c : FileChange). is_among (node ∷ []) c.node.0) (sym same)
      ∙ (listed_one (node ∷ []) one.node.0).1 (inl (sym (ap (λ (n : NodeId). n.0) changed.own)))
  own_files _ (in_time file one low at changed) change (suc k, within, same) = absurd (omega (arith, within))
  own_files _ (too_late late) change (k, within, same) = absurd (omega (arith, within))

  module _ (grant : GrantedNumbers) (serves : ServesAt volume.layout volume.parts plan grant) where
    abbrev one : OneFsync
    one = record {
      flush = flush;
      raised = raised;
      after = volume.inodes;
      nodes = node ∷ [];
      entries = is.entry_is.entries;
      plan = plan;
      grant = grant;
    }

    pub brings_own : Brings volume (bringing_own volume flush own.entry own.files grant)
    brings_own = record {
      raised = raised;
      after = volume.inodes;
      entries = is.entry_is.entries;
      planned = record {
        ready = is.stands.between;
        keeps = is.entry_is.keeps;
        raises = raises;
        inodes_after = inodes_stay;
        plans = plans;
        grants = record {
          serves = serves.serves;
          lies = serves.lies;
          slots = plans_fill_slots volume one is.stands.between is.entry_is.keeps plans no_names serves.serves;
        };
      };
      comes = record { low = is.low; live = is.is_own.live };
      files = own_files own.files is.changes;
      touched = touched;
      parts = refl;
    }
      where
        no_names : BringsNames []
        no_names net (k, within, same) row there = absurd (omega (arith, within))

    pub opens_own : IsLater done commit → IsOpenBeside volume done (own_pair volume done own grant)
    opens_own later = record {
      flush = refl;
      nodes = nodes_same;
      made = open_own.made;
      knows = open_own.knows;
      finds = open_own.finds;
      later = later;
      brings = brings_own;
    }
      where
        nodes_same : (other : ℕ) → is_among (node ∷ []) other ≡ commit.holds other
        nodes_same other = elim (same_or_not other node) [
          | inl same ↦
              ap (is_among (node ∷ [])) same ∙ (listed_one (node ∷ []) node).1 (inl refl) ∙ sym (same_number node) ∙ ap (λ (n : ℕ). nat_eq n node) (sym same)
          | inr apart ↦ elim (true_or_false (is_among (node ∷ []) other)) [
            | inl there ↦ absurd (apart (sym (alone other ((listed_one (node ∷ []) other).0 there))))
            | inr none ↦ none ∙ sym (not_same other node apart)
          ]
        ]

pub own_files_bring : OwnFilesBring
own_files_bring volume done own grant is serves = brings_own volume done own is grant serves

pub own_files_open : OwnFilesOpen
own_files_open volume done own grant is serves later = opens_own volume done own is grant serves later
