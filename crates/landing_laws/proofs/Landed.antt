-- An fsync whose commit became durable may be told.
use Rattle.std.specs.FinMap.{get}
use Rattle.std.proofs.Common.{◌≡◌, ◌∙◌, ◌<◌, ℕ, Option, List, length, refl, None, Some, subst, sym, is_some, map, true, ap, get_or, inl, inr, Bool, not, nat_eq, eq-eqb, false, Contains}
use Rattle.std.proofs.lemmas.Bool.Decides.{eqb_tells}
use Rattle.sfs_base.specs.declared.numbers.NodeId.{NodeId}
use Rattle.sfs_base.specs.Listed.{is_listed}
use Rattle.sfs_base.proofs.BasicTruth.{not_both, not_true}
use Rattle.mem_files.specs.File.{File}
use Rattle.tree_laws.specs.Tree.{TreeState, is_directory}
use Rattle.tree_laws.specs.Laws.{IsSoundTree}
use Rattle.tree_laws.specs.NameRow.{node_number}
use Rattle.disk_nodes.specs.declared.old.OldEntry.{OldEntry}
use Rattle.cut_laws.specs.Rules.{IsOneOf}
use Rattle.cut_laws.proofs.Listed.{listed_one, to_map, one_at, from_map, to_filter}
use Rattle.cut_laws.proofs.RunFacts.{in_filter}
use Rattle.cut_laws.proofs.MemberKinds.{root_directory}
use Rattle.stamp_table.specs.Events.{calls_in}
use Rattle.mem_values.specs.Account.{Commitment}
use Rattle.mem_values.specs.Start.{FileState, FileHand}
use Rattle.mem_values.specs.Places.{node_count}
use Rattle.mem_values.proofs.Basics.{some_of}
use Rattle.home_laws.specs.Laws.{IsNodeOf}
use Rattle.note_laws.specs.Run.{TableRun, IsTableRun}
use Rattle.mem_calls.specs.Held.{pending_held}
use Rattle.fsync_values.specs.Renewing.{kept_of_node}
use Rattle.fsync_catch.specs.Catch.{IsCaught}
use Rattle.fsync_draft.specs.Drafting.{IsDraftOf}
use Rattle.landing_laws.specs.Made.{run_planned, IsOwnCopy, of_directory, of_file, IsPlannedSo, by_look, alone}
use Rattle.landing_laws.specs.Telling.{tree_seen, HasMembers, HasLanded}
use Rattle.landing_laws.specs.Written.{HoldsWhatItWrote}
use Rattle.landing_laws.specs.Landed.{LandedFsync, HasBecomeDurable, nodes_landed, commitment_of, done_of, directories_of, FsyncsHaveLanded}
use Rattle.landing_laws.proofs.Seen.{last_is_seen}
use Rattle.landing_laws.proofs.Kept.{left_made, root_stays}
use Rattle.landing_laws.proofs.Planned.{PlannedFacts, planned_facts}
use Rattle.landing_laws.proofs.Drafted.{making, made, listed_alone, file_alone}

module _ (t : FileState) (s : LandedFsync) (is : HasBecomeDurable t s) where
  abbrev hand : FileHand
  hand = s.planned.hand

  abbrev list : List NodeId
  list = nodes_landed s

  abbrev run : TableRun
  run = run_planned s.planned

  abbrev commit : Commitment
  commit = commitment_of s

  sound : IsSoundTree hand.view.first
  sound = subst IsSoundTree (sym is.work.first) is.table.sound

  disk : (node : ℕ) → is_some (s.planned.given node) ≡ is_some (get hand.view.first.nodes node)
  disk = subst (λ first. (node : ℕ) → is_some (s.planned.given node) ≡ is_some (get first.nodes node)) (sym is.work.first) is.disk

  facts : PlannedFacts s.planned
  facts = planned_facts s.planned is.planned sound disk

  -- what the core has seen is a run of the table
  pub table_run : IsTableRun run
  table_run = record { sound = sound; legal = facts.legal; lawful = facts.lawful; disk = disk }

  -- a node that is concerned is one of the tree
  pub node_there : (node : ℕ) → is_listed (map node_number list) node ≡ true → IsNodeOf (tree_seen hand) node
  node_there node listed = facts.there node listed

  -- each node of the list by its number
  each_listed : (k : ℕ) (d : NodeId) → k < length list → is_listed (map node_number list) (get_or list k d).0 ≡ true
  each_listed k d within =
      (listed_one (map node_number list) (get_or list k d).0).1 (to_map node_number list (get_or list k d) (one_at list k d (get_or list k d) within refl))

  -- the commit holds these nodes, and says of each what it wrote
  holds : HoldsWhatItWrote (tree_seen hand) s.planned.nodes list hand.held (done_of s) commit
  holds = record {
    places = is.planned.holds;
    ascend = is.planned.ascend;
    held = λ k d within.
        let node = get_or list k d in
        let one = facts.held node.0 (each_listed k d within) in
        some_of (pending_held s.planned.nodes hand.held node) one.0 one.1;
    within = is.planned.within;
    are_nodes = λ k d within. node_there (get_or list k d).0 (each_listed k d within);
    numbered = refl;
    wrote = refl;
  }

  -- the root keeps its inode
  root_look : IsCaught s.planned.given s.planned.nodes s.planned.fsync hand s.planned.caught
      → IsDraftOf s.planned.fsync s.planned.caught s.planned.file hand s.planned.drafted
      → is_listed (map node_number list) 0 ≡ true → is_some (kept_of_node s.after 0) ≡ true
  root_look caught drafted listed =
      let of_look = making s.planned is.planned caught drafted in
      let made_look = made s.planned is.planned caught drafted in
      ap (λ after. is_some (kept_of_node after 0)) is.after_is
      ∙ left_made run of_look made_look s.number s.grant 0 listed ∙ root_stays run of_look made_look s.number listed

  root_so : IsPlannedSo s.planned → is_listed (map node_number list) 0 ≡ true → is_some (kept_of_node s.after 0) ≡ true
  root_so (by_look caught drafted) listed = root_look caught drafted listed
  root_so (alone a) listed =
      absurd (not_both (root_directory hand.view.first (calls_in hand.view.seen) sound facts.legal)
      (subst (λ n. is_directory (tree_seen hand) n ≡ false) (sym (listed_alone s.planned is.planned a 0 listed)) (file_alone s.planned is.planned a)))

  root : is_listed (map node_number list) 0 ≡ true → is_some (kept_of_node s.after 0) ≡ true
  root = root_so is.planned.how

  -- the members, and the fsync's own node
  abbrev flushed : List NodeId
  flushed = s.planned.caught.concern.members.items

  abbrev own : NodeId
  own = s.planned.fsync.node

  -- a member is one of the nodes that are held
  pub member_held : (node : ℕ) → is_listed (map node_number flushed) node ≡ true → is_listed (map node_number list) node ≡ true
  member_held node listed = facts.members_held node listed

  -- the directories among the members, by whether the own node is a file
  abbrev directories : Option File → List NodeId
  directories file = directories_of file own flushed

  abbrev is_other : NodeId → Bool
  is_other node = not (nat_eq node.0 own.0)

  are_flushed : (file : Option File) (node : ℕ) → IsOneOf (map node_number (directories file)) node → is_listed (map node_number flushed) node ≡ true
  are_flushed None node one = (listed_one (map node_number flushed) node).1 one
  are_flushed (Some file) node one =
      let found = from_map node_number (directories (Some file)) node one in
      subst (λ n. is_listed (map node_number flushed) n ≡ true) found.2
      ((listed_one (map node_number flushed) found.0.0).1 (to_map node_number flushed found.0 (in_filter is_other flushed found.0 found.1).0))

  are_directories : (file : Option File) → IsOwnCopy run s.planned.fsync file → (node : ℕ) → IsOneOf (map node_number (directories file)) node
      → is_directory (tree_seen hand) node ≡ true
  are_directories None (of_directory kind) node one = elim (facts.kinds node (are_flushed None node one)) [
    | inl itself ↦ subst (λ n. is_directory (tree_seen hand) n ≡ true) (sym itself) kind
    | inr directory ↦ directory
  ]
  are_directories (Some file) (of_file copy kind same stamp) node one = elim (facts.kinds node (are_flushed (Some file) node one)) [
    | inl itself ↦
        let found = from_map node_number (directories (Some file)) node one in
        absurd (not_both (eq-eqb found.0.0 own.0 (found.2 ∙ itself)) (not_true (nat_eq found.0.0 own.0) (in_filter is_other flushed found.0 found.1).1))
    | inr directory ↦ directory
  ]

  all_directories : (file : Option File) → IsOwnCopy run s.planned.fsync file → (node : ℕ) → is_listed (map node_number flushed) node ≡ true
      → is_directory (tree_seen hand) node ≡ true → IsOneOf (map node_number (directories file)) node
  all_directories None copied node listed kind = (listed_one (map node_number flushed) node).0 listed
  all_directories (Some file) (of_file copy file_kind same stamp) node listed kind =
      let found = from_map node_number flushed node ((listed_one (map node_number flushed) node).0 listed) in
      subst (IsOneOf (map node_number (directories (Some file)))) found.2
      (to_map node_number (directories (Some file)) found.0 (to_filter is_other flushed found.0 found.1 (elim (eqb_tells found.0.0 own.0) [
        | inl itself ↦ absurd (not_both kind (subst (λ n. is_directory (tree_seen hand) n ≡ false) (sym itself.1 ∙ found.2) file_kind))
        | inr other ↦ ap not other.0
      ])))

  members : HasMembers hand list (done_of s) commit
  members = record {
    directories = are_directories s.planned.file is.planned.copied;
    flushed = are_flushed s.planned.file;
    held = λ node one. member_held node (are_flushed s.planned.file node one);
    all = all_directories s.planned.file is.planned.copied;
  }

  pub landed : HasLanded s.planned.given s.planned.nodes list hand (done_of s) commit
  landed = record {
    own = is.own;
    core_is = refl;
    stamp_is = refl;
    stamped = facts.stamped;
    fresh = is.fresh;
    counted = is.table.counted ∙ ap node_count (sym is.work.first);
    knows = is.work.knows;
    holds = holds;
    members = members;
    later = λ node value held. is.above node.0 value.last (last_is_seen s.planned.nodes list hand.held is.planned.holds node value held);
    cuts = facts.cuts;
    low = subst (λ (first : TreeState). (entry : OldEntry) → Contains s.after entry → entry.old.number < first.first) (sym is.work.first) is.low;
    root = root;
  }

pub fsyncs_have_landed : FsyncsHaveLanded
fsyncs_have_landed t s is = landed t s is
