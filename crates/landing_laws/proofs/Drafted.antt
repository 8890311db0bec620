-- What an fsync planned is what its core made.
use Rattle.std.specs.Prelude.{if◌then◌else◌, is_some}
use Rattle.std.specs.List.Sorted.{IsStrictlyIncreasing}
use Rattle.std.specs.List.{cons_option}
use Rattle.std.proofs.Common.{◌≡◌, ◌∙◌, ◌∷◌, ℕ, true, false, List, length, map, Option, Some, None, refl, sym, ap, subst, [], option_map, append-nil, inl, inr}
use Rattle.sfs_base.specs.declared.numbers.NodeId.{NodeId}
use Rattle.sfs_base.specs.Listed.{is_listed}
use Rattle.sfs_base.proofs.BasicOptions.{none_some, some_same}
use Rattle.mem_files.specs.File.{File}
use Rattle.tree_laws.specs.NameRow.{node_number}
use Rattle.tree_laws.specs.Tree.{is_directory}
use Rattle.tree_laws.specs.History.{tree_after}
use Rattle.disk_nodes.specs.OldKept.{OldKept}
use Rattle.disk_change.specs.AllBuilt.{entry_keyed}
use Rattle.disk_change.specs.declared.files.FileChange.{FileChange}
use Rattle.cut_laws.proofs.Listed.{listed_one}
use Rattle.flush_plan.specs.Plan.{IsPlanOf}
use Rattle.flush_plan.specs.Touched.{IsFileChange}
use Rattle.stamp_table.specs.Events.{calls_in}
use Rattle.stamp_table.specs.Table.{values_in}
use Rattle.stamp_table.specs.declared.held.HeldCell.{HeldCell}
use Rattle.stamp_table.specs.Hand.{places_of}
use Rattle.mem_values.specs.declared.cell.Pending.{Pending}
use Rattle.mem_values.specs.declared.cell.Cell.{Cell}
use Rattle.note_laws.specs.Joined.{CopiedFile}
use Rattle.note_laws.specs.Run.{calls_of}
use Rattle.made_laws.specs.Made.{CoreMade, CoreMaking, HasMadeFile, HasSeenOld, cut_gathered, directory, in_copy, is_concerned, old_of, OwnFileMaking, OwnFileChanges, OwnFileMade, OwnMade, MadeEitherWay}
use Rattle.mem_calls.specs.Held.{pending_held}
use Rattle.fsync_values.specs.Lending.{entries_of}
use Rattle.fsync_values.proofs.Renewed.{entries_ascend}
use Rattle.fsync_look.specs.Look.{flushed_place}
use Rattle.fsync_catch.specs.Catch.{saw_of, IsCaught}
use Rattle.fsync_draft.specs.Drafting.{IsDraftedFile, IsDraftOf, IsDraftedAlone}
use Rattle.catch_laws.specs.Laws.{Further, IsGatheredFor, making_of}
use Rattle.catch_laws.proofs.Caught.{caught_are_gathered}
use Rattle.landing_laws.specs.Made.{DraftsAreMade, IsDraftedFsync, IsOwnCopy, MakesPlanned, PlannedFsync, of_directory, of_file, run_planned, IsPlannedAlone, IsPlannedSo, by_look, alone}
use Rattle.landing_laws.proofs.Entries.{seen_is_taken, taken_is_seen, old_same}
use Rattle.landing_laws.proofs.HeldNodes.{first_held}

module _ (s : PlannedFsync) (is : IsDraftedFsync s) (caught : IsCaught s.given s.nodes s.fsync s.hand s.caught)
    (drafted : IsDraftOf s.fsync s.caught s.file s.hand s.drafted) where
  abbrev list : List NodeId
  list = s.caught.concern.nodes.items

  abbrev pub further : Further
  further = record {
    old = entries_of list (values_in s.hand.held);
    is_file = is_some s.file;
    change = drafted.change;
    plan = s.drafted.draft.plan;
  }

  abbrev pub g : IsGatheredFor s.given s.nodes s.fsync s.hand s.caught further
  g = caught_are_gathered s.given s.nodes s.fsync s.hand s.caught further is.root is.some_core caught

  abbrev pub making : CoreMaking
  making = making_of g.noted s.caught further

  -- what the core saw of a node that is concerned is what it holds of it
  saw_held : (node : ℕ) → is_concerned making node ≡ true → making.noted.pending node ≡ pending_held s.nodes s.hand.held (record { 0 = node })
  saw_held node concerned =
      ap (λ (f : ℕ → Option Pending). f node) g.saw
      ∙ ap (λ b. if b then pending_held s.nodes s.hand.held (record { 0 = node }) else None) concerned

  up : IsStrictlyIncreasing (map node_number list)
  up = caught.look.concern_is.nodes.ascending

  has_seen_old : HasSeenOld making
  has_seen_old = record {
    ascend = entries_ascend list (values_in s.hand.held) up;
    each = λ node kept. (
      λ has. let t = taken_is_seen s.nodes list s.hand.held caught.holds up node kept has in (t.0, ap old_of (saw_held node t.0) ∙ t.1),
      λ sees.
          seen_is_taken s.nodes list s.hand.held caught.holds up node kept (sees.0, ap old_of (sym (saw_held node sees.0)) ∙ sees.1),
    );
  }

  -- the change of a file is made from its copy
  made_file : (file : Option File) (change : Option FileChange) → s.file ≡ file → drafted.change ≡ change → IsOwnCopy (run_planned s) s.fsync file
      → IsDraftedFile s.fsync.node s.caught.gathered file change → HasMadeFile (run_planned s) making
  made_file None change none is_change (of_directory kind) own =
      directory (subst (λ n. is_directory (tree_after (run_planned s).first (calls_of (run_planned s))) n ≡ true) (sym g.node_is) kind) (ap is_some none)
      (is_change ∙ own)
  made_file (Some file) change some is_change (of_file copy kind node stamp) own =
      in_copy own.0
      (subst (λ n. is_directory (tree_after (run_planned s).first (calls_of (run_planned s))) n ≡ false) (sym g.node_is) kind) (ap is_some some)
      (is_change ∙ own.2) (record {
        copied = copy;
        own = node ∙ sym g.node_is;
        drawn = stamp ∙ sym g.stamp_is;
        is = subst (λ n. IsFileChange (record { 0 = n }) (cut_gathered making n) copy.value.file own.0) (sym g.node_is) own.1;
      })

  plans : IsPlanOf (record { 0 = g.noted.node }) (record { 0 = g.noted.stamp })
      s.caught.gathered s.caught.concern further.old further.is_file further.change further.plan
  plans =
      subst (λ n. IsPlanOf (record { 0 = n }) (record { 0 = g.noted.stamp })
      s.caught.gathered s.caught.concern further.old further.is_file further.change further.plan)
      (sym g.node_is)
      (subst (λ n. IsPlanOf s.fsync.node (record { 0 = n }) s.caught.gathered s.caught.concern further.old further.is_file further.change further.plan)
      (sym g.stamp_is) drafted.planned)

  pub made : CoreMade (run_planned s) making
  made = record {
    some_core = is.some_core;
    notes = g.notes;
    gathers = g.gathers;
    concern_is = g.concern_is;
    old_is = has_seen_old;
    file_is = made_file s.file drafted.change refl refl is.copied drafted.change_is;
    plans = plans;
  }

  pub look_makes : MakesPlanned s
  look_makes = record {
    making = making;
    made = MadeEitherWay.of_notes made;
    core_is = g.core_is;
    node_is = g.node_is;
    stamp_is = g.stamp_is;
    gathered_is = refl;
    concern_is = refl;
    old_is = refl;
    plan_is = refl;
    saw = g.saw;
  }

-- what the disk has of a node whose value alone is held
own_entries : (nodes : ℕ) (node : NodeId) (cells : List (HeldCell Cell)) (value : Pending) (kept : OldKept) → places_of cells ≡ flushed_place nodes node ∷ []
    → pending_held nodes cells node ≡ Some value → value.old ≡ Some kept → entries_of (node ∷ []) (values_in cells) ≡ entry_keyed (node.0, kept) ∷ []
own_entries nodes node [] value kept places held has = absurd (cc places)
own_entries nodes node (c ∷ []) value kept places held has =
    let place : c.place ≡ flushed_place nodes node = cc places in
    ap (λ o. cons_option (option_map (λ old. record { node = node; old = old }) o) [])
    (old_same c.value ∙ ap old_of (sym (first_held nodes c [] node place) ∙ held) ∙ has)
own_entries nodes node (c ∷ d ∷ cells) value kept places held has = absurd (cc places)

-- The copy of a file.
record HasCopy (s : PlannedFsync) (file : File) : Type 0 where
  copy : CopiedFile (run_planned s)
  kind : is_directory (tree_after (run_planned s).first (calls_of (run_planned s))) s.fsync.node.0 ≡ false
  node : copy.node ≡ s.fsync.node.0
  stamp : length (calls_in copy.at) ≡ s.fsync.stamp.0
  file_is : copy.value.file ≡ file

module _ (s : PlannedFsync) (is : IsDraftedFsync s) (a : IsPlannedAlone s) where
  has_copy : HasCopy s a.file
  has_copy = by s.file is.copied a.file_is
    where
      by : (o : Option File) → IsOwnCopy (run_planned s) s.fsync o → o ≡ Some a.file → HasCopy s a.file
      by None copied none = absurd (none_some none)
      by (Some file) (of_file copy kind node stamp) some =
          record { copy = copy; kind = kind; node = node; stamp = stamp; file_is = some_same some }

  pub file_alone : is_directory (tree_after (run_planned s).first (calls_of (run_planned s))) s.fsync.node.0 ≡ false
  file_alone = has_copy.kind

  abbrev own_with : List FileChange → OwnFileMaking
  own_with files = record {
    core = s.hand.view.core;
    node = s.fsync.node.0;
    stamp = s.fsync.stamp.0;
    value = a.value;
    kept = a.kept;
    files = files;
  }

  changes : (files : List FileChange) → IsDraftedAlone s.fsync a.value.cut a.file files → OwnFileChanges (run_planned s) (own_with files)
  changes [] late = OwnFileChanges.too_late refl late
  changes (change ∷ []) both = OwnFileChanges.in_copy change refl both.0 (record {
    copied = has_copy.copy;
    own = has_copy.node;
    drawn = has_copy.stamp;
    is = subst (λ (f : File). IsFileChange s.fsync.node a.value.cut.0 f change) (sym has_copy.file_is) both.1;
  })
  changes (change ∷ other ∷ files) never = absurd never

  own_made : OwnFileMade (run_planned s) (own_with a.files)
  own_made = record {
    at = s.hand.view.seen;
    rest = [];
    whole = append-nil s.hand.view.seen;
    stamped = a.stamped;
    stands = a.stands;
    is_file = file_alone;
    has = a.has;
    changes = changes a.files a.files_are;
  }

  abbrev making_alone : CoreMaking
  making_alone = record {
    noted = record {
      core = s.hand.view.core;
      node = s.fsync.node.0;
      stamp = s.fsync.stamp.0;
      pending = saw_of s.nodes s.caught.concern.nodes.items s.hand;
      parts = [];
      notes = λ part. record { at = []; mark = λ directory. 0 };
    };
    gathered = s.caught.gathered;
    concern = s.caught.concern;
    old = entries_of s.caught.concern.nodes.items (values_in s.hand.held);
    is_file = true;
    change = None;
    plan = s.drafted.draft.plan;
  }

  pub listed_alone : (node : ℕ) → is_listed (map node_number s.caught.concern.nodes.items) node ≡ true → node ≡ s.fsync.node.0
  listed_alone node listed =
      elim ((listed_one (map node_number (s.fsync.node ∷ [])) node).0
      (subst (λ (l : List NodeId). is_listed (map node_number l) node ≡ true) a.concerns listed)) [
        | inl same ↦ sym same
        | inr none ↦ absurd none
      ]

  own_listed : is_listed (map node_number s.caught.concern.nodes.items) s.fsync.node.0 ≡ true
  own_listed =
      subst (λ (l : List NodeId). is_listed (map node_number l) s.fsync.node.0 ≡ true) (sym a.concerns)
      ((listed_one (map node_number (s.fsync.node ∷ [])) s.fsync.node.0).1 (inl refl))

  made_alone : OwnMade (run_planned s) making_alone
  made_alone = record {
    own = own_with a.files;
    made = own_made;
    core_is = refl;
    flush_is = refl;
    no_parts = refl;
    concerns = a.concerns;
    members_are = a.members_are;
    saw = ap (λ b. if b then pending_held s.nodes s.hand.held s.fsync.node else None) own_listed ∙ a.held;
    old_is = ap (λ (l : List NodeId). entries_of l (values_in s.hand.held)) a.concerns
        ∙ own_entries s.nodes s.fsync.node s.hand.held a.value a.kept (is.holds ∙ ap (map (flushed_place s.nodes)) a.concerns) a.held a.has;
    change_is = a.change_is;
  }

  pub alone_makes : MakesPlanned s
  alone_makes = record {
    making = making_alone;
    made = MadeEitherWay.of_file made_alone;
    core_is = refl;
    node_is = refl;
    stamp_is = refl;
    gathered_is = refl;
    concern_is = refl;
    old_is = refl;
    plan_is = refl;
    saw = refl;
  }

-- the value of each node that is concerned is held
pub held_of_listed : (s : PlannedFsync) (is : IsDraftedFsync s) → IsPlannedSo s → (node : ℕ)
    → is_listed (map node_number s.caught.concern.nodes.items) node ≡ true
    → (value : Pending) × (pending_held s.nodes s.hand.held (record { 0 = node }) ≡ Some value)
held_of_listed s is (by_look caught drafted) node listed = let one = caught.look.gathers.each node listed in (one.value, one.held)
held_of_listed s is (alone a) node listed =
    let number = listed_alone s is a node listed in
    let node_is : s.fsync.node ≡ record { 0 = node } = λ i. record { 0 = sym number i } in
    (a.value, ap (pending_held s.nodes s.hand.held) (sym node_is) ∙ a.held)

-- in whichever way
pub makes_so : (s : PlannedFsync) → IsDraftedFsync s → IsPlannedSo s → MakesPlanned s
makes_so s is (by_look caught drafted) = look_makes s is caught drafted
makes_so s is (alone a) = alone_makes s is a

pub drafts_are_made : DraftsAreMade
drafts_are_made s is = makes_so s is is.how
