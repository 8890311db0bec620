-- An fsync that was caught and planned.
use Rattle.std.specs.FinMap.{get}
use Rattle.std.specs.Prelude.{IfOk, MatchOption}
use Rattle.std.proofs.Common.{◌≡◌, ◌<◌, ◌≤◌, ◌-◌, ◌^◌, ◌∙◌, ◌∷◌, if◌then◌else◌, ℕ, true, length, Option, Some, None, Result, Ok, Err, IsSome, is_some, inl, inr, refl, sym, ap, subst, arith, [], not}
use Rattle.std.proofs.lemmas.List.{length-map}
use Rattle.sfs_base.specs.declared.fault.NoMemory.{NoMemory}
use Rattle.sfs_base.specs.declared.numbers.NodeId.{NodeId}
use Rattle.sfs_base.specs.declared.numbers.Stamp.{Stamp}
use Rattle.mem_files.specs.File.{File}
use Rattle.tree_laws.specs.Laws.{IsSoundTree}
use Rattle.tree_laws.specs.Tree.{TreeState, is_alive, is_directory}
use Rattle.tree_laws.specs.History.{tree_after, IsLegal}
use Rattle.tree_laws.proofs.KeepsNodes.{directory_node}
use Rattle.tree_laws.proofs.RowFacts.{alive_named}
use Rattle.disk_change.specs.Planned.{Planned}
use Rattle.stamp_table.specs.Events.{calls_in}
use Rattle.mem_values.specs.Start.{FileHand, FileState, given_by}
use Rattle.mem_values.proofs.Moves.{sound_after}
use Rattle.mem_values.proofs.Telling.{later_node}
use Rattle.mem_values.proofs.Basics.{is_value}
use Rattle.note_laws.proofs.Along.{legal_begin}
use Rattle.disk_box.specs.Pens.{PenHand}
use Rattle.mem_calls.specs.Table.{IsFileTable}
use Rattle.mem_calls.specs.Working.{IsWorking}
use Rattle.fsync_stamp.specs.Copying.{IsCopied}
use Rattle.fsync_look.specs.Look.{flushed_place}
use Rattle.fsync_catch.specs.Catch.{IsCaughtAlone, LacksAlone, LetsAllGo, run_seen}
use Rattle.fsync_catch.specs.declared.looking.Caught.{Caught}
use Rattle.fsync_catch.proofs.Going.{goes_none, one_below, one_rises}
use Rattle.fsync_draft.specs.Drafting.{IsDraftOf, IsHollow, IsOwnDraftOf, IsDraftedAlone}
use Rattle.landing_laws.specs.Made.{IsOwnCopy, IsDraftedFsync, PlannedFsync, of_directory, of_file, IsLentPlan, by_look, IsPlannedAlone, alone}
use Rattle.landing_laws.specs.Landed.{directories_of}
use Rattle.fsync_dir.specs.Attempt.{HasCaught, HasDrafted, attempt_at, HoldsFileAlone, HoldsWaiting, HasHeldAlone}
use Rattle.fsync_dir.specs.Flush.{WasCopied, copy_of}
use Rattle.fsync_dir.specs.declared.attempt.OwnFsync.{OwnFsync}
use Rattle.fsync_dir.specs.declared.attempt.PlannedCommit.{PlannedCommit}
use Rattle.sfs_base.proofs.BasicNumbers.{same_number}

-- a node that is alive is one of the tree
alive_node : (tree : TreeState) → IsSoundTree tree → (node : ℕ) → is_alive tree node ≡ true → IsSome (get tree.nodes node)
alive_node tree sound node alive = elim (alive_named tree node alive) [
  | inl root ↦ subst (λ n. IsSome (get tree.nodes n)) (sym root) (directory_node tree 0 sound.sound.root)
  | inr named ↦ sound.sound.node named.directory named.name node named.row
]

-- What was copied of its node is so of the run that a core has seen.
module _ (t : FileState) (nodes : ℕ) (own : OwnFsync) (hand : FileHand) (holds : HoldsWaiting t nodes own hand) (work : IsWorking (given_by t) t hand)
    (table : IsFileTable t nodes) (legal : IsLegal hand.view.first (calls_in hand.view.seen)) where
  abbrev first : TreeState
  first = hand.view.first

  abbrev was : WasCopied first hand.view.seen own.fsync own.file
  was = subst (λ tree. WasCopied tree hand.view.seen own.fsync own.file) (sym work.first) holds.copied

  sound : IsSoundTree first
  sound = subst IsSoundTree (sym work.first) table.sound

  -- the node keeps its kind
  kind : is_directory (tree_after first (calls_in hand.view.seen)) own.fsync.node.0 ≡ is_directory (tree_after first (calls_in was.log)) own.fsync.node.0
  kind =
      let legal_log = legal_begin first was.log was.began.0 hand.view.seen was.began.1 legal in
      (later_node first was.log hand.view.seen own.fsync.node.0 sound legal was.began
      (alive_node (tree_after first (calls_in was.log)) (sound_after first 0 (calls_in was.log) sound legal_log) own.fsync.node.0 was.alive)).1

  own_copy : IsOwnCopy (run_seen (given_by t) hand) own.fsync own.file
  own_copy = by own.file was.copied_is where
    by : (file : Option File) → IsCopied first (calls_in was.log) own.fsync.node.0 (copy_of file) → IsOwnCopy (run_seen (given_by t) hand) own.fsync file
    by None is = of_directory (kind ∙ is)
    by (Some bytes) is = subst (λ (f : File). IsOwnCopy (run_seen (given_by t) hand) own.fsync (Some f)) is.1.bytes_are
        (of_file (record { at = was.log; rest = was.began.0; whole = was.began.1; node = own.fsync.node.0; value = is.1.value; stands = is.1.stands })
        (kind ∙ is.0) refl was.stamp_is)

  some_core : 0 < length first.made
  some_core = subst (λ (tree : TreeState). 0 < length tree.made) (sym work.first) (let core = work.core in omega (arith, core))

-- the nodes and members of a plan, and what it has of the disk, are what was lent to it
lent_by_look : (s : PlannedFsync) → IsDraftOf s.fsync s.caught s.file s.hand s.drafted → IsLentPlan s
lent_by_look s drafted = record {
  lent = drafted.lent;
  boxes = drafted.boxes;
  seen = drafted.seen;
  old = ap (λ (c : Planned). c.old) drafted.planned.made;
  members = drafted.planned.members;
  nodes = drafted.planned.nodes;
}

module _ (t : FileState) (nodes : ℕ) (own : OwnFsync) (caught : Caught) (hand : FileHand) (has : HasCaught t nodes own caught hand)
    (table : IsFileTable t nodes) where
  -- there are as many cells as nodes
  pub as_many : length caught.concern.nodes.items ≡ length hand.held
  as_many =
      sym (length-map caught.concern.nodes.items (flushed_place nodes))
      ∙ (sym (ap length has.has.holds) ∙ length-map hand.held (λ (c : Rattle.stamp_table.specs.declared.held.HeldCell.HeldCell _). c.place))

  module _ (disk : (node : ℕ) → is_some (given_by t node) ≡ is_some (get t.first.nodes node)) (todo : PlannedCommit) (hollow : FileHand)
      (drafted : IsDraftOf own.fsync caught own.file hand todo.drafted)
      (directories : todo.directories.items ≡ directories_of own.file own.fsync.node caught.concern.members.items) (is_hollow : IsHollow hand hollow) where
    abbrev pub planned : PlannedFsync
    planned = record {
      given = given_by t;
      nodes = nodes;
      fsync = own.fsync;
      hand = hand;
      caught = caught;
      file = own.file;
      drafted = todo.drafted;
    }

    is_planned : IsDraftedFsync planned
    is_planned = record {
      root = disk 0 ∙ directory_node t.first 0 table.sound.sound.root;
      some_core = some_core t nodes own hand has.holds has.work table has.has.look.legal;
      holds = has.has.holds;
      ascend = has.has.look.concern_is.nodes.ascending;
      members_ascend = has.has.look.concern_is.members.ascending;
      within = has.has.look.within;
      copied = own_copy t nodes own hand has.holds has.work table has.has.look.legal;
      lent = lent_by_look planned drafted;
      how = by_look has.has drafted;
    }

    pub has_drafted : {D : Type 0} (pen : PenHand D) → HasDrafted (attempt_at t nodes own hand pen) planned todo hollow
    has_drafted pen = record {
      holds = has.holds;
      tried = record {
        given_is = refl;
        nodes_are = refl;
        fsync_is = refl;
        file_is = refl;
        since = goes_none hand;
        work = has.work;
        is = is_planned;
      };
      drafted_is = refl;
      directories_are = directories;
      hollow = is_hollow;
    }

-- what an fsync of a file that has an inode concerns, which looked at no log
abbrev alone_caught : NodeId → Caught
alone_caught node = record {
  gathered = record {
    logs = record { items = []; spare = 0 };
    cuts = record { items = []; spare = 0 };
    births = record { items = []; spare = 0 };
    inodes = record { items = []; spare = 0 };
  };
  concern = record {
    members = record { items = node ∷ []; spare = 0 };
    nodes = record { items = node ∷ []; spare = 0 };
    nets = record { items = []; spare = 0 };
  };
}

-- Where a file's own value was caught, or it has no inode, it is held so, or all is let go.
module _ (t : FileState) (nodes : ℕ) (own : OwnFsync) (before hand : FileHand) where
  pub held_file : (caught : Result (Option Stamp) NoMemory) → IsSome own.file → nodes ≤ 2 ^ 32 - 1
      → IfOk caught (λ cut. MatchOption cut (LacksAlone (given_by t) own.fsync before hand) (IsCaughtAlone (given_by t) nodes own.fsync hand))
      → IfOk caught (λ cut. MatchOption cut (LetsAllGo hand) (HoldsFileAlone t nodes own hand))
  held_file (Ok None) file few lacks = lacks.lets
  held_file (Ok (Some cut)) file few held = record { alone = held; file = file; few = few }
  held_file (Err fault) file few none = tt

-- An fsync of a file whose own value alone is held.
module _ (t : FileState) (nodes : ℕ) (own : OwnFsync) (cut : Stamp) (hand : FileHand) (has : HasHeldAlone t nodes own cut hand)
    (table : IsFileTable t nodes) where
  -- one cell is held
  pub one_held : length hand.held ≡ 1
  one_held =
      sym (length-map hand.held (λ (c : Rattle.stamp_table.specs.declared.held.HeldCell.HeldCell _). c.place)) ∙ ap length has.alone.holds

  module _ (disk : (node : ℕ) → is_some (given_by t node) ≡ is_some (get t.first.nodes node)) (todo : PlannedCommit) (hollow : FileHand)
      (drafted : (file : File) → own.file ≡ Some file → IsOwnDraftOf own.fsync cut file hand todo.drafted)
      (directories : todo.directories.items ≡ []) (is_hollow : IsHollow hand hollow) where
    abbrev pub planned_alone : PlannedFsync
    planned_alone = record {
      given = given_by t;
      nodes = nodes;
      fsync = own.fsync;
      hand = hand;
      caught = alone_caught own.fsync.node;
      file = own.file;
      drafted = todo.drafted;
    }

    file_there : (file : File) × (own.file ≡ Some file)
    file_there = is_value own.file has.file

    draft : IsOwnDraftOf own.fsync cut file_there.0 hand todo.drafted
    draft = drafted file_there.0 file_there.1

    is_alone : IsPlannedAlone planned_alone
    is_alone = record {
      value = has.alone.value;
      kept = has.alone.kept;
      file = file_there.0;
      file_is = file_there.1;
      concerns = refl;
      members_are = refl;
      held = has.alone.held;
      has = has.alone.has;
      stamped = has.alone.stamped;
      stands = has.alone.stands;
      table = (has.alone.legal, has.alone.lawful);
      files = draft.files;
      files_are = subst (λ (c : Stamp). IsDraftedAlone own.fsync c file_there.0 draft.files) (sym has.alone.cut_is) draft.files_are;
      change_is = draft.change_is;
    }

    is_drafted : IsDraftedFsync planned_alone
    is_drafted = record {
      root = disk 0 ∙ directory_node t.first 0 table.sound.sound.root;
      some_core = some_core t nodes own hand has.holds has.work table has.alone.legal;
      holds = has.alone.holds;
      ascend = one_rises own.fsync.node;
      members_ascend = one_rises own.fsync.node;
      within = one_below nodes own.fsync.node has.within;
      copied = own_copy t nodes own hand has.holds has.work table has.alone.legal;
      lent = record {
        lent = draft.lent;
        boxes = draft.boxes;
        seen = draft.seen;
        old = ap (λ (c : Planned). c.old) draft.change_is;
        members = draft.members;
        nodes = draft.nodes;
      };
      how = alone is_alone;
    }

    -- the file is no directory
    no_directory : directories_of own.file own.fsync.node (own.fsync.node ∷ []) ≡ []
    no_directory =
        ap (λ (file : Option File). directories_of file own.fsync.node (own.fsync.node ∷ [])) file_there.1
        ∙ ap (λ b. if not b then own.fsync.node ∷ [] else []) (same_number own.fsync.node.0)

    pub has_drafted_alone : {D : Type 0} (pen : PenHand D) → HasDrafted (attempt_at t nodes own hand pen) planned_alone todo hollow
    has_drafted_alone pen = record {
      holds = has.holds;
      tried = record {
        given_is = refl;
        nodes_are = refl;
        fsync_is = refl;
        file_is = refl;
        since = goes_none hand;
        work = has.work;
        is = is_drafted;
      };
      drafted_is = refl;
      directories_are = directories ∙ sym no_directory;
      hollow = is_hollow;
    }
