-- When a core may tell what it does.
use mathlib.Core.List.{IsPrefix}
use Rattle.std.specs.Option.{option_or}
use Rattle.std.specs.FinMap.{get}
use Rattle.std.proofs.Common.{◌≡◌, ◌+◌, ◌*◌, ◌∷◌, ◌++◌, ◌∙◌, ◌<◌, ◌≤◌, ℕ, List, [], filter_map, Option, Some, None, inl, inr, refl, sym, ap, subst, append-nil, arith, IsSome, length, take, true}
use Rattle.std.proofs.lemmas.List.Elements.{filter_map-append}
use Rattle.std.proofs.Math.Seq.{take-append_seam}
use Rattle.sfs_base.specs.declared.numbers.NodeId.{NodeId}
use Rattle.sfs_base.specs.declared.numbers.CoreId.{CoreId}
use Rattle.tree_laws.specs.Tree.{TreeState, is_directory}
use Rattle.tree_laws.specs.History.{tree_after, IsLegal}
use Rattle.tree_laws.specs.Laws.{IsSoundTree}
use Rattle.tree_laws.specs.declared.history.Entry.{Entry}
use Rattle.tree_laws.proofs.KeepsNodes.{directory_node}
use Rattle.disk_nodes.specs.OldKept.{OldKept}
use Rattle.cut_laws.specs.Rules.{IsOneOf}
use Rattle.cut_laws.proofs.Basics.{in_left, in_either}
use Rattle.cut_laws.proofs.Along.{tree_at, tree_at-after, HasItsNodes, nodes_at}
use Rattle.cut_laws.proofs.Seen.{held}
use Rattle.stamp_table.specs.declared.event.Event.{Event}
use Rattle.stamp_table.specs.declared.view.View.{View}
use Rattle.stamp_table.specs.Rule.{Has}
use Rattle.stamp_table.specs.Steps.{IsPast}
use Rattle.stamp_table.specs.Events.{event_core, is_call, called, told_by, calls_in, IsLawful, stands_for}
use Rattle.stamp_table.specs.Table.{MayTell}
use Rattle.mem_values.specs.declared.fact.Fact.{Fact}
use Rattle.mem_values.specs.declared.fact.Fact.TheVariants.{Committed, Trimmed}
use Rattle.mem_values.specs.declared.fact.HeldNode.{HeldNode}
use Rattle.mem_values.specs.declared.cell.Cell.{Cell}
use Rattle.mem_values.specs.declared.cell.Cell.TheVariants as cell
use Rattle.mem_values.specs.declared.cell.Pending.{Pending}
use Rattle.mem_values.specs.declared.cell.PartCell.{PartCell}
use Rattle.mem_values.specs.declared.cell_id.CellId.{CellId}
use Rattle.mem_values.specs.declared.cell_id.CellId.TheVariants as id
use Rattle.mem_values.specs.Places.{node_count, cell_place}
use Rattle.mem_values.specs.Account.{Account, Commitment, Trimming, commit_told, account_of, held_by, writes_by, last_writer}
use Rattle.mem_values.specs.Stands.{Flushed, flushed_by, IsTrimmedFor, AreTrimmedFor, StandsPending, StandsPart, StandsForCell, StandsAt, flushed_in}
use Rattle.mem_values.specs.Facts.{MayHoldNode, MayBeToldAfter, IsLawfulLog}
use Rattle.mem_values.specs.Telling.{KnowsOf, commit_by, MayTellCommit, CommitsMayBeTold, TrimsMayBeTold, FollowsValue}
use Rattle.mem_values.proofs.Lawful.{lawful_push}
use Rattle.mem_values.proofs.Stamping.{still_stands}
use Rattle.mem_values.proofs.Told.{account_committed, account_trimmed, with_commit, with_trimming, fsync_there, one_of_some, own_commit, calls_grow, trimmed_commit, last_writer-push, found_of}

module _ (given : ℕ → Option OldKept) (view : View TreeState (Event Fact)) where
  abbrev Past : List (Event Fact) → Type 0
  Past log = IsPast event_core is_call (IsLawful (IsLawfulLog given)) (stands_for (StandsAt given)) view log

  -- what is asked of a fact behind one history: it may stand there, and each cell that the core does not hold keeps what it stands for
  record MayStandThere (fact : Fact) (log : List (Event Fact)) : Type 0 where
    may : MayBeToldAfter given view.first (account_of log) view.core fact
    keeps : (which : CellId) (value : Cell) → (Has view.held (cell_place (node_count view.first) which) → ⊥)
        → StandsForCell given view.first (account_of log) which value
        → StandsForCell given view.first (account_of (log ++ told_by view.core fact 0 ∷ [])) which value

  keeps_all : (fact : Fact) (log : List (Event Fact)) → MayStandThere fact log → (place : ℕ) (value : Option Cell) → (Has view.held place → ⊥)
      → stands_for (StandsAt given) view.first log place value → stands_for (StandsAt given) view.first (log ++ told_by view.core fact 0 ∷ []) place value
  keeps_all fact log there place None not stood = stood
  keeps_all fact log there place (Some value) not stood =
      λ which is at. there.keeps which value (λ has. not (subst (λ p. Has view.held p) at has)) (stood which is at)

  may_tell_by : (fact : Fact) → ((log : List (Event Fact)) → Past log → MayStandThere fact log) → MayTell (IsLawfulLog given) (StandsAt given) view fact
  may_tell_by fact there log past =
      let next : List (Event Fact) = log ++ told_by view.core fact 0 ∷ [] in
      let same : calls_in next ≡ calls_in log = filter_map-append called log (told_by view.core fact 0 ∷ []) ∙ append-nil (calls_in log) in
      record {
        legal_next = record {
          legal_calls = subst (λ l. IsLegal view.first l) (sym same) past.legal_log.legal_calls;
          told = lawful_push given view.first log (told_by view.core fact 0) past.legal_log.told (there log past).may;
        };
        keeps = keeps_all fact log (there log past);
      }

  -- what a core knows of a cell, in a history that it may meet
  known_stands : (log : List (Event Fact)) → Past log → (which : CellId) (P : Cell → Type 0) (knows : KnowsOf given view which P)
      → StandsForCell given view.first (account_of log) which knows.known.value
  known_stands log past which P knows = still_stands given view log past knows.known knows.knows which knows.is_cell knows.there

-- a node of a tree is one of each later tree, and of the same kind
pub later_node : (first : TreeState) (seen log : List (Event Fact)) (node : ℕ) → IsSoundTree first → IsLegal first (calls_in log) → IsPrefix seen log
    → IsSome (get (tree_after first (calls_in seen)).nodes node)
    → IsSome (get (tree_after first (calls_in log)).nodes node)
    × (is_directory (tree_after first (calls_in log)) node ≡ is_directory (tree_after first (calls_in seen)) node)
later_node first seen log node sound legal prefix some =
    let calls = calls_in seen in
    let whole : calls_in log ≡ calls ++ calls_in prefix.0 = sym (ap calls_in prefix.1) ∙ filter_map-append called seen prefix.0 in
    let there : tree_at first (calls_in log) (length calls) ≡ tree_after first calls =
    tree_at-after first (calls_in log) (length calls) ∙ ap (tree_after first) (ap (take (length calls)) whole ∙ take-append_seam calls (calls_in prefix.0)) in
    subst (λ t. HasItsNodes t (tree_after first (calls_in log))) there (nodes_at first (calls_in log) (length calls) sound legal) node some

-- what a commit writes of a node follows what the commits before it left
record FollowsLast (given : ℕ → Option OldKept) (first : TreeState) (account : Account) (calls : List Entry) (commit : Commitment)
    (held : HeldNode) : Type 0 where
  trimmed : AreTrimmedFor first account held.node.0
  later : (flushed_in given account held.node.0).last < commit.number
  rises : (flushed_in given account held.node.0).cut ≤ held.new_cut.0
  stays : is_directory (tree_after first calls) held.node.0 ≡ true → (IsOneOf commit.members held.node.0 → ⊥)
      → held.new_cut.0 ≡ (flushed_in given account held.node.0).cut

follows_last : (given : ℕ → Option OldKept) (first : TreeState) (account : Account) (calls : List Entry) (commit : Commitment) (held : HeldNode)
    (value : Cell) → StandsForCell given first account (id.Pending held.node) value → FollowsValue first calls commit held value
    → FollowsLast given first account calls commit held
follows_last given first account calls commit held (cell.Lock lock) stood follows = absurd follows
follows_last given first account calls commit held (cell.Bucket b) stood follows = absurd follows
follows_last given first account calls commit held (cell.File f) stood follows = absurd follows
follows_last given first account calls commit held (cell.Pending p) stood follows =
    let cut = ap (λ (x : Flushed). x.cut) stood.flushed in
    let last = ap (λ (x : Flushed). x.last) stood.flushed in
    record {
      trimmed = stood.trimmed;
      later = (let l = follows.later in omega (arith, l, last));
      rises = (let r = follows.rises in omega (arith, r, cut));
      stays = λ directory none. follows.stays directory none ∙ cut;
    }
follows_last given first account calls commit held (cell.Part p) stood follows = absurd follows

module _ (given : ℕ → Option OldKept) (view : View TreeState (Event Fact)) (commit : Commitment) (asks : MayTellCommit given view commit)
    (own : commit.core ≡ view.core) (log : List (Event Fact)) (past : Past given view log) (sound : IsSoundTree view.first) where
  abbrev first : TreeState
  first = view.first

  abbrev account : Account
  account = account_of log

  -- no commit of this core has the number
  fresh : (other : Commitment) → IsOneOf account.commits other → other.core ≡ commit.core → other.number ≡ commit.number → ⊥
  fresh other among of number =
      asks.fresh other (subst (λ l. IsOneOf (filter_map commit_told l) other) (sym past.mine) (own_commit log view.core other among (of ∙ own))) number

  later : (node : ℕ) → IsSome (get (tree_after first (calls_in view.seen)).nodes node)
      → IsSome (get (tree_after first (calls_in log)).nodes node)
      × (is_directory (tree_after first (calls_in log)) node ≡ is_directory (tree_after first (calls_in view.seen)) node)
  later node some = later_node first view.seen log node sound past.legal_log.legal_calls past.seen some

  may_hold : (held : HeldNode) → IsOneOf commit.held held → MayHoldNode given first account commit held
  may_hold held among =
      let knows = asks.follows held among in
      let follows =
      follows_last given first account (calls_in view.seen) commit held knows.known.value
      (known_stands given view log past (id.Pending held.node) (FollowsValue first (calls_in view.seen) commit held) knows) knows.has in
      let there = later held.node.0 (asks.nodes held among) in
      record {
        node = there.0;
        trimmed = follows.trimmed;
        later = follows.later;
        rises = follows.rises;
        within = let w = asks.within held among in let more = calls_grow view.seen log past.seen in omega (arith, w, more);
        stays = λ directory none. follows.stays (sym there.1 ∙ directory) none;
        below = asks.inodes held among;
        root = asks.root held among;
      }

  are_directories : (directory : ℕ) → IsOneOf commit.members directory → is_directory (tree_after first (calls_in log)) directory ≡ true
  are_directories directory member = let is = asks.directories directory member in
      (later directory (directory_node (tree_after first (calls_in view.seen)) directory is)).1 ∙ is

  -- a node that the core does not hold is none of the commit's
  not_held : (node : NodeId) → (Has view.held (cell_place (node_count first) (id.Pending node)) → ⊥) → held_by commit node.0 ≡ None
  not_held node not = none_by (held_by commit node.0) refl
    where
      none_by : (o : Option HeldNode) → held_by commit node.0 ≡ o → o ≡ None
      none_by None is = refl
      none_by (Some h) is =
          let there = found_of node.0 commit.held h is in
          let knows = asks.follows h there.0 in
          absurd
          (not
          (subst (λ (n : ℕ). Has view.held (16 + 9 * node_count first + n)) there.1 (subst (λ p. Has view.held p) (sym knows.there) knows.knows.holds)))

  same_writer : (node : NodeId) → (Has view.held (cell_place (node_count first) (id.Pending node)) → ⊥)
      → last_writer node.0 (account.commits ++ commit ∷ []) ≡ last_writer node.0 account.commits
  same_writer node not =
      last_writer-push node.0 account.commits commit ∙ ap (λ o. option_or (writes_by commit o) (last_writer node.0 account.commits)) (not_held node not)

  pending_kept : (node : NodeId) (value : Pending) → (Has view.held (cell_place (node_count first) (id.Pending node)) → ⊥)
      → StandsPending given first account node.0 value → StandsPending given first (with_commit account commit) node.0 value
  pending_kept node value not stood = record {
    flushed = stood.flushed ∙ ap (flushed_by given node.0) (sym (same_writer node not));
    made_in = stood.made_in;
    trimmed = λ writer member last has part lt. stood.trimmed writer member (sym (same_writer node not) ∙ last) has part lt;
  }

  -- no part is trimmed for the commit yet
  not_yet : (part : ℕ) → IsTrimmedFor account commit part → ⊥
  not_yet part trimmed =
      let has = trimmed_commit given first log (record { core = commit.core; number = commit.number; part = part }) past.legal_log.told trimmed in
      fresh has.commit has.among has.own has.numbered

  part_kept : (core : ℕ) (value : PartCell) → StandsPart first account core value → StandsPart first (with_commit account commit) core value
  part_kept core value stood = record {
    left = stood.left;
    made = stood.made;
    kept = record {
      capped = λ directory. elim (stood.kept.capped directory) [
        | inl none ↦ inl none
        | inr below ↦ inr (below.0, below.1, in_left account.commits (commit ∷ []) below.0 below.2, below.3, below.4)
      ];
      trimmed = λ other directory among trimmed member. elim (in_either account.commits (commit ∷ []) other among) [
        | inl old ↦ stood.kept.trimmed other directory old trimmed member
        | inr new ↦ elim new [ inl same ↦ absurd (not_yet core (subst (λ c. IsTrimmedFor account c core) (sym same) trimmed)) | inr none ↦ absurd none ]
      ];
    };
  }

  commit_keeps : (which : CellId) (value : Cell) → (Has view.held (cell_place (node_count first) which) → ⊥) → StandsForCell given first account which value
      → StandsForCell given first (with_commit account commit) which value
  commit_keeps id.Lock (cell.Lock lock) not stood = stood
  commit_keeps id.Lock (cell.Bucket b) not stood = stood
  commit_keeps id.Lock (cell.File f) not stood = stood
  commit_keeps id.Lock (cell.Pending p) not stood = stood
  commit_keeps id.Lock (cell.Part p) not stood = stood
  commit_keeps (id.Bucket node number) (cell.Lock lock) not stood = stood
  commit_keeps (id.Bucket node number) (cell.Bucket b) not stood = stood
  commit_keeps (id.Bucket node number) (cell.File f) not stood = stood
  commit_keeps (id.Bucket node number) (cell.Pending p) not stood = stood
  commit_keeps (id.Bucket node number) (cell.Part p) not stood = stood
  commit_keeps (id.File node) (cell.Lock lock) not stood = stood
  commit_keeps (id.File node) (cell.Bucket b) not stood = stood
  commit_keeps (id.File node) (cell.File f) not stood = stood
  commit_keeps (id.File node) (cell.Pending p) not stood = stood
  commit_keeps (id.File node) (cell.Part p) not stood = stood
  commit_keeps (id.Pending node) (cell.Lock lock) not stood = stood
  commit_keeps (id.Pending node) (cell.Bucket b) not stood = stood
  commit_keeps (id.Pending node) (cell.File f) not stood = stood
  commit_keeps (id.Pending node) (cell.Pending p) not stood = pending_kept node p.value not stood
  commit_keeps (id.Pending node) (cell.Part p) not stood = stood
  commit_keeps (id.Part core) (cell.Lock lock) not stood = stood
  commit_keeps (id.Part core) (cell.Bucket b) not stood = stood
  commit_keeps (id.Part core) (cell.File f) not stood = stood
  commit_keeps (id.Part core) (cell.Pending p) not stood = stood
  commit_keeps (id.Part core) (cell.Part p) not stood = part_kept core.0 p.value stood

pub commits_may_be_told : CommitsMayBeTold
commits_may_be_told given view number node stamp members held sound asks = may_tell_by given view (Committed number node stamp members held) (λ log past.
    let commit : Commitment = commit_by view.core number node stamp members held in record {
      may = record {
        own = fsync_there log view.core commit.node commit.stamp view.mine past.mine asks.own;
        fresh = fresh given view commit asks refl log past sound;
        holds = may_hold given view commit asks refl log past sound;
        raises = asks.raises;
        directories = are_directories given view commit asks refl log past sound;
      };
      keeps =
          λ which value not stood. subst (λ a. StandsForCell given view.first a which value)
          (sym (account_committed log (record { 0 = view.core }) number node stamp members held))
          (commit_keeps given view commit asks refl log past sound which value not stood);
    })

module _ (given : ℕ → Option OldKept) (view : View TreeState (Event Fact)) (number : ℕ) (part : CoreId)
    (holds : Has view.held (cell_place (node_count view.first) (id.Part part))) (account : Account) where
  abbrev trimming : Trimming
  trimming = record { core = view.core; number = number; part = part.0 }

  pending_still : (node : ℕ) (value : Pending) → StandsPending given view.first account node value
      → StandsPending given view.first (with_trimming account trimming) node value
  pending_still node value stood = record {
    flushed = stood.flushed;
    made_in = stood.made_in;
    trimmed =
        λ writer member last has other lt. in_left account.trimmings (trimming ∷ []) (record { core = writer.0.core; number = writer.0.number; part = other })
        (stood.trimmed writer member last has other lt);
  }

  part_still : (core : CoreId) (value : PartCell) → (Has view.held (cell_place (node_count view.first) (id.Part core)) → ⊥)
      → StandsPart view.first account core.0 value → StandsPart view.first (with_trimming account trimming) core.0 value
  part_still core value not stood = record {
    left = stood.left;
    made = stood.made;
    kept = record {
      capped = λ directory. stood.kept.capped directory;
      trimmed =
          λ commit directory among trimmed member. elim (in_either account.trimmings (trimming ∷ [])
          (record { core = commit.core; number = commit.number; part = core.0 }) trimmed) [
            | inl old ↦ stood.kept.trimmed commit directory among old member
            | inr new ↦ elim new [
              | inl same ↦ absurd (not (subst (λ (n : ℕ). Has view.held (32 + 10 * node_count view.first + 16 * n)) (ap (λ (t : Trimming). t.part) same) holds))
              | inr none ↦ absurd none
            ]
          ];
    };
  }

  trim_keeps : (which : CellId) (value : Cell) → (Has view.held (cell_place (node_count view.first) which) → ⊥)
      → StandsForCell given view.first account which value → StandsForCell given view.first (with_trimming account trimming) which value
  trim_keeps id.Lock (cell.Lock lock) not stood = stood
  trim_keeps id.Lock (cell.Bucket b) not stood = stood
  trim_keeps id.Lock (cell.File f) not stood = stood
  trim_keeps id.Lock (cell.Pending p) not stood = stood
  trim_keeps id.Lock (cell.Part p) not stood = stood
  trim_keeps (id.Bucket node n) (cell.Lock lock) not stood = stood
  trim_keeps (id.Bucket node n) (cell.Bucket b) not stood = stood
  trim_keeps (id.Bucket node n) (cell.File f) not stood = stood
  trim_keeps (id.Bucket node n) (cell.Pending p) not stood = stood
  trim_keeps (id.Bucket node n) (cell.Part p) not stood = stood
  trim_keeps (id.File node) (cell.Lock lock) not stood = stood
  trim_keeps (id.File node) (cell.Bucket b) not stood = stood
  trim_keeps (id.File node) (cell.File f) not stood = stood
  trim_keeps (id.File node) (cell.Pending p) not stood = stood
  trim_keeps (id.File node) (cell.Part p) not stood = stood
  trim_keeps (id.Pending node) (cell.Lock lock) not stood = stood
  trim_keeps (id.Pending node) (cell.Bucket b) not stood = stood
  trim_keeps (id.Pending node) (cell.File f) not stood = stood
  trim_keeps (id.Pending node) (cell.Pending p) not stood = pending_still node.0 p.value stood
  trim_keeps (id.Pending node) (cell.Part p) not stood = stood
  trim_keeps (id.Part core) (cell.Lock lock) not stood = stood
  trim_keeps (id.Part core) (cell.Bucket b) not stood = stood
  trim_keeps (id.Part core) (cell.File f) not stood = stood
  trim_keeps (id.Part core) (cell.Pending p) not stood = stood
  trim_keeps (id.Part core) (cell.Part p) not stood = part_still core p.value not stood

pub trims_may_be_told : TrimsMayBeTold
trims_may_be_told given view commit number part among own numbered holds = may_tell_by given view (Trimmed number part) (λ log past. record {
  may = record {
    commit = commit;
    among =
        one_of_some commit_told (Rattle.stamp_table.specs.Rule.is_by event_core view.core) log commit
        (subst (λ l. IsOneOf (filter_map commit_told l) commit) past.mine among);
    own = own;
    numbered = numbered;
  };
  keeps =
      λ which value not stood. subst (λ a. StandsForCell given view.first a which value) (sym (account_trimmed log (record { 0 = view.core }) number part))
      (trim_keeps given view number part holds (account_of log) which value not stood);
})
