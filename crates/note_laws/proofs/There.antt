-- The nodes that an fsync touches were there as one of the parts was noted.
use Rattle.std.proofs.Common.{◌<◌, ◌∷◌, ◌≡◌, ◌∙◌, List, ℕ, length, slice_index_or, [], inl, arith, inr, suc, All, subst, Some, filter, Option, option_map, None, refl, take, true, sym, Bool}
use Rattle.sfs_base.specs.declared.numbers.NodeId.{NodeId}
use Rattle.sfs_base.proofs.BasicNumbers.{same_number}
use Rattle.sfs_base.proofs.BasicOptions.{some_same}
use Rattle.tree_laws.specs.declared.changes.Change.{Change}
use Rattle.tree_laws.specs.Tree.{TreeState, is_alive, is_directory}
use Rattle.tree_laws.specs.History.{tree_after, IsLegal}
use Rattle.tree_laws.specs.Logged.{is_logged_in}
use Rattle.tree_laws.specs.declared.history.Entry.{Entry}
use Rattle.tree_laws.specs.Changes.{added}
use Rattle.tree_laws.proofs.KeepsNodes.{directory_node}
use Rattle.mem_cells.specs.Part.{CoreLog, changes_kept}
use Rattle.mem_cells.specs.Log.{log_place, is_from}
use Rattle.cut_laws.specs.Rules.{IsOneOf, Birth, births_of}
use Rattle.cut_laws.specs.Closure.{HasLiveNode}
use Rattle.cut_laws.proofs.Basics.{none_some, in_either}
use Rattle.cut_laws.proofs.RunFacts.{in_filter}
use Rattle.cut_laws.proofs.Listed.{to_filter, from_map}
use Rattle.cut_laws.proofs.Entries.{entries_may_come}
use Rattle.cut_laws.proofs.Along.{nodes_at, made_at, change_in}
use Rattle.cut_laws.proofs.Prefixes.{live_node}
use Rattle.cut_laws.proofs.Commit.{birth_at}
use Rattle.cut_laws.proofs.MemberKinds.{own_directory}
use Rattle.log_merge.specs.Merge.{parts_changes, part_changes, is_under, stands_at}
use Rattle.look_laws.specs.Look.{Look, Gathers, Touches, Noted, Born, itself, other_side, ended, ancestor, birth_place, member, named}
use Rattle.dep_closure.specs.declared.gathered.Gathered.{Gathered}
use Rattle.dep_closure.specs.Gathered.{noted_in, noted_as}
use Rattle.dep_closure.specs.declared.gathered.DirectoryChanges.{DirectoryChanges}
use Rattle.dep_closure.proofs.Looked.{from_flat}
use Rattle.core_logs.specs.Logs.{blank_part}
use Rattle.stamp_table.specs.declared.event.Event.{Event}
use Rattle.stamp_table.specs.Events.{calls_in}
use Rattle.mem_values.specs.Logs.{own_logged}
use Rattle.mem_values.specs.declared.fact.Fact.{Fact}
use Rattle.mem_values.specs.Facts.{HasFsync}
use Rattle.home_laws.specs.Laws.{IsNodeOf, NamesNodes}
use Rattle.home_laws.proofs.Named.{own_names}
use Rattle.note_laws.specs.Run.{TableRun}
use Rattle.note_laws.specs.Notes.{CoreNotes, calls_noted}
use Rattle.note_laws.specs.There.{look_noted, SawBirth, GathersByNotes, WasThere, TouchedWereThere}
use Rattle.log_copy.specs.Copies.{KeepsFor}
use Rattle.note_laws.proofs.Along.{legal_begin}
use Rattle.note_laws.proofs.Noting.{waits_alive}
use Rattle.note_laws.proofs.Born.{birthplace_is}

-- what some parts keep of a directory is kept by one of them
in_one_part : (parts : List CoreLog) (directory all : ℕ) (change : Change) → IsOneOf (parts_changes directory all parts) change
    → (part : ℕ) × (part < length parts) × IsOneOf (changes_kept (slice_index_or parts part blank_part) directory) change
in_one_part [] directory all change one = absurd one
in_one_part (log ∷ parts) directory all change one =
    elim (in_either (part_changes directory all log) (parts_changes directory all parts) change one) [
      | inl here ↦ (0, omega arith, (in_filter (is_under all) (changes_kept log directory) change here).0)
      | inr later ↦
          let found = in_one_part parts directory all change later in
          let less = found.1 in (suc found.0, omega (arith, less), found.2)
    ]

-- what a copy has is in the log
pub in_whole : {looked_at : ℕ → Bool} {log copy : CoreLog} → KeepsFor looked_at log copy → (directory : ℕ) (change : Change)
    → IsOneOf (changes_kept copy directory) change → IsOneOf (changes_kept log directory) change
in_whole keeps directory change one = elim (keeps.each directory) [
  | inl whole ↦ subst (λ l. IsOneOf l change) whole one
  | inr none ↦ absurd (subst (λ l. IsOneOf l change) none one)
]

-- all of a list by its members
each_of_all : (P : ℕ → Type 0) (xs : List ℕ) → All P xs → (x : ℕ) → IsOneOf xs x → P x
each_of_all P [] all x one = absurd one
each_of_all P (y ∷ ys) all x one = elim one [
  | inl same ↦ subst P same (all 0 0 (omega arith))
  | inr later ↦ each_of_all P ys (λ i d less. all (suc i) d (omega (arith, less))) x later
]

-- an fsync that waits for its answer is of a node that was alive as it was stamped
pub live_there : (first : TreeState) (log : List (Event Fact)) (core node stamp : ℕ) → IsLegal first (calls_in log) → HasFsync (calls_in log) core node stamp
    → HasLiveNode first (calls_in log) (record { node = node; stamp = stamp })
live_there first log core node stamp legal fsync =
    let may = (entries_may_come first (calls_in log) fsync.entry legal fsync.among).may in
    subst (λ n. is_alive (tree_after first (take n (calls_in log))) node ≡ true) fsync.stamped
    (waits_alive (tree_after first (take fsync.entry.stamp.0 (calls_in log))) fsync.entry.stamp.0 fsync.entry node may fsync.fsync fsync.waits)

module _ (run : TableRun) (noted : CoreNotes) (gathered : Gathered) (by_notes : GathersByNotes run noted gathered) where
  abbrev look : Look
  look = look_noted noted gathered

  abbrev tree_at_note : ℕ → TreeState
  tree_at_note part = tree_after run.first (calls_noted noted part)

  legal_at : (part : ℕ) → part < length run.first.made → IsLegal run.first (calls_noted noted part)
  legal_at part known =
      let one = by_notes.notes.each part known in
      legal_begin run.first (noted.notes part).at one.rest run.log one.whole by_notes.legal

  abbrev IsThere : ℕ → Type 0
  IsThere = WasThere run noted

  -- a change that was gathered names nodes that were there
  record NamesThere (one : Noted) : Type 0 where
    child : IsThere one.change.child
    other : (node : ℕ) → one.change.other ≡ Some node → IsThere node
    above : (node : ℕ) → IsOneOf one.above node → IsThere node

  change_there : (log : DirectoryChanges) → IsOneOf gathered.logs.items log → (change : Change) → IsOneOf log.changes.items change
      → (part : ℕ) × (part < length run.first.made) × NamesNodes (tree_at_note part) change
  change_there log one change in_log =
      let copies = by_notes.merged.copies in
      let merged = by_notes.merged.merged.merged log one in
      let here = to_filter (stands_at (log_place change)) log.changes.items change in_log (same_number (log_place change)) in
      let there = subst (λ l. IsOneOf l change) (merged.merge.same (log_place change)) here in
      let kept = (in_filter (stands_at (log_place change)) (parts_changes log.dir.0 merged.all copies) change there).0 in
      let part = in_one_part copies log.dir.0 merged.all change kept in
      let among : part.0 < length noted.parts = subst (λ n. part.0 < n) by_notes.merged.as_many part.1 in
      let known : part.0 < length run.first.made = subst (λ n. part.0 < n) by_notes.notes.as_many among in
      let each = by_notes.notes.each part.0 known in
      let left = subst (λ l. IsOneOf l change) (each.left log.dir.0) (in_whole (by_notes.merged.keep part.0 among) log.dir.0 change part.2) in
      let own = own_logged run.first part.0 (calls_noted noted part.0) in
      let logged =
      (in_filter (is_logged_in log.dir.0) own change
      (in_filter (is_from ((noted.notes part.0).mark log.dir.0)) (filter (is_logged_in log.dir.0) own) change left).0).0 in
      (part.0, known, all_names (tree_at_note part.0) own (own_names run.first 0 part.0 (calls_noted noted part.0) by_notes.sound (legal_at part.0 known)) change logged)
    where
      all_names : (tree : TreeState) (xs : List Change) → All (NamesNodes tree) xs → (x : Change) → IsOneOf xs x → NamesNodes tree x
      all_names tree [] all x one = absurd one
      all_names tree (y ∷ ys) all x one = elim one [
        | inl same ↦ subst (NamesNodes tree) same (all 0 y (omega arith))
        | inr later ↦ all_names tree ys (λ i d less. all (suc i) d (omega (arith, less))) x later
      ]

  names_there : (one : Noted) → IsOneOf look.noted one → NamesThere one
  names_there one among =
      let in_log = from_flat noted_in gathered.logs.items one among in
      let change = from_map (noted_as in_log.0.changes.items) in_log.0.changes.items one in_log.2 in
      let names = change_there in_log.0 in_log.1 change.0 change.1 in
      subst NamesThere change.2 (of_change in_log.0.changes.items change.0 names.0 names.1 names.2)
    where
      other_there : (part : ℕ) (known : part < length run.first.made) (other : Option NodeId)
          → ((node : NodeId) → other ≡ Some node → IsNodeOf (tree_at_note part) node.0)
          → (node : ℕ) → option_map (λ (n : NodeId). n.0) other ≡ Some node → IsThere node
      other_there part known None names node is = absurd (none_some is)
      other_there part known (Some n) names node is =
          record { part = part; known = known; there = subst (IsNodeOf (tree_at_note part)) (some_same is) (names n refl) }

      of_change : (changes : List Change) (change : Change) (part : ℕ) (known : part < length run.first.made) → NamesNodes (tree_at_note part) change
          → NamesThere (noted_as changes change)
      of_change changes change part known names = record {
        child = record { part = part; known = known; there = names.child };
        other = other_there part known change.other names.other;
        above = λ node one. record { part = part; known = known; there = each_of_all (IsNodeOf (tree_at_note part)) change.above names.above node one };
      }

  -- so was the fsync's own node, which was alive as it was stamped
  own_there : IsThere noted.node
  own_there =
      let calls = calls_noted noted 0 in
      let legal = legal_at 0 by_notes.some_core in
      let live = live_there run.first (noted.notes 0).at noted.core noted.node noted.stamp legal (by_notes.notes.each 0 by_notes.some_core).stamped in
      record {
        part = 0;
        known = by_notes.some_core;
        there = (nodes_at run.first calls noted.stamp by_notes.sound legal noted.node
            (live_node run.first calls by_notes.sound legal (record { node = noted.node; stamp = noted.stamp }) live noted.stamp (omega arith))).0;
      }

  -- and where a member was made
  born_there : (born : Born) → SawBirth noted born → IsThere born.directory
  born_there born saw =
      let part = by_notes.notes.each 0 by_notes.some_core in
      let legal = legal_at 0 by_notes.some_core in
      let place = sym (part.stands born.node saw.value saw.seen).made_in ∙ saw.made_in in
      let birth = (birthplace_is run.first (calls_noted noted 0) by_notes.sound legal born.node born.directory).0 place in
      record {
        part = 0;
        known = by_notes.some_core;
        there = directory_node (tree_at_note 0) born.directory
            (birth_kind (calls_noted noted 0) legal (record { stamp = birth.0; directory = born.directory; node = born.node }) birth.1);
      }
    where
      birth_kind : (calls : List Entry) → IsLegal run.first calls → (birth : Birth) → IsOneOf (births_of run.first calls) birth
          → is_directory (tree_after run.first calls) birth.directory ≡ true
      birth_kind calls legal birth has =
          let at = birth_at run.first calls birth legal has in
          let change = added birth.stamp birth.directory at.name birth.node None in
          own_directory run.first calls by_notes.sound legal birth.stamp change
          (made_at run.first calls by_notes.sound legal change (change_in run.first calls birth.stamp change legal (rw at.adds (inl refl))))

  gathers_there : (node : ℕ) → Gathers look node → IsThere node
  gathers_there node itself = own_there
  gathers_there node (other_side one other gathers sight is_other) = (names_there one sight.is_noted).other node is_other
  gathers_there node (ended one gathers sight ends) = (names_there one sight.is_noted).child
  gathers_there node (ancestor one other gathers sight among) = (names_there one sight.is_noted).above node among
  gathers_there node (birth_place born gathers one inode sees) =
      born_there born (by_notes.births born one gathers)

  all_there : (node : ℕ) → Touches look node → IsThere node
  all_there node (member other gathers) = gathers_there node gathers
  all_there node (named one gathers sight) = (names_there one sight.is_noted).child

pub touched_were_there : TouchedWereThere
touched_were_there run noted gathered node by_notes touches = all_there run noted gathered by_notes node touches
