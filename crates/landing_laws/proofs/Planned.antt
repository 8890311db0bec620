-- What is so of an fsync that was planned, by a look or by its own file alone.
use Rattle.std.specs.FinMap.{get}
use Rattle.std.proofs.Common.{◌≡◌, ◌∙◌, ◌≤◌, if◌then◌else◌, ◌⊎◌, ◌∷◌, ℕ, Option, List, length, refl, None, arith, Some, subst, sym, is_some, map, true, ap, length-append, append-nil, inl, inr, [], ◌++◌}
use Rattle.sfs_base.specs.declared.numbers.NodeId.{NodeId}
use Rattle.sfs_base.specs.Listed.{is_listed}
use Rattle.sfs_base.proofs.BasicOptions.{some_same}
use Rattle.tree_laws.specs.Tree.{TreeState, is_directory}
use Rattle.tree_laws.specs.Laws.{IsSoundTree}
use Rattle.tree_laws.specs.NameRow.{node_number}
use Rattle.tree_laws.specs.History.{IsLegal}
use Rattle.disk_nodes.specs.OldKept.{OldKept}
use Rattle.cut_laws.proofs.Listed.{listed_one}
use Rattle.cut_laws.proofs.Along.{nodes_at}
use Rattle.cut_laws.proofs.Prefixes.{live_node}
use Rattle.look_laws.specs.Look.{member}
use Rattle.stamp_table.specs.declared.event.Event.{Event}
use Rattle.stamp_table.specs.Events.{calls_in}
use Rattle.mem_values.specs.declared.fact.Fact.{Fact}
use Rattle.mem_values.specs.Facts.{IsLawfulLog}
use Rattle.mem_values.specs.Stands.{flushed_in, flushed_by, Flushed, StandsPending}
use Rattle.mem_values.specs.Account.{account_of, last_writer, Commitment}
use Rattle.mem_values.specs.declared.fact.HeldNode.{HeldNode}
use Rattle.mem_values.specs.Start.{FileHand}
use Rattle.mem_values.specs.declared.cell.Pending.{Pending}
use Rattle.mem_values.proofs.Committed.{cuts_within}
use Rattle.mem_values.proofs.Telling.{later_node}
use Rattle.home_laws.specs.Laws.{IsNodeOf}
use Rattle.note_laws.specs.Run.{TableRun, IsTableRun, calls_of}
use Rattle.note_laws.specs.Notes.{calls_noted}
use Rattle.note_laws.proofs.Saws.{last_is_one}
use Rattle.note_laws.proofs.Along.{stamp_within, calls_begin, legal_begin, lawful_begin}
use Rattle.note_laws.proofs.There.{live_there}
use Rattle.made_laws.specs.Made.{CoreMaking, CoreMade}
use Rattle.made_laws.specs.Tells.{commit_made}
use Rattle.made_laws.proofs.There.{touched_there}
use Rattle.made_laws.proofs.Known.{mades_are_known}
use Rattle.mem_calls.specs.Held.{pending_held}
use Rattle.fsync_catch.specs.Catch.{IsLook, IsCaught}
use Rattle.fsync_draft.specs.Drafting.{IsDraftOf}
use Rattle.landing_laws.specs.Made.{run_planned, PlannedFsync, IsDraftedFsync, IsPlannedAlone, IsPlannedSo, by_look, alone}
use Rattle.landing_laws.specs.Telling.{tree_seen}
use Rattle.landing_laws.proofs.Seen.{held_listed}
use Rattle.landing_laws.proofs.Members.{gathered_directory}
use Rattle.landing_laws.proofs.Drafted.{g, held_of_listed, making, made, listed_alone}

-- a cut that was flushed of a node is at most the count of calls
cut_within : (given : ℕ → Option OldKept) (first : TreeState) (log : List (Event Fact)) (node : ℕ) → IsLawfulLog given first log
    → (flushed_in given (account_of log) node).cut ≤ length (calls_in log)
cut_within given first log node lawful = by (last_writer node (account_of log).commits) refl
  where
    by : (writer : Option (Commitment × HeldNode)) → last_writer node (account_of log).commits ≡ writer
        → (flushed_by given node writer).cut ≤ length (calls_in log)
    by None is = omega arith
    by (Some writer) is =
        let one = last_is_one node (account_of log).commits writer is in cuts_within given first log writer.0 node writer.1 lawful one.0 one.1

-- the calls of a first part of a log are at most all of it
calls_low : (at rest log : List (Event Fact)) → at ++ rest ≡ log → length (calls_in at) ≤ length (calls_in log)
calls_low at rest log whole =
    let long = ap length (calls_begin at rest log whole) in
    let sum = length-append (calls_in at) (calls_in rest) in omega (arith, long, sum)

-- A value stood for what was flushed of a node, by a first part of what a core has seen.
pub record StoodSeen (s : PlannedFsync) (node : ℕ) (value : Pending) : Type 0 where
  pub at : List (Event Fact)
  pub rest : List (Event Fact)
  pub whole : at ++ rest ≡ s.hand.view.seen
  pub stands : StandsPending s.given s.hand.view.first (account_of at) node value
  pub lawful : IsLawfulLog s.given s.hand.view.first at

-- so did each value that the core holds
pub held_stood : (s : PlannedFsync) → IsDraftedFsync s → IsPlannedSo s → (node : NodeId) (value : Pending)
    → pending_held s.nodes s.hand.held node ≡ Some value → StoodSeen s node.0 value
held_stood s is (by_look caught drafted) node value held =
    let look = caught.look in
    let listed = held_listed s.nodes s.caught.concern.nodes.items s.hand.held is.holds node value held in
    let part = look.notes.each 0 is.some_core in
    let saw : look.noted.pending node.0 ≡ Some value =
    ap (λ (f : ℕ → Option Pending). f node.0) look.saw
    ∙ ap (λ b. if b then pending_held s.nodes s.hand.held (record { 0 = node.0 }) else None) listed ∙ held
    in
    record {
      at = (look.noted.notes 0).at;
      rest = part.rest;
      whole = part.whole;
      stands = part.stands node.0 value saw;
      lawful = lawful_begin s.given s.hand.view.first (look.noted.notes 0).at part.rest s.hand.view.seen part.whole look.lawful;
    }
held_stood s is (alone a) node value held =
    let number = listed_alone s is a node.0 (held_listed s.nodes s.caught.concern.nodes.items s.hand.held is.holds node value held) in
    let node_is : node ≡ s.fsync.node = λ i. record { 0 = number i } in
    let same : a.value ≡ value = some_same (sym a.held ∙ (ap (pending_held s.nodes s.hand.held) (sym node_is) ∙ held)) in
    record {
      at = s.hand.view.seen;
      rest = [];
      whole = append-nil s.hand.view.seen;
      stands = subst (λ (z : ℕ × Pending). StandsPending s.given s.hand.view.first (account_of s.hand.view.seen) z.0 z.1)
          (λ i. (sym number i, same i)) a.stands;
      lawful = a.table.1;
    }

-- so its cut is at most the count of calls
cuts_low : (s : PlannedFsync) → IsDraftedFsync s → IsPlannedSo s → (node : NodeId) (value : Pending)
    → pending_held s.nodes s.hand.held node ≡ Some value → value.cut.0 ≤ length (calls_in s.hand.view.seen)
cuts_low s is how node value held =
    let stood = held_stood s is how node value held in
    let within = cut_within s.given s.hand.view.first stood.at node.0 stood.lawful in
    let same = ap (λ (f : Flushed). f.cut) stood.stands.flushed in
    let low = calls_low stood.at stood.rest s.hand.view.seen stood.whole in omega (arith, within, same, low)

-- What a core has seen is legal and lawful, with the fsync's call; what it holds stood for some of that; the nodes that the fsync concerns are nodes of the
-- tree whose values it holds; and the members are some of these, directories but for the fsync's own node.
pub record PlannedFacts (s : PlannedFsync) : Type 0 where
  pub legal : IsLegal s.hand.view.first (calls_of (run_planned s))
  pub lawful : IsLawfulLog s.given s.hand.view.first s.hand.view.seen
  pub stamped : s.fsync.stamp.0 ≤ length (calls_in s.hand.view.seen)
  pub cuts : (node : NodeId) (value : Pending) → pending_held s.nodes s.hand.held node ≡ Some value → value.cut.0 ≤ length (calls_in s.hand.view.seen)
  pub there : (node : ℕ) → is_listed (map node_number s.caught.concern.nodes.items) node ≡ true → IsNodeOf (tree_seen s.hand) node
  pub held : (node : ℕ) → is_listed (map node_number s.caught.concern.nodes.items) node ≡ true
      → (value : Pending) × (pending_held s.nodes s.hand.held (record { 0 = node }) ≡ Some value)
  pub kinds : (node : ℕ) → is_listed (map node_number s.caught.concern.members.items) node ≡ true
      → (node ≡ s.fsync.node.0) ⊎ (is_directory (tree_seen s.hand) node ≡ true)
  pub members_held : (node : ℕ) → is_listed (map node_number s.caught.concern.members.items) node ≡ true
      → is_listed (map node_number s.caught.concern.nodes.items) node ≡ true

module _ (s : PlannedFsync) (is : IsDraftedFsync s) (sound : IsSoundTree s.hand.view.first)
    (disk : (node : ℕ) → is_some (s.given node) ≡ is_some (get s.hand.view.first.nodes node)) where
  abbrev hand : FileHand
  hand = s.hand

  abbrev list : List NodeId
  list = s.caught.concern.nodes.items

  abbrev run : TableRun
  run = run_planned s

  module _ (caught : IsCaught s.given s.nodes s.fsync s.hand s.caught) (drafted : IsDraftOf s.fsync s.caught s.file s.hand s.drafted) where
    abbrev look : IsLook s.given s.nodes s.fsync list hand s.caught
    look = caught.look

    -- what the core has seen is a run of the table
    table_run : IsTableRun run
    table_run = record { sound = sound; legal = look.legal; lawful = look.lawful; disk = disk }

    -- and this is what it made of that
    abbrev of_look : CoreMaking
    of_look = making s is caught drafted

    made_look : CoreMade run of_look
    made_look = made s is caught drafted

    -- a member is a directory, or the own node
    kinds_look : (node : ℕ) → is_listed (map node_number s.caught.concern.members.items) node ≡ true
        → (node ≡ s.fsync.node.0) ⊎ (is_directory (tree_seen hand) node ≡ true)
    kinds_look node listed =
        let gathers = (made_look.concern_is.members.each node).0 listed in
        elim (gathered_directory run table_run (commit_made run of_look made_look.plans 0)
        (mades_are_known run of_look 0 table_run made_look).notes node gathers) [
          | inl itself ↦ inl (itself ∙ (g s is caught drafted).node_is)
          | inr kind ↦ inr kind
        ]

    facts_look : PlannedFacts s
    facts_look = record {
      legal = look.legal;
      lawful = look.lawful;
      stamped =
          let part = look.notes.each 0 is.some_core in
          let legal = legal_begin hand.view.first (look.noted.notes 0).at part.rest hand.view.seen part.whole look.legal in
          let within = stamp_within hand.view.first (calls_noted look.noted 0) part.stamped.entry legal part.stamped.among in
          let own = part.stamped.stamped in
          let is_stamp = look.stamp_is in
          let low = calls_low (look.noted.notes 0).at part.rest hand.view.seen part.whole in omega (arith, within, own, is_stamp, low);
      cuts = cuts_low s is (by_look caught drafted);
      there = λ node listed.
          let touches = (made_look.concern_is.nodes.each node).0 listed in
          let there = touched_there run of_look table_run made_look node touches in
          let part = made_look.notes.each there.part there.known in
          (later_node hand.view.first (of_look.noted.notes there.part).at hand.view.seen node sound look.legal (part.rest, part.whole) there.there).0;
      held = held_of_listed s is (by_look caught drafted);
      kinds = kinds_look;
      members_held = λ node listed. (look.concern_is.nodes.each node).1 (member node ((look.concern_is.members.each node).0 listed));
    }

  module _ (a : IsPlannedAlone s) where
    -- the file's node was there as the fsync was stamped, and still is
    there_own : IsNodeOf (tree_seen hand) s.fsync.node.0
    there_own =
        let live = live_there hand.view.first hand.view.seen hand.view.core s.fsync.node.0 s.fsync.stamp.0 a.table.0 a.stamped in
        (nodes_at hand.view.first (calls_in hand.view.seen) s.fsync.stamp.0 sound a.table.0 s.fsync.node.0
        (live_node hand.view.first (calls_in hand.view.seen) sound a.table.0 (record { node = s.fsync.node.0; stamp = s.fsync.stamp.0 }) live s.fsync.stamp.0
        (omega arith))).0

    member_alone : (node : ℕ) → is_listed (map node_number s.caught.concern.members.items) node ≡ true → node ≡ s.fsync.node.0
    member_alone node listed =
        elim ((listed_one (map node_number (s.fsync.node ∷ [])) node).0
        (subst (λ (l : List NodeId). is_listed (map node_number l) node ≡ true) a.members_are listed)) [
          | inl same ↦ sym same
          | inr none ↦ absurd none
        ]

    facts_alone : PlannedFacts s
    facts_alone = record {
      legal = a.table.0;
      lawful = a.table.1;
      stamped =
          let within = stamp_within hand.view.first (calls_in hand.view.seen) a.stamped.entry a.table.0 a.stamped.among in
          let own = a.stamped.stamped in omega (arith, within, own);
      cuts = cuts_low s is (alone a);
      there = λ node listed. subst (IsNodeOf (tree_seen hand)) (sym (listed_alone s is a node listed)) there_own;
      held = held_of_listed s is (alone a);
      kinds = λ node listed. inl (member_alone node listed);
      members_held = λ node listed.
          subst (λ (l : List NodeId). is_listed (map node_number l) node ≡ true) (a.members_are ∙ sym a.concerns) listed;
    }

  facts_so : IsPlannedSo s → PlannedFacts s
  facts_so (by_look caught drafted) = facts_look caught drafted
  facts_so (alone a) = facts_alone a

  pub planned_facts : PlannedFacts s
  planned_facts = facts_so is.how
