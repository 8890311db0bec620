-- The commit of an fsync that became durable is told of what its core made.
use Rattle.std.specs.FinMap.{get}
use Rattle.std.specs.List.{cons_option}
use Rattle.std.proofs.Common.{◌≡◌, ◌∙◌, ◌++◌, ◌∷◌, ◌<◌, if◌then◌else◌, ◌↔◌, List, ℕ, refl, ap, option_map, Option, Some, Contains, None, subst, nat_eq, filter_map, [], zero, suc, append-nil, length, is_some, map, sym, append_assoc, inl, Bool, true, eqb-true, false}
use Rattle.std.proofs.lemmas.List.Elements.{filter_map-append}
use Rattle.std.proofs.lemmas.Option.{option_and_then_some}
use Rattle.sfs_base.specs.declared.numbers.NodeId.{NodeId}
use Rattle.sfs_base.proofs.BasicOptions.{none_some, some_same}
use Rattle.keyed_list.specs.Ascending.{AscendBy, item_with}
use Rattle.tree_laws.specs.Tree.{TreeState}
use Rattle.tree_laws.specs.History.{IsLegal}
use Rattle.tree_laws.specs.NameRow.{node_number}
use Rattle.disk_nodes.specs.declared.old.OldEntry.{OldEntry}
use Rattle.disk_nodes.specs.Nodes.{entry_node, entry_old}
use Rattle.disk_nodes.specs.OldKept.{OldKept}
use Rattle.disk_change.specs.AllBuilt.{entry_keyed, after_commit}
use Rattle.commit_laws.proofs.KnownDirectories.{own_item}
use Rattle.commit_laws.proofs.Shown.{found_is_in}
use Rattle.cut_laws.specs.Rules.{IsOneOf}
use Rattle.cut_laws.proofs.Listed.{from_map, listed_one}
use Rattle.cut_laws.proofs.Basics.{in_right}
use Rattle.dep_closure.proofs.Looked.{one_of_all}
use Rattle.stamp_table.specs.declared.event.Event.{Event}
use Rattle.stamp_table.specs.Events.{told_by, calls_in}
use Rattle.stamp_table.specs.declared.view.View.{View}
use Rattle.stamp_table.proofs.Keeps.{begins_itself}
use Rattle.mem_values.specs.Account.{commit_told, account_of}
use Rattle.mem_values.specs.Start.{FileHand, given_by}
use Rattle.mem_values.specs.declared.fact.Fact.{Fact}
use Rattle.mem_values.specs.Facts.{IsLawfulLog}
use Rattle.mem_values.specs.declared.cell.Pending.{Pending}
use Rattle.mem_values.specs.Stands.{StandsPending, StandsForCell}
use Rattle.mem_values.specs.declared.cell_id.CellId.TheVariants as id
use Rattle.mem_values.specs.declared.cell.Cell.{Cell}
use Rattle.mem_values.specs.Places.{cell_place, node_count}
use Rattle.mem_values.specs.declared.fact.HeldNode.{HeldNode}
use Rattle.note_laws.specs.Run.{TableRun, IsTableRun}
use Rattle.made_laws.specs.Made.{CoreMaking}
use Rattle.made_laws.specs.Own.{TellsMaking}
use Rattle.journal_set.specs.declared.fault.Ack.{Ack}
use Rattle.mem_calls.specs.Held.{pending_held, as_pending, value_held}
use Rattle.mem_calls.proofs.Shown.{held_cell, knows_found}
use Rattle.mem_calls.proofs.Cells.{found_place}
use Rattle.fsync_values.specs.Renewing.{kept_of_node}
use Rattle.fsync_look.specs.Look.{IsBelow}
use Rattle.fsync_look.proofs.Copied.{pending_of}
use Rattle.fsync_end.specs.Trimming.{trim_events}
use Rattle.fsync_end.specs.Finishing.{logs_trimmed}
use Rattle.landing_laws.specs.Made.{MakesPlanned}
use Rattle.landing_laws.specs.Landed.{LandedFsync, commitment_of, directories_of, nodes_landed, done_of}
use Rattle.landing_laws.specs.Told.{TellsLanded}
use Rattle.landing_laws.proofs.Seen.{held_listed, found_wrote}
use Rattle.landing_laws.proofs.Told.{landed_are_told}
use Rattle.fsync_dir.specs.Flush.{FlushAt, IsTried, EndsLanded}
use Rattle.flush_agrees.specs.Agreement.{run_to, ToldInSight}
use Rattle.flush_agrees.specs.Made.{FlushMade, change_of}

-- what entries have of a node is this
abbrev HaveOf : List OldEntry → ℕ → Option OldKept → Type 0
HaveOf entries node kept = (old : OldKept) → (kept ≡ Some old) ↔ Contains entries (entry_keyed (node, old))

-- an entry that is found is of the node
found_node : (entries : List OldEntry) (node : ℕ) (entry : OldEntry) → item_with entry_node node entries ≡ Some entry → entry_node entry ≡ node
found_node [] node entry is = absurd (none_some is)
found_node (one ∷ rest) node entry is = by (nat_eq (entry_node one) node) refl is (found_node rest node entry)
  where
    by : (b : Bool) → nat_eq (entry_node one) node ≡ b → (if b then Some one else item_with entry_node node rest) ≡ Some entry
        → (item_with entry_node node rest ≡ Some entry → entry_node entry ≡ node) → entry_node entry ≡ node
    by true same found later = ap entry_node (sym (some_same found)) ∙ eqb-true (entry_node one) node same
    by false other found later = later found

-- what entries have of a node is what they have in their list
kept_in : (entries : List OldEntry) → AscendBy entry_node entries → (node : ℕ) → HaveOf entries node (kept_of_node entries node)
kept_in entries up node old = (
  λ has. by (item_with entry_node node entries) refl has,
  λ there. ap (option_map entry_old) (own_item entry_node entries up (entry_keyed (node, old)) there),
)
  where
    by : (o : Option OldEntry) → item_with entry_node node entries ≡ o → option_map entry_old o ≡ Some old → Contains entries (entry_keyed (node, old))
    by None is none = absurd (none_some none)
    by (Some entry) is same =
        let number = found_node entries node entry is in
        let whole : entry ≡ entry_keyed (node, old) = λ i. record { node = record { 0 = number i }; old = some_same same i } in
        subst (Contains entries) whole (found_is_in (λ (item : OldEntry). nat_eq (entry_node item) node) entries entry is)

-- trimming tells no commit
trims_none : (core number count : ℕ) → filter_map commit_told (trim_events core number count) ≡ []
trims_none core number zero = refl
trims_none core number (suc count) =
    filter_map-append commit_told (trim_events core number count) _
    ∙ (append-nil (filter_map commit_told (trim_events core number count)) ∙ trims_none core number count)

module _ {D : Type 0} (at : FlushAt D) (s : LandedFsync) (ack : Ack) (after : FileHand) (tried : IsTried at s.planned) (lands : EndsLanded at s ack after)
    (makes : MakesPlanned s.planned) where
  abbrev hand : FileHand
  hand = s.planned.hand

  abbrev run : TableRun
  run = run_to at.t after.view.seen

  abbrev event : Event Fact
  event = told_by hand.view.core lands.told 0

  -- what was told
  pub commits_landed : filter_map commit_told after.view.mine ≡ filter_map commit_told at.hand.view.mine ++ commitment_of s ∷ []
  commits_landed =
      let trims = logs_trimmed (directories_of s.planned.file s.planned.fsync.node s.planned.caught.concern.members.items) (length at.t.first.made) in
      ap (filter_map commit_told) lands.mine
      ∙ (filter_map-append commit_told (hand.view.mine ++ event ∷ []) _
      ∙ (ap (λ l. filter_map commit_told (hand.view.mine ++ event ∷ []) ++ l) (trims_none hand.view.core s.number trims)
      ∙ (append-nil (filter_map commit_told (hand.view.mine ++ event ∷ []))
      ∙ (filter_map-append commit_told hand.view.mine (event ∷ [])
      ∙ ((λ i. filter_map commit_told hand.view.mine ++ cons_option (lands.tells i) [])
      ∙ ap (λ (v : View TreeState (Event Fact)). filter_map commit_told v.mine ++ commitment_of s ∷ []) tried.since.view)))))

  first_after : after.view.first ≡ at.t.first
  first_after = lands.ends.between.first_is

  -- what the core has seen then is a run of the table
  table_run : IsTableRun run
  table_run = record {
    sound = lands.durable.table.sound;
    legal = subst (λ f. IsLegal f (calls_in after.view.seen)) first_after lands.lawful.legal_calls;
    lawful = subst (λ f. IsLawfulLog (given_by at.t) f after.view.seen) first_after lands.lawful.told;
    disk = subst (λ given. (node : ℕ) → is_some (given node) ≡ is_some (get at.t.first.nodes node)) tried.given_is lands.durable.disk;
  }

  abbrev nodes : ℕ
  nodes = s.planned.nodes

  abbrev list : List NodeId
  list = nodes_landed s

  -- what it knew of a node stood just before the commit was told
  stood : (node : NodeId) (value : Pending) → pending_held nodes hand.held node ≡ Some value
      → StandsPending (given_by at.t) at.t.first (account_of lands.behind.log) node.0 value
  stood node value held =
      let listed = held_listed nodes list hand.held lands.durable.planned.holds node value held in
      let found = from_map node_number list node.0 ((listed_one (map node_number list) node.0).0 listed) in
      let below : node.0 < nodes =
      subst (λ n. n < nodes) found.2 (one_of_all (IsBelow nodes) list found.0 lands.durable.planned.within found.1)
      in
      subst (λ first. StandsPending (given_by at.t) first (account_of lands.behind.log) node.0 value) tried.work.first
      (option_and_then_some as_pending (value_held nodes hand.held (id.Pending node)) value held (λ cell is kind.
      pending_of (given_by at.t) hand.view.first lands.behind.log node cell value kind (there cell is below)))
    where
      there : (cell : Cell) → value_held nodes hand.held (id.Pending node) ≡ Some cell → node.0 < nodes
          → StandsForCell (given_by at.t) hand.view.first (account_of lands.behind.log) (id.Pending node) cell
      there cell is below =
          let h = held_cell nodes hand.held (id.Pending node) cell is in
          let place = found_place (cell_place nodes (id.Pending node)) hand.held h.0 h.1 in
          let knows = knows_found (given_by at.t) hand.view hand.held (cell_place nodes (id.Pending node)) h.0 tried.work.knows h.1 in
          let counted : nodes ≡ node_count hand.view.first = lands.durable.table.counted ∙ ap node_count (sym tried.work.first) in
          subst (StandsForCell (given_by at.t) hand.view.first (account_of lands.behind.log) (id.Pending node)) h.2
          (lands.behind.stood h.0.place h.0.value knows.holds knows.stood (id.Pending node) (subst (λ n. node.0 < n) counted below)
          (ap (λ n. cell_place n (id.Pending node)) (sym counted) ∙ sym place))

  tells_landed : TellsLanded s run
  tells_landed = record {
    table = table_run;
    given_is = sym tried.given_is;
    first_is = sym tried.work.first;
    told = record {
      before = lands.behind.log;
      event = event;
      rest = lands.behind.there.0;
      whole = sym (append_assoc lands.behind.log (event ∷ []) lands.behind.there.0) ∙ lands.behind.there.1;
      tells = lands.tells;
    };
    since = lands.behind.since;
    stood = stood;
  }

  -- so it is told of what was made, with what the plan leaves with this grant
  pub told_in_sight : (m : FlushMade) → m.making ≡ makes.making → m.number ≡ s.number → s.after ≡ after_commit (change_of m) m.grant
      → AscendBy entry_node s.after
      → ToldInSight at.t after m (commitment_of s)
  told_in_sight m making number after_is up = record {
    log = after.view.seen;
    since = begins_itself after.view.seen;
    among = subst (λ l. IsOneOf l (commitment_of s)) (sym commits_landed)
        (in_right (filter_map commit_told at.hand.view.mine) (commitment_of s ∷ []) (commitment_of s) (inl refl));
    made = subst (λ (c : CoreMaking). TellsMaking run c (commitment_of s)) (sym making) (landed_are_told at.t s makes run lands.durable tells_landed);
    number_is = sym number;
    wrote = λ node held found.
        let one = found_wrote nodes (done_of s) list hand.held lands.durable.planned.holds node held found in
        subst (λ (l : List OldEntry). HaveOf l node held.new) after_is
        (subst (HaveOf s.after node) (sym (ap (λ (h : HeldNode). h.new) one.is)) (kept_in s.after up node));
  }
