-- A run that tells a durable commit tells what its core made.
use mathlib.Core.List.{IsPrefix}
use Rattle.std.proofs.Common.{◌≡◌, ◌∙◌, if◌then◌else◌, ◌++◌, ◌∷◌, ◌↔◌, ◌&&◌, ◌||◌, Bool, max, true, refl, false, Some, ap, List, sym, append_assoc, subst, ℕ, map, IsSome, is_some, Option, None, [], inl, inr, nat_eq, not, eqb-true}
use Rattle.sfs_base.specs.declared.numbers.Stamp.{Stamp}
use Rattle.sfs_base.specs.declared.numbers.NodeId.{NodeId}
use Rattle.sfs_base.specs.Listed.{is_listed}
use Rattle.sfs_base.proofs.BasicTruth.{not_both}
use Rattle.sfs_base.proofs.BasicNumbers.{same_number}
use Rattle.tree_laws.specs.NameRow.{node_number}
use Rattle.tree_laws.specs.Tree.{is_directory, TreeState}
use Rattle.tree_laws.specs.History.{tree_after}
use Rattle.tree_laws.specs.declared.history.Entry.{Entry}
use Rattle.disk_change.specs.AllBuilt.{after_commit, entry_keyed}
use Rattle.disk_change.specs.Planned.{Planned, planned}
use Rattle.cut_laws.specs.Rules.{IsOneOf}
use Rattle.cut_laws.specs.Closure.{Flush}
use Rattle.cut_laws.proofs.Listed.{listed_one}
use Rattle.beside_laws.specs.Commits.{CoreCommit, has_inode_behind}
use Rattle.dep_closure.specs.declared.gathered.Gathered.{Gathered}
use Rattle.dep_closure.specs.Gathered.{cut_in, lifted_cut}
use Rattle.flush_plan.specs.declared.concern.Concern.{Concern}
use Rattle.flush_plan.specs.declared.plans.FsyncPlan.{FsyncPlan}
use Rattle.stamp_table.specs.Events.{calls_in}
use Rattle.mem_values.specs.declared.cell.Pending.{Pending}
use Rattle.mem_values.specs.Start.{FileState, FileHand}
use Rattle.mem_values.specs.Account.{held_by, account_of}
use Rattle.mem_values.specs.declared.fact.HeldNode.{HeldNode}
use Rattle.mem_values.specs.Stands.{flushed_in, Flushed}
use Rattle.mem_values.proofs.Telling.{later_node}
use Rattle.mem_values.proofs.Basics.{is_value}
use Rattle.home_laws.specs.Laws.{IsNodeOf}
use Rattle.note_laws.specs.Run.{TableRun, IsTableRun, calls_of, WroteNode, TellsCommit}
use Rattle.made_laws.specs.Made.{CoreMaking, run_on, CoreMade, is_concerned, OwnMade, MadeEitherWay, OwnFileMaking, OwnFileMade}
use Rattle.made_laws.specs.Tells.{commit_made, ToldMade}
use Rattle.made_laws.specs.Own.{commit_of_own, ToldOwn, TellsMaking, told_notes, told_file}
use Rattle.made_laws.proofs.Later.{mades_go_on, makings_go_on, owns_go_on}
use Rattle.mem_calls.specs.Held.{pending_held}
use Rattle.fsync_values.specs.Renewing.{cut_then, kept_of_node}
use Rattle.landing_laws.specs.Written.{cut_of_value}
use Rattle.landing_laws.specs.Made.{MakesPlanned, run_planned, PlannedFsync, of_file}
use Rattle.landing_laws.specs.Landed.{LandedFsync, HasBecomeDurable, nodes_landed, commitment_of, done_of}
use Rattle.landing_laws.specs.Told.{TellsLanded, LandedAreTold}
use Rattle.landing_laws.proofs.Landed.{node_there, member_held, landed}
use Rattle.landing_laws.proofs.ToldDrafts.{cut_is}
use Rattle.landing_laws.proofs.Seen.{listed_wrote, found_wrote, FoundWrote}
use Rattle.landing_laws.proofs.Kept.{left_made}
use Rattle.landing_laws.proofs.Left.{left_listed}

-- the cut that a commit writes of a node, by that which was held of it
then_is : (stamp : Stamp) (member : Bool) (cut : Stamp) → (cut_then stamp member cut).0 ≡ (if member then max cut.0 stamp.0 else cut.0)
then_is stamp true cut = refl
then_is stamp false cut = refl

-- What a core held of a node is what it saw and gathered of it.
record SeenHeld (s : PlannedFsync) (node : ℕ) : Type 0 where
  value : Pending
  held : pending_held s.nodes s.hand.held (record { 0 = node }) ≡ Some value
  cut : cut_in s.caught.gathered.cuts.items node ≡ value.cut.0

module _ (t : FileState) (s : LandedFsync) (m : MakesPlanned s.planned) (run : TableRun) (is : HasBecomeDurable t s) (told : TellsLanded s run) where
  abbrev hand : FileHand
  hand = s.planned.hand

  abbrev list : List NodeId
  list = nodes_landed s

  abbrev making : CoreMaking
  making = m.making

  -- the run goes on from what the core had seen
  goes_on : IsPrefix hand.view.seen run.log
  goes_on = (
    told.since.0 ++ told.told.event ∷ told.told.rest,
    sym (append_assoc hand.view.seen told.since.0 (told.told.event ∷ told.told.rest)) ∙ ap (λ log. log ++ told.told.event ∷ told.told.rest) told.since.1
        ∙ told.told.whole,
  )

  run_is : run_on (run_planned s.planned) goes_on.0 ≡ run
  run_is = λ i. record { given = sym told.given_is i; first = sym told.first_is i; log = goes_on.1 i }

  -- what it saw of a node that is concerned it holds
  saw_held : (node : ℕ) → is_concerned making node ≡ true → making.noted.pending node ≡ pending_held s.planned.nodes hand.held (record { 0 = node })
  saw_held node concerned =
      ap (λ (f : ℕ → Option Pending). f node) m.saw
      ∙ ap (λ b. if b then pending_held s.planned.nodes hand.held (record { 0 = node }) else None)
      (ap (λ (c : Concern). is_listed (map node_number c.nodes.items) node) (sym m.concern_is) ∙ concerned)

  concern_made : (nodes : Concern → List NodeId) (node : ℕ)
      → is_listed (map node_number (nodes s.planned.caught.concern)) node ≡ is_listed (map node_number (nodes making.concern)) node
  concern_made nodes node = ap (λ (c : Concern). is_listed (map node_number (nodes c)) node) (sym m.concern_is)

  module _ (core : CoreMade (run_planned s.planned) making) where
    made : CoreMade run making
    made =
        subst (λ r. CoreMade r making) run_is
        (mades_go_on (run_planned s.planned) goes_on.0 making (subst IsTableRun (sym run_is) told.table) core)

    abbrev commit : CoreCommit
    commit = commit_made run making made.plans s.number

    -- its members are told that are directories
    members : (node : ℕ) → IsOneOf commit.members node → is_directory (tree_after run.first (calls_of run)) node ≡ true
        → IsOneOf (commitment_of s).members node
    members node one kind =
        let listed = concern_made (λ (c : Concern). c.members.items) node ∙ (listed_one (map node_number making.concern.members.items) node).1 one in
        let there = node_there t s is node (member_held t s is node listed) in
        let before : IsNodeOf (tree_after run.first (calls_in hand.view.seen)) node =
        subst (λ first. IsNodeOf (tree_after first (calls_in hand.view.seen)) node) (sym told.first_is) there
        in
        let kinds = (later_node run.first hand.view.seen run.log node told.table.sound told.table.legal goes_on before).1 in
        (landed t s is).members.all node listed
        (subst (λ first. is_directory (tree_after first (calls_in hand.view.seen)) node ≡ true) told.first_is (sym kinds ∙ kind))

    -- it holds exactly the nodes that are concerned
    holds : (node : ℕ) → (commit.holds node ≡ true) ↔ IsSome (held_by (commitment_of s) node)
    holds node = (
      λ concerned. listed_wrote s.planned.nodes (done_of s) list hand.held is.planned.holds node
          (concern_made (λ (c : Concern). c.nodes.items) node ∙ concerned),
      λ some.
          let held = is_value (held_by (commitment_of s) node) some in
          sym (concern_made (λ (c : Concern). c.nodes.items) node)
          ∙ (found_wrote s.planned.nodes (done_of s) list hand.held is.planned.holds node held.0 held.1).listed,
    )

    -- what it wrote of a node
    module _ (node : ℕ) (held : HeldNode) (found : FoundWrote s.planned.nodes list hand.held (done_of s) node held) where
      gathers : SeenHeld s.planned node
      gathers =
          let concerned = sym (concern_made (λ (c : Concern). c.nodes.items) node) ∙ found.listed in
          let seen = core.gathers.seen node concerned in
          record {
            value = seen.0;
            held = sym (saw_held node concerned) ∙ seen.1.seen;
            cut = ap (λ (g : Gathered). cut_in g.cuts.items node) (sym m.gathered_is) ∙ seen.1.cut;
          }

      saw : (flushed_in run.given (account_of told.told.before) node).cut ≡ commit.look.cut node
      saw =
          sym (ap (λ (f : Flushed). f.cut) (told.stood (record { 0 = node }) gathers.value gathers.held).flushed) ∙ sym gathers.cut
          ∙ ap (λ (g : Gathered). cut_in g.cuts.items node) (sym m.gathered_is)

      lifted : held.new_cut.0 ≡ commit.makes.lifted node
      lifted =
          let member = is_listed (map node_number s.planned.caught.concern.members.items) node in
          let cut : cut_of_value found.value ≡ gathers.value.cut = cut_is found.value gathers.value (sym found.pending ∙ gathers.held) in
          ap (λ (h : HeldNode). h.new_cut.0) found.is ∙ then_is s.planned.fsync.stamp member (cut_of_value found.value)
          ∙ ap (λ c. if member then max c s.planned.fsync.stamp.0 else c) (ap (λ (c : Stamp). c.0) cut ∙ sym gathers.cut)
          ∙ (λ i. lifted_cut (sym m.gathered_is i).cuts.items (map node_number (sym m.concern_is i).members.items) (sym m.stamp_is i) node)

      inode : is_some held.new ≡ has_inode_behind commit node
      inode =
          ap (λ (h : HeldNode). is_some h.new) found.is ∙ ap (λ after. is_some (kept_of_node after node)) is.after_is
          ∙ ap (λ (plan : FsyncPlan). is_some (kept_of_node (after_commit plan.change s.grant) node)) (sym m.plan_is)
          ∙ left_made run making made s.number s.grant node (sym (concern_made (λ (c : Concern). c.nodes.items) node) ∙ found.listed)

      wrote_found : WroteNode run.given (account_of told.told.before) commit node held
      wrote_found = record { saw = saw; lifted = lifted; inode = inode }

    pub told_made : ToldMade run making (commitment_of s)
    told_made = record {
      made = made;
      tells = record {
        there = told.told;
        number = refl;
        stamp = sym m.stamp_is;
        members = members;
        holds = holds;
        wrote = λ node held is_held.
            wrote_found node held (found_wrote s.planned.nodes (done_of s) list hand.held is.planned.holds node held is_held);
      };
    }

  -- The commit of a file that was planned alone.
  module _ (one : OwnMade (run_planned s.planned) making) where
    of_file_there : MadeEitherWay run making
    of_file_there =
        subst (λ r. MadeEitherWay r making) run_is
        (makings_go_on (run_planned s.planned) goes_on.0 making (subst IsTableRun (sym run_is) told.table) (MadeEitherWay.of_file one))

    abbrev own : OwnFileMaking
    own = one.own

    own_made : OwnFileMade run own
    own_made =
        subst (λ r. OwnFileMade r own) run_is
        (owns_go_on (run_planned s.planned) goes_on.0 own (subst IsTableRun (sym run_is) told.table) one.made)

    list_is : list ≡ record { 0 = own.node } ∷ []
    list_is = ap (λ (c : Concern). c.nodes.items) (sym m.concern_is) ∙ one.concerns

    own_listed : is_listed (map node_number list) own.node ≡ true
    own_listed =
        subst (λ (l : List NodeId). is_listed (map node_number l) own.node ≡ true) (sym list_is)
        ((listed_one (own.node ∷ []) own.node).1 (inl refl))

    listed_own : (node : ℕ) → is_listed (map node_number list) node ≡ true → node ≡ own.node
    listed_own node listed =
        elim ((listed_one (own.node ∷ []) node).0 (subst (λ (l : List NodeId). is_listed (map node_number l) node ≡ true) list_is listed)) [
          | inl same ↦ sym same
          | inr none ↦ absurd none
        ]

    held_own : pending_held s.planned.nodes hand.held (record { 0 = own.node }) ≡ Some own.value
    held_own = sym (saw_held own.node (sym (concern_made (λ (c : Concern). c.nodes.items) own.node) ∙ own_listed)) ∙ one.saw

    stamp_own : s.planned.fsync.stamp.0 ≡ own.stamp
    stamp_own = sym m.stamp_is ∙ ap (λ (f : Flush). f.stamp) one.flush_is

    -- the file is its only member
    own_member : is_listed (map node_number s.planned.caught.concern.members.items) own.node ≡ true
    own_member =
        subst (λ (l : List NodeId). is_listed (map node_number l) own.node ≡ true)
        (sym (ap (λ (c : Concern). c.members.items) (sym m.concern_is) ∙ one.members_are)) ((listed_one (own.node ∷ []) own.node).1 (inl refl))

    module _ (first : TreeState) (history : List Entry) (cuts : ℕ → ℕ) where
      abbrev commit_own : CoreCommit
      commit_own = commit_of_own first history cuts own s.number

      own_is : (node : ℕ) → node ≡ own.node → nat_eq node own.node ≡ true
      own_is node same = ap (λ n. nat_eq n own.node) same ∙ same_number own.node

      module _ (node : ℕ) (held : HeldNode) (found : FoundWrote s.planned.nodes list hand.held (done_of s) node held) where
        same : node ≡ own.node
        same = listed_own node found.listed

        held_here : pending_held s.planned.nodes hand.held (record { 0 = node }) ≡ Some own.value
        held_here = subst (λ n. pending_held s.planned.nodes hand.held (record { 0 = n }) ≡ Some own.value) (sym same) held_own

        saw_own : (flushed_in run.given (account_of told.told.before) node).cut ≡ commit_own.look.cut node
        saw_own =
            sym (ap (λ (f : Flushed). f.cut) (told.stood (record { 0 = node }) own.value held_here).flushed)
            ∙ sym (ap (λ b. if b then own.value.cut.0 else 0) (own_is node same))

        lifted_own : held.new_cut.0 ≡ commit_own.makes.lifted node
        lifted_own =
            let cut : cut_of_value found.value ≡ own.value.cut = cut_is found.value own.value (sym found.pending ∙ held_here) in
            let member = subst (λ n. is_listed (map node_number s.planned.caught.concern.members.items) n ≡ true) (sym same) own_member in
            ap (λ (h : HeldNode). h.new_cut.0) found.is
            ∙ then_is s.planned.fsync.stamp (is_listed (map node_number s.planned.caught.concern.members.items) node) (cut_of_value found.value)
            ∙ ap (λ b. if b then max (cut_of_value found.value).0 s.planned.fsync.stamp.0 else (cut_of_value found.value).0) member
            ∙ (λ i. max (cut i).0 (stamp_own i))
            ∙ sym (ap (λ b. if b then max own.value.cut.0 own.stamp else 0) (own_is node same))

        inode_own : is_some held.new ≡ has_inode_behind commit_own node
        inode_own =
            ap (λ (h : HeldNode). is_some h.new) found.is ∙ ap (λ after. is_some (kept_of_node after node)) is.after_is
            ∙ ap (λ (plan : FsyncPlan). is_some (kept_of_node (after_commit plan.change s.grant) node)) (sym m.plan_is)
            ∙ ap (λ (change : Planned). is_some (kept_of_node (after_commit change s.grant) node))
            (one.change_is ∙ ap (λ old. planned old [] own.files [] []) one.old_is)
            ∙ left_listed (entry_keyed (own.node, own.kept) ∷ []) [] own.files [] [] s.grant node
            ∙ ap (λ n. (is_listed (own.node ∷ []) n && not (is_listed [] n)) || is_listed [] n) same
            ∙ ap (λ b. (b && true) || false) ((listed_one (own.node ∷ []) own.node).1 (inl refl))
            ∙ sym (own_is node same)

      own_told : TellsCommit run commit_own (commitment_of s)
      own_told = record {
        there = told.told;
        number = refl;
        stamp = stamp_own;
        members = λ node among kind. absurd (not_both (subst (λ n. is_directory (tree_after run.first (calls_of run)) n ≡ true)
            (elim among [ inl same ↦ sym same | inr none ↦ absurd none ]) kind) own_made.is_file);
        holds = λ node. (
          λ holds. listed_wrote s.planned.nodes (done_of s) list hand.held is.planned.holds node
              (subst (λ n. is_listed (map node_number list) n ≡ true) (sym (eqb-true node own.node holds)) own_listed),
          λ some.
              let held = is_value (held_by (commitment_of s) node) some in
              own_is node (listed_own node (found_wrote s.planned.nodes (done_of s) list hand.held is.planned.holds node held.0 held.1).listed),
        );
        wrote = λ node held is_held.
            let found = found_wrote s.planned.nodes (done_of s) list hand.held is.planned.holds node held is_held in
            record { saw = saw_own node held found; lifted = lifted_own node held found; inode = inode_own node held found };
      }

    pub told_own : ToldOwn run making (commitment_of s)
    told_own = record {
      one = record {
        own = own;
        made = own_made;
        core_is = one.core_is;
        flush_is = one.flush_is;
        no_parts = one.no_parts;
        concerns = one.concerns;
        members_are = one.members_are;
        saw = one.saw;
        old_is = one.old_is;
        change_is = one.change_is;
      };
      tells = own_told;
    }

  pub told_so : MadeEitherWay (run_planned s.planned) making → TellsMaking run making (commitment_of s)
  told_so (MadeEitherWay.of_notes core) = told_notes (told_made core)
  told_so (MadeEitherWay.of_file one) = told_file (told_own one)

pub landed_are_told : LandedAreTold
landed_are_told t s made run is told = told_so t s made run is told made.made
