-- A core may tell what it wrote.
use Rattle.std.proofs.Common.{◌≡◌, ◌≢◌, ◌∙◌, ◌<◌, ◌≤◌, ℕ, zero, suc, max, Bool, true, false, List, [], ◌∷◌, map, length, Option, Some, None, IsSome, inl, inr, refl, sym, ap, subst, arith, Contains, is_some, nat_eq}
use Rattle.std.specs.Prelude.{All, option_map, if◌then◌else◌}
use Rattle.std.specs.List.{find}
use Rattle.std.specs.List.Sorted.{IsStrictlyIncreasing}
use Rattle.std.proofs.lemmas.Bool.{cases_Bool}
use Rattle.std.proofs.lemmas.List.Elements.{All-head, All-tail}
use Rattle.sfs_base.specs.declared.numbers.NodeId.{NodeId}
use Rattle.sfs_base.specs.declared.numbers.Stamp.{Stamp}
use Rattle.sfs_base.specs.Listed.{is_listed}
use Rattle.sfs_base.proofs.BasicOptions.{none_some, some_same}
use Rattle.sfs_base.proofs.BasicTruth.{true_not_false}
use Rattle.tree_laws.specs.NameRow.{node_number}
use Rattle.tree_laws.specs.Tree.{is_directory}
use Rattle.cut_laws.specs.Rules.{IsOneOf}
use Rattle.cut_laws.proofs.Listed.{listed_one, to_map}
use Rattle.commit_laws.proofs.Shown.{found_is_in}
use Rattle.dep_closure.proofs.Looked.{one_of_all}
use Rattle.disk_nodes.specs.OldKept.{OldKept}
use Rattle.disk_nodes.specs.Nodes.{entry_node}
use Rattle.disk_nodes.specs.declared.old.OldEntry.{OldEntry}
use Rattle.keyed_list.specs.Ascending.{item_with}
use Rattle.stamp_table.specs.Hand.{places_of}
use Rattle.stamp_table.specs.Events.{calls_in}
use Rattle.stamp_table.specs.Table.{values_in}
use Rattle.stamp_table.specs.declared.held.HeldCell.{HeldCell}
use Rattle.mem_values.specs.Account.{Commitment, held_by, is_held_of}
use Rattle.mem_values.specs.Facts.{IsBelowInodes, KeepsRoot, RaisesMember}
use Rattle.mem_values.specs.Laws.{KnowsCell, KnowsCells}
use Rattle.mem_values.specs.Places.{IsCell, cell_place, node_count}
use Rattle.mem_values.specs.Start.{FileHand}
use Rattle.mem_values.specs.Telling.{FollowsFlushed, FollowsValue, KnowsOf, MayTellCommit}
use Rattle.mem_values.specs.declared.cell.Cell.{Cell}
use Rattle.mem_values.specs.declared.cell.Cell.TheVariants as cell
use Rattle.mem_values.specs.declared.cell.Pending.{Pending}
use Rattle.mem_values.specs.declared.cell_id.CellId.TheVariants as id
use Rattle.mem_values.specs.declared.fact.HeldNode.{HeldNode}
use Rattle.mem_calls.specs.Held.{as_pending, pending_held}
use Rattle.home_laws.specs.Laws.{IsNodeOf}
use Rattle.fsync_look.specs.Look.{IsBelow, flushed_place}
use Rattle.fsync_gather.specs.Gathers.{IsHeldOf}
use Rattle.fsync_gather.proofs.Rising.{tail_rises}
use Rattle.fsync_values.specs.Renewing.{cut_then, kept_of_node}
use Rattle.landing_laws.specs.Telling.{HasLanded, LandedMayBeTold, tree_seen}
use Rattle.landing_laws.specs.Written.{CommitDone, cut_of_value, node_wrote, nodes_wrote}
use Rattle.landing_laws.proofs.HeldNodes.{apart, first_held, later_held, other_held}
use Rattle.landing_laws.proofs.Written.{find_first, find_other}

-- What was written of a node stands beside the cell that holds it.
record IsWroteOf (nodes : ℕ) (list : List NodeId) (cells : List (HeldCell Cell)) (done : CommitDone) (held : HeldNode) : Type 0 where
  node : NodeId
  cell : HeldCell Cell
  among : IsOneOf list node
  is_held : IsOneOf cells cell
  place : cell.place ≡ flushed_place nodes node
  pending : pending_held nodes cells node ≡ as_pending cell.value
  is : held ≡ node_wrote done node cell.value

module _ (nodes : ℕ) (done : CommitDone) where
  later_wrote : (n : NodeId) (list : List NodeId) (c : HeldCell Cell) (cells : List (HeldCell Cell)) (held : HeldNode) → c.place ≡ flushed_place nodes n
      → IsStrictlyIncreasing (map node_number (n ∷ list)) → IsWroteOf nodes list cells done held → IsWroteOf nodes (n ∷ list) (c ∷ cells) done held
  later_wrote n list c cells held place up of =
      let listed = (listed_one (map node_number list) of.node.0).1 (to_map node_number list of.node of.among) in
      record {
        node = of.node;
        cell = of.cell;
        among = inr of.among;
        is_held = inr of.is_held;
        place = of.place;
        pending = other_held nodes c cells n of.node place (apart n list of.node.0 up listed) ∙ of.pending;
        is = of.is;
      }

  -- each that was written
  wrote_of : (list : List NodeId) (cells : List (HeldCell Cell)) → places_of cells ≡ map (flushed_place nodes) list
      → IsStrictlyIncreasing (map node_number list)
      → (held : HeldNode) → IsOneOf (nodes_wrote done list (values_in cells)) held → IsWroteOf nodes list cells done held
  wrote_of [] cells places up held one = absurd one
  wrote_of (n ∷ list) [] places up held one = absurd one
  wrote_of (n ∷ list) (c ∷ cells) places up held one =
      let place : c.place ≡ flushed_place nodes n = cc (places) in
      let rest : places_of cells ≡ map (flushed_place nodes) list = cc (places) in
      elim one [
        | inl same ↦ record {
          node = n;
          cell = c;
          among = inl refl;
          is_held = inl refl;
          place = place;
          pending = first_held nodes c cells n place;
          is = sym same;
        }
        | inr later ↦ later_wrote n list c cells held place up (wrote_of list cells rest (tail_rises n.0 (map node_number list) up) held later)
      ]

  -- and what is found of a node that is listed
  found_wrote : (list : List NodeId) (cells : List (HeldCell Cell)) → places_of cells ≡ map (flushed_place nodes) list
      → IsStrictlyIncreasing (map node_number list)
      → (node : ℕ) → is_listed (map node_number list) node ≡ true
      → (held : HeldNode) × (find (is_held_of node) (nodes_wrote done list (values_in cells)) ≡ Some held) × (held.node.0 ≡ node)
      × IsOneOf (nodes_wrote done list (values_in cells)) held
  found_wrote [] cells places up node listed = absurd (true_not_false (sym listed))
  found_wrote (n ∷ list) [] places up node listed = absurd (cc (places))
  found_wrote (n ∷ list) (c ∷ cells) places up node listed =
      let rest : places_of cells ≡ map (flushed_place nodes) list = cc (places) in
      elim ((listed_one (map node_number (n ∷ list)) node).0 listed) [
        | inl same ↦
            (node_wrote done n c.value, find_first (node_wrote done n c.value) (nodes_wrote done list (values_in cells)) node same, same, inl refl)
        | inr later ↦
            let is = (listed_one (map node_number list) node).1 later in
            let found = found_wrote list cells rest (tail_rises n.0 (map node_number list) up) node is in (
              found.0,
              find_other (node_wrote done n c.value) (nodes_wrote done list (values_in cells)) node (apart n list node up is) ∙ found.1,
              found.2,
              inr found.3,
            )
      ]

-- a cell among those that a core knows
knows_one : (given : ℕ → Option OldKept) (hand : FileHand) (cells : List (HeldCell Cell)) (c : HeldCell Cell) → KnowsCells given hand.view cells
    → IsOneOf cells c
    → KnowsCell given hand.view c
knows_one given hand [] c knows one = absurd one
knows_one given hand (x ∷ cells) c knows one = elim one [
  | inl same ↦ subst (KnowsCell given hand.view) same knows.0
  | inr rest ↦ knows_one given hand cells c knows.1 rest
]

-- a cut behind a commit does not fall, and comes to the commit's stamp at most where it was below the same bound
not_below_before : (stamp : Stamp) (member : Bool) (cut : Stamp) → cut.0 ≤ (cut_then stamp member cut).0
not_below_before stamp true cut = omega arith
not_below_before stamp false cut = omega arith

bound_then : (stamp : Stamp) (member : Bool) (cut : Stamp) (most : ℕ) → cut.0 ≤ most → stamp.0 ≤ most → (cut_then stamp member cut).0 ≤ most
bound_then stamp true cut most one two = omega (arith, one, two)
bound_then stamp false cut most one two = one

raised_then : (stamp : Stamp) (member : Bool) (cut : Stamp) → member ≡ true → stamp.0 ≤ (cut_then stamp member cut).0
raised_then stamp true cut is = omega arith
raised_then stamp false cut is = absurd (true_not_false (sym is))

same_then : (stamp : Stamp) (member : Bool) (cut : Stamp) → member ≡ false → (cut_then stamp member cut).0 ≡ cut.0
same_then stamp true cut is = absurd (true_not_false is)
same_then stamp false cut is = refl

-- the cut of a value is that which was flushed
pub cut_is : (value : Cell) (p : Pending) → as_pending value ≡ Some p → cut_of_value value ≡ p.cut
cut_is (cell.Pending pending) p same = ap (λ (q : Pending). q.cut) (some_same same)
cut_is (cell.Lock lock) p same = absurd (none_some same)
cut_is (cell.Bucket bucket) p same = absurd (none_some same)
cut_is (cell.File file) p same = absurd (none_some same)
cut_is (cell.Part part) p same = absurd (none_some same)

module _ (given : ℕ → Option OldKept) (nodes : ℕ) (list : List NodeId) (hand : FileHand) (done : CommitDone) (commit : Commitment)
    (is : HasLanded given nodes list hand done commit) where
  of_held : (held : HeldNode) → IsOneOf commit.held held → IsWroteOf nodes list hand.held done held
  of_held held one = wrote_of nodes done list hand.held is.holds.places is.holds.ascend held (subst (λ l. IsOneOf l held) is.holds.wrote one)

  -- the value that is held of a node is of what was flushed
  pending_of : (held : HeldNode) (of : IsWroteOf nodes list hand.held done held) → (p : Pending) × (as_pending of.cell.value ≡ Some p)
  pending_of held of = by (as_pending of.cell.value) refl (subst IsSome of.pending (one_of_all (IsHeldOf nodes hand.held) list of.node is.holds.held of.among))
    where
      by : (o : Option Pending) → as_pending of.cell.value ≡ o → IsSome o → (p : Pending) × (as_pending of.cell.value ≡ Some p)
      by None same some = absurd (true_not_false (sym some))
      by (Some p) same some = (p, same)

  value_follows : (held : HeldNode) (value : Cell) (p : Pending) → as_pending value ≡ Some p
      → FollowsFlushed hand.view.first (calls_in hand.view.seen) commit held p → FollowsValue hand.view.first (calls_in hand.view.seen) commit held value
  value_follows held (cell.Pending pending) p same follows =
      subst (FollowsFlushed hand.view.first (calls_in hand.view.seen) commit held) (sym (some_same same)) follows
  value_follows held (cell.Lock lock) p same follows = absurd (none_some same)
  value_follows held (cell.Bucket bucket) p same follows = absurd (none_some same)
  value_follows held (cell.File file) p same follows = absurd (none_some same)
  value_follows held (cell.Part part) p same follows = absurd (none_some same)

  module _ (held : HeldNode) (of : IsWroteOf nodes list hand.held done held) (p : Pending) (value_is : as_pending of.cell.value ≡ Some p) where
    abbrev is_member : Bool
    is_member = is_listed (map node_number done.members) of.node.0

    new_cut_is : held.new_cut ≡ cut_then done.renewal.stamp is_member p.cut
    new_cut_is = ap (λ (h : HeldNode). h.new_cut) of.is ∙ ap (cut_then done.renewal.stamp is_member) (cut_is of.cell.value p value_is)

    node_is : held.node ≡ of.node
    node_is = ap (λ (h : HeldNode). h.node) of.is

    follows_flushed : FollowsFlushed hand.view.first (calls_in hand.view.seen) commit held p
    follows_flushed = record {
      later = is.later of.node p (of.pending ∙ value_is);
      rises = subst (λ (c : Stamp). p.cut.0 ≤ c.0) (sym new_cut_is) (not_below_before done.renewal.stamp is_member p.cut);
      stays = λ kind none.
          ap (λ (c : Stamp). c.0) new_cut_is ∙ same_then done.renewal.stamp is_member p.cut (elim (cases_Bool is_member) [
            | inl member ↦
                absurd (none (subst (λ (n : NodeId). IsOneOf commit.members n.0) (sym node_is)
                (is.members.all of.node.0 member (subst (λ (n : NodeId). is_directory (tree_seen hand) n.0 ≡ true) node_is kind))))
            | inr other ↦ other
          ]);
    }

  follows : (held : HeldNode) → IsOneOf commit.held held
      → KnowsOf given hand.view (id.Pending held.node) (FollowsValue hand.view.first (calls_in hand.view.seen) commit held)
  follows held one =
      let of = of_held held one in
      let p = pending_of held of in
      let node : held.node ≡ of.node = ap (λ (h : HeldNode). h.node) of.is in
      let within : of.node.0 < nodes = one_of_all (IsBelow nodes) list of.node is.holds.within of.among in
      record {
        known = of.cell;
        knows = knows_one given hand hand.held of.cell is.knows of.is_held;
        is_cell = subst (λ (n : NodeId). n.0 < node_count hand.view.first) (sym node) (subst (λ k. of.node.0 < k) is.counted within);
        there = subst (λ (n : NodeId). cell_place (node_count hand.view.first) (id.Pending n) ≡ of.cell.place) (sym node)
            (subst (λ k. cell_place k (id.Pending of.node) ≡ of.cell.place) is.counted (sym of.place));
        has = value_follows held of.cell.value p.0 p.1 (follows_flushed held of p.0 p.1);
      }

  raises : (directory : ℕ) → IsOneOf commit.members directory → RaisesMember commit directory
  raises directory one =
      let found = found_wrote nodes done list hand.held is.holds.places is.holds.ascend directory (is.members.held directory one) in
      let of = wrote_of nodes done list hand.held is.holds.places is.holds.ascend found.0 found.3 in
      let p = pending_of found.0 of in
      let node : of.node.0 ≡ directory = sym (ap (λ (h : HeldNode). h.node.0) of.is) ∙ found.2 in (
        found.0,
        ap (find (is_held_of directory)) is.holds.wrote ∙ found.1,
        subst (λ n. n ≤ found.0.new_cut.0) (sym is.stamp_is) (subst (λ (c : Stamp). done.renewal.stamp.0 ≤ c.0) (sym (new_cut_is found.0 of p.0 p.1))
            (raised_then done.renewal.stamp (is_listed (map node_number done.members) of.node.0) p.0.cut
            (subst (λ n. is_listed (map node_number done.members) n ≡ true) (sym node) (is.members.flushed directory one)))),
      )

  low_kept : (node : ℕ) (o : Option OldEntry) (kept : OldKept) → item_with entry_node node done.after ≡ o → option_map (λ (e : OldEntry). e.old) o ≡ Some kept
      → kept.number < hand.view.first.first
  low_kept node None kept same has = absurd (none_some has)
  low_kept node (Some entry) kept same has =
      subst (λ (k : OldKept). k.number < hand.view.first.first) (some_same has)
      (is.low entry (found_is_in (λ (e : OldEntry). nat_eq (entry_node e) node) done.after entry same))

  may_tell : MayTellCommit given hand.view commit
  may_tell = record {
    own = is.own;
    fresh = is.fresh;
    nodes = λ held one.
        let of = of_held held one in
        subst (λ (n : NodeId). IsNodeOf (tree_seen hand) n.0) (sym (ap (λ (h : HeldNode). h.node) of.is))
        (one_of_all (λ (n : NodeId). IsNodeOf (tree_seen hand) n.0) list of.node is.holds.are_nodes of.among);
    follows = follows;
    within = λ held one.
        let of = of_held held one in
        let p = pending_of held of in
        subst (λ (c : Stamp). c.0 ≤ length (calls_in hand.view.seen)) (sym (new_cut_is held of p.0 p.1))
        (bound_then done.renewal.stamp (is_listed (map node_number done.members) of.node.0) p.0.cut (length (calls_in hand.view.seen))
        (is.cuts of.node p.0 (of.pending ∙ p.1)) (subst (λ n. n ≤ length (calls_in hand.view.seen)) is.stamp_is is.stamped));
    raises = raises;
    directories = is.members.directories;
    inodes = λ held one kept has.
        let of = of_held held one in
        low_kept of.node.0 (item_with entry_node of.node.0 done.after) kept refl (sym (ap (λ (h : HeldNode). h.new) of.is) ∙ has);
    root = λ held one zero_is.
        let of = of_held held one in
        let node : of.node.0 ≡ 0 = sym (ap (λ (h : HeldNode). h.node.0) of.is) ∙ zero_is in
        let listed = (listed_one (map node_number list) of.node.0).1 (to_map node_number list of.node of.among) in
        ap (λ (h : HeldNode). is_some h.new) of.is
        ∙ (ap (λ n. is_some (kept_of_node done.after n)) node ∙ is.root (subst (λ n. is_listed (map node_number list) n ≡ true) node listed));
  }

pub landed_may_be_told : LandedMayBeTold
landed_may_be_told given nodes list hand done commit is = may_tell given nodes list hand done commit is
