-- What a core holds of the nodes of its fsync, and what its commit wrote of them.
use Rattle.std.proofs.Common.{◌≡◌, ◌∙◌, ◌∷◌, if◌then◌else◌, ℕ, List, map, Some, true, [], inl, inr, sym, Bool, Option, find, nat_eq, ap, option_map, IsSome, subst, refl}
use Rattle.std.proofs.lemmas.Bool.Decides.{eqb_tells}
use Rattle.sfs_base.specs.declared.numbers.NodeId.{NodeId}
use Rattle.sfs_base.specs.Listed.{is_listed}
use Rattle.sfs_base.proofs.BasicOptions.{none_some, some_same}
use Rattle.sfs_base.proofs.BasicTruth.{true_not_false}
use Rattle.tree_laws.specs.NameRow.{node_number}
use Rattle.cut_laws.proofs.Listed.{listed_one}
use Rattle.stamp_table.specs.declared.held.HeldCell.{HeldCell}
use Rattle.stamp_table.specs.Hand.{places_of}
use Rattle.stamp_table.specs.Table.{values_in}
use Rattle.mem_values.specs.declared.cell.Cell.{Cell}
use Rattle.mem_values.specs.declared.cell.Pending.{Pending}
use Rattle.mem_values.specs.declared.fact.HeldNode.{HeldNode}
use Rattle.mem_values.specs.Account.{is_held_of}
use Rattle.mem_values.specs.declared.cell.Cell.TheVariants as cell
use Rattle.slot_laws.specs.Nodes.{last_seen}
use Rattle.slot_laws.specs.declared.label.Seen.{Seen}
use Rattle.mem_calls.specs.Held.{pending_held, as_pending}
use Rattle.fsync_look.specs.Look.{flushed_place}
use Rattle.fsync_draft.specs.Drafting.{seens_of, last_of_value}
use Rattle.landing_laws.specs.Written.{CommitDone, node_wrote, nodes_wrote}
use Rattle.landing_laws.proofs.HeldNodes.{first_held, later_listed, other_held}
use Rattle.landing_laws.proofs.Written.{find_first, find_other}

-- what is held of a node is of one of the list
module _ (nodes : ℕ) where
  pub held_listed : (list : List NodeId) (cells : List (HeldCell Cell)) → places_of cells ≡ map (flushed_place nodes) list → (node : NodeId) (value : Pending)
      → pending_held nodes cells node ≡ Some value → is_listed (map node_number list) node.0 ≡ true
  held_listed list [] places node value has = absurd (none_some has)
  held_listed [] (c ∷ cells) places node value has = absurd (cc (places))
  held_listed (n ∷ list) (c ∷ cells) places node value has =
      let place : c.place ≡ flushed_place nodes n = cc (places) in
      let rest : places_of cells ≡ map (flushed_place nodes) list = cc (places) in
      elim (eqb_tells n.0 node.0) [
        | inl same ↦ (listed_one (map node_number (n ∷ list)) node.0).1 (inl same.1)
        | inr away ↦ later_listed n list node.0
            (held_listed list cells rest node value (sym (other_held nodes c cells n node place away.1) ∙ has))
      ]

  -- the number of its last commit is among those that were seen
  pub last_is_seen : (list : List NodeId) (cells : List (HeldCell Cell)) → places_of cells ≡ map (flushed_place nodes) list → (node : NodeId) (value : Pending)
      → pending_held nodes cells node ≡ Some value → last_seen (seens_of list (values_in cells)) node.0 ≡ Some value.last
  last_is_seen list [] places node value has = absurd (none_some has)
  last_is_seen [] (c ∷ cells) places node value has = absurd (cc (places))
  last_is_seen (n ∷ list) (c ∷ cells) places node value has =
      let place : c.place ≡ flushed_place nodes n = cc (places) in
      let rest : places_of cells ≡ map (flushed_place nodes) list = cc (places) in
      let found : Bool → Option Seen = λ b. if b then Some (record { node = n; last = last_of_value c.value })
      else find (λ (one : Seen). nat_eq one.node.0 node.0) (seens_of list (values_in cells)) in
      elim (eqb_tells n.0 node.0) [
        | inl same ↦
            let own : n ≡ node = λ i. record { 0 = same.1 i } in
            ap (λ b. option_map (λ (one : Seen). one.last) (found b)) same.0
            ∙ last_of c.value (sym (first_held nodes c cells n place) ∙ ap (pending_held nodes (c ∷ cells)) own ∙ has)
        | inr away ↦ ap (λ b. option_map (λ (one : Seen). one.last) (found b)) away.0
            ∙ last_is_seen list cells rest node value (sym (other_held nodes c cells n node place away.1) ∙ has)
      ]
    where
      last_of : (v : Cell) → as_pending v ≡ Some value → Some (last_of_value v) ≡ Some value.last
      last_of (cell.Pending pending) is = ap (λ (p : Pending). Some p.last) (some_same is)
      last_of (cell.Lock lock) is = absurd (none_some is)
      last_of (cell.Bucket bucket) is = absurd (none_some is)
      last_of (cell.File file) is = absurd (none_some is)
      last_of (cell.Part part) is = absurd (none_some is)

-- what was written of a node that is found, by the value that was held of it
pub record FoundWrote (nodes : ℕ) (list : List NodeId) (cells : List (HeldCell Cell)) (done : CommitDone) (node : ℕ) (held : HeldNode) : Type 0 where
  pub value : Cell
  pub pending : pending_held nodes cells (record { 0 = node }) ≡ as_pending value
  pub is : held ≡ node_wrote done (record { 0 = node }) value
  pub listed : is_listed (map node_number list) node ≡ true

module _ (nodes : ℕ) (done : CommitDone) where
  pub found_wrote : (list : List NodeId) (cells : List (HeldCell Cell)) → places_of cells ≡ map (flushed_place nodes) list → (node : ℕ) (held : HeldNode)
      → find (is_held_of node) (nodes_wrote done list (values_in cells)) ≡ Some held → FoundWrote nodes list cells done node held
  found_wrote [] cells places node held is = absurd (none_some is)
  found_wrote (n ∷ list) [] places node held is = absurd (none_some is)
  found_wrote (n ∷ list) (c ∷ cells) places node held is =
      let place : c.place ≡ flushed_place nodes n = cc (places) in
      let rest : places_of cells ≡ map (flushed_place nodes) list = cc (places) in
      elim (eqb_tells n.0 node) [
        | inl same ↦
            let own : n ≡ record { 0 = node } = λ i. record { 0 = same.1 i } in
            record {
              value = c.value;
              pending = ap (pending_held nodes (c ∷ cells)) (sym own) ∙ first_held nodes c cells n place;
              is = some_same (sym is ∙ find_first (node_wrote done n c.value) (nodes_wrote done list (values_in cells)) node same.1)
                  ∙ ap (λ m. node_wrote done m c.value) own;
              listed = (listed_one (map node_number (n ∷ list)) node).1 (inl same.1);
            }
        | inr away ↦
            let later = found_wrote list cells rest node held
            (sym (find_other (node_wrote done n c.value) (nodes_wrote done list (values_in cells)) node away.1) ∙ is) in
            record {
              value = later.value;
              pending = other_held nodes c cells n (record { 0 = node }) place away.1 ∙ later.pending;
              is = later.is;
              listed = later_listed n list node later.listed;
            }
      ]

  -- something is found of each node of the list
  pub listed_wrote : (list : List NodeId) (cells : List (HeldCell Cell)) → places_of cells ≡ map (flushed_place nodes) list → (node : ℕ)
      → is_listed (map node_number list) node ≡ true → IsSome (find (is_held_of node) (nodes_wrote done list (values_in cells)))
  listed_wrote [] cells places node listed = absurd (true_not_false (sym listed))
  listed_wrote (n ∷ list) [] places node listed = absurd (cc (places))
  listed_wrote (n ∷ list) (c ∷ cells) places node listed =
      let rest : places_of cells ≡ map (flushed_place nodes) list = cc (places) in
      elim (eqb_tells n.0 node) [
        | inl same ↦
            subst IsSome (sym (find_first (node_wrote done n c.value) (nodes_wrote done list (values_in cells)) node same.1)) refl
        | inr away ↦
            subst IsSome (sym (find_other (node_wrote done n c.value) (nodes_wrote done list (values_in cells)) node away.1))
            (listed_wrote list cells rest node (elim ((listed_one (map node_number (n ∷ list)) node).0 listed) [
              | inl own ↦ absurd (away.1 own)
              | inr later ↦ (listed_one (map node_number list) node).1 later
            ]))
      ]
