-- Values of nodes that ascend, as a core holds them.
use Rattle.std.proofs.Common.{◌≡◌, ◌<◌, ℕ, suc, true, nat_eq, List, ◌∷◌, map, length, get_or, Some, IsSome, inl, inr, refl, ap, subst, arith, eq-eqb}
use Rattle.std.specs.Prelude.{All, option_map, option_and_then, if◌then◌else◌}
use Rattle.std.specs.List.Sorted.{IsStrictlyIncreasing}
use Rattle.std.proofs.lemmas.Bool.Decides.{eqb_tells}
use Rattle.sfs_base.specs.declared.numbers.NodeId.{NodeId}
use Rattle.sfs_base.specs.Listed.{is_listed}
use Rattle.tree_laws.specs.NameRow.{node_number}
use Rattle.cut_laws.proofs.Listed.{listed_one, one_at, to_map}
use Rattle.stamp_table.specs.Table.{cell_at}
use Rattle.stamp_table.specs.declared.held.HeldCell.{HeldCell}
use Rattle.mem_values.specs.declared.cell.Cell.{Cell}
use Rattle.mem_calls.specs.Held.{as_pending, pending_held}
use Rattle.fsync_look.specs.Look.{flushed_place}
use Rattle.fsync_gather.specs.Gathers.{IsHeldOf}
use Rattle.fsync_gather.proofs.Rising.{head_below}

-- what is seen of the first node that is held, and of another one
pub first_held : (nodes : ℕ) (c : HeldCell Cell) (cells : List (HeldCell Cell)) (node : NodeId) → c.place ≡ flushed_place nodes node
    → pending_held nodes (c ∷ cells) node ≡ as_pending c.value
first_held nodes c cells node is =
    let here : nat_eq c.place (flushed_place nodes node) ≡ true = eq-eqb c.place (flushed_place nodes node) is in
    ap (λ b. option_and_then as_pending (option_map (λ (h : HeldCell Cell). h.value) (if b then Some c else cell_at (flushed_place nodes node) cells))) here

pub other_held : (nodes : ℕ) (c : HeldCell Cell) (cells : List (HeldCell Cell)) (node other : NodeId) → c.place ≡ flushed_place nodes node
    → (node.0 ≡ other.0 → ⊥) → pending_held nodes (c ∷ cells) other ≡ pending_held nodes cells other
other_held nodes c cells node other is apart = elim (eqb_tells c.place (flushed_place nodes other)) [
  | inl same ↦ let place = same.1 in absurd (apart (omega (arith, is, place)))
  | inr away ↦ ap (λ b. option_and_then as_pending
      (option_map (λ (h : HeldCell Cell). h.value) (if b then Some c else cell_at (flushed_place nodes other) cells))) away.0
]

-- nodes that ascend
pub first_listed : (n : NodeId) (list : List NodeId) → is_listed (map node_number (n ∷ list)) n.0 ≡ true
first_listed n list = (listed_one (map node_number (n ∷ list)) n.0).1 (inl refl)

pub later_listed : (n : NodeId) (list : List NodeId) (node : ℕ) → is_listed (map node_number list) node ≡ true
    → is_listed (map node_number (n ∷ list)) node ≡ true
later_listed n list node is = (listed_one (map node_number (n ∷ list)) node).1 (inr ((listed_one (map node_number list) node).0 is))

pub apart : (n : NodeId) (list : List NodeId) (node : ℕ) → IsStrictlyIncreasing (map node_number (n ∷ list)) → is_listed (map node_number list) node ≡ true
    → n.0 ≡ node → ⊥
apart n list node up listed same =
    let above = head_below n.0 (map node_number list) up node ((listed_one (map node_number list) node).0 listed) in omega (arith, above, same)

-- the values of the others are held still without the first cell
pub later_held : (nodes : ℕ) (n : NodeId) (list : List NodeId) (c : HeldCell Cell) (cells : List (HeldCell Cell)) → c.place ≡ flushed_place nodes n
    → IsStrictlyIncreasing (map node_number (n ∷ list)) → All (IsHeldOf nodes (c ∷ cells)) (n ∷ list) → All (IsHeldOf nodes cells) list
later_held nodes n list c cells place up held k d within =
    let listed = (listed_one (map node_number list) (get_or list k d).0).1
    (to_map node_number list (get_or list k d) (one_at list k d (get_or list k d) within refl)) in
    subst IsSome (other_held nodes c cells n (get_or list k d) place (apart n list (get_or list k d).0 up listed)) (held (suc k) d (omega (arith, within)))
