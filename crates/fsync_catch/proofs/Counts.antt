-- How many nodes a table may have stays along its calls, and lists of its nodes have no more.
use Rattle.std.specs.Prelude.{All}
use Rattle.std.specs.List.Sorted.{IsStrictlyIncreasing}
use Rattle.std.proofs.Common.{◌≡◌, ◌<◌, ◌≤◌, ◌+◌, ◌*◌, ◌∷◌, ℕ, zero, suc, List, [], map, length, get_or, arith}
use Rattle.std.proofs.Math.ListN.{get_or-map as get_or-mapped}
use Rattle.std.proofs.lemmas.List.{length-map}
use Rattle.std.proofs.lemmas.List.Kept.{AllPairs-from_increasing}
use Rattle.sfs_base.specs.declared.numbers.NodeId.{NodeId}
use Rattle.tree_laws.specs.NameRow.{node_number}
use Rattle.fsync_look.specs.Look.{IsBelow}
use Rattle.tree_laws.specs.declared.history.Entry.{Entry}
use Rattle.tree_laws.specs.History.{tree_after}
use Rattle.tree_laws.specs.Tree.{TreeState}
use Rattle.mem_values.specs.Places.{node_count}
use Rattle.mem_values.proofs.Stamping.{first_stays, share_stays}
use Rattle.tree_laws.proofs.Cores.{cores_stay}

pub same_count : (first : TreeState) (calls : List Entry) → node_count (tree_after first calls) ≡ node_count first
same_count first calls = λ i. first_stays first calls i + share_stays first calls i * cores_stay first calls i

-- numbers that rise are no lower than their places
no_lower : (xs : List ℕ) → IsStrictlyIncreasing xs → (k d : ℕ) → k < length xs → k ≤ get_or xs k d
no_lower xs up zero d within = omega arith
no_lower xs up (suc k) d within =
    let le = no_lower xs up k d (omega (arith, within)) in
    let less = AllPairs-from_increasing xs up k (suc k) d (omega arith) within in omega (arith, le, less)

-- so nodes of a table that ascend are no more than it may have
pub no_more : (nodes : ℕ) (list : List NodeId) → IsStrictlyIncreasing (map node_number list) → All (IsBelow nodes) list → length list ≤ nodes
no_more nodes [] up below = omega arith
no_more nodes (node ∷ list) up below =
    let last = length list in
    let less = below last node (omega arith) in
    let le = no_lower (map node_number (node ∷ list)) up last node.0 (rw length-map (omega arith)) in
    let same = get_or-mapped node_number (node ∷ list) last node in omega (arith, less, le, same)
