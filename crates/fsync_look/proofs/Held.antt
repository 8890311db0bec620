-- Nodes of which what was flushed is held, one after another.
use Rattle.std.proofs.Common.{◌∷◌, ◌++◌, ◌∙◌, ℕ, List, [], sym, ap}
use Rattle.std.proofs.lemmas.List.{map-append}
use Rattle.sfs_base.specs.declared.numbers.NodeId.{NodeId}
use Rattle.stamp_table.specs.declared.held.HeldCell.{HeldCell}
use Rattle.stamp_table.specs.Hand.{places_of}
use Rattle.mem_values.specs.Start.{FileHand}
use Rattle.mem_values.specs.declared.cell.Cell.{Cell}
use Rattle.mem_values.specs.declared.cell_id.CellId.TheVariants as id
use Rattle.mem_calls.specs.Working.{Gains}
use Rattle.fsync_look.specs.Look.{flushed_place, HoldsNodes}

-- one node more
pub holds_more : (nodes : ℕ) (front : List NodeId) (node : NodeId) (before after : FileHand) → HoldsNodes nodes front before
    → Gains nodes (id.Pending node) before after → HoldsNodes nodes (front ++ node ∷ []) after
holds_more nodes front node before after holds gains =
    ap (λ (l : List (HeldCell Cell)). places_of l) gains.held.1
    ∙ (map-append (λ (c : HeldCell Cell). c.place) before.held (gains.held.0 ∷ [])
    ∙ ((λ i. holds i ++ gains.held.2 i ∷ []) ∙ sym (map-append (flushed_place nodes) front (node ∷ []))))
