-- Values out of their cells and back.
use Rattle.std.proofs.Common.{◌≡◌, ◌∙◌, ℕ, zero, suc, ◌<◌, ◌++◌, List, [], ◌∷◌, length, map, take, get_or, refl, sym, ap, subst, arith}
use Rattle.sfs_base.specs.declared.numbers.NodeId.{NodeId}
use Rattle.disk_nodes.specs.declared.old.OldEntry.{OldEntry}
use Rattle.slot_laws.specs.declared.label.Seen.{Seen}
use Rattle.stamp_table.specs.Table.{values_in, with_values}
use Rattle.stamp_table.specs.declared.held.HeldCell.{HeldCell}
use Rattle.stamp_table.proofs.Exchanging.{with_back, with_long, values_with}
use Rattle.mem_values.specs.Start.{FileHand}
use Rattle.mem_values.specs.declared.cell.Cell.{Cell}
use Rattle.fsync_draft.specs.Drafting.{IsHollow, IsLentOut, last_of_value, seens_of}

-- one more node is seen
pub seens_next : (nodes : List NodeId) (values : List Cell) (at : ℕ) (n : NodeId) (v : Cell) → length values ≡ length nodes → at < length nodes
    → seens_of (take (suc at) nodes) (take (suc at) values)
    ≡ seens_of (take at nodes) (take at values) ++ record { node = get_or nodes at n; last = last_of_value (get_or values at v) } ∷ []
seens_next [] values at n v long low = absurd (omega (arith, low))
seens_next (node ∷ nodes) [] at n v long low = absurd (omega (arith, long))
seens_next (node ∷ nodes) (value ∷ values) zero n v long low = refl
seens_next (node ∷ nodes) (value ∷ values) (suc at) n v long low =
    ap (λ l. record { node = node; last = last_of_value value } ∷ l) (seens_next nodes values at n v (omega (arith, long)) (omega (arith, low)))

-- the value of a cell
abbrev pub value_of : HeldCell Cell → Cell
value_of cell = cell.value

-- as many values stand in cells as before
pub hollow_long : (before hand : FileHand) → IsHollow before hand → length hand.held ≡ length before.held
hollow_long before hand hollow =
    ap (λ (h : FileHand). length h.held) hollow.after_is ∙ with_long hollow.values before.held hollow.count

-- a core that gets its values back is what it was
pub back_again : (before hand after : FileHand) (hollow : IsHollow before hand) → after ≡ record hand { held = with_values (values_in before.held) hand.held }
    → after ≡ before
back_again before hand after hollow is =
    is ∙ (ap (λ (h : FileHand). record h { held = with_values (values_in before.held) h.held }) hollow.after_is
    ∙ ap (λ held. record before { held = held }) (with_back hollow.values before.held hollow.count))
