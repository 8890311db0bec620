-- Values that are taken out of their cells and put back.
use Rattle.std.proofs.Common.{◌≡◌, ℕ, List, Option, Some, None, IsSome, option_map, refl, sym, ap, subst, ◌∙◌}
use Rattle.std.specs.Option.{option_and_then}
use Rattle.tree_laws.specs.declared.changes.Change.{Change}
use Rattle.stamp_table.specs.declared.held.HeldCell.{HeldCell}
use Rattle.stamp_table.specs.Table.{with_value}
use Rattle.mem_cells.specs.Part.{IsAddedTo}
use Rattle.mem_values.specs.Start.{FileHand}
use Rattle.mem_values.specs.declared.cell.Cell.{Cell}
use Rattle.mem_values.specs.declared.cell.PartCell.{PartCell}
use Rattle.mem_values.specs.declared.cell_id.CellId.{CellId}
use Rattle.mem_values.specs.declared.cell_id.CellId.TheVariants as id
use Rattle.mem_values.specs.Places.{cell_place}
use Rattle.mem_values.proofs.Basics.{is_value, some_of}
use Rattle.mem_calls.specs.Held.{value_held, as_part, part_held}
use Rattle.mem_calls.specs.Parts.{TakesEntry}
use Rattle.mem_calls.specs.Changes.{PutsValue}
use Rattle.mem_calls.proofs.Cells.{with_same, with_twice}
use Rattle.mem_calls.proofs.Shown.{held_cell}

pub some_and_then : {X Y : Type 0} (f : X → Option Y) (o : Option X) (y : Y) → option_and_then f o ≡ Some y → IsSome o
some_and_then f None y is = absurd (cc (is))
some_and_then f (Some x) y is = refl

-- a cell that got a value has it
pub value_with : (nodes : ℕ) (which : CellId) (value : Cell) (held : List (HeldCell Cell)) → IsSome (value_held nodes held which)
    → value_held nodes (with_value (cell_place nodes which) value held) which ≡ Some value
value_with nodes which value held some =
    let v = is_value (value_held nodes held which) some in
    let h = held_cell nodes held which v.0 v.1 in
    ap (option_map (λ (x : HeldCell Cell). x.value)) (with_same (cell_place nodes which) value held h.0 h.1)

-- the own log is taken out, and put back with an entry more
pub takes_entry : (nodes : ℕ) (changes : List Change) (before out after : FileHand) (part next : PartCell) (none value : Cell)
    → part_held nodes before.held before.view.core ≡ Some part
    → out ≡ record before { held = with_value (cell_place nodes (id.Part (record { 0 = before.view.core }))) none before.held } → as_part value ≡ Some next
    → after ≡ record out { held = with_value (cell_place nodes (id.Part (record { 0 = out.view.core }))) value out.held } → IsAddedTo part.log changes next.log
    → next.made ≡ part.made
    → TakesEntry nodes changes before after
takes_entry nodes changes before out after part next none value was out_is is after_is log made = record {
  part = part;
  was = was;
  value = value;
  next = next;
  is = is;
  frame = after_is ∙ (ap (λ (h : FileHand). record h { held = with_value (cell_place nodes (id.Part (record { 0 = h.view.core }))) value h.held }) out_is
      ∙ ap (λ (l : List (HeldCell Cell)). record before { held = l })
      (with_twice (cell_place nodes (id.Part (record { 0 = before.view.core }))) value none before.held));
  log = log;
  made = made;
}

-- a cell whose value is out is still held
pub put_there : (nodes : ℕ) (before out : FileHand) (which : CellId) (none : Cell) → IsSome (value_held nodes before.held which)
    → PutsValue nodes which none before out → IsSome (value_held nodes out.held which)
put_there nodes before out which none some puts =
    subst (λ (h : FileHand). IsSome (value_held nodes h.held which)) (sym puts)
    (some_of (value_held nodes (with_value (cell_place nodes which) none before.held) which) none (value_with nodes which none before.held some))

-- who puts one value and then another one puts the other
pub put_twice : (nodes : ℕ) (before out after : FileHand) (which : CellId) (none value : Cell) → PutsValue nodes which none before out
    → PutsValue nodes which value out after → PutsValue nodes which value before after
put_twice nodes before out after which none value one two =
    two ∙ (ap (λ (h : FileHand). record h { held = with_value (cell_place nodes which) value h.held }) one
    ∙ ap (λ (l : List (HeldCell Cell)). record before { held = l }) (with_twice (cell_place nodes which) value none before.held))
