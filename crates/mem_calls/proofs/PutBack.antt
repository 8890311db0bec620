-- A core that has put another value into a cell which stands for what it has seen.
use Rattle.std.proofs.Common.{◌≡◌, ◌<◌, ℕ, List, [], ◌∷◌, length, reverse, Option, Some, option_map, sym, ap, subst, ◌∙◌, arith, inl, inr}
use Rattle.disk_nodes.specs.OldKept.{OldKept}
use Rattle.tree_laws.specs.Tree.{TreeState}
use Rattle.stamp_table.specs.declared.view.View.{View}
use Rattle.stamp_table.specs.declared.event.Event.{Event}
use Rattle.stamp_table.specs.declared.held.HeldCell.{HeldCell}
use Rattle.stamp_table.specs.Rule.{Has}
use Rattle.stamp_table.specs.Hand.{places_of}
use Rattle.stamp_table.specs.Ascending.{Falls}
use Rattle.stamp_table.specs.Table.{EachFrom, cell_at, with_value}
use Rattle.stamp_table.proofs.Replacing.{same_places}
use Rattle.mem_values.specs.Start.{FileHand, FileState}
use Rattle.mem_values.specs.declared.cell.Cell.{Cell}
use Rattle.mem_values.specs.declared.cell_id.CellId.{CellId}
use Rattle.mem_values.specs.declared.fact.Fact.{Fact}
use Rattle.mem_values.specs.Places.{node_count, cell_place, IsCell}
use Rattle.mem_values.specs.Account.{account_of}
use Rattle.mem_values.specs.Stands.{StandsForCell}
use Rattle.mem_values.specs.Laws.{KnowsCell, KnowsCells}
use Rattle.mem_calls.specs.Table.{IsFileTable}
use Rattle.mem_calls.specs.Held.{value_held}
use Rattle.mem_calls.specs.Working.{IsWorking}
use Rattle.mem_calls.specs.Outcome.{IsRefusedMemory}
use Rattle.mem_calls.proofs.Cells.{has_reverse, found_place, found_has, each_of_found}
use Rattle.mem_calls.proofs.Shown.{held_cell, knows_found}
use Rattle.mem_calls.proofs.Stamped.{counted}
use Rattle.mem_calls.proofs.Finished.{of_changed}

knows_each : (given : ℕ → Option OldKept) (view : View TreeState (Event Fact)) (cells : List (HeldCell Cell)) → EachFrom 0 (KnowsCell given view) cells
    → KnowsCells given view cells
knows_each given view [] each = tt
knows_each given view (c ∷ cells) each = (each.0 (omega arith), knows_each given view cells each.1)

module _ (given : ℕ → Option OldKept) (t : FileState) (nodes : ℕ) (before : FileHand) (table : IsFileTable t nodes)
    (work : IsWorking given t before) where
  to_first : (which : CellId) → IsCell nodes (length t.first.made) which → IsCell (node_count before.view.first) (length before.view.first.made) which
  to_first which is_cell = subst (λ (f : TreeState). IsCell (node_count f) (length f.made) which) (sym work.first)
      (subst (λ n. IsCell n (length t.first.made) which) table.counted is_cell)

  from_first : (which : CellId) → IsCell (node_count before.view.first) (length before.view.first.made) which → IsCell nodes (length t.first.made) which
  from_first which is_cell = subst (λ (f : TreeState). IsCell nodes (length f.made) which) work.first
      (subst (λ n. IsCell n (length before.view.first.made) which) (sym (counted given t nodes before table work)) is_cell)

  -- what is held of a cell stands for it now
  pub stands_now : (which : CellId) (value : Cell) → IsCell nodes (length t.first.made) which → value_held nodes before.held which ≡ Some value
      → StandsForCell given before.view.first (account_of before.view.seen) which value
  stands_now which value is_cell is =
      let h = held_cell nodes before.held which value is in
      let place = found_place (cell_place nodes which) before.held h.0 h.1 in
      let knows = knows_found given before.view before.held (cell_place nodes which) h.0 work.knows h.1 in
      subst (StandsForCell given before.view.first (account_of before.view.seen) which) h.2
      (knows.stood which (to_first which is_cell) (ap (λ n. cell_place n which) (sym (counted given t nodes before table work)) ∙ sym place))

  module _ (changed : CellId) (new : Cell) (put : FileHand) (is_cell : IsCell nodes (length t.first.made) changed)
      (stands : StandsForCell given before.view.first (account_of before.view.seen) changed new)
      (put_is : put ≡ record before { held = with_value (cell_place nodes changed) new before.held }) where
    put_held : put.held ≡ with_value (cell_place nodes changed) new before.held
    put_held = ap (λ (h : FileHand). h.held) put_is

    view_is : put.view ≡ before.view
    view_is = ap (λ (h : FileHand). h.view) put_is

    places : places_of put.held ≡ places_of before.held
    places = ap (λ (l : List (HeldCell Cell)). places_of l) put_held ∙ same_places (cell_place nodes changed) before.held new

    view_places : put.view.held ≡ reverse (places_of put.held)
    view_places = ap (λ (v : View TreeState (Event Fact)). v.held) view_is ∙ (work.places ∙ ap reverse (sym places))

    known : (place : ℕ) (h : HeldCell Cell) → cell_at place put.held ≡ Some h → KnowsCell given before.view h
    known place h is = record {
      holds = subst (Has before.view.held) (sym (found_place place put.held h is))
          (subst (λ l. Has l place) (sym work.places)
          (has_reverse (places_of before.held) place (subst (λ l. Has l place) places (found_has place put.held h is))));
      stood = λ which cell at.
          let mine = from_first which cell in
          let there : cell_place nodes which ≡ place = ap (λ n. cell_place n which) (counted given t nodes before table work)
          ∙ (at ∙ found_place place put.held h is) in
          let found : value_held nodes (with_value (cell_place nodes changed) new before.held) which ≡ Some h.value =
          ap (λ l. value_held nodes l which) (sym put_held)
          ∙ (ap (λ p. option_map (λ (x : HeldCell Cell). x.value) (cell_at p put.held)) there ∙ ap (option_map (λ (x : HeldCell Cell). x.value)) is) in
          elim (of_changed nodes (length t.first.made) which changed h.value new before.held mine is_cell found) [
            | inl same ↦ subst (λ (z : CellId × Cell). StandsForCell given before.view.first (account_of before.view.seen) z.0 z.1)
                (λ i. (sym same.0 i, sym same.1 i)) stands
            | inr other ↦ stands_now which h.value mine other.1
          ];
    }

    -- it is still in the middle of its call
    pub works_put : IsWorking given t put
    works_put = record {
      table = ap (λ (h : FileHand). h.table) put_is ∙ work.table;
      first = ap (λ (v : View TreeState (Event Fact)). v.first) view_is ∙ work.first;
      core = subst (λ (v : View TreeState (Event Fact)). v.core < length t.first.made) (sym view_is) work.core;
      places = view_places;
      falls = subst (λ (v : View TreeState (Event Fact)). Falls v.held) (sym view_is) work.falls;
      knows = subst (λ (v : View TreeState (Event Fact)). KnowsCells given v put.held) (sym view_is)
          (knows_each given before.view put.held
          (each_of_found (KnowsCell given before.view) put.held (subst Falls (work.places ∙ ap reverse (sym places)) work.falls) known));
    }

    pub same_length : length put.held ≡ length before.held
    same_length =
        let same = ap (λ (l : List ℕ). length l) places in
        let one = Rattle.std.proofs.lemmas.List.length-map put.held (λ (h : HeldCell Cell). h.place) in
        let two = Rattle.std.proofs.lemmas.List.length-map before.held (λ (h : HeldCell Cell). h.place) in
        omega (arith, same, one, two)

-- who is refused with other values is refused with those before
pub refused_back : (t : FileState) (before put last : FileHand) (held : List (HeldCell Cell)) → put ≡ record before { held = held }
    → length put.held ≡ length before.held → IsRefusedMemory t put last → IsRefusedMemory t before last
refused_back t before put last held put_is many refused =
    let count : length held ≡ length before.held = ap length (sym (ap (λ (h : FileHand). h.held) put_is)) ∙ many in
    let r : IsRefusedMemory t (record before { held = held }) last = subst (λ (h : FileHand). IsRefusedMemory t h last) put_is refused in
    record {
      between = r.between;
      same = record { table = r.same.table; cores = r.same.cores; leads = r.same.leads; number = r.same.number };
      room = (let e = r.room in omega (arith, e, count));
      spare = r.spare;
      seen = r.seen;
      entries = r.entries;
      mine = r.mine;
    }
