use Rattle.std.proofs.Common.{◌≡◌, ◌∙◌, List, ℕ, sym, ap, map, IsTrue, subst}
use Rattle.std.specs.FinMap.{find, get, is_sorted}
use Rattle.tree_laws.specs.Order.{name_cmp}
use Rattle.tree_laws.specs.NameRow.{name_and_child, both_lists}
use Rattle.std.specs.Option.{option_or}
use Rattle.tree_laws.proofs.RowsByName.{is_true, was_true, get-map_of}
use Rattle.tree_laws.proofs.Merged.{find-both_lists, sorted-both_lists, Apart}
use Rattle.tree_laws.proofs.name_map.NameMap.add_rows.Goals as goal
use Rattle.tree_laws.proofs.name_map.NameMap.add_rows.Goals.{In_ok-self-inside}

found : (c : In_ok-self-inside) (name : List ℕ) → find name_cmp name (map name_and_child c.self.inside.rows.items) ≡ get c.args.self.now name
found c name = sym (get-map_of c.self.inside.rows.items name c.self.invariant) ∙ ap (λ m. get m name) c.self.view_is

apart : (c : In_ok-self-inside) → Apart (map name_and_child c.args.rows.now) (map name_and_child c.self.inside.rows.items)
apart c = λ name some. found c name ∙ c.requires.apart name some

rows : (c : In_ok-self-inside)
    → map name_and_child c.in_ok-self-inside.field-0.items ≡ both_lists (map name_and_child c.args.rows.now) (map name_and_child c.self.inside.rows.items)
rows c = c.in_ok-self-inside.ensures ∙ ap (λ l. both_lists (map name_and_child c.args.rows.now) (map name_and_child l)) c.deref.ensures.value

sorted : (c : In_ok-self-inside) → IsTrue (is_sorted name_cmp (map name_and_child c.in_ok-self-inside.field-0.items))
sorted c =
    subst (λ l. IsTrue (is_sorted name_cmp l)) (sym (rows c))
    (was_true _
    (sorted-both_lists (map name_and_child c.args.rows.now) (map name_and_child c.self.inside.rows.items) (is_true _ c.requires.sorted)
    (is_true _ c.self.invariant) (apart c)))

pub invariant_of-self : goal.invariant_of-self
invariant_of-self c = sorted (goal.at.invariant_of-self c).In_ok-self-inside

pub returns-clause-ok : goal.returns-clause-ok
returns-clause-ok c = λ name.
    let at = (goal.at.returns-clause-ok c).In_ok-self-inside in
    get-map_of c.in_ok-self-inside.field-0.items name (sorted at)
    ∙ ap (find name_cmp name) (rows at)
    ∙ find-both_lists name (map name_and_child c.args.rows.now) (map name_and_child c.self.inside.rows.items) (apart at)
    ∙ ap (option_or (find name_cmp name (map name_and_child c.args.rows.now))) (found at name)
