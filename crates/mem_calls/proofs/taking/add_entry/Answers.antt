use Rattle.std.proofs.Common.{◌≡◌, ◌+◌, ◌*◌, ℕ, sym, ◌∙◌, subst, ap, IsSome, refl}
use Rattle.stamp_table.specs.Table.{with_value}
use Rattle.mem_values.specs.Start.{FileHand}
use Rattle.mem_values.specs.declared.cell.Cell.TheVariants.{Part}
use Rattle.mem_values.specs.declared.cell_id.CellId.TheVariants as id
use Rattle.mem_values.proofs.Basics.{some_of}
use Rattle.mem_calls.specs.Held.{value_held, as_part}
use Rattle.mem_calls.proofs.Taken.{some_and_then, value_with, takes_entry}
use Rattle.mem_calls.proofs.taking.add_entry.Goals as goal

pub with_entry-part-requires : goal.with_entry-part-requires
with_entry-part-requires c = c.requires.may c.take_part.result.value c.take_part.ensures.part

pub put-requires : goal.put-requires
put-requires c =
    let old = some_and_then as_part
    (value_held c.args.nodes c.args.core.now.held (id.Part (record { 0 = c.args.core.now.view.core }))) c.take_part.result.value c.take_part.ensures.part in
    let out = value_with c.args.nodes (id.Part (record { 0 = c.args.core.now.view.core })) c.take_part.ensures.held.0 c.args.core.now.held old in
    let number : c.number.result.0 ≡ c.args.core.now.view.core = c.number.ensures ∙ ap (λ (h : FileHand). h.view.core) c.take_part.ensures.held.1 in
    subst (λ (h : FileHand). IsSome (value_held c.args.nodes h.held (id.Part c.number.result))) (sym c.take_part.ensures.held.1)
    (subst (λ (n : ℕ). IsSome (value_held c.args.nodes
    (with_value (32 + 10 * c.args.nodes + 16 * c.args.core.now.view.core) c.take_part.ensures.held.0 c.args.core.now.held) (id.Part (record { 0 = n }))))
    (sym number)
    (some_of (value_held c.args.nodes (with_value (32 + 10 * c.args.nodes + 16 * c.args.core.now.view.core) c.take_part.ensures.held.0 c.args.core.now.held)
    (id.Part (record { 0 = c.args.core.now.view.core }))) c.take_part.ensures.held.0 out))

pub returns : goal.returns
returns c =
    takes_entry c.args.nodes c.args.changes.items c.args.core.now c.take_part.new.core c.put.new.core c.take_part.result.value c.with_entry-part.result.value
    c.take_part.ensures.held.0
    (Part c.with_entry-part.result)
    c.take_part.ensures.part c.take_part.ensures.held.1 refl
    (c.put.ensures ∙ ap (λ (n : ℕ). record c.take_part.new.core
    { held = with_value (32 + 10 * c.args.nodes + 16 * n) (Part c.with_entry-part.result) c.take_part.new.core.held }) c.number.ensures)
    c.with_entry-part.ensures.log c.with_entry-part.ensures.made
