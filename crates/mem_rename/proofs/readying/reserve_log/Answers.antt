use Rattle.std.proofs.Common.{◌≡◌, ◌+◌, ◌*◌, ℕ, refl, sym, ap, subst, ◌∙◌, IsSome}
use Rattle.stamp_table.specs.Table.{with_value}
use Rattle.mem_values.specs.Start.{FileHand}
use Rattle.mem_values.specs.declared.cell.Cell.TheVariants as cell
use Rattle.mem_values.specs.declared.cell_id.CellId.TheVariants as id
use Rattle.mem_calls.specs.Held.{value_held, as_part}
use Rattle.mem_calls.proofs.Nothing.{some_first}
use Rattle.mem_calls.proofs.Taken.{put_there, put_twice}
use Rattle.mem_rename.specs.Moving.{KeepsPart}
use Rattle.mem_rename.proofs.Readied.{room_or_same}
use Rattle.mem_rename.proofs.readying.reserve_log.Goals as goal

pub put-requires : goal.put-requires
put-requires c =
    let number : c.number.result.0 ≡ c.args.core.now.view.core = c.number.ensures ∙ ap (λ (h : FileHand). h.view.core) c.take_part.ensures.held.1 in
    subst (λ (n : ℕ). IsSome (value_held c.args.nodes c.take_part.new.core.held (id.Part (record { 0 = n })))) (sym number)
    (put_there c.args.nodes c.args.core.now c.take_part.new.core (id.Part (record { 0 = c.args.core.now.view.core })) c.take_part.ensures.held.0
    (some_first as_part (value_held c.args.nodes c.args.core.now.held
    (id.Part (record { 0 = c.args.core.now.view.core }))) c.requires) c.take_part.ensures.held.1)

pub returns : goal.returns
returns c =
    let number : c.number.result.0 ≡ c.args.core.now.view.core = c.number.ensures ∙ ap (λ (h : FileHand). h.view.core) c.take_part.ensures.held.1 in
    let puts = put_twice c.args.nodes c.args.core.now c.take_part.new.core c.put.new.core
    (id.Part (record { 0 = c.args.core.now.view.core })) c.take_part.ensures.held.0 (cell.Part c.with_room-part.result.0) c.take_part.ensures.held.1
    (c.put.ensures ∙ ap (λ (n : ℕ). record c.take_part.new.core
    { held = with_value (32 + 10 * c.args.nodes + 16 * n) (cell.Part c.with_room-part.result.0) c.take_part.new.core.held }) number) in
    let keeps : KeepsPart c.args.nodes c.args.core.now c.put.new.core = record {
      part = c.take_part.result.value;
      was = c.take_part.ensures.part;
      value = cell.Part c.with_room-part.result.0;
      next = c.with_room-part.result.0.value;
      is = refl;
      puts = puts;
      same = c.with_room-part.ensures.same;
      made = c.with_room-part.ensures.made;
    } in
    room_or_same c.args.nodes c.args.move_.now c.args.core.now c.put.new.core c.with_room-part.result.1 keeps c.with_room-part.ensures.old
    c.with_room-part.ensures.new
