use Rattle.std.proofs.Common.{rules, ◌≡◌, ◌+◌, ◌*◌, ℕ, refl, sym, ap, subst, ◌∙◌, IsSome}
use Rattle.stamp_table.specs.Table.{with_value}
use Rattle.mem_values.specs.Start.{FileHand, given_by}
use Rattle.mem_values.specs.declared.cell.Cell.TheVariants as cell
use Rattle.mem_values.specs.declared.cell_id.CellId.TheVariants as id
use Rattle.mem_calls.specs.Held.{value_held, as_part}
use Rattle.mem_calls.proofs.Nothing.{some_first}
use Rattle.mem_calls.proofs.Taken.{put_there, put_twice}
use Rattle.mem_calls.proofs.Left.{known_home, refused}
use Rattle.mem_calls.proofs.ReadyBack.{works_ready, back_ready}
use Rattle.mem_calls.proofs.ready.make_ready.Goals as goal

pub put-requires : goal.put-requires
put-requires c =
    let number : c.number.result.0 ≡ c.args.core.now.view.core = c.number.ensures ∙ ap (λ (h : FileHand). h.view.core) c.take_part.ensures.held.1 in
    subst (λ (n : ℕ). IsSome (value_held c.args.nodes c.take_part.new.core.held (id.Part (record { 0 = n })))) (sym number)
    (put_there c.args.nodes c.args.core.now c.take_part.new.core (id.Part (record { 0 = c.args.core.now.view.core })) c.take_part.ensures.held.0
    (some_first as_part (value_held c.args.nodes c.args.core.now.held
    (id.Part (record { 0 = c.args.core.now.view.core }))) c.requires.part) c.take_part.ensures.held.1)

pub let_go-requires-clause-home : goal.let_go-requires-clause-home
let_go-requires-clause-home c =
    let number : c.number.result.0 ≡ c.args.core.now.view.core = c.number.ensures ∙ ap (λ (h : FileHand). h.view.core) c.take_part.ensures.held.1 in
    let puts = put_twice c.args.nodes c.args.core.now c.take_part.new.core c.put.new.core
    (id.Part (record { 0 = c.args.core.now.view.core })) c.take_part.ensures.held.0 (cell.Part c.with_room-part.result.0) c.take_part.ensures.held.1
    (c.put.ensures ∙ ap (λ (n : ℕ). record c.take_part.new.core
    { held = with_value (32 + 10 * c.args.nodes + 16 * n) (cell.Part c.with_room-part.result.0) c.take_part.new.core.held }) number) in
    known_home (given_by c.args.shared.now) c.put.new.core.view c.put.new.core.held
    (works_ready (given_by c.args.shared.now) c.args.shared.now c.args.nodes c.args.core.now c.requires.table c.requires.work c.take_part.result.value
    c.with_room-part.result.0.value c.take_part.ensures.part c.with_room-part.ensures.same c.with_room-part.ensures.made
    (cell.Part c.with_room-part.result.0) refl c.put.new.core puts).knows

pub returns-in-Err-outcome : goal.returns-in-Err-outcome
returns-in-Err-outcome c =
    let number : c.number.result.0 ≡ c.args.core.now.view.core = c.number.ensures ∙ ap (λ (h : FileHand). h.view.core) c.take_part.ensures.held.1 in
    let puts = put_twice c.args.nodes c.args.core.now c.take_part.new.core c.put.new.core
    (id.Part (record { 0 = c.args.core.now.view.core })) c.take_part.ensures.held.0 (cell.Part c.with_room-part.result.0) c.take_part.ensures.held.1
    (c.put.ensures ∙ ap (λ (n : ℕ). record c.take_part.new.core
    { held = with_value (32 + 10 * c.args.nodes + 16 * n) (cell.Part c.with_room-part.result.0) c.take_part.new.core.held }) number) in
    let works =
    works_ready (given_by c.args.shared.now) c.args.shared.now c.args.nodes c.args.core.now c.requires.table c.requires.work c.take_part.result.value
    c.with_room-part.result.0.value c.take_part.ensures.part c.with_room-part.ensures.same c.with_room-part.ensures.made
    (cell.Part c.with_room-part.result.0) refl c.put.new.core puts in
    back_ready (given_by c.args.shared.now) c.args.shared.now c.args.nodes c.args.core.now c.requires.table c.requires.work c.take_part.result.value
    c.with_room-part.result.0.value c.take_part.ensures.part c.with_room-part.ensures.same c.with_room-part.ensures.made
    (cell.Part c.with_room-part.result.0) refl c.put.new.core puts c.let_go.new.self
    (refused (given_by c.args.shared.now) c.args.shared.now c.put.new.core c.let_go.new.self works c.let_go.ensures.lets_go c.let_go.ensures.left
    c.let_go.ensures.places
    (search rules))
