use Rattle.std.proofs.Common.{◌≡◌, ◌∙◌, ap, subst, sym, arith, All}
use Rattle.tree_laws.specs.declared.changes.Change.{Change}
use Rattle.log_copy.proofs.Added.{room_enough, gets_none, gets_added, is_none_of}
use Rattle.mem_cells.specs.Part.{room_kept}
use Rattle.std.specs.Option.{option_copied}
use Rattle.log_copy.proofs.copying.copy_directory.Goals as goal

pub returns-then-is_none : goal.returns-then-is_none
returns-then-is_none c = gets_none c.args.part.now c.args.copy.now c.args.dir.0 c.requires.none (sym c.get.ensures.value ∙ ap option_copied (is_none_of c.get.result c.if-is_none.ensures))

pub add-requires-clause-room : goal.add-requires-clause-room
add-requires-clause-room c =
    room_enough c.args.dir.0 c.in_ok-changes.changes.items
    (subst (λ l. All (λ (change : Change). change.dir.0 ≡ c.args.dir.0) l) (sym c.in_ok-changes.ensures) c.requires.own) (room_kept c.reserve.new.self)
    (let enough = c.in_ok-reserve-in-Ok.ensures.room in let count = c.in-Ok.ensures.1 in let long = c.len.ensures in omega (arith, enough, count, long))

pub returns-in_ok-reserve-in-Ok : goal.returns-in_ok-reserve-in-Ok
returns-in_ok-reserve-in-Ok c =
    gets_added c.args.part.now c.args.copy.now c.reserve.new.self c.add.new.self c.args.dir.0 c.in_ok-changes.changes.items
    (subst (λ l. All (λ (change : Change). change.dir.0 ≡ c.args.dir.0) l) (sym c.in_ok-changes.ensures) c.requires.own) c.in_ok-changes.ensures c.requires.none
    c.in_ok-reserve-in-Ok.ensures.same c.add.ensures
