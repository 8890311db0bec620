use Rattle.std.proofs.Common.{◌<◌, subst, sym, arith}
use Rattle.mem_cells.specs.Part.{CoreLog, log_of, room_kept, PutsChange}
use Rattle.mem_cells.proofs.Counts.{rooms_there, named_within, pushed_count, puts_change}
use Rattle.mem_cells.proofs.part.LogPart.push.Goals as goal

pub add_naming-requires-clause-room : goal.add_naming-requires-clause-room
add_naming-requires-clause-room c =
    let some = subst (λ (part : CoreLog). 0 < room_kept part c.args.change.dir.0) (sym c.self.view_is) c.requires.room in
    let there = rooms_there c.self.inside.logs.entries _ _ _ _ c.args.change.dir.0 c.self.invariant some in
    let room = c.self.invariant.room in omega arith

pub add_naming-requires-clause-fits : goal.add_naming-requires-clause-fits
add_naming-requires-clause-fits c =
    let some = subst (λ (part : CoreLog). 0 < room_kept part c.args.change.dir.0) (sym c.self.view_is) c.requires.room in
    let there = rooms_there c.self.inside.logs.entries _ _ _ _ c.args.change.dir.0 c.self.invariant some in
    let counted = c.self.invariant.counted c.args.change.child.0 in
    let within = named_within c.self.inside.logs.entries c.args.change.child.0 in
    let kept = c.self.invariant.kept_are in
    let few = c.self.invariant.few in omega arith

pub overflow_sub-self : goal.overflow_sub-self
overflow_sub-self c =
    rooms_there c.self.inside.logs.entries _ _ _ _ c.args.change.dir.0 c.self.invariant
    (subst (λ (part : CoreLog). 0 < room_kept part c.args.change.dir.0) (sym c.self.view_is) c.requires.room)

pub invariant_of-self : goal.invariant_of-self
invariant_of-self c =
    let logs = c.self.inside.logs.entries in
    let directory = c.args.change.dir.0 in
    pushed_count logs c.push_at.new.logs.entries _ _ _ _ c.self.inside.kept c.self.inside.rooms directory (log_of logs directory) c.args.change
    c.push_at.ensures (subst (λ (part : CoreLog). 0 < room_kept part directory) (sym c.self.view_is) c.requires.room)
    c.add_naming.ensures.counts c.add_naming.ensures.room c.self.invariant

pub returns-clause-puts : goal.returns-clause-puts
returns-clause-puts c =
    subst (λ (part : CoreLog). PutsChange part.logs c.args.change c.push_at.new.logs.entries) c.self.view_is
    (puts_change c.self.inside.logs.entries c.push_at.new.logs.entries c.args.change c.push_at.ensures
    (subst (λ (part : CoreLog). 0 < room_kept part c.args.change.dir.0) (sym c.self.view_is) c.requires.room))
