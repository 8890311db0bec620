use Rattle.std.proofs.Common.{Result, Ok, Err, OnErr, ap, arith, ◌∙◌}
use Rattle.cut_laws.specs.Cut.{Cut, cut_of}
use Rattle.flush_core.specs.Stamps.{by_nodes, at_least}
use Rattle.flush_core.proofs.Stamps.{raised_stamps, same_stamps}
use Rattle.flush_core.proofs.cut.Cut.raise.Goals as goal

on_err : {T E P : Type 0} (r : Result T E) → P → OnErr r P
on_err (Ok x) p = tt
on_err (Err e) p = p

pub returns-in_err-make_room-clause-err : goal.returns-in_err-make_room-clause-err
returns-in_err-make_room-clause-err c =
    on_err c.from_residual.result
    (λ other. same_stamps c.self.inside.stamps.items c.make_room.new.stamps.items c.make_room.ensures.same other
    ∙ ap (λ (cut : Cut). cut_of cut other) c.self.view_is)

pub returns-clause-ok : goal.returns-clause-ok
returns-clause-ok c = λ other.
    ap (λ stamps. cut_of (by_nodes stamps) other) c.rise.ensures
    ∙ raised_stamps c.self.inside.stamps.items c.make_room.new.stamps.items c.args.node c.args.stamp c.make_room.ensures.same
    (let lt = c.in_ok-make_room.ensures.room in omega (arith, c.make_room.new.stamps.ok.0)) other
    ∙ ap (λ (cut : Cut). at_least c.args.node c.args.stamp (cut_of cut) other) c.self.view_is
