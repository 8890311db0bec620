use Rattle.std.proofs.Common.{sym, ap, ◌∙◌, arith}
use Rattle.std.proofs.Math.ListN.{set}
use Rattle.std.proofs.lemmas.Iterator.Consumers.{YieldsList-end}
use Rattle.std.proofs.lemmas.Iterator.Adapters.{YieldsList-from_vec}
use Rattle.disk_change.specs.Patched.{with_placed}
use Rattle.disk_change.proofs.Directories.{map_itself}
use Rattle.disk_change.proofs.Patches.{placed_last, set_past}
use Rattle.disk_change.proofs.after.put_placed.Goals as goal

pub loop-one-preserved-then-one-len : goal.loop-one-preserved-then-one-len
loop-one-preserved-then-one-len c =
    c.put.ensures ∙ ap (λ l. set l c.in-Some.one.place c.in-Some.one.slots) c.loop-one.invariant
    ∙ sym (placed_last c.loop-one.yielded c.in-Some.one c.args.slots)

pub loop-one-preserved : goal.loop-one-preserved
loop-one-preserved c =
    sym
    (placed_last c.loop-one.yielded c.in-Some.one c.args.slots
    ∙ ap (λ l. set l c.in-Some.one.place c.in-Some.one.slots) (sym c.loop-one.invariant)
    ∙ set_past c.loop-one.slots c.in-Some.one.place c.in-Some.one.slots (omega (arith, c.len.ensures, c.if-one-len.false)))

pub returns : goal.returns
returns c =
    let gives = c.into_iter-one-iterator.ensures.into_iter_gives in
    let end =
    YieldsList-end
    (YieldsList-from_vec c.args.changed.items gives.0 (gives.1 ∙ c.args.changed.ok.0)) c.loop-one.yielded c.loop-one.one-iterator c.loop-one.yielded_by
    _ c.next.new.self c.in-None.is c.next.ensures.steps in
    c.loop-one.invariant ∙ ap (λ l. with_placed l c.args.slots) (sym (map_itself c.loop-one.yielded) ∙ end.0)
