use Rattle.std.proofs.Common.{◌+◌, add-one, ◌∙◌}
use Rattle.std.proofs.lemmas.List.{take_rest}
use Rattle.script.proofs.WalkLemmas.{passed, at_own, at_end, none_left}
use Rattle.script.proofs.working.course.first_of.Goals as goal

pub returns : goal.returns
returns c = at_end c.args.number c.args.lines.now _ c.loop-place.place c.loop-place-test.false c.loop-place.invariant (none_left c.args.lines.now)

pub loop-place-preserved : goal.loop-place-preserved
loop-place-preserved c =
    rw add-one
    (c.loop-place.invariant
    ∙ passed c.args.number c.args.lines.now c.loop-place.place c.index-lines-place.result c.loop-place-test.true c.index-lines-place.is
    c.if-line-number.false)

pub returns-then-line-number : goal.returns-then-line-number
returns-then-line-number c =
    at_own c.args.number c.args.lines.now _ c.loop-place.place
    (c.loop-place.place + 1) c.index-lines-place.result _ c.loop-place-test.true c.index-lines-place.is c.if-line-number.true c.loop-place.invariant
    c.begun.ensures
    (take_rest c.args.lines.now (c.loop-place.place + 1)) (add-one c.loop-place.place)
