use Rattle.std.proofs.Common.{ap, ◌∙◌}
use Rattle.flush_core.proofs.Marks.{marked_more, marked_skip, marked_none, marked_all}
use Rattle.flush_core.proofs.sets.marked.Goals as goal
use Rattle.flush_core.proofs.sets.marked.Goals.{then-mark+in_ok-push, else-mark}

pub loop-place-preserved : goal.loop-place-preserved
loop-place-preserved c = elim c.if-mark.branch [
  | then-mark+in_ok-push w ↦
      rw (ap (λ v. v.items) w.list-is ∙ w.in_ok-push.ensures.items)
      (marked_more c.args.marks.now c.loop-place.place c.loop-place.list.items c.loop-place.invariant w.if-mark.true)
  | else-mark w ↦
      rw (ap (λ v. v.items) w.list-is) (marked_skip c.args.marks.now c.loop-place.place c.loop-place.list.items c.loop-place.invariant w.if-mark.false)
]

pub loop-place-init : goal.loop-place-init
loop-place-init c = marked_none c.args.marks.now c.new-list.result.items c.new-list.ensures.items

pub returns : goal.returns
returns c = marked_all c.args.marks.now c.loop-place.place c.loop-place.list.items c.loop-place-test.false c.loop-place.invariant
