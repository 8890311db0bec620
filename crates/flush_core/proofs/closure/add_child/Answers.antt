use Rattle.std.proofs.Common.{refl, sym, ◌∙◌}
use Rattle.flush_core.specs.Engine.{NamesFor}
use Rattle.sfs_base.proofs.BasicTruth.{not_both}
use Rattle.flush_core.proofs.Gathered.{join_one, join_none}
use Rattle.flush_core.proofs.closure.add_child.Goals as goal
use Rattle.flush_core.proofs.closure.add_child.Goals.{else-has-via-then-has+else-spans, else-has-via-else-has}

pub returns-in_ok-insert : goal.returns-in_ok-insert
returns-in_ok-insert c =
    join_one
    (NamesFor c.args.cut.now c.args.stamp c.args.members.now c.args.change.now) c.args.change.now.child c.args.concerned.now c.insert.new.self
    c.in_ok-insert.ensures.ok
    (record { member = sym c.has.ensures ∙ c.if-has.true; spans = c.spans.ensures.0 c.if-spans.true; child = refl })
    (λ x names. names.child)

pub returns-else-has : goal.returns-else-has
returns-else-has c =
    join_none (NamesFor c.args.cut.now c.args.stamp c.args.members.now c.args.change.now) c.args.concerned.now c.args.concerned.now (λ x. refl)
    (λ x names. elim c.else-has.branch [
      | else-has-via-then-has+else-spans w ↦ not_both (w.spans.ensures.1 names.spans) w.if-spans.false
      | else-has-via-else-has w ↦ not_both (c.has.ensures ∙ names.member) w.if-has.false
    ])
