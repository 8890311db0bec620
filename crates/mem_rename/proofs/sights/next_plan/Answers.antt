use Rattle.std.proofs.Common.{sym, subst, ap, ◌∙◌}
use Rattle.mem_rename.specs.Plans.{plan_by}
use Rattle.mem_rename.specs.Rounds.{IsPlanWithin}
use Rattle.mem_rename.specs.Ways.{tree_seen}
use Rattle.mem_rename.proofs.Sighted.{old_there, new_there}
use Rattle.mem_rename.proofs.Planned.{plan_within}
use Rattle.mem_rename.proofs.sights.next_plan.Goals as goal

pub look_in-look-requires-clause-old : goal.look_in-look-requires-clause-old
look_in-look-requires-clause-old c = old_there c.args.nodes c.args.core.now c.args.move_.now c.args.plan c.requires.held

pub look_in-look-requires-clause-new : goal.look_in-look-requires-clause-new
look_in-look-requires-clause-new c = new_there c.args.nodes c.args.core.now c.args.move_.now c.args.plan c.requires.held

pub returns-clause-look : goal.returns-clause-look
returns-clause-look c = λ above. c.look_in-look.ensures

pub returns-clause-within : goal.returns-clause-within
returns-clause-within c =
    subst (IsPlanWithin c.args.nodes) (sym (c.plan_for.ensures ∙ ap (λ l. plan_by l c.args.move_.now) c.look_in-look.ensures))
    (plan_within c.args.nodes c.args.core.now c.requires.counted c.args.move_.now c.requires.within c.args.plan c.requires.held
    (tree_seen c.args.core.now) c.requires.met)
