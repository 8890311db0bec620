use Rattle.flush_core.specs.declared.rules.Rule.TheVariants as rule
use Rattle.flush_core.proofs.Breaks.{first_broken, renames_found, renames_not_found, removals_found, removals_not_found, births_found, births_not_found, ancestors_found, ancestors_not_found}
use Rattle.std.proofs.Common.{arith}
use Rattle.flush_core.proofs.rules.broken_by.Goals as goal

pub returns-then-splits_rename : goal.returns-then-splits_rename
returns-then-splits_rename c = λ first history past sound legal is same same_births.
    first_broken first history c.args.cut.now rule.Renames
    (renames_found first history past is c.args.cut.now c.args.changes.now c.args.births.now same same_births c.splits_rename.result c.splits_rename.ensures
    c.if-splits_rename.true)
    (λ lt. absurd (omega arith))
    (λ lt. absurd (omega arith))
    (λ lt. absurd (omega arith))

pub returns-then-leaves_changes : goal.returns-then-leaves_changes
returns-then-leaves_changes c = λ first history past sound legal is same same_births.
    first_broken first history c.args.cut.now rule.Removals
    (removals_found first history past is c.args.cut.now c.args.changes.now c.args.births.now same same_births c.leaves_changes.result
    c.leaves_changes.ensures c.if-leaves_changes.true)
    (λ _. renames_not_found first history past is c.args.cut.now c.args.changes.now c.args.births.now same same_births c.splits_rename.result
    c.splits_rename.ensures c.if-splits_rename.false)
    (λ lt. absurd (omega arith))
    (λ lt. absurd (omega arith))

pub returns-then-bears_late : goal.returns-then-bears_late
returns-then-bears_late c = λ first history past sound legal is same same_births.
    first_broken first history c.args.cut.now rule.Births
    (births_found first history past is c.args.cut.now c.args.changes.now c.args.births.now same same_births c.bears_late.result c.bears_late.ensures
    c.if-bears_late.true)
    (λ _. renames_not_found first history past is c.args.cut.now c.args.changes.now c.args.births.now same same_births c.splits_rename.result
    c.splits_rename.ensures c.if-splits_rename.false)
    (λ _. removals_not_found first history past is c.args.cut.now c.args.changes.now c.args.births.now same same_births c.leaves_changes.result
    c.leaves_changes.ensures c.if-leaves_changes.false)
    (λ lt. absurd (omega arith))

pub returns-then-lacks_ancestors : goal.returns-then-lacks_ancestors
returns-then-lacks_ancestors c = λ first history past sound legal is same same_births.
    first_broken first history c.args.cut.now rule.Ancestors
    (ancestors_found first history past is c.args.cut.now c.args.changes.now c.args.births.now same same_births c.lacks_ancestors.result
    c.lacks_ancestors.ensures c.if-lacks_ancestors.true)
    (λ _. renames_not_found first history past is c.args.cut.now c.args.changes.now c.args.births.now same same_births c.splits_rename.result
    c.splits_rename.ensures c.if-splits_rename.false)
    (λ _. removals_not_found first history past is c.args.cut.now c.args.changes.now c.args.births.now same same_births c.leaves_changes.result
    c.leaves_changes.ensures c.if-leaves_changes.false)
    (λ _. births_not_found first history past is c.args.cut.now c.args.changes.now c.args.births.now same same_births c.bears_late.result c.bears_late.ensures
    c.if-bears_late.false)

pub returns-else-lacks_ancestors : goal.returns-else-lacks_ancestors
returns-else-lacks_ancestors c = λ first history past sound legal is same same_births. record {
  renames =
      renames_not_found first history past is c.args.cut.now c.args.changes.now c.args.births.now same same_births c.splits_rename.result
      c.splits_rename.ensures c.if-splits_rename.false;
  removals =
      removals_not_found first history past is c.args.cut.now c.args.changes.now c.args.births.now same same_births c.leaves_changes.result
      c.leaves_changes.ensures c.if-leaves_changes.false;
  births =
      births_not_found first history past is c.args.cut.now c.args.changes.now c.args.births.now same same_births c.bears_late.result c.bears_late.ensures
      c.if-bears_late.false;
  ancestors =
      ancestors_not_found first history past is c.args.cut.now c.args.changes.now c.args.births.now same same_births c.lacks_ancestors.result sound legal
      c.lacks_ancestors.ensures c.if-lacks_ancestors.false;
}
