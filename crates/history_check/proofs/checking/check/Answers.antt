use Rattle.std.proofs.Common.{length, Option, List, ℕ, sym, ◌∙◌, subst, arith, option_map}
use borrow.Author.Tests.{eqb-true, eqb-false}
use Rattle.std.specs.Borrow.{Bor}
use Rattle.history_check.specs.Legal.{IsLegalText}
use Rattle.history_check.specs.Steps.{IsFollowed}
use Rattle.history_check.proofs.Reached.{Point, reached_few, reached_wrong, reached_end, follows_more, nothing_left}
use Rattle.history_check.proofs.checking.check.Goals as goal

pub overflow_add-result : goal.overflow_add-result
overflow_add-result c =
    let few = reached_few c.args.first c.args.text.now (record { tree = c.loop-left.tree; count = c.loop-left.count; left = c.loop-left.left.now })
    c.loop-left.invariant.reached in
    let size = c.requires.size in
    omega (arith, few, size)

pub overflow_add-count : goal.overflow_add-count
overflow_add-count c =
    let few = reached_few c.args.first c.args.text.now (record { tree = c.loop-left.tree; count = c.loop-left.count; left = c.loop-left.left.now })
    c.loop-left.invariant.reached in
    let size = c.requires.size in
    omega (arith, few, size)

pub returns-in-None-clause-err : goal.returns-in-None-clause-err
returns-in-None-clause-err c =
    let cores = c.requires.cores in
    let small = c.ranges.cores.fits in
    let point : Point = record { tree = c.loop-left.tree; count = c.loop-left.count; left = c.loop-left.left.now } in
    let none = subst
    (λ (o : Option (Bor (List ℕ))). IsFollowed point.tree point.count point.left c.follow.new.tree (option_map (λ left. left.now) o))
    c.in-None.is c.in_ok-behind.ensures.line in
    let left = eqb-false (length c.loop-left.left.now) 0 (sym c.is_empty.ensures ∙ c.loop-left-test.true) in
    reached_wrong c.args.first c.args.text.now point (omega (arith, cores, small)) c.loop-left.invariant.reached (omega (arith, left)) none

pub loop-left-preserved : goal.loop-left-preserved
loop-left-preserved c =
    let point : Point = record { tree = c.loop-left.tree; count = c.loop-left.count; left = c.loop-left.left.now } in
    let step = subst
    (λ (o : Option (Bor (List ℕ))). IsFollowed point.tree point.count point.left c.follow.new.tree (option_map (λ left. left.now) o))
    c.in-Some.is c.in_ok-behind.ensures.line in
    follows_more (record { first = c.args.first; text = c.args.text.now; cores = c.args.cores }) point c.in-Some.behind.now c.follow.new.tree
    c.loop-left.invariant step c.in_ok-behind.ensures.sound c.in_ok-behind.ensures.cores

pub returns-clause-ok : goal.returns-clause-ok
returns-clause-ok c =
    let none = nothing_left c.loop-left.left.now (eqb-true (length c.loop-left.left.now) 0 (sym c.is_empty.ensures ∙ c.loop-left-test.false)) in
    subst (IsLegalText c.args.first c.args.text.now) (sym c.from.ensures)
    (reached_end c.args.first c.args.text.now (record { tree = c.loop-left.tree; count = c.loop-left.count; left = c.loop-left.left.now })
    c.loop-left.invariant.reached none)
