use Rattle.std.proofs.Common.{ap, ◌∙◌, arith}
use Rattle.tree_totals.specs.Totals.{total_bytes, total_rows}
use Rattle.table_totals.proofs.Whole.{about_to, none_came, only_between, only_on, reserved_only, tree_stays}
use Rattle.table_totals.proofs.counting.totals.Goals as goal

pub loop-init : goal.loop-init
loop-init g c =
    let only = reserved_only c.args.core.now c.reserve.new.self c.reserve.ensures.same in
    let room = c.in_ok-reserve.ensures.cells in
    about_to c.shared-shared.result.now c.args.core.now c.reserve.new.self c.look-before.new.self c.look-before.result
    (record {
      between = only_between c.shared-shared.result.now c.args.core.now c.reserve.new.self only (rw (← c.shared-shared.ensures) at
          c.requires.between);
      room = omega (arith, room);
    }) only
    c.look-before.ensures

pub returns-then-after-before-clause-rows : goal.returns-then-after-before-clause-rows
returns-then-after-before-clause-rows g c =
    c.count_once-found.ensures.rows
    (none_came c.shared-shared.result.now c.loop.core c.count_once-found.new.core c.look-after.new.self c.look-after.result (c.if-after-before.true ∙
    c.loop.invariant.count_is)
    c.count_once-found.ensures.saw c.look-after.ensures)
    ∙ ap total_rows
    (tree_stays c.shared-shared.result.now c.loop.core c.count_once-found.new.core c.look-after.new.self c.look-after.result
    (c.if-after-before.true ∙ c.loop.invariant.count_is) c.count_once-found.ensures.saw c.look-after.ensures)

pub returns-then-after-before-clause-bytes : goal.returns-then-after-before-clause-bytes
returns-then-after-before-clause-bytes g c =
    c.count_once-found.ensures.bytes
    (none_came c.shared-shared.result.now c.loop.core c.count_once-found.new.core c.look-after.new.self c.look-after.result (c.if-after-before.true ∙
    c.loop.invariant.count_is)
    c.count_once-found.ensures.saw c.look-after.ensures)
    ∙ ap total_bytes
    (tree_stays c.shared-shared.result.now c.loop.core c.count_once-found.new.core c.look-after.new.self c.look-after.result
    (c.if-after-before.true ∙ c.loop.invariant.count_is) c.count_once-found.ensures.saw c.look-after.ensures)

pub loop-preserved : goal.loop-preserved
loop-preserved g c =
    about_to c.shared-shared.result.now c.args.core.now c.count_once-found.new.core c.look-after.new.self c.look-after.result c.count_once-found.ensures.may
    (only_on c.args.core.now c.loop.core c.count_once-found.new.core c.loop.invariant.only c.count_once-found.ensures.saw) c.look-after.ensures
