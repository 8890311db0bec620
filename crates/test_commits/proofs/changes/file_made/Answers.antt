use Rattle.std.proofs.Common.{◌≤◌, ◌^◌, ◌-◌, length, arith}
use Rattle.test_commits.proofs.Planning.{change_on}
use Rattle.test_commits.proofs.changes.file_made.Goals as goal

pub returns-in-Ok-new : goal.returns-in-Ok-new
returns-in-Ok-new c =
    let one = c.in-Ok.ensures in
    let few : length c.in-Ok.enter.items ≤ 2 ^ 32 - 1 = omega (arith, one) in
    change_on c.args.old.items c.in_ok-nets.nets.items c.in_ok-files.files.items c.in-Ok.enter.items c.new-none.result.items c.in-Ok-new.change
    c.lie_low.result c.lie_low.ensures c.if-not-lie_low.false few c.in-Ok-new.ensures.ok
