use Rattle.std.proofs.Common.{◌≡◌, ◌≤◌, ◌^◌, ◌-◌, length, ap, arith}
use Rattle.test_commits.proofs.Planning.{change_on}
use Rattle.test_commits.proofs.changes.file_sized.Goals as goal

pub returns-in-Ok : goal.returns-in-Ok
returns-in-Ok c =
    let none : length c.new-enter.result.items ≡ 0 = ap (λ l. length l.items) c.new-enter.ensures in
    let few : length c.new-enter.result.items ≤ 2 ^ 32 - 1 = omega (arith, none) in
    change_on c.args.old.items c.new.result.items c.in_ok-files.files.items c.new-enter.result.items c.new-none.result.items c.in-Ok.change
    c.lie_low.result c.lie_low.ensures c.if-not-lie_low.false few c.in-Ok.ensures.ok
