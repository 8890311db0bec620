-- A commit frees inodes.
use Rattle.std.proofs.Common.{◌≡◌, ℕ, ◌+◌, ◌*◌, arith}
use Rattle.recovery.proofs.OrphansFreed.{commit_frees}
use Rattle.recovery.proofs.orphans.free_unlinked.Goals as goal

first_slot : (slots slot : ℕ) → slot ≡ 0 * slots + 0 → slot ≡ 0
first_slot slots slot is = omega arith

pub returns-in-Ok-clause-frees : goal.returns-in-Ok-clause-frees
returns-in-Ok-clause-frees g c parts n test packed_is enough before =
    commit_frees c.args.layout.now n test parts c.at-idle.result c.args.packed c.at-idle.ensures.layout
    (first_slot c.args.layout.now.slots c.at-idle.result.slot c.at-idle.ensures.slot) packed_is
    (g.D.Disk.view c.args.disk.now) (g.D.Disk.view c.commit.new.disk) _ _ c.in-Ok.ensures.carried before (λ ended. ended)

pub returns-in-Err-clause-frees : goal.returns-in-Err-clause-frees
returns-in-Err-clause-frees g c parts n test packed_is enough before =
    commit_frees c.args.layout.now n test parts c.at-idle.result c.args.packed c.at-idle.ensures.layout
    (first_slot c.args.layout.now.slots c.at-idle.result.slot c.at-idle.ensures.slot) packed_is
    (g.D.Disk.view c.args.disk.now) (g.D.Disk.view c.commit.new.disk) _ _ c.in-Err.ensures.carried before (λ ended. tt)
