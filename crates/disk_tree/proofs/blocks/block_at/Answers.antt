use Rattle.std.proofs.Common.{◌≡◌, ℕ, ◌+◌, ◌-◌, ◌*◌, take, drop, ap, arith}
use Rattle.disk_tree.proofs.blocks.block_at.Goals as goal

pub returns-clause-block : goal.returns-clause-block
returns-clause-block c =
    let e : 4096 * c.args.n + 4096 - 4096 * c.args.n ≡ 4096 = omega arith in
    ap (λ (k : ℕ). take k (drop (4096 * c.args.n) c.args.bytes.now)) e
