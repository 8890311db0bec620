-- Each record of the table is 512 of the bytes that were read.
use Rattle.std.proofs.Common.{◌≡◌, ◌<◌, ◌*◌, ◌∙◌, ℕ, ◌≤◌, ap, ap₂, arith}
use Rattle.sfs_image.specs.Super.{Layout}
use Rattle.sfs_image.specs.Bytes.{part}
use Rattle.recovery.proofs.SettledRead.{table_settled}
use Rattle.recovery.proofs.settled.read_table.Goals as goal

pub returns-clause-ok : goal.returns-clause-ok
returns-clause-ok g c = λ image told.
    let inodes = ap (λ (layout : Layout). layout.inodes) c.layout.view_is in
    let least = c.loop-i-test.false in
    table_settled c.args.layout.now image c.in_ok-bytes.bytes.items (record { stamps = c.in_ok-stamps.stamps; records = c.loop-i.records })
    (c.in_ok-stamps.ensures.count ∙ inodes) (c.loop-i.invariant.count ∙ inodes)
    c.in_ok-stamps.ensures.none (c.in_ok-bytes.ensures.ok image told ∙ ap₂ (λ at n. part at (512 * n) image) c.table_byte.ensures inodes)
    (λ i less. c.loop-i.invariant.copied i (below i c.args.layout.now.inodes c.layout.inside.inodes c.loop-i.i less inodes least))
  where
    below : (i n m k : ℕ) → i < n → m ≡ n → m ≤ k → i < k
    below i n m k less same le = omega arith
