use Rattle.std.proofs.Common.{◌≡◌, ◌+◌, ◌*◌, Some, Bool, not, length, sym, ap, ◌∙◌}
use Rattle.sfs_image.specs.Bytes.{fault_at}
use Rattle.sfs_image.specs.Journal.{is_next, number_byte}
use Rattle.sfs_image.proofs.PiecesLaws.{first_of-at}
use Rattle.fmt_journal.proofs.entries.numbers_fault.Goals as goal

pub returns-then-not-is_next : goal.returns-then-not-is_next
returns-then-not-is_next c =
    let here : fault_at (not (is_next c.args.inodes c.args.numbers.now c.loop-k.k)) (number_byte c.loop-k.k) ≡ Some (4096 + 4 * c.loop-k.k) =
    ap (λ (b : Bool). fault_at (not b) (number_byte c.loop-k.k)) (sym c.is_next.ensures ∙ c.if-not-is_next.true) in
    sym
    (first_of-at (length c.args.numbers.now) c.loop-k.k
    (λ k. fault_at (not (is_next c.args.inodes c.args.numbers.now k)) (number_byte k)) _ c.loop-k.invariant here c.loop-k-test.true)
