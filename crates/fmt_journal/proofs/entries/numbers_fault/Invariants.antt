use Rattle.std.proofs.Common.{◌≡◌, None, not}
use Rattle.sfs_image.specs.Bytes.{first_of, fault_at}
use Rattle.sfs_image.specs.Journal.{is_next, number_byte}
use Rattle.fmt_journal.proofs.entries.numbers_fault.Given as goal

abbrev pub invariant-loop-k : goal.invariant-loop-k
invariant-loop-k l = first_of l.k (λ k. fault_at (not (is_next l.inodes l.numbers k)) (number_byte k)) ≡ None
