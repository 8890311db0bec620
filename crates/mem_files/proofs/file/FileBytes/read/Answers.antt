use Rattle.std.proofs.Common.{◌≡◌, ◌-◌, ◌≤◌, ◌++◌, ap, length, drop, List, ℕ, length-take, arith}
use Rattle.mem_files.proofs.Sizes.{length-bytes_in, bytes_in-copied}
use Rattle.mem_files.proofs.file.FileBytes.read.Goals as goal

pub returns-then-count-gt0-clause-count : goal.returns-then-count-gt0-clause-count
returns-then-count-gt0-clause-count c =
    let long = length-bytes_in c.self.inside.pages.items c.self.inside.size in
    rw (← c.self.view_is) (omega (arith, long, c.min-count.ensures, c.saturating_sub-left.ensures))

pub returns-else-count-gt0-clause-count : goal.returns-else-count-gt0-clause-count
returns-else-count-gt0-clause-count c =
    let long = length-bytes_in c.self.inside.pages.items c.self.inside.size in
    rw (← c.self.view_is) (omega (arith, long, c.min-count.ensures, c.saturating_sub-left.ensures))

pub returns-then-count-gt0-clause-bytes : goal.returns-then-count-gt0-clause-bytes
returns-then-count-gt0-clause-bytes c =
    let count = c.min-count.result in
    let size = c.self.inside.size in
    let long : length c.copy_to.new.into ≡ count = omega (arith, c.copy_to.auto.into, length-take count c.args.into.now, c.min-count.ensures) in
    let fits : count ≤ size - c.args.at = omega (arith, c.min-count.ensures, c.saturating_sub-left.ensures) in
    let each = rw c.deref.ensures.value at c.copy_to.ensures in
    let copied =
    bytes_in-copied c.self.inside.pages.items size c.args.at count c.copy_to.new.into c.self.invariant.kept long fits
    (λ k below. each k (omega (arith, below, length-take count c.args.into.now, c.min-count.ensures))) in
    rw (← c.self.view_is) (ap (λ (front : List ℕ). front ++ drop count c.args.into.now) copied)
