use Rattle.std.proofs.Common.{◌+◌, ◌≤◌, length, arith}
use Rattle.sfs_base.proofs.Moves.{takes_front}
use Rattle.sfs_base.proofs.bytes_source.SureSourceSource.read.Goals as goal

pub returns-clause-taken : goal.returns-clause-taken
returns-clause-taken c =
    let at = c.self.inside.at in
    let bytes = c.self.inside.bytes.items in
    let count = c.min-count.result in
    let moved = rw c.deref.ensures.value at c.copy_from_slice.ensures.after in
    let fits : at + count ≤ length bytes = omega arith in
    rw (← c.self.view_is) (takes_front bytes _ _ at count moved fits)
