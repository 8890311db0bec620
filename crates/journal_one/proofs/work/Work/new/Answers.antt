use Rattle.std.proofs.Common.{arith}
use Rattle.journal_one.proofs.Places.{few_entries}
use Rattle.journal_one.proofs.work.Work.new.Goals as goal

pub overflow_cast-count : goal.overflow_cast-count
overflow_cast-count c =
    omega (
      arith,
      few_entries c.args.spot.layout.inodes c.args.packed.entries (record { ascend = c.count.ensures.sound.ascend; below = c.requires.below }),
      c.count.ensures.count,
      c.args.spot.sound.fits.ranges.inodes_high,
    )
