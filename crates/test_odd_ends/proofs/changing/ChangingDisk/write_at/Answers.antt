-- Any image is there before the write, so each that is there after it comes from itself.
use Rattle.std.proofs.Common.{refl}
use Rattle.test_odd_ends.proofs.changing.ChangingDisk.write_at.Goals as goal

pub returns-clause-images : goal.returns-clause-images
returns-clause-images c = λ image there. (image, tt, record { before = refl; after = refl; size = refl })
