-- A disk that changes as contracts see it.
use Rattle.std.specs.Prelude.{ℕ, None}
use Rattle.sfs_dev.specs.Disk.{View}
use Rattle.test_odd_ends.specs.declared.changing.Changing.{Changing}

-- how many blocks it has
abbrev pub CHANGING_BLOCKS : ℕ
CHANGING_BLOCKS = 1024

-- it tells its size and its two counts, and nothing of what it holds: a crash may leave any image
abbrev pub changing_view : Changing → View
changing_view disk = record { size = CHANGING_BLOCKS; content = None; now = disk.now; faults = disk.faults; crash_images = λ _ _. Unit {0} }
