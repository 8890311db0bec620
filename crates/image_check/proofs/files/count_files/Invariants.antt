use Rattle.std.proofs.Common.{◌≡◌}
use Rattle.image_check.specs.Gathered.{files_counted}
use Rattle.image_check.proofs.files.count_files.Given as goal

abbrev pub invariant-loop-place : goal.invariant-loop-place
invariant-loop-place l = l.files ≡ files_counted l.inodes l.named l.place
