-- How the reading of a source ends.
use Rattle.std.specs.Prelude.{◌≡◌, ℕ, ◌+◌, ◌<◌, ◌≤◌, List, length, Option, Result, Ok, Err, IfSome}
use Rattle.std.specs.declared.vec.Vec.{Vec}
use Rattle.std.specs.declared.alloc.Global.{Global}
use Rattle.sfs_base.specs.declared.transfer.TheConstants.{PIECE}
use Rattle.sfs_base.specs.declared.transfer.ReadAllFault.{ReadAllFault}
use Rattle.sfs_base.specs.declared.transfer.ReadAllFault.TheVariants.{ReadFault, TooLong, NoMemory}

-- From what was left and the bytes taken of it: Ok is the bytes taken, at most `most`, and all that was left where that was told;
-- TooLong is more than `most`, by one piece at most; a read that failed comes before that, and want of memory for a piece at the latest with it.
abbrev pub ReadsAll : Option (List ℕ) → List ℕ → ℕ → Result (Vec ℕ Global) ReadAllFault → Type 0
ReadsAll left taken most (Ok bytes) = (bytes.items ≡ taken) × (length taken ≤ most) × IfSome left (λ all. taken ≡ all)
ReadsAll left taken most (Err ReadFault) = length taken ≤ most
ReadsAll left taken most (Err TooLong) = (most < length taken) × (length taken ≤ most + PIECE)
ReadsAll left taken most (Err NoMemory) = length taken ≤ most + PIECE
