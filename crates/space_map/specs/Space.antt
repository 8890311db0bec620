-- What a contract sees of a map of free space.
use Rattle.std.specs.Prelude.{◌≡◌, ℕ, nat_lt, List, Option, Some, None, All, if◌then◌else◌}
use Rattle.sfs_base.specs.declared.numbers.SpaceKind.TheVariants.{Inodes, Blocks}
use Rattle.space_map.specs.declared.status.Status.TheVariants.{Granted}
use Rattle.space_map.specs.declared.fault.SpaceFault.{SpaceFault}
use Rattle.space_map.specs.declared.fault.SpaceFault.TheVariants.{NoSpace}
use Rattle.space_map.specs.declared.grant.Need.{Need}
use Rattle.space_map.specs.Pool.{Pool, status_of, free_count}

-- the blocks and the inodes of a disk
pub record Space : Type 0 where
  pub blocks : Pool
  pub inodes : Pool

-- of what there is too little: of inodes first, and else of blocks
abbrev pub shortage : Space → Need → Option SpaceFault
shortage space need =
    if nat_lt (free_count space.inodes) need.inodes then Some (NoSpace Inodes need.inodes (free_count space.inodes)) else
    if nat_lt (free_count space.blocks) need.blocks then Some (NoSpace Blocks need.blocks (free_count space.blocks)) else None

-- each listed number is granted
abbrev pub AllGranted : Pool → List ℕ → Type 0
AllGranted pool = All (λ number. status_of pool number ≡ Some Granted)

-- the inodes and the blocks of a grant
pub record GrantedNumbers : Type 0 where
  pub inodes : List ℕ
  pub blocks : List ℕ
