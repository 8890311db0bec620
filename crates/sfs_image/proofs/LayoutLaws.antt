-- The parts of a disk lie one behind another.
use Rattle.std.proofs.Common.{◌≡◌, ℕ, ◌+◌, ◌*◌, ◌<◌, ◌≤◌, refl, ap, arith}
use Rattle.std.proofs.Math.Nat.{mul-le-mul_right}
use Rattle.std.proofs.lemmas.Nat.{div-mul-add, mod-mul-add}
use Rattle.sfs_image.specs.Laws.{IsDivided, IsNumberOf, RingsLieCoreByCore}
use Rattle.sfs_image.specs.Settled.{slot_count}
use Rattle.sfs_image.specs.Super.{Layout, slot_blocks, number_blocks, record_blocks}

-- so many blocks hold 4 bytes for each inode, and so many 512
numbers_fit : (inodes : ℕ) → 4 * inodes ≤ 4096 * number_blocks inodes
numbers_fit inodes = omega arith

pub records_fit : (inodes : ℕ) → 512 * inodes ≤ 4096 * record_blocks inodes
records_fit inodes = omega arith

-- pieces of m, one behind another
behind : (m j k : ℕ) → j < k → j * m + m ≤ k * m
behind m j k h = let more : (j + 1) * m ≤ k * m = mul-le-mul_right m (let e : j + 1 ≤ k = omega arith in e) in omega arith

pub divided : (layout : Layout) → IsDivided layout
divided layout = record {
  numbers = λ k h. let fit = numbers_fit layout.inodes in omega arith;
  records = λ k h. let fit = records_fit layout.inodes in omega arith;
  first_slot = λ k. omega arith;
  slots = λ j k h. let more = behind (slot_blocks layout.inodes) j k h in omega arith;
  last_slot = λ k h. let more = behind (slot_blocks layout.inodes) k (slot_count layout) h in omega arith;
  table = λ i h. let fit = records_fit layout.inodes in omega arith;
}

pub numbered : (layout : Layout) (core slot : ℕ) → slot < layout.slots → IsNumberOf layout core slot (core * layout.slots + slot)
numbered layout core slot h = record {
  begins = let none : 0 * layout.slots + (core * layout.slots + slot) ≡ core * layout.slots + slot = omega arith in
      ap (λ (k : ℕ). 4096 * (1 + k * slot_blocks layout.inodes)) none;
  core_again = div-mul-add core layout.slots slot h;
  slot_again = mod-mul-add core layout.slots slot h;
}

pub rings : RingsLieCoreByCore
rings = record { first_core = refl; second_core = refl; table = refl; contents = refl; count = refl; slots = λ image. refl }
