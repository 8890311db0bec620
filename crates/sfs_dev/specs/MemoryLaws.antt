-- A disk in memory keeps the laws of a disk.
use Rattle.std.proofs.Common.{◌≡◌, ℕ, ◌*◌, List, length, reverse, Some, subst, sym}
use Rattle.sfs_dev.specs.Disk.{images}
use Rattle.sfs_dev.specs.Log.{acts_of}
use Rattle.sfs_dev.specs.LogLaws.{content_is_left, left_now}
use Rattle.sfs_dev.specs.Memory.{memory_view}
use Rattle.sfs_dev.specs.declared.memory.Memory.{Memory}

some_of : (a b : List ℕ) → Some a ≡ Some b → a ≡ b
some_of a b is = cc

pub memory_whole : (memory : Memory) (content : List ℕ) → (memory_view memory).content ≡ Some content → length content ≡ 4096 * (memory_view memory).size
memory_whole m content told = subst (λ (c : List ℕ). length c ≡ 4096 * m.blocks) (some_of m.bytes.items content told) m.whole

pub memory_left : (memory : Memory) (content : List ℕ) → (memory_view memory).content ≡ Some content → images (memory_view memory) content
memory_left m content told =
    let calls = reverse m.calls.items in
    let here = content_is_left (4096 * m.blocks) (acts_of calls) m.bytes.items m.replaced.items m.whole m.logged in
    subst (λ (c : List ℕ). images (memory_view m) c) (some_of m.bytes.items content told)
    (subst (λ (T : Type 0). T) (sym (left_now m.moment calls m.bytes.items m.replaced.items m.bytes.items m.moments_bounded)) here)
