-- What the reads of a superblock give.
use Rattle.std.proofs.Common.{◌≡◌, ℕ, List, Option, None, sym, ap, ◌∙◌}
use Rattle.sfs_image.specs.Bytes.{u32_at}
use Rattle.sfs_image.specs.Super.{Layout, super_of, super_fault, layout_fault}

-- the layout that was read field by field
pub layout_read : (block : List ℕ) (blocks inodes cores slots : ℕ) → blocks ≡ u32_at 16 block → inodes ≡ u32_at 20 block → cores ≡ u32_at 12 block
    → slots ≡ u32_at 24 block →
    (let layout : Layout = record { blocks = blocks; inodes = inodes; cores = cores; slots = slots } in layout) ≡ super_of block
layout_read block blocks inodes cores slots p q r s = λ i. record { blocks = p i; inodes = q i; cores = r i; slots = s i }

-- where the layout that was read has no fault, the block has none
pub no_fault : (len : ℕ) (block : List ℕ) (layout : Layout) (found : Option ℕ) → layout ≡ super_of block → found ≡ layout_fault len layout block → found ≡ None
    → super_fault len block ≡ None
no_fault len block layout found read is none = sym (ap (λ (l : Layout). layout_fault len l block) read) ∙ sym is ∙ none
