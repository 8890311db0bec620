-- The eight buckets of a directory, one after the other.
use Rattle.std.proofs.Common.{◌≡◌, ℕ, zero, suc, ◌+◌, ◌<◌, ◌≤◌, [], ◌∷◌, ◌++◌, take, refl, arith}
use Rattle.std.proofs.lemmas.List.{take_all}
use Rattle.sfs_base.specs.declared.numbers.NodeId.{NodeId}
use Rattle.mem_values.specs.declared.cell_id.CellId.TheVariants as id
use Rattle.mem_rename.specs.Cells.{buckets_of}

-- there are eight buckets
pub too_many : {n : ℕ} → suc (suc (suc (suc (suc (suc (suc (suc n))))))) < 8 → ⊥
too_many lt = omega (arith, lt)

pub next_bucket : (node : NodeId) (k : ℕ) → k < 8 → take (k + 1) (buckets_of node) ≡ take k (buckets_of node) ++ id.Bucket node k ∷ []
next_bucket node zero lt = refl
next_bucket node (suc zero) lt = refl
next_bucket node (suc (suc zero)) lt = refl
next_bucket node (suc (suc (suc zero))) lt = refl
next_bucket node (suc (suc (suc (suc zero)))) lt = refl
next_bucket node (suc (suc (suc (suc (suc zero))))) lt = refl
next_bucket node (suc (suc (suc (suc (suc (suc zero)))))) lt = refl
next_bucket node (suc (suc (suc (suc (suc (suc (suc zero))))))) lt = refl
next_bucket node (suc (suc (suc (suc (suc (suc (suc (suc n)))))))) lt = absurd (too_many lt)

pub all_eight : (node : NodeId) (k : ℕ) → 8 ≤ k → take k (buckets_of node) ≡ buckets_of node
all_eight node k le = take_all k (buckets_of node) le
